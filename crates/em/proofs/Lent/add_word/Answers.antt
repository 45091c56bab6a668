-- `em::Lent::add_word` meets its contract: the word's lattice is that at its span.
-- Assumes nothing.
use Rattle.em.proofs.Spans.{lattice_formed}
use Rattle.em.proofs.Lent.add_word.Goals as goal

pub add_lattice-requires-clause-word_formed : goal.add_lattice-requires-clause-word_formed
add_lattice-requires-clause-word_formed c =
    let e = c.at-lattice.ensures in
    rw (e.offsets_are, e.starts_are, e.ids_are, e.n_is, c.span_at-span.ensures) (lattice_formed c.args.self.now.scores.now c.requires.word_at)

pub returns : goal.returns
returns c =
    let e = c.at-lattice.ensures in
    rw (e.offsets_are, e.starts_are, e.ids_are, e.n_is, c.span_at-span.ensures) at c.add_lattice.ensures
