use Rattle.uses.proofs.Spans.{cuttable}
use Rattle.uses.proofs.Lent.add_word.Goals as goal

pub add_lattice-requires-clause-cuttable : goal.add_lattice-requires-clause-cuttable
add_lattice-requires-clause-cuttable c =
    let e = c.at-lattice.ensures in
    rw (e.offsets_are, e.starts_are, e.ids_are, e.n_is, c.span_at-span.ensures) (cuttable c.requires.word_at)

pub returns : goal.returns
returns c =
    let e = c.at-lattice.ensures in
    rw (e.offsets_are, e.starts_are, e.ids_are, e.n_is, c.span_at-span.ensures) at c.add_lattice.ensures
