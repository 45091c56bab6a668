-- `losses::alternative` meets its contract: there are slots for any piece's text, and then they hold its lattice.
-- Assumes nothing.
use native.Mathlib.Omega.{arith}
use Rattle.losses.proofs.Laid.{Spelt, building, spelt}
use Rattle.losses.proofs.Scored.alternative.Goals as goal
use Rattle.losses.proofs.Scored.alternative.Goals.{After-read-n}

pub build_words-so-requires-clause-building : goal.build_words-so-requires-clause-building
build_words-so-requires-clause-building c = let w = c.args.work.now in building c.requires.0 c.args.id c.requires.1 w.offsets w.starts w.ids w.place (omega arith) (omega arith) (omega arith) (omega arith)

its_lattice : (c : After-read-n) → Spelt c.args.self.now.text.now c.args.self.now.pieces.now c.args.self.now.setting c.args.self.now.scores.now c.args.id c.build_words-so.new.offsets c.build_words-so.new.starts c.build_words-so.new.ids c.build_words-so.result.edges c.read-n.result
its_lattice c =
    let w = c.args.work.now in
    let so = c.build_words-so in
    spelt c.requires.0 c.args.id c.requires.1 w.offsets w.starts w.ids w.place (omega arith) (omega arith) (omega arith) (omega arith) so.new.offsets so.new.starts so.new.ids so.new.spans so.result so.ensures c.read-n.result c.read-n.ensures

pub overflow_add-stop : goal.overflow_add-stop
overflow_add-stop c = let s = its_lattice c in omega arith

pub shared_ref_as_front-lattice : goal.shared_ref_as_front-lattice
shared_ref_as_front-lattice c = let s = its_lattice (goal.at.shared_ref_as_front-lattice c).After-read-n in omega arith

pub excluding_core-requires-clause-well_formed : goal.excluding_core-requires-clause-well_formed
excluding_core-requires-clause-well_formed c = (its_lattice (goal.at.excluding_core-requires-clause-well_formed c).After-read-n).well_formed

pub returns : goal.returns
returns c = (its_lattice (goal.at.returns c).After-read-n).exact c.excluding_core.result c.excluding_core.ensures.value
