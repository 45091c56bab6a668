use native.Mathlib.Omega.{arith}
use Rattle.laws.proofs.Tests.{said_yes, said_no}
use Rattle.cut.specs.Sums.{bad_lattice, no_room}
use Rattle.cut.proofs.check_and_connect.Goals as goal

pub returns-then-not-word_formed : goal.returns-then-not-word_formed
returns-then-not-word_formed c = bad_lattice (said_no c.word_formed.result c.if-not-word_formed.true c.word_formed.ensures)

pub returns-then-reach-lattice : goal.returns-then-reach-lattice
returns-then-reach-lattice c = no_room (said_yes c.word_formed.result c.if-not-word_formed.false c.word_formed.ensures) (λ h. absurd (omega arith))
