use mathlib.Core.Bool.{true≢false}
use mathlib.Core.Path.{sym, ◌∙◌}
use Rattle.laws.proofs.Tests.{said_yes, said_no}
use Rattle.cut.specs.Cut.{bad_lattice, bad_score, no_room}
use Rattle.cut.proofs.check.Goals as goal

pub returns-then-not-word_formed : goal.returns-then-not-word_formed
returns-then-not-word_formed c = bad_lattice (said_no c.word_formed.result c.if-not-word_formed.true c.word_formed.ensures)

pub returns-in-Err : goal.returns-in-Err
returns-in-Err c = bad_score (said_yes c.word_formed.result c.if-not-word_formed.false c.word_formed.ensures) c.in-Err.ensures

pub returns-then-not-room : goal.returns-then-not-room
returns-then-not-room c = no_room (said_yes c.word_formed.result c.if-not-word_formed.false c.word_formed.ensures) c.in_default.ensures (λ e. true≢false (sym e ∙ c.if-not-room.true))
