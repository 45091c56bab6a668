-- What a call of training tells in C: how many tokens, how many pieces are required, and 1 where it stalled, else the refusal's
-- place. Definitions only.
use Rattle.std.specs.Prelude.{Bool, true, false, List, ℕ, Result}
use Rattle.refusal.specs.declared.Refusal.{Refusal}
use Rattle.make.specs.declared.Trained.{Trained}
use Rattle.told.specs.Told.{three, told_of}

abbrev pub flag_of : Bool → ℕ
flag_of true = 1
flag_of false = 0

abbrev pub accepted_told : Trained → List ℕ → List ℕ
accepted_told t = three (t.tokens, t.required, flag_of t.stalled)

abbrev pub trained_told : Result Trained Refusal → List ℕ → List ℕ
trained_told = told_of accepted_told
