-- What a call of cuts tells in C: the count of pieces, whether there is a cut, or 0 where there is nothing to count, else the
-- refusal's place; and the sum that it gives. Definitions only.
use Rattle.std.specs.Prelude.{false, Bool, cond, List, ℕ, pos, Float, Result, Ok, Err}
use Rattle.std.specs.Float.{fin}
use Rattle.refusal.specs.declared.Refusal.{Refusal}
use Rattle.cut.specs.declared.Cut.{Cut}
use Rattle.export.specs.Told.{answer_told, answer_sum}

abbrev pub cut_told : Result Cut Refusal → ℕ
cut_told = answer_told (λ cut. cut.count)

abbrev pub cut_sum : Result Cut Refusal → List Float → List Float
cut_sum = answer_sum (λ cut. cut.score)

-- a short word's score by value, +0 where there is none
abbrev pub short_score : Result Cut Refusal → Float
short_score (Ok cut) = cut.score
short_score (Err refusal) = fin false 0 (pos 0)

-- a sum alone: there is nothing to count
abbrev pub score_told : Result Float Refusal → ℕ
score_told = answer_told (λ score. 0)

abbrev pub score_sum : Result Float Refusal → List Float → List Float
score_sum = answer_sum (λ score. score)

abbrev pub connection_told : Result Bool Refusal → ℕ
connection_told = answer_told (λ cuts. cond cuts 1 0)
