-- What a call tells in C beside its answer: how many, else the refusal's place; and the sum that it gives, if it gives one. A
-- refusal gives none. Definitions only.
use Rattle.std.specs.Prelude.{List, ℕ, set, Float, Result, Ok, Err}
use Rattle.refusal.specs.declared.Refusal.{Refusal}
use Rattle.refusal.specs.Numbers.{place_of}

-- `many` says how many there are, of what an accepted call gives
abbrev pub answer_told : {A : Type 0} → (A → ℕ) → Result A Refusal → ℕ
answer_told many (Ok given) = many given
answer_told many (Err refusal) = place_of refusal

-- `score` says which sum it is, of what an accepted call gives
abbrev pub answer_sum : {A : Type 0} → (A → Float) → Result A Refusal → List Float → List Float
answer_sum score (Ok given) sum = set sum 0 (score given)
answer_sum score (Err refusal) sum = sum
