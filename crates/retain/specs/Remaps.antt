-- What a remap must be, and how it is refused: 13, "an entry is neither `u32::MAX` nor the count of survivors before it". Definitions only.
use Rattle.std.specs.Prelude.{◌≡◌, cond, Result, Ok, Err, List, [], ◌∷◌, ℕ, suc, ◌+◌, ◌<◌, eqb, length, get_or, take}
use Rattle.lattice.specs.Pruning.{gone}
use Rattle.refusal.specs.declared.Refusal.{Refusal}
use Rattle.refusal.specs.declared.Refusal.TheVariants.{BadRemap}

-- the count of survivors among some entries
abbrev pub count : List ℕ → ℕ
count [] = 0
count (r ∷ rs) = cond (eqb r gone) (count rs) (suc (count rs))

-- an entry is neither; `before` survivors stand before the first
pub record Wrong (before : ℕ) (remap : List ℕ) (entry : ℕ) : Type 0 where
  pub inside : entry < length remap
  pub not_gone : get_or remap entry 0 ≡ gone → ⊥
  pub not_next : get_or remap entry 0 ≡ before + count (take entry remap) → ⊥

-- the lowest such entry
pub record Lowest (before : ℕ) (remap : List ℕ) (entry : ℕ) : Type 0 where
  pub wrong : Wrong before remap entry
  pub lowest : (k : ℕ) → k < entry → Wrong before remap k → ⊥

-- What the check answers: the entries one after the other, of which the first has the number `entry`. That it is 13 exactly at
-- the lowest wrong entry, and that a remap fits exactly where `Remap 0 remap` holds, is said in proofs/Theorems.antt.
abbrev pub checked_from : ℕ → ℕ → List ℕ → Result Unit Refusal
checked_from before entry [] = Ok tt
checked_from before entry (r ∷ rs) = cond (eqb r gone) (checked_from before (suc entry) rs) (cond (eqb r before) (checked_from (suc before) (suc entry) rs) (Err (BadRemap entry)))

abbrev pub checked : List ℕ → Result Unit Refusal
checked remap = checked_from 0 0 remap
