-- The order of refusals as data: document 01, "Training checks in this order; the first that applies is given, with the lowest
-- place". What a call checks is a list of rows, in the order of its checks. Definitions only.
use Rattle.std.specs.Prelude.{◌≡◌, ◌⊎◌, List, [], ◌∷◌, ℕ, ◌<◌}
use Rattle.refusal.specs.declared.Refusal.{Refusal}

-- A row: the refusal by its place, how many places are looked at, and what is asked of each of them. `needs` asks that it holds,
-- `bars` that it does not.
pub data Row : Type 1 where
  needs : (ℕ → Refusal) → ℕ → (ℕ → Type 0) → Row
  bars : (ℕ → Refusal) → ℕ → (ℕ → Type 0) → Row

-- a row that asks one thing
abbrev pub single : Refusal → Type 0 → Row
single refusal Needed = needs (λ _. refusal) 1 (λ _. Needed)

abbrev pub refusal_at : Row → ℕ → Refusal
refusal_at (needs refusal n P) = refusal
refusal_at (bars refusal n P) = refusal

abbrev pub places_of : Row → ℕ
places_of (needs refusal n P) = n
places_of (bars refusal n P) = n

-- a place is as the row asks; or it is not, and the row applies there
abbrev pub Right : Row → ℕ → Type 0
Right (needs refusal n P) k = P k
Right (bars refusal n P) k = P k → ⊥

abbrev pub Wrong : Row → ℕ → Type 0
Wrong (needs refusal n P) k = P k → ⊥
Wrong (bars refusal n P) k = P k

-- the row applies nowhere
abbrev pub Clear : Row → Type 0
Clear row = (k : ℕ) → k < places_of row → Right row k

-- it applies at this place, and at no lower one
pub record Lowest (row : Row) (k : ℕ) : Type 0 where
  pub within : k < places_of row
  pub before : (j : ℕ) → j < k → Right row j
  pub wrong : Wrong row k

-- and so this is its refusal: "with the lowest place"
pub record Gives (row : Row) (refusal : Refusal) : Type 0 where
  pub place : ℕ
  pub lowest : Lowest row place
  pub is : refusal ≡ refusal_at row place

-- ---- of a list of rows: none applies; or "the first that applies is given"
abbrev pub NoneOf : List Row → Type 0
NoneOf [] = Unit
NoneOf (row ∷ rows) = Clear row × NoneOf rows

abbrev pub First : List Row → Refusal → Type 0
First [] refusal = ⊥
First (row ∷ rows) refusal = Gives row refusal ⊎ (Clear row × First rows refusal)
