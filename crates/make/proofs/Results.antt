-- The result slices, by their three lists. Assumes nothing.
use mathlib.Core.Path.{◌≡◌, ap, ◌∙◌, subst}
use mathlib.Core.List.{List}
use Prim.Native.Nat.{ℕ}
use lib.Ieee.{Float}
use Rattle.tokens.specs.Tokens.{Room, Filled, Answers}
use Rattle.std.specs.Prelude.{Option, Some, None}
use Rattle.make.specs.Make.{Results}

pub same_results : {bytes bytes' tokens tokens' : List ℕ} {scores scores' : List Float} → bytes' ≡ bytes → tokens' ≡ tokens → scores' ≡ scores
    → ◌≡◌ {A = Results} (record { bytes = bytes'; tokens = tokens'; scores = scores' }) (record { bytes = bytes; tokens = tokens; scores = scores })
same_results {bytes} {bytes'} {tokens} {tokens'} {scores} {scores'} b t s =
    ap (λ (x : List ℕ). record { bytes = x; tokens = tokens'; scores = scores' }) b
    ∙ ap (λ (x : List ℕ). record { bytes = bytes; tokens = x; scores = scores' }) t
    ∙ ap (λ (x : List Float). record { bytes = bytes; tokens = tokens; scores = x }) s

-- ---- what `write` leaves, by its answer
module _ (list : List (List ℕ)) (values : List Float) (bytes tokens : List ℕ) (scores : List Float) (bytes' tokens' : List ℕ) (scores' : List Float) (r : Option ℕ) (a : Answers list values bytes tokens scores bytes' tokens' scores' r) where
  pub unwritten : r ≡ None
      → (Room list bytes tokens scores → ⊥) × ◌≡◌ {A = Results} (record { bytes = bytes'; tokens = tokens'; scores = scores' }) (record { bytes = bytes; tokens = tokens; scores = scores })
  unwritten q =
      let u = subst (Answers list values bytes tokens scores bytes' tokens' scores') q a in
      (u.no_room, same_results u.same_bytes u.same_spans u.same_scores)

  pub written : (n : ℕ) → r ≡ Some n → Filled list values bytes tokens scores bytes' tokens' scores' n
  written n q = subst (Answers list values bytes tokens scores bytes' tokens' scores') q a
