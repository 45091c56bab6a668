-- Pieces of a path used once more each, one after the other. Assumes nothing.
use Rattle.std.proofs.Common.{◌≡◌, ℕ, zero, suc, ◌+◌, ◌<◌, List, [], ◌∷◌, ◌++◌, length, get_or, take, sym, refl, ap, ◌∙◌, add-one, arith, length-set, take-suc}
use lib.Ieee.{Float}
use Rattle.uses.specs.Uses.{add_one, add_each}
use Rattle.uses.specs.Steps.{Named}

-- a piece more at the end of a path
add_last : (weight : Float) (uses : List Float) (ids : List ℕ) (id : ℕ) → add_each weight uses (ids ++ (id ∷ [])) ≡ add_one weight (add_each weight uses ids) id
add_last weight uses [] id = refl
add_last weight uses (i ∷ ids) id = add_last weight (add_one weight uses i) ids id

-- one of a path's ids
pub named_at : (pieces : ℕ) (path : List ℕ) → Named pieces path → (k : ℕ) → k < length path → get_or path k 0 < pieces
named_at pieces [] n k l = absurd (omega arith)
named_at pieces (id ∷ ids) n zero l = n.0
named_at pieces (id ∷ ids) n (suc k) l = named_at pieces ids n.1 k (omega arith)

pub record Adding (path : List ℕ) (weight : Float) (before : List Float) (k : ℕ) (uses : List Float) : Type 0 where
  pub long : length uses ≡ length before
  pub named : Named (length before) path
  pub is : uses ≡ add_each weight before (take k path)

module _ {path : List ℕ} {weight : Float} {before : List Float} where
  pub adding_in : {k : ℕ} {uses : List Float} → Adding path weight before k uses → k < length path → {id : ℕ} → id ≡ get_or path k 0 → id < length uses
  adding_in {k} a l e = let n = named_at (length before) path a.named k l in let long = a.long in omega arith

  pub adding_more : {k : ℕ} {uses : List Float} → Adding path weight before k uses → k < length path → {id : ℕ} → id ≡ get_or path k 0 → Adding path weight before (k + 1) (add_one weight uses id)
  adding_more {k} {uses} a l {id} e =
      record {
        long = length-set uses id _ ∙ a.long;
        named = a.named;
        is =
            ap (λ (u : List Float). add_one weight u id) a.is
            ∙ ap (add_one weight (add_each weight before (take k path))) e
            ∙ sym (add_last weight before (take k path) (get_or path k 0))
            ∙ ap (add_each weight before) (sym (take-suc path k 0 l))
            ∙ ap (λ (j : ℕ). add_each weight before (take j path)) (sym (add-one k));
      }
