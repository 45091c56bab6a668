-- Texts put one after the other. Assumes nothing.
use mathlib.Core.Path.{◌≡◌, sym, ap, ap₂, ◌∙◌, refl}
use mathlib.Core.List.{List, [], ◌∷◌, ◌++◌, append-nil}
use Prim.Native.Nat.{ℕ, ◌+◌, ◌*◌}
use native.Mathlib.Omega.{arith}
use lib.ListN.{length, length-append}
use lib.Seq.{sets}
use Rattle.lattice.specs.Layout.{joined}
use Rattle.lattice.proofs.Joined.{joined_append}
use Rattle.lattice.proofs.Fronts.{sets_append}
use Rattle.copied.specs.Put.{spans_from, Puts, PutsAll}

-- ---- the spans
pub spans_long : (at : ℕ) (list : List (List ℕ)) → length (spans_from at list) ≡ 2 * length list
spans_long at [] = refl
spans_long at (text ∷ rest) = let h = spans_long (at + length text) rest in omega arith

pub spans_append : (at : ℕ) (a b : List (List ℕ)) → spans_from at (a ++ b) ≡ spans_from at a ++ spans_from (at + length (joined a)) b
spans_append at [] b = let e : at ≡ at + 0 = omega arith in ap (λ (n : ℕ). spans_from n b) e
spans_append at (text ∷ a) b =
    let l = length-append text (joined a) in
    let e : at + length text + length (joined a) ≡ at + length (text ++ joined a) = omega arith in
    ap (λ (r : List ℕ). at ∷ length text ∷ r)
    (spans_append (at + length text) a b
    ∙ ap (λ (n : ℕ). spans_from (at + length text) a ++ spans_from n b) e)

-- ---- one text more
module _ {list : List (List ℕ)} {out₀ spans₀ out spans : List ℕ} {slot at next : ℕ} (p : PutsAll list out₀ spans₀ slot at out spans next) where
  pub puts_more : (text : List ℕ) (k : ℕ) {out' spans' : List ℕ} {r : ℕ} → k ≡ length list
      → Puts text out spans (slot + k) next out' spans' r → PutsAll (list ++ text ∷ []) out₀ spans₀ slot at out' spans' r
  puts_more text k {out'} {spans'} {r} e q =
      let j : joined (list ++ text ∷ []) ≡ joined list ++ text = joined_append list (text ∷ []) ∙ ap (λ (l : List ℕ). joined list ++ l) (append-nil text) in
      let here : 2 * (slot + k) ≡ 2 * slot + length (spans_from at list) = omega (arith, spans_long at list) in
      record {
        bytes_are = q.bytes_are
            ∙ ap₂ (λ (x : List ℕ) (n : ℕ). sets x n text) p.bytes_are p.next
            ∙ sym (sets_append out₀ at (joined list) text)
            ∙ ap (sets out₀ at) (sym j);
        spans_are = q.span_is
            ∙ ap₂ (λ (x : List ℕ) (n : ℕ). sets x n (next ∷ length text ∷ [])) p.spans_are here
            ∙ sym (sets_append spans₀ (2 * slot) (spans_from at list) (next ∷ length text ∷ []))
            ∙ ap (λ (n : ℕ). sets spans₀ (2 * slot) (spans_from at list ++ n ∷ length text ∷ [])) p.next
            ∙ ap (sets spans₀ (2 * slot)) (sym (spans_append at list (text ∷ [])));
        next = let a = q.next in let b = p.next in let c = ap length j in let d = length-append (joined list) text in omega arith;
      }
