-- Which edge of a lattice's flat lists ends where. Assumes nothing.
use mathlib.Core.Path.{◌≡◌, refl, sym, ap, ◌∙◌, subst}
use mathlib.Core.List.{List, [], ◌∷◌, ◌++◌, Memᴰ}
use Prim.Native.Nat.{ℕ, zero, suc, ◌+◌, ◌-◌, ◌≤◌, ◌<◌}
use native.Mathlib.Decide.{dec_lt}
use native.Mathlib.Nat.{not-suc-le-zero, le_of_suc-le-suc}
use native.Mathlib.Omega.{arith}
use lib.ListN.{length, get_or, get_or-append}
use lib.Seq.{get_or-append-add, get_or_at}
use Rattle.lattice.specs.Lattice.{Edge, rows}
use Rattle.lattice.specs.Layout.{joined, offsets}
use Rattle.lattice.proofs.Joined.{offsets_long}
use Rattle.builder.proofs.Ends.{joined_more, count_more, rows_most, rows_long, offsets_more}

element : {A : Type 0} (l : List A) (k : ℕ) (d : A) → k < length l → Memᴰ (get_or l k d) l
element [] k d h = absurd (not-suc-le-zero h)
element (x ∷ l) zero d h = Memᴰ.head refl
element (x ∷ l) (suc k) d h = Memᴰ.tail (element l k d (le_of_suc-le-suc h))

module _ (f : ℕ → List Edge) where
  -- an offset is the count of the edges to the ends before
  pub offset_at : (m p : ℕ) → p ≤ m → get_or (offsets (rows f m)) p 0 ≡ length (joined (rows f p))
  offset_at zero p h = let e : p ≡ 0 = omega arith in ap (λ (q : ℕ). get_or (0 ∷ []) q 0) e ∙ sym (ap (λ (q : ℕ). length (joined (rows f q))) e)
  offset_at (suc m) p h =
      let long = offsets_long 0 (rows f m) in
      let many = rows_long f m in
      let more = length (joined (rows f (suc m))) in
      ap (λ (l : List ℕ). get_or l p 0) (offsets_more f m)
      ∙ elim (dec_lt m p) [
        | yes l ↦ let e : p ≡ suc m = omega arith in ap (λ (q : ℕ). get_or (offsets (rows f m) ++ more ∷ []) q 0) e ∙ get_or_at (offsets (rows f m)) more [] 0 (suc m) (omega arith) ∙ sym (ap (λ (q : ℕ). length (joined (rows f q))) e)
        | no l ↦ get_or-append (offsets (rows f m)) (more ∷ []) 0 p (omega arith) ∙ offset_at m p (omega arith)
      ]

  -- and the edges between two offsets are those of the end
  pub edge_of : (m p k : ℕ) (d : Edge) → p < m → length (joined (rows f p)) ≤ k → k < length (joined (rows f (suc p))) → Memᴰ (get_or (joined (rows f m)) k d) (f p)
  edge_of zero p k d h a b = absurd (not-suc-le-zero h)
  edge_of (suc m) p k d h a b =
      let more = joined_more f m in
      elim (dec_lt p m) [
        | yes l ↦
            let most = rows_most f (suc p) m (omega arith) in
            subst (λ (e : Edge). Memᴰ e (f p)) (sym (ap (λ (x : List Edge). get_or x k d) more ∙ get_or-append (joined (rows f m)) (f m) d k (omega arith))) (edge_of m p k d l a b)
        | no l ↦
            let e : p ≡ m = omega arith in
            let x : length (joined (rows f p)) ≡ length (joined (rows f m)) = ap (λ (q : ℕ). length (joined (rows f q))) e in
            let y : length (joined (rows f (suc p))) ≡ length (joined (rows f (suc m))) = ap (λ (q : ℕ). length (joined (rows f (suc q)))) e in
            let c = count_more f m in
            let z : length (joined (rows f m)) + (k - length (joined (rows f m))) ≡ k = omega arith in
            let at : get_or (joined (rows f (suc m))) k d ≡ get_or (f m) (k - length (joined (rows f m))) d =
            ap (λ (l : List Edge). get_or l k d) more ∙ ap (λ (q : ℕ). get_or (joined (rows f m) ++ f m) q d) (sym z) ∙ get_or-append-add (joined (rows f m)) (f m) (k - length (joined (rows f m))) d in
            subst (λ (q : ℕ). Memᴰ (get_or (joined (rows f (suc m))) k d) (f q)) (sym e)
            (subst (λ (g : Edge). Memᴰ g (f m)) (sym at) (element (f m) (k - length (joined (rows f m))) d (omega arith)))
      ]
