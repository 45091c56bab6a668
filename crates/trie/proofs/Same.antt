-- The trie's ids are the lattice's: of pieces that are listed the newest first, and of the same pieces in their order.
-- Assumes nothing.
use mathlib.Core.Path.{◌≡◌, refl, sym, ap, ◌∙◌}
use mathlib.Core.Bool.{Bool, true, false, cond}
use mathlib.Core.Logic.{⊎_elim}
use mathlib.Core.List.{List, [], ◌∷◌, ◌++◌}
use mathlib.Core.Option.{Option, none, some}
use Prim.Native.Nat.{ℕ, zero, suc, ◌+◌, ◌≤◌}
use native.Mathlib.Omega.{arith}
use lib.ListN.{length, take, length-append}
use Rattle.spans.specs.Spans.{first}
use Rattle.lattice.specs.Pieces.{same, later, id_of as piece_of}
use Rattle.lattice.proofs.Spelling.{is_same, same_as}
use Rattle.trie.specs.Prefixes.{back, whole, equal, id_of}
use Rattle.trie.specs.Listed.{newest_of, code}
use Rattle.trie.proofs.Equal.{equal_true, equal_same, split, contrary}
use Rattle.trie.proofs.Theorems.{whole_one, back_whole}

-- one piece more at the end of a list
snoc : (ps : List (List ℕ)) (p q : List ℕ) → piece_of (ps ++ (p ∷ [])) q ≡ cond (same p q) (some (length ps)) (piece_of ps q)
snoc [] p q = go (same p q)
  where
    go : (b : Bool) → later none b ≡ cond b (some 0) none
    go true = refl
    go false = refl
snoc (x ∷ ps) p q = ap (λ (o : Option ℕ). later o (same x q)) (snoc ps p q) ∙ go (same p q)
  where
    go : (b : Bool) → later (cond b (some (length ps)) (piece_of ps q)) (same x q) ≡ cond b (some (suc (length ps))) (later (piece_of ps q) (same x q))
    go true = refl
    go false = refl

-- two spellings are the same, read from either end
alike : (w q : List ℕ) → equal (whole w) (whole q) ≡ same w q
alike w q =
    ⊎_elim
    (λ t. t ∙ sym (same_as w q (whole_one w q (equal_true (whole w) (whole q) t))))
    (λ n. n ∙ sym (⊎_elim (λ t. absurd (contrary (equal_same (ap whole (is_same w q t))) n)) (λ t. t) (split (same w q))))
    (split (equal (whole w) (whole q)))

pub length_newest : {A : Type 0} (f : ℕ → A) (n : ℕ) → length (newest_of f n) ≡ n
length_newest f zero = refl
length_newest f (suc n) = ap suc (length_newest f n)

pub length_first : {A : Type 0} (f : ℕ → A) (n : ℕ) → length (first f n) ≡ n
length_first f zero = refl
length_first f (suc n) = let e = length-append (first f n) (f n ∷ []) in let h = length_first f n in omega arith

-- The id that the trie holds for a spelling is the lattice's, plus 1; or 0 where no piece has it.
pub same_id : (f : ℕ → List ℕ) (n : ℕ) (q : List ℕ) → id_of (newest_of f n) (whole q) ≡ code (piece_of (first f n) q)
same_id f zero q = refl
same_id f (suc n) q =
    ap (λ (b : Bool). cond b (length (newest_of f n) + 1) (id_of (newest_of f n) (whole q))) (alike (f n) q)
    ∙ go (same (f n) q) (same_id f n q)
    ∙ sym (ap code (snoc (first f n) (f n) q))
  where
    go : (b : Bool) → id_of (newest_of f n) (whole q) ≡ code (piece_of (first f n) q)
        → cond b (length (newest_of f n) + 1) (id_of (newest_of f n) (whole q)) ≡ code (cond b (some (length (first f n))) (piece_of (first f n) q))
    go true h = let x = length_newest f n in let y = length_first f n in omega arith
    go false h = h

-- the same of a beginning of a word
pub same_back : (f : ℕ → List ℕ) (n : ℕ) (w : List ℕ) (k : ℕ) → k ≤ length w → id_of (newest_of f n) (back w k) ≡ code (piece_of (first f n) (take k w))
same_back f n w k h = ap (id_of (newest_of f n)) (back_whole w k h) ∙ same_id f n (take k w)
