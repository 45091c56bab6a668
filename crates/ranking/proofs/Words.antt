-- What it says that a string stands in a corpus, as a reader may expect it. Assumes nothing.
use mathlib.Core.Path.{◌≡◌, refl, sym, subst}
use mathlib.Core.Bool.{Bool, true, false}
use mathlib.Core.List.{List, [], ◌∷◌, ◌++◌}
use mathlib.Core.Logic.{◌↔◌}
use Prim.Native.Nat.{ℕ, zero, suc, ◌+◌, ◌*◌, ◌≤◌, ◌<◌}
use native.Mathlib.Omega.{arith}
use lib.ListN.{length, take, drop, length-append, take-append-drop}
use lib.Seq.{drop-append_seam}
use borrow.Author.Tests.{eq-eqb}
use Rattle.order.specs.Spelling.{begins}
use Rattle.ranking.specs.Corpus.{Corpus, word_at, frequency_at, places, count, Stands}
use Rattle.ranking.proofs.Beginnings.{take_begins}

begins_join : (s t : List ℕ) → begins s (s ++ t) ≡ true
begins_join [] t = refl
begins_join (c ∷ s) t = rw (eq-eqb c c refl) (begins_join s t)

-- some word is s with something before it and something behind it
pub record Inside (corpus : Corpus) (s : List ℕ) : Type 0 where
  pub word : ℕ
  pub in_corpus : word < length corpus
  pub front : List ℕ
  pub back : List ℕ
  pub is : word_at corpus word ≡ front ++ (s ++ back)

pub stands_inside : (corpus : Corpus) (s : List ℕ) → 1 ≤ length s → Stands corpus s ↔ Inside corpus s
stands_inside corpus s some = (there, back)
  where
    there : Stands corpus s → Inside corpus s
    there q =
        let rest = drop q.place (word_at corpus q.word) in
        let e : s ++ drop (length s) rest ≡ rest =
        subst (λ (x : List ℕ). x ++ drop (length s) rest ≡ rest) (take_begins s rest q.there) (take-append-drop (length s) rest) in
        record {
          word = q.word;
          in_corpus = q.in_corpus;
          front = take q.place (word_at corpus q.word);
          back = drop (length s) rest;
          is = rw e (sym (take-append-drop q.place (word_at corpus q.word)));
        }

    back : Inside corpus s → Stands corpus s
    back q =
        let m = length-append q.front (s ++ q.back) in
        let n = length-append s q.back in
        record {
          word = q.word;
          place = length q.front;
          in_corpus = q.in_corpus;
          in_word = rw q.is (omega arith);
          there = rw (q.is, drop-append_seam q.front (s ++ q.back)) (begins_join s q.back);
        }

-- ---- a count says that it stands; and it counts where every frequency is at least 1
-- some place of a word
record Placed (s word : List ℕ) : Type 0 where
  pub place : ℕ
  pub within : place < length word
  pub there : begins s (drop place word) ≡ true

placed : (s word : List ℕ) → 1 ≤ places s word → Placed s word
placed s [] h = absurd (omega arith)
placed s (c ∷ word) h = by s c word h (begins s (c ∷ word)) refl (placed s word)
  where
    by : (s : List ℕ) (c : ℕ) (word : List ℕ) → 1 ≤ places s (c ∷ word) → (b : Bool) → begins s (c ∷ word) ≡ b
        → (1 ≤ places s word → Placed s word) → Placed s (c ∷ word)
    by s c word h true e ih = record { place = 0; within = omega arith; there = e }
    by s c word h false e ih =
        let g : 1 ≤ 0 + places s word = rw e at h in
        let q = ih (omega arith) in
        let w = q.within in
        record { place = suc q.place; within = omega arith; there = q.there }

places_of : (s word : List ℕ) (i : ℕ) → i < length word → begins s (drop i word) ≡ true → 1 ≤ places s word
places_of s [] i h u = absurd (omega arith)
places_of s (c ∷ word) zero h u = rw u (omega arith)
places_of s (c ∷ word) (suc i) h u = let g = places_of s word i (omega arith) u in omega arith

pub counted_stands : (corpus : Corpus) (s : List ℕ) → 1 ≤ count corpus s → Stands corpus s
counted_stands [] s h = absurd (omega arith)
counted_stands (w ∷ corpus) s h = by (places s w.0) refl (counted_stands corpus s)
  where
    by : (n : ℕ) → places s w.0 ≡ n → (1 ≤ count corpus s → Stands corpus s) → Stands (w ∷ corpus) s
    by (suc n) e ih =
        let q = placed s w.0 (omega arith) in
        record { word = 0; place = q.place; in_corpus = omega arith; in_word = q.within; there = q.there }
    by zero e ih =
        let g : 1 ≤ w.1 * 0 + count corpus s = rw e at h in
        let q = ih (omega arith) in
        let c = q.in_corpus in
        record { word = suc q.word; place = q.place; in_corpus = omega arith; in_word = q.in_word; there = q.there }

product : (m n : ℕ) → 1 ≤ m → 1 ≤ n → 1 ≤ m * n
product zero n h g = absurd (omega arith)
product (suc m) zero h g = absurd (omega arith)
product (suc m) (suc n) h g = omega arith

pub stands_counted : (corpus : Corpus) (s : List ℕ) → ((k : ℕ) → k < length corpus → 1 ≤ frequency_at corpus k)
    → Stands corpus s → 1 ≤ count corpus s
stands_counted corpus s f q =
    at corpus f q.word q.in_corpus (places_of s (word_at corpus q.word) q.place q.in_word q.there)
  where
    at : (corpus : Corpus) → ((k : ℕ) → k < length corpus → 1 ≤ frequency_at corpus k) → (k : ℕ) → k < length corpus
        → 1 ≤ places s (word_at corpus k) → 1 ≤ count corpus s
    at [] f k h g = absurd (omega arith)
    at (w ∷ corpus) f zero h g = let p = product w.1 (places s w.0) (f 0 (omega arith)) g in omega arith
    at (w ∷ corpus) f (suc k) h g = let r = at corpus (λ j i. f (suc j) (omega arith)) k (omega arith) g in omega arith
