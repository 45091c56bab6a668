-- The trie of a whole list: slices of zeros, one piece more, and the turns of the loop of `fill`.
-- Assumes nothing.
use Rattle.std.specs.Prelude.{Option, Some, None}
use mathlib.Core.Path.{◌≡◌, refl, sym, ap, ◌∙◌, subst}
use mathlib.Core.List.{List, []}
use Prim.Native.Nat.{ℕ, zero, suc, ◌+◌, ◌-◌, ◌≤◌, ◌<◌}
use native.Mathlib.Numerals.{add-one}
use native.Mathlib.Omega.{arith}
use lib.ListN.{length, length-replicate}
use Rattle.utf8.specs.Chars.{chars_of}
use Rattle.spans.specs.Spans.{many, octets, chars_at}
use Rattle.spans.specs.Check.{AllGood}
use Rattle.places.specs.Entries.{zeros}
use Rattle.trie.specs.Prefixes.{joined, prefixes_of}
use Rattle.trie.specs.Listed.{newest_of}
use Rattle.trie.specs.Trie.{Trie}
use Rattle.trie.specs.Promised.{AddsTo, Adds}
use Rattle.trie.specs.Index.{Indexing, Index, Indexes, Upto, Puts}
use Rattle.trie.specs.declared.Added.{Added}
use Rattle.trie.specs.declared.Added.TheVariants.{New, Again}
use Rattle.trie.proofs.Equal.{joined_longer}
use Rattle.trie.proofs.Theorems.{trie_none}
use Rattle.trie.proofs.Same.{length_newest}

-- pieces that were checked
pub indexing_good : {keys ends text pieces : List ℕ} (most : ℕ) → length keys ≤ 4294967295 → length ends ≡ length keys → many pieces < 4294967295 → AllGood text pieces most (many pieces) → Indexing keys ends text pieces
indexing_good most few level ids good = record { few = few; level = level; ids = ids; inside = λ k h. (good k h).inside; utf8 = λ k h. (good k h).utf8 }

-- the trie of no piece
pub none_upto : {keys ends : List ℕ} (text pieces : List ℕ) → Trie keys ends [] [] → Upto keys ends text pieces 0 0
none_upto text pieces t = record { trie = t; counted = refl }

-- slices that were cleared hold it, if the root is at most half of the places
pub cleared : (keys₀ ends₀ text pieces keys ends : List ℕ) → Indexing keys₀ ends₀ text pieces → keys ≡ zeros (length keys₀) → ends ≡ zeros (length ends₀) → 2 ≤ length keys → Indexing keys ends text pieces × Trie keys ends [] []
cleared keys₀ ends₀ text pieces keys ends x a b two =
    let n : length (zeros (length keys₀)) ≡ length keys₀ = length-replicate (length keys₀) 0 in
    let l : length keys ≡ length keys₀ = ap length a ∙ n in
    let t : Trie keys ends [] [] = subst (λ (x : List ℕ). Trie x ends [] []) (sym a)
    (subst (λ (x : List ℕ). Trie (zeros (length keys₀)) x [] []) (sym (b ∙ ap zeros x.level)) (trie_none (length keys₀) (omega arith))) in
    (record { few = omega (arith, x.few); level = t.level; ids = x.ids; inside = x.inside; utf8 = x.utf8 }, t)

-- what is said of slices of one length is said of those they were
pub indexes_long : (text pieces keys₀ keys keys' ends' : List ℕ) (r : Option ℕ) → length keys ≡ length keys₀ → Indexes text pieces keys keys' ends' r → Indexes text pieces keys₀ keys' ends' r
indexes_long text pieces keys₀ keys keys' ends' (Some n) e x = record { long = x.long ∙ e; trie = x.trie; counted = x.counted }
indexes_long text pieces keys₀ keys keys' ends' None e x = omega arith

-- more pieces have no fewer prefixes
module _ (f : ℕ → List ℕ) where
  one_longer : (k : ℕ) → length (prefixes_of (newest_of f k)) ≤ length (prefixes_of (newest_of f (suc k)))
  one_longer k =
      let x = joined_longer (prefixes_of (newest_of f k)) (f k) 0 (length (f k)) in
      let e : length (f k) + 0 ≡ length (f k) = omega arith in
      let y : length (joined (prefixes_of (newest_of f k)) (f k) (length (f k) + 0)) ≡ length (joined (prefixes_of (newest_of f k)) (f k) (length (f k))) = ap (λ (i : ℕ). length (joined (prefixes_of (newest_of f k)) (f k) i)) e in
      omega arith

  more_longer : (k j : ℕ) → length (prefixes_of (newest_of f k)) ≤ length (prefixes_of (newest_of f (j + k)))
  more_longer k zero =
      let e : 0 + k ≡ k = omega arith in
      let y : length (prefixes_of (newest_of f (0 + k))) ≡ length (prefixes_of (newest_of f k)) = ap (λ (i : ℕ). length (prefixes_of (newest_of f i))) e in
      omega arith
  more_longer k (suc j) =
      let e : suc j + k ≡ suc (j + k) = omega arith in
      let y : length (prefixes_of (newest_of f (suc j + k))) ≡ length (prefixes_of (newest_of f (suc (j + k)))) = ap (λ (i : ℕ). length (prefixes_of (newest_of f i))) e in
      omega (arith, more_longer k j, one_longer (j + k))

  pub prefixes_longer : (k n : ℕ) → k ≤ n → length (prefixes_of (newest_of f k)) ≤ length (prefixes_of (newest_of f n))
  prefixes_longer k n h =
      let e : n - k + k ≡ n = omega arith in
      let y : length (prefixes_of (newest_of f (n - k + k))) ≡ length (prefixes_of (newest_of f n)) = ap (λ (i : ℕ). length (prefixes_of (newest_of f i))) e in
      omega (arith, more_longer k (n - k))

-- piece k, by its bytes
module _ (text pieces : List ℕ) (k : ℕ) {piece : List ℕ} (is : piece ≡ octets text pieces k) where
  -- by each answer of `add`, one piece more
  module _ (keys ends : List ℕ) (count : ℕ) (keys' ends' : List ℕ) where
    added : (r : Option Added) → Adds keys ends (chars_of piece) k count keys' ends' r → (u : Upto keys ends text pieces k count)
        → AddsTo keys ends (chars_at text pieces k) count keys' ends' r (prefixes_of (newest_of (chars_at text pieces) k)) (newest_of (chars_at text pieces) k)
    added r adds u =
        subst (λ (l : List ℕ). AddsTo keys ends (chars_of l) count keys' ends' r (prefixes_of (newest_of (chars_at text pieces) k)) (newest_of (chars_at text pieces) k)) is
        (adds (prefixes_of (newest_of (chars_at text pieces) k)) (newest_of (chars_at text pieces) k) u.trie u.counted (sym (length_newest (chars_at text pieces) k)))

    module _ {r : Added} (adds : Adds keys ends (chars_of piece) k count keys' ends' (Some r)) where
      named : {r' : Added} → r ≡ r' → (u : Upto keys ends text pieces k count)
          → AddsTo keys ends (chars_at text pieces k) count keys' ends' (Some r') (prefixes_of (newest_of (chars_at text pieces) k)) (newest_of (chars_at text pieces) k)
      named e u =
          subst (λ (d : Added). AddsTo keys ends (chars_at text pieces k) count keys' ends' (Some d) (prefixes_of (newest_of (chars_at text pieces) k)) (newest_of (chars_at text pieces) k)) e
          (added (Some r) adds u)

      pub put_new : {made : ℕ} → r ≡ New made → Puts keys ends text pieces k count keys' ends' (Some made)
      put_new e u = let m = named e u in record { trie = m.trie; counted = m.counted }

      pub put_again : {i made : ℕ} → r ≡ Again i made → Puts keys ends text pieces k count keys' ends' (Some made)
      put_again e u = let m = named e u in record { trie = m.trie; counted = m.counted }

    pub put_full : Adds keys ends (chars_of piece) k count keys' ends' None → Puts keys ends text pieces k count keys' ends' None
    put_full adds u = (added None adds u).0.over

-- How far the loop of `fill` has come.
pub record Filled (keys₀ text pieces keys ends : List ℕ) (k count : ℕ) : Type 0 where
  pub long : length keys ≡ length keys₀
  pub near : k ≤ many pieces
  pub upto : Upto keys ends text pieces k count

pub filled_none : {keys ends text pieces : List ℕ} → Trie keys ends [] [] → Filled keys text pieces keys ends 0 0
filled_none {keys} {ends} {text} {pieces} t = record { long = refl; near = omega arith; upto = none_upto text pieces t }

module _ {keys₀ text pieces keys ends : List ℕ} {k count : ℕ} (f : Filled keys₀ text pieces keys ends k count) where
  pub filled_indexing : {ends₀ : List ℕ} → Indexing keys₀ ends₀ text pieces → Indexing keys ends text pieces
  filled_indexing x = record { few = omega (arith, f.long, x.few); level = f.upto.trie.level; ids = x.ids; inside = x.inside; utf8 = x.utf8 }

  pub filled_all : many pieces ≤ k → Index text pieces keys₀ keys ends count
  filled_all l =
      let e : k ≡ many pieces = omega (arith, f.near) in
      let u = subst (λ (i : ℕ). Upto keys ends text pieces i count) e f.upto in
      record { long = f.long; trie = u.trie; counted = u.counted }

  module _ (l : k < many pieces) (keys' ends' : List ℕ) where
    pub filled_more : (n : ℕ) → length keys' ≡ length keys → Puts keys ends text pieces k count keys' ends' (Some n) → Filled keys₀ text pieces keys' ends' (k + 1) n
    filled_more n e p =
        record { long = e ∙ f.long; near = omega arith; upto = subst (λ (i : ℕ). Upto keys' ends' text pieces i n) (sym (add-one k)) (p f.upto) }

    pub filled_full : Puts keys ends text pieces k count keys' ends' None → Indexes text pieces keys₀ keys' ends' None
    filled_full p = let x = p f.upto in omega (arith, f.long, prefixes_longer (chars_at text pieces) (suc k) (many pieces) l)
