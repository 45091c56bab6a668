-- How far the loop of `spell` has come in the bytes of a piece, and each way out of it.
-- Assumes nothing.
use Rattle.std.specs.Prelude.{None}
use mathlib.Core.Path.{◌≡◌, sym, subst}
use mathlib.Core.List.{List}
use Prim.Native.Nat.{ℕ, ◌+◌, ◌≤◌, ◌<◌}
use native.Mathlib.Omega.{arith}
use lib.ListN.{length, get_or, drop}
use Rattle.utf8.specs.Encode.{Scalar, Spells}
use Rattle.utf8.specs.Decode.{decoded, character}
use Rattle.utf8.specs.Chars.{chars_of}
use Rattle.utf8.proofs.Reading.{Reading, Read, reading_none, reading_more, reading_bad, reading_end, scalars_at}
use Rattle.trie.specs.Trie.{Trie}
use Rattle.trie.specs.Promised.{Grew, Stuck, Full, Reached, Spelling}
use Rattle.trie.proofs.Grown.{Spelt, spelt_none, spelt_more, spelt_full, spelt_all}

-- the characters of UTF-8 are small
scalar_small : {c : ℕ} → Scalar c → c < 4294967295
scalar_small s = omega (arith, s.most)

pub chars_small : {text : List ℕ} → Spells text (chars_of text) → (i : ℕ) → i < length (chars_of text) → get_or (chars_of text) i 0 < 4294967295
chars_small p i h = scalar_small (scalars_at p.scalars i h)

-- the bytes before `at` are read, and their characters are spelt
pub record Far (keys piece : List ℕ) (count : ℕ) (after : List ℕ) (at made node : ℕ) : Type 0 where
  pub k : ℕ
  pub reading : Reading piece at k
  pub spelt : Spelt keys (chars_of piece) count after k made node

pub far_none : {keys piece : List ℕ} (count : ℕ) → Spelling keys piece → Far keys piece count keys 0 count 0
far_none {keys} {piece} count x = record { k = 0; reading = reading_none x.utf8; spelt = spelt_none keys (chars_of piece) count }

module _ {keys piece : List ℕ} {count : ℕ} {after : List ℕ} {at made node : ℕ} (x : Spelling keys piece) (f : Far keys piece count after at made node) where
  pub far_all : length piece ≤ at → Reached keys (chars_of piece) count after node made
  far_all l = spelt_all (chars_small x.utf8) f.spelt (omega (arith, reading_end f.reading l))

  pub far_bad : at < length piece → decoded (drop at piece) ≡ None → ⊥
  far_bad l e = reading_bad f.reading l e

  module _ {c w : ℕ} (e : decoded (drop at piece) ≡ character c w) where
    read : Read piece at f.k c w
    read = reading_more f.reading e

    pub far_in : (at + w ≤ length piece) × (1 ≤ w)
    far_in = (read.inside, read.some)

    pub far_small : c < 4294967295
    far_small = scalar_small read.scalar

    pub far_more : (after' : List ℕ) (node' made' : ℕ) → Grew after node c made after' node' made' → Far keys piece count after' (at + w) made' node'
    far_more after' node' made' g =
        record {
          k = f.k + 1;
          reading = read.next;
          spelt = spelt_more (chars_small x.utf8) f.spelt read.within after' node' made' (subst (λ (d : ℕ). Grew after node d made after' node' made') (sym read.char) g);
        }

    pub far_full : (after' : List ℕ) → Stuck after node c made after' → (ends : List ℕ) (prefixes pieces : List (List ℕ)) → Trie keys ends prefixes pieces → count ≡ length prefixes → Full keys (chars_of piece) after' ends prefixes pieces
    far_full after' g = spelt_full (chars_small x.utf8) f.spelt read.within after' (subst (λ (d : ℕ). Stuck after node d made after') (sym read.char) g)
