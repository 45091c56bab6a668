-- The table: a chain of earlier indexes for each bucket. Definitions only.
use Rattle.std.specs.Prelude.{◌≡◌, List, [], ◌∷◌, ℕ, ◌+◌, ◌*◌, ◌-◌, ◌/◌, ◌%◌, ◌≤◌, ◌<◌, get_or}
use Rattle.spans.specs.Spans.{many, octets}
use Rattle.repeats.specs.Repeats.{Repeating}

-- a hash and one byte more
unfoldable pub mixed : ℕ → ℕ → ℕ
mixed h byte = (h + byte) * 2654435769 % 4294967296

-- a hash and all the bytes of a list
unfoldable pub mixed_all : ℕ → List ℕ → ℕ
mixed_all h [] = h
mixed_all h (byte ∷ rest) = mixed_all (mixed h byte) rest

-- the hash of some bytes begins at a number other than 0, so that runs of the byte 0 differ
abbrev pub hash_of : List ℕ → ℕ
hash_of l = mixed_all 2166136261 l

-- the bucket of an index: the hash of its bytes as a fraction of the buckets, which are as many as the indexes
unfoldable pub bucket_of : List ℕ → List ℕ → ℕ → ℕ
bucket_of text spans k = hash_of (octets text spans k) * many spans / 4294967296

-- e is the latest index before k in the bucket b, plus 1, or 0
pub record Latest (f : ℕ → ℕ) (k b e : ℕ) : Type 0 where
  pub upto : e ≤ k
  pub own : 0 < e → f (e - 1) ≡ b
  pub none : (i : ℕ) → e ≤ i → i < k → f i ≡ b → ⊥

-- the indexes before k are in their chains: each entry below m is the link of its index, the m entries after them are the heads
pub record Chained (f : ℕ → ℕ) (m : ℕ) (table : List ℕ) (k : ℕ) : Type 0 where
  pub heads : (b : ℕ) → b < m → Latest f k b (get_or table (m + b) 0)
  pub links : (i : ℕ) → i < k → Latest f i (f i) (get_or table i 0)

-- what a turn of the search asks
pub record Turning (text spans table : List ℕ) (k : ℕ) : Type 0 where
  pub call : Repeating text spans table
  pub within : k < many spans
  pub chained : Chained (bucket_of text spans) (many spans) table k
