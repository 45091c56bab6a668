-- The bytes of an index and its bucket, which is one of so many. Assumes nothing.
use mathlib.Core.Path.{◌≡◌, ap, ◌∙◌}
use mathlib.Core.List.{List}
use Prim.Native.Nat.{ℕ, ◌*◌, ◌/◌, ◌≤◌, ◌<◌}
use native.Mathlib.Nat.{mul-le-mul_right}
use native.Mathlib.Omega.{arith}
use Rattle.spans.specs.Spans.{many, octets}
use Rattle.repeats.specs.Chains.{hash_of, bucket_of}

-- a hash as a fraction of the buckets
pub fraction : (h m : ℕ) → h < 4294967296 → 0 < m → h * m / 4294967296 < m
fraction h m a b = let l : h * m ≤ 4294967295 * m = mul-le-mul_right m (omega arith) in omega arith

-- equal bytes are in one bucket
pub same_bucket : (text spans : List ℕ) (i k : ℕ) → octets text spans i ≡ octets text spans k → bucket_of text spans i ≡ bucket_of text spans k
unfolding bucket_of
same_bucket text spans i k e = ap (λ (l : List ℕ). hash_of l * many spans / 4294967296) e

pub bucket_is : (text spans : List ℕ) (k h m : ℕ) {part : List ℕ} → h ≡ hash_of part → part ≡ octets text spans k → m ≡ many spans → h * m / 4294967296 ≡ bucket_of text spans k
unfolding bucket_of
bucket_is text spans k h m e p q = ap (λ (x : ℕ). x * m / 4294967296) (e ∙ ap hash_of p) ∙ ap (λ (x : ℕ). hash_of (octets text spans k) * x / 4294967296) q
