-- The walk of a chain: the entries passed are none with the bytes that are looked for. Assumes nothing.
use mathlib.Core.Path.{◌≡◌, sym, ◌∙◌, subst}
use mathlib.Core.List.{List}
use Prim.Native.Nat.{ℕ, ◌+◌, ◌-◌, ◌≤◌, ◌<◌}
use native.Mathlib.Decide.{dec_lt}
use native.Mathlib.Omega.{arith}
use lib.ListN.{get_or}
use Rattle.spans.specs.Spans.{many, octets}
use Rattle.repeats.specs.Chains.{bucket_of, Latest, Chained, Turning}
use Rattle.repeats.proofs.Hashes.{same_bucket}

-- e is an index in the bucket of k, plus 1, or 0; and k's bytes do not stand from e up to k
pub record Walking (text spans : List ℕ) (k e : ℕ) : Type 0 where
  pub upto : e ≤ k
  pub own : 0 < e → bucket_of text spans (e - 1) ≡ bucket_of text spans k
  pub none : (i : ℕ) → e ≤ i → i < k → octets text spans i ≡ octets text spans k → ⊥

module _ {text spans : List ℕ} {k : ℕ} where
  pub walking_head : {e : ℕ} → Latest (bucket_of text spans) k (bucket_of text spans k) e → Walking text spans k e
  walking_head l = record { upto = l.upto; own = l.own; none = λ i g h s. l.none i g h (same_bucket text spans i k s) }

  module _ {e : ℕ} (w : Walking text spans k e) where
    further : (n : ℕ) → 0 < e → (octets text spans (e - 1) ≡ octets text spans k → ⊥) → Latest (bucket_of text spans) (e - 1) (bucket_of text spans (e - 1)) n → Walking text spans k n
    further n p o l =
        let a = l.upto in
        let b = w.upto in
        record {
          upto = omega arith;
          own = λ q. l.own q ∙ w.own p;
          none = λ i g h s. elim (dec_lt i (e - 1)) [
            | yes y ↦ l.none i g y (same_bucket text spans i k s ∙ sym_own p)
            | no y ↦ elim (dec_lt i e) [
              | yes z ↦ let x : i ≡ e - 1 = omega arith in o (subst (λ (j : ℕ). octets text spans j ≡ octets text spans k) x s)
              | no z ↦ w.none i (omega arith) h s
            ]
          ];
        }
      where
        sym_own : 0 < e → bucket_of text spans k ≡ bucket_of text spans (e - 1)
        sym_own q = let x = w.own q in omega arith

    pub walking_link : {table : List ℕ} → Chained (bucket_of text spans) (many spans) table k → 0 < e → (octets text spans (e - 1) ≡ octets text spans k → ⊥) → Walking text spans k (get_or table (e - 1) 0)
    walking_link {table} c p o = further (get_or table (e - 1) 0) p o (c.links (e - 1) (let b = w.upto in omega arith))

-- a turn: the walk begins at the head of k's bucket, and k becomes the head
module _ {text spans table : List ℕ} {k : ℕ} (t : Turning text spans table k) (b m : ℕ) (own : b ≡ bucket_of text spans k) (bound : b < many spans) (count : m ≡ many spans) where
  place : m + b ≡ many spans + bucket_of text spans k
  place = omega arith

  pub walking_none : Walking text spans k (get_or table (m + b) 0)
  walking_none = subst (λ (j : ℕ). Walking text spans k (get_or table j 0)) (sym place) (walking_head (t.chained.heads (bucket_of text spans k) (omega arith)))
