-- Losses put one after the other, by their bits. Assumes nothing.
use mathlib.Core.Path.{◌≡◌, refl, sym, ap, ap₂, ◌∙◌}
use mathlib.Core.List.{List, [], ◌∷◌, ◌++◌, map-append, append-nil}
use Prim.Native.Nat.{ℕ, zero, suc, ◌+◌, ◌≤◌, ◌<◌}
use native.Mathlib.Numerals.{add-one}
use native.Mathlib.Decide.{dec_lt}
use native.Mathlib.Omega.{arith}
use lib.ListN.{length, get_or, drop, set, length-set, length-map, drop_of_length-le, get_or-append}
use lib.Seq.{drop-cons, set_at, get_or_at, append_snoc}
use lib.Ieee.{Float, nan, binary64, to_bits}
use Rattle.spans.specs.Spans.{many, chars_at, first, listed}
use Rattle.trie.proofs.Same.{length_first}
use Rattle.losses.specs.Losses.{alternative, loss, loss_at, losses_of, bits_of}

-- one of a list's first values
first_at : {A : Type 0} (f : ℕ → A) (d : A) (n k : ℕ) → k < n → get_or (first f n) k d ≡ f k
first_at f d zero k l = absurd (none k l)
  where
    none : (k : ℕ) → k < 0 → ⊥
    none k l = omega arith
first_at f d (suc n) k l = elim (dec_lt k n) [
  | yes a ↦ get_or-append (first f n) (f n ∷ []) d k (let e = length_first f n in omega arith) ∙ first_at f d n k a
  | no a ↦
      let e : n ≡ k = omega arith in
      get_or_at (first f n) (f n) [] d k (length_first f n ∙ e) ∙ ap f e
]

-- and of their bits
bits_first : (f : ℕ → Float) (n : ℕ) → bits_of (first f n) ≡ first (λ k. to_bits binary64 (f k)) n
bits_first f zero = refl
bits_first f (suc n) = map-append (to_bits binary64) (first f n) (f n ∷ []) ∙ ap (λ (xs : List ℕ). xs ++ (to_bits binary64 (f n) ∷ [])) (bits_first f n)

pub bits_at : (f : ℕ → Float) (n k : ℕ) → k < n → get_or (bits_of (first f n)) k 0 ≡ to_bits binary64 (f k)
bits_at f n k l = ap (λ (xs : List ℕ). get_or xs k 0) (bits_first f n) ∙ first_at (λ j. to_bits binary64 (f j)) 0 n k l

module _ (text pieces : List ℕ) (setting : ℕ) (scores uses : List Float) where
  abbrev at : ℕ → Float
  at id = loss_at setting (listed text pieces) scores uses id

  -- a piece's text, where it stands
  pub its_loss : (id : ℕ) → id < many pieces → (used : Float) → used ≡ get_or uses id nan → {r : Float} → r ≡ loss used (get_or scores id nan) (alternative setting (listed text pieces) (chars_at text pieces id) scores id) → r ≡ at id
  its_loss id l used u e =
      e ∙ ap₂ (λ (x : Float) (t : List ℕ). loss x (get_or scores id nan) (alternative setting (listed text pieces) t scores id)) u (sym (first_at (chars_at text pieces) [] (many pieces) id l))

  -- the bits of the first losses, and what was there behind
  pub record Put (before : List ℕ) (id : ℕ) (bits : List ℕ) : Type 0 where
    pub near : id ≤ length before
    pub long : length bits ≡ length before
    pub is : bits ≡ bits_of (first at id) ++ drop id before

  pub put_none : (before : List ℕ) → Put before 0 before
  put_none before = record { near = omega arith; long = refl; is = refl }

  module _ {before bits : List ℕ} {id : ℕ} where
    pub put_more : Put before id bits → id < length before → (cost : Float) → cost ≡ at id → (b : ℕ) → b ≡ to_bits binary64 cost → Put before (id + 1) (set bits id b)
    put_more p l cost e b f =
        let many-put : length (bits_of (first at id)) ≡ id = length-map (first at id) (to_bits binary64) ∙ length_first at id in
        let v : b ≡ to_bits binary64 (at id) = f ∙ ap (to_bits binary64) e in
        record {
          near = omega arith;
          long = length-set bits id b ∙ p.long;
          is =
              ap (λ (xs : List ℕ). set xs id b) (p.is ∙ ap (λ (xs : List ℕ). bits_of (first at id) ++ xs) (drop-cons before id 0 l))
              ∙ set_at (bits_of (first at id)) (get_or before id 0) (drop (suc id) before) b id many-put
              ∙ ap (λ (y : ℕ). bits_of (first at id) ++ y ∷ drop (suc id) before) v
              ∙ sym (append_snoc (bits_of (first at id)) (to_bits binary64 (at id)) (drop (suc id) before))
              ∙ ap (λ (xs : List ℕ). xs ++ drop (suc id) before) (sym (map-append (to_bits binary64) (first at id) (at id ∷ [])))
              ∙ ap (λ (k : ℕ). bits_of (first at k) ++ drop k before) (sym (add-one id));
        }

    pub put_all : Put before id bits → length before ≤ id → length before ≡ many pieces → bits ≡ bits_of (losses_of setting (listed text pieces) scores uses)
    put_all p l e =
        let n = p.near in
        let h : id ≡ length (listed text pieces) = let m = length_first (chars_at text pieces) (many pieces) in omega arith in
        p.is
        ∙ ap (λ (xs : List ℕ). bits_of (first at id) ++ xs) (drop_of_length-le before {i = id} l)
        ∙ append-nil (bits_of (first at id))
        ∙ ap (λ (k : ℕ). bits_of (first at k)) h
