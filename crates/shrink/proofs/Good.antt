-- Survivors are as good as they were: inside their text, short, and UTF-8. Assumes nothing.
use mathlib.Core.Path.{◌≡◌, refl, sym, ap, ◌∙◌, subst}
use mathlib.Core.Bool.{Bool, true, false, cond}
use mathlib.Core.List.{List, [], ◌∷◌}
use Prim.Native.Nat.{ℕ, zero, suc, ◌+◌, ◌*◌, ◌≤◌, ◌<◌}
use native.Mathlib.Omega.{arith}
use lib.Dec.{eqb}
use lib.ListN.{length, get_or, take}
use Rattle.spans.specs.Spans.{from, bytes, octets}
use Rattle.spans.specs.Check.{Good, AllGood}
use Rattle.utf8.specs.Chars.{chars_of}
use Rattle.utf8.specs.Encode.{Spells}
use Rattle.lattice.specs.Pruning.{gone}
use Rattle.prune.specs.Compact.{surviving, twice}

-- good is what its two numbers say
pub same_good : (text spans others : List ℕ) (most k j : ℕ) → from spans k ≡ from others j → bytes spans k ≡ bytes others j → Good text others most j → Good text spans most k
same_good text spans others most k j f b g =
    let o : octets text spans k ≡ octets text others j = same_octets in
    record {
      inside = let i = g.inside in omega arith;
      short = let s = g.short in omega arith;
      utf8 = subst (λ (x : List ℕ). Spells x (chars_of x)) (sym o) g.utf8;
    }
  where
    same_octets : octets text spans k ≡ octets text others j
    same_octets =
        ap (λ (n : ℕ). take n (lib.ListN.drop (from spans k) text)) b
        ∙ ap (λ (n : ℕ). take (bytes others j) (lib.ListN.drop n text)) f

-- two numbers of a list
pub record Pair (l : List ℕ) (k : ℕ) (others : List ℕ) (j : ℕ) : Type 0 where
  pub first : get_or l (2 * k) 0 ≡ get_or others (2 * j) 0
  pub second : get_or l (2 * k + 1) 0 ≡ get_or others (2 * j + 1) 0

one_on : {l others : List ℕ} {k j : ℕ} (a b : ℕ) → Pair l k others j → Pair l k (a ∷ b ∷ others) (suc j)
one_on {l} {others} {k} {j} a b p =
    let e : 2 * suc j ≡ suc (suc (2 * j)) = omega arith in
    let f : 2 * suc j + 1 ≡ suc (suc (2 * j + 1)) = omega arith in
    record {
      first = p.first ∙ sym (ap (λ (n : ℕ). get_or (a ∷ b ∷ others) n 0) e);
      second = p.second ∙ sym (ap (λ (n : ℕ). get_or (a ∷ b ∷ others) n 0) f);
    }

both_on : {l others : List ℕ} {k j : ℕ} (a b : ℕ) → Pair l k others j → Pair (a ∷ b ∷ l) (suc k) (a ∷ b ∷ others) (suc j)
both_on {l} {others} {k} {j} a b p =
    let e : 2 * suc k ≡ suc (suc (2 * k)) = omega arith in
    let f : 2 * suc k + 1 ≡ suc (suc (2 * k + 1)) = omega arith in
    let q = one_on {l = l} a b p in
    record {
      first = ap (λ (n : ℕ). get_or (a ∷ b ∷ l) n 0) e ∙ q.first;
      second = ap (λ (n : ℕ). get_or (a ∷ b ∷ l) n 0) f ∙ q.second;
    }

-- a survivor was there before
pub survivor_at : (remap l : List ℕ) → 2 * length remap ≤ length l → (k : ℕ) → 2 * k + 1 < length (surviving (twice remap) l)
    → (j : ℕ) × (j < length remap) × Pair (surviving (twice remap) l) k l j
survivor_at [] l h k s = absurd (omega arith)
survivor_at (r ∷ rs) [] h k s = absurd (omega arith)
survivor_at (r ∷ rs) (a ∷ []) h k s = absurd (omega arith)
survivor_at (r ∷ rs) (a ∷ b ∷ l) h k s = go (eqb r gone) (survivor_at rs l (omega arith)) k s
  where
    left : Bool → List ℕ
    left g = cond g (cond g (surviving (twice rs) l) (b ∷ surviving (twice rs) l)) (a ∷ cond g (surviving (twice rs) l) (b ∷ surviving (twice rs) l))

    go : (g : Bool) → ((k : ℕ) → 2 * k + 1 < length (surviving (twice rs) l) → (j : ℕ) × (j < length rs) × Pair (surviving (twice rs) l) k l j)
        → (k : ℕ) → 2 * k + 1 < length (left g) → (j : ℕ) × (j < suc (length rs)) × Pair (left g) k (a ∷ b ∷ l) j
    go true f k s = let (j, h, p) = f k s in (suc j, omega arith, one_on a b p)
    go false f zero s = (0, omega arith, record { first = refl; second = refl })
    go false f (suc k) s = let (j, h, p) = f k (omega arith) in (suc j, omega arith, both_on a b p)

pub survivors_good : (text remap pieces : List ℕ) (most : ℕ) → 2 * length remap ≤ length pieces → AllGood text pieces most (length remap)
    → (count : ℕ) → 2 * count ≡ length (surviving (twice remap) pieces) → AllGood text (surviving (twice remap) pieces) most count
survivors_good text remap pieces most h good count e k l =
    let (j, i, p) = survivor_at remap pieces h k (omega arith) in
    same_good text (surviving (twice remap) pieces) pieces most k j p.first p.second (good j i)
