-- The bytes of tokens, one token after the other. Assumes nothing.
use mathlib.Core.Path.{◌≡◌, refl, ap, ◌∙◌}
use mathlib.Core.List.{List, [], ◌∷◌, ◌++◌, append-nil}
use Prim.Native.Nat.{ℕ, zero, suc}
use native.Mathlib.Omega.{arith}
use lib.ListN.{length, drop, length-append, length-drop}
use lib.Seq.{length-take-le}
use Rattle.spans.specs.Spans.{from, bytes, octets, first}
use Rattle.spans.specs.Check.{Good, AllGood}
use Rattle.positions.specs.Gathered.{bytes_before}
use Rattle.lattice.specs.Layout.{joined}
use Rattle.lattice.proofs.Joined.{joined_append}

pub octets_long : {text spans : List ℕ} {most k : ℕ} → Good text spans most k → length (octets text spans k) ≡ bytes spans k
octets_long {text} {spans} {most} {k} g =
    let i = g.inside in
    length-take-le (bytes spans k) (drop (from spans k) text) (omega (arith, length-drop (from spans k) text))

pub first_long : {A : Type 0} (f : ℕ → A) (n : ℕ) → length (first f n) ≡ n
first_long f zero = refl
first_long f (suc n) = let a = first_long f n in let b = length-append (first f n) (f n ∷ []) in omega arith

-- ---- the bytes
pub joined_more : (f : ℕ → List ℕ) (k : ℕ) → joined (first f (suc k)) ≡ joined (first f k) ++ f k
joined_more f k = joined_append (first f k) (f k ∷ []) ∙ ap (λ (l : List ℕ). joined (first f k) ++ l) (append-nil (f k))

-- as many as the spans say
pub joined_long : (text spans : List ℕ) {most : ℕ} (k : ℕ) → AllGood text spans most k → length (joined (first (octets text spans) k)) ≡ bytes_before spans k
joined_long text spans zero g = refl
joined_long text spans (suc k) g =
    let f = octets text spans in
    let a = ap length (joined_more f k) in
    let b = length-append (joined (first f k)) (f k) in
    let c = joined_long text spans k (λ j l. g j (omega arith)) in
    let d = octets_long (g k (omega arith)) in
    omega arith
