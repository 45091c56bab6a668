-- How many bytes characters take. Assumes nothing.
use mathlib.Core.Path.{◌≡◌, refl, sym, ap, ◌∙◌}
use mathlib.Core.List.{List, [], ◌∷◌, ◌++◌, append_assoc}
use Prim.Native.Nat.{ℕ, ◌+◌, ◌≤◌}
use native.Mathlib.Omega.{arith}
use lib.ListN.{length, take, drop, length-append, length-drop, take-append-drop}
use Rattle.utf8.specs.Encode.{encode, spelling, Spells}
use Rattle.utf8.specs.Chars.{chars_of}
use Rattle.utf8.proofs.Reading.{Reading}
use Rattle.utf8.proofs.Theorems.{width}

pub spelling_append : (xs ys : List ℕ) → spelling (xs ++ ys) ≡ spelling xs ++ spelling ys
unfolding spelling
spelling_append [] ys = refl
spelling_append (x ∷ xs) ys =
    ap (λ (l : List ℕ). encode x ++ l) (spelling_append xs ys) ∙ sym (append_assoc (encode x) (spelling xs) (spelling ys))

-- at least one each
pub spelling_long : (cs : List ℕ) → length cs ≤ length (spelling cs)
unfolding spelling
spelling_long [] = omega arith
spelling_long (c ∷ cs) = omega (arith, (width c).0, spelling_long cs, length-append (encode c) (spelling cs))

-- the first i of them, and the others
pub spelling_parts : (cs : List ℕ) (i : ℕ)
    → length (spelling cs) ≡ length (spelling (take i cs)) + length (spelling (drop i cs))
spelling_parts cs i =
    ap (λ (l : List ℕ). length (spelling l)) (sym (take-append-drop i cs))
    ∙ ap length (spelling_append (take i cs) (drop i cs))
    ∙ length-append (spelling (take i cs)) (spelling (drop i cs))

pub chars_few : {octets cs : List ℕ} → Spells octets cs → length cs ≤ length octets
chars_few {octets} {cs} s = omega (arith, spelling_long cs, ap length s.spelt)

-- the bytes before the place that a loop has come to are those of the characters before it
pub reading_at : {octets : List ℕ} {byte n : ℕ} → Spells octets (chars_of octets) → Reading octets byte n
    → byte ≡ length (spelling (take n (chars_of octets)))
reading_at {octets} {byte} {n} s r =
    let a = spelling_parts (chars_of octets) n in
    let b : length octets ≡ length (spelling (chars_of octets)) = ap length s.spelt in
    let c : length (drop byte octets) ≡ length (spelling (drop n (chars_of octets))) =
    ap length r.utf8.spelt ∙ ap (λ (l : List ℕ). length (spelling l)) (sym r.rest) in
    let d = length-drop byte octets in
    let e = r.inside in
    omega arith
