-- Every count that a line can say is a u32, as `whole_in_order` asks: a digit is below 16, a byte below 256, and a 04 has four.
-- Assumes nothing.
use Prim.Native.Nat.{ℕ, zero, suc, ◌+◌, ◌*◌, ◌≤◌, ◌<◌}
use mathlib.Core.Path.{◌≡◌, refl}
use mathlib.Core.List.{List, [], ◌∷◌, ◌++◌}
use native.Mathlib.Omega.{arith}
use lib.Dec.{eqb}
use Rattle.std.specs.Prelude.{Option, None, Some, unwrap_or}
use lib.ListN.{length, get_or}
use Rattle.laws.proofs.Choices.{cond_cases}
use Rattle.hexadecimal.specs.Digits.{value_of}
use Rattle.hexadecimal.proofs.Valued.{digit_below}
use Rattle.frames.specs.Bytes.{nibble_of, byte_at, bytes_upto, bytes_of}
use Rattle.frames.specs.Frames.{byte, number_at, seed_fits, settings_of, settings_frame, special_frame, word_frame, count_frame, frame_of}
use Rattle.frames.specs.declared.input.Frame.TheVariants.{Settings as First, Special, Word, Count}
use Rattle.frames.proofs.Theorems.{Fits}

nibble_below : (b : ℕ) → nibble_of b < 16
nibble_below b = go (value_of b) refl
  where
    go : (k : Option ℕ) → value_of b ≡ k → unwrap_or k 0 < 16
    go (Some v) e = digit_below b e
    go None e = omega arith

-- every number of a list is a byte
abbrev Octets : List ℕ → Type 0
Octets [] = Unit {0}
Octets (b ∷ l) = (b < 256) × Octets l

octets_more : (l : List ℕ) (b : ℕ) → Octets l → b < 256 → Octets (l ++ b ∷ [])
octets_more [] b o h = (h, tt)
octets_more (a ∷ l) b o h = (o.0, octets_more l b o.1 h)

octet_at : (l : List ℕ) → Octets l → (i : ℕ) → get_or l i 0 < 256
octet_at [] o zero = omega arith
octet_at [] o (suc i) = omega arith
octet_at (b ∷ l) o zero = o.0
octet_at (b ∷ l) o (suc i) = octet_at l o.1 i

bytes_octets : (line : List ℕ) (n : ℕ) → Octets (bytes_upto line n)
unfolding bytes_upto
bytes_octets line zero = tt
bytes_octets line (suc n) =
    let a : nibble_of (get_or line (2 * n) 0) < 16 = nibble_below (get_or line (2 * n) 0) in
    let b : nibble_of (get_or line (2 * n + 1) 0) < 16 = nibble_below (get_or line (2 * n + 1) 0) in
    let c : byte_at line n < 256 = omega arith in
    octets_more (bytes_upto line n) (byte_at line n) (bytes_octets line n) c

module _ (l : List ℕ) (o : Octets l) where
  four_fit : number_at l 1 4 ≤ 4294967295
  four_fit =
      let a : get_or l (1 + 0) 0 < 256 = octet_at l o (1 + 0) in
      let b : get_or l (1 + 1) 0 < 256 = octet_at l o (1 + 1) in
      let c : get_or l (1 + 2) 0 < 256 = octet_at l o (1 + 2) in
      let d : get_or l (1 + 3) 0 < 256 = octet_at l o (1 + 3) in
      omega arith

  first_fits : Fits (settings_frame l)
  unfolding settings_frame
  first_fits =
      cond_cases Fits (eqb (length l) 31) _ _
      (λ _. cond_cases Fits (seed_fits (byte l 5) (number_at l 6 4)) (Some (First (settings_of l) (number_at l 29 2))) None (λ _. tt) (λ _. tt)) (λ _. tt)

  special_fits : Fits (special_frame l)
  unfolding special_frame
  special_fits = cond_cases Fits (eqb (length l) (2 + byte l 1)) (Some (Special 2 (byte l 1))) None (λ _. tt) (λ _. tt)

  word_fits : Fits (word_frame l)
  unfolding word_frame
  word_fits = cond_cases Fits (eqb (length l) (10 + byte l 9)) (Some (Word (number_at l 1 8) 10 (byte l 9))) None (λ _. tt) (λ _. tt)

  count_fits : Fits (count_frame l)
  unfolding count_frame
  count_fits = cond_cases Fits (eqb (length l) 5) (Some (Count (number_at l 1 4))) None (λ _. four_fit) (λ _. tt)

frame_fits : (l : List ℕ) → Octets l → Fits (frame_of l)
unfolding frame_of
frame_fits [] o = tt
frame_fits (kind ∷ l) o =
    cond_cases Fits (eqb kind 1) _ _ (λ _. first_fits (kind ∷ l) o)
    (λ _. cond_cases Fits (eqb kind 2) _ _ (λ _. special_fits (kind ∷ l) o)
    (λ _. cond_cases Fits (eqb kind 3) _ _ (λ _. word_fits (kind ∷ l) o)
    (λ _. cond_cases Fits (eqb kind 4) _ _ (λ _. count_fits (kind ∷ l) o) (λ _. tt))))

-- The frame of any line fits.
pub line_fits : (line : List ℕ) → Fits (frame_of (bytes_of line))
line_fits line = frame_fits (bytes_of line) (bytes_octets line _)
