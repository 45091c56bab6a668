-- How far the loop of `characters` has come. Assumes nothing.
use mathlib.Core.Path.{◌≡◌, refl, sym, ap, ap₂, ◌∙◌}
use mathlib.Core.List.{List, [], ◌∷◌}
use Prim.Native.Nat.{ℕ, ◌+◌, ◌≤◌, ◌<◌}
use native.Mathlib.Numerals.{add-one}
use native.Mathlib.Decide.{dec_lt}
use native.Mathlib.Omega.{arith}
use Rattle.std.specs.Prelude.{None}
use lib.ListN.{length, get_or, set, take, drop}
use lib.Seq.{length-take-le, take-suc, take-length}
use Rattle.utf8.specs.Decode.{decoded, character}
use Rattle.utf8.specs.Chars.{chars_of}
use Rattle.utf8.proofs.Reading.{Reading, Read, reading_none, reading_more, reading_bad, reading_end}
use Rattle.lattice.specs.Written.{over}
use Rattle.lattice.proofs.Fronts.{stored, over_long}
use Rattle.rows.specs.Chars.{Decoding, Decodes}

-- the bytes before `at` are n characters, which are written
pub record Written (word chars₀ chars : List ℕ) (at n : ℕ) : Type 0 where
  pub decoding : Decoding word chars₀
  pub reading : Reading word at n
  pub chars_are : chars ≡ over (take n (chars_of word)) chars₀

pub written_none : {word chars : List ℕ} → Decoding word chars → Written word chars chars 0 0
written_none d = record { decoding = d; reading = reading_none d.utf8; chars_are = refl }

module _ {word chars₀ chars : List ℕ} {at n : ℕ} (w : Written word chars₀ chars at n) where
  front_long : length (take n (chars_of word)) ≡ n
  front_long = length-take-le n (chars_of word) w.reading.near

  pub written_long : length chars ≡ length chars₀
  written_long =
      let a = front_long in
      let b = w.reading.few in
      let c = w.reading.inside in
      let d = w.decoding.room in
      ap length w.chars_are ∙ over_long (take n (chars_of word)) chars₀ (omega arith)

  written_end : length word ≤ at → Decodes word chars₀ chars n
  written_end h =
      let e : n ≡ length (chars_of word) = reading_end w.reading h in
      record { count = e; few = let f = w.reading.few in let i = w.reading.inside in omega arith; chars_are = w.chars_are ∙ ap (λ (f : List ℕ). over f chars₀) (ap (λ (k : ℕ). take k (chars_of word)) e ∙ take-length (chars_of word)) }

  -- where no character is, the word ends
  pub written_all : decoded (drop at word) ≡ None → Decodes word chars₀ chars n
  written_all e = elim (dec_lt at (length word)) [
    | yes l ↦ absurd (reading_bad w.reading l e)
    | no l ↦ written_end (omega arith)
  ]

  module _ {c width : ℕ} (e : decoded (drop at word) ≡ character c width) where
    read : Read word at n c width
    read = reading_more w.reading e

    pub written_room : n < length chars
    written_room = let l = written_long in let r = w.decoding.room in let i = read.inside in let f = w.reading.few in let s = read.some in omega arith

    pub written_in : (at + width ≤ length word) × (1 ≤ width)
    written_in = (read.inside, read.some)

    pub written_more : Written word chars₀ (set chars n c) (at + width) (n + 1)
    written_more =
        let l = front_long in
        let m = written_long in
        let r = written_room in
        record {
          decoding = w.decoding;
          reading = read.next;
          chars_are =
              ap₂ (λ (x : List ℕ) (v : ℕ). set x n v) w.chars_are (sym read.char)
              ∙ ap (λ (k : ℕ). set (over (take n (chars_of word)) chars₀) k (get_or (chars_of word) n 0)) (sym l)
              ∙ stored (take n (chars_of word)) (get_or (chars_of word) n 0 ∷ []) chars₀ (omega arith)
              ∙ ap (λ (f : List ℕ). over f chars₀) (sym (take-suc (chars_of word) n 0 read.within) ∙ ap (λ (k : ℕ). take k (chars_of word)) (sym (add-one n)));
        }
