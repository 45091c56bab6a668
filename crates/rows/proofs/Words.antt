-- A word of a list: its characters, and then its walks. Assumes nothing.
use mathlib.Core.Path.{◌≡◌, sym, ap, ap₂, ◌∙◌, subst}
use mathlib.Core.List.{List}
use Prim.Native.Nat.{ℕ, ◌≤◌}
use native.Mathlib.Omega.{arith}
use lib.ListN.{length, get_or, take, drop, length-take}
use lib.Seq.{take-append_seam}
use Rattle.utf8.specs.Encode.{Spells}
use Rattle.utf8.specs.Chars.{chars_of}
use Rattle.utf8.proofs.Reading.{scalars_at}
use Rattle.spans.specs.Spans.{from, bytes, octets, chars_at}
use Rattle.spans.specs.Check.{Good}
use Rattle.trie.specs.Prefixes.{prefixes_of}
use Rattle.trie.specs.Listed.{newest_of}
use Rattle.rows.specs.Chars.{Decoding, Decodes}
use Rattle.rows.specs.Walks.{Walking, Walks}
use Rattle.rows.specs.Grid.{lattice_in}
use Rattle.rows.specs.Word.{Room, Walked}
use Rattle.rows.proofs.Lattices.{told_lattice}

module _ {keys ends : List ℕ} {setting : ℕ} {chars grid : List ℕ} (r : Room keys ends setting chars grid) (text words : List ℕ) (k : ℕ) {word : List ℕ} (part : word ≡ octets text words k) (g : Good text words 255 k) where
  word_long : length word ≤ 255
  word_long = let e = ap length part in let a = length-take (bytes words k) (drop (from words k) text) in let s = g.short in omega arith

  pub word_decoding : Decoding word chars
  word_decoding =
      record {
        utf8 = subst (λ (s : List ℕ). Spells s (chars_of s)) (sym part) g.utf8;
        room = let a = word_long in let c = r.room in omega arith;
      }

  module _ {chars' : List ℕ} {n : ℕ} (d : Decodes word chars chars' n) where
    pub word_count : n ≡ length (chars_at text words k)
    word_count = d.count ∙ ap (λ (s : List ℕ). length (chars_of s)) part

    pub word_short : n ≤ 255
    word_short = let f = d.few in let a = word_long in omega arith

    pub word_chars : take n chars' ≡ chars_at text words k
    word_chars =
        ap₂ (λ (m : ℕ) (x : List ℕ). take m x) d.count d.chars_are
        ∙ take-append_seam (chars_of word) (drop (length (chars_of word)) chars)
        ∙ ap chars_of part

    pub word_walking : Walking keys ends (take n chars') setting grid
    word_walking =
        let e = ap length word_chars in
        let c = word_count in
        let s = word_short in
        let w = r.wide in
        record {
          few = r.few;
          level = r.level;
          small = λ i q.
              let x = (scalars_at g.utf8.scalars i (omega arith)).most in
              let y : get_or (take n chars') i 0 ≡ get_or (chars_at text words k) i 0 = ap (λ (z : List ℕ). get_or z i 0) word_chars in
              omega arith;
          short = omega arith;
          narrow = r.narrow;
          wide = omega arith;
        }

    pub word_walked : {grid' : List ℕ} → Walks keys ends (take n chars') setting grid grid' → Walked keys ends setting grid (chars_at text words k) grid' n
    word_walked {grid'} w =
        record {
          count = word_count;
          short = word_short;
          long = w.long;
          is = λ f count t.
              let v : Walks keys ends (chars_at text words k) setting grid grid' = subst (λ (x : List ℕ). Walks keys ends x setting grid grid') word_chars w in
              ap (lattice_in setting grid') word_count ∙ told_lattice f count (chars_at text words k) setting grid' (v.told (prefixes_of (newest_of f count)) (newest_of f count) t);
        }
