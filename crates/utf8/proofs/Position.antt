-- The character at a position of a text, from what the code tests there: each law is one way out of a function, or a turn of
-- its loop.
-- Assumes nothing.
use Prim.Native.Nat.{ℕ, suc, ◌+◌, ◌-◌, ◌*◌, ◌%◌, ◌^◌, ◌≤◌, ◌<◌}
use mathlib.Core.Path.{◌≡◌, ◌∙◌, sym, ap, subst}
use mathlib.Core.Bool.{true, false, cond}
use mathlib.Core.List.{List, ◌∷◌}
use native.Mathlib.Nat.{pow-suc, pow-le-pow_right, sub_self}
use native.Mathlib.Numerals.{add-one}
use native.Mathlib.Omega.{arith}
use lib.Dec.{lit<}
use lib.ListN.{length, drop, get_or, drop_of_length-le}
use lib.Seq.{drop-cons}
use borrow.Author.Tests.{lt-ltb, le-ltb}
use Rattle.std.specs.Prelude.{None}
use Rattle.utf8.specs.Decode.{character, within, class_in, decoded_tails, decoded_after, by_class, decoded_by}

-- the byte b at a position, and what follows it
front : (text : List ℕ) (at : ℕ) {b : ℕ} → at < length text → b ≡ get_or text at b → drop at text ≡ b ∷ drop (at + 1) text
front text at {b} h e = drop-cons text at b h ∙ ap (λ (x : ℕ). x ∷ drop (suc at) text) (sym e) ∙ ap (λ (k : ℕ). b ∷ drop k text) (sym (add-one at))

-- How far the loop of `follow` has come: the bytes before `next` made `code`, and those up to at + 2 + n are still to come.
pub record Following (text : List ℕ) (at lead low high n code next : ℕ) : Type 0 where
  pub from : at + 2 ≤ next
  pub inside : next ≤ length text
  pub most : n ≤ 2
  pub small : code < 2048 * 64 ^ (next - (at + 2))
  pub same : decoded_after lead low high n (drop (at + 1) text) ≡ decoded_tails (at + 2 + n - next) code (n + 2) (drop next text)

-- the second byte
module _ (text : List ℕ) (at lead low high n : ℕ) where
  pub no_second : length text ≤ at + 1 → None ≡ decoded_after lead low high n (drop (at + 1) text)
  unfolding decoded_after
  no_second h = rw (drop_of_length-le text h)

  module _ (h : at + 1 < length text) {b : ℕ} (e : b ≡ get_or text (at + 1) b) where
    pub bad_second : within low high b ≡ false → None ≡ decoded_after lead low high n (drop (at + 1) text)
    unfolding decoded_after
    bad_second t = rw (front text (at + 1) h e, t)

    pub following_none : within low high b ≡ true → lead < 32 → n ≤ 2 → Following text at lead low high n (lead * 64 + b % 64) (at + 2)
    unfolding decoded_after
    following_none t l m =
        let p : n ≡ at + 2 + n - (at + 2) = omega arith in
        let q : at + 1 + 1 ≡ at + 2 = omega arith in
        record {
          from = omega arith;
          inside = omega arith;
          most = m;
          small = rw (sub_self (at + 2)) (omega arith);
          same =
              rw (front text (at + 1) h e, t)
              (ap (λ (k : ℕ). decoded_tails k (lead * 64 + b % 64) (n + 2) (drop (at + 1 + 1) text)) p
              ∙ ap (λ (k : ℕ). decoded_tails (at + 2 + n - (at + 2)) (lead * 64 + b % 64) (n + 2) (drop k text)) q);
        }

-- one tail more makes at most 23 bits
room : (j code y : ℕ) → j < 2 → code < 2048 * 64 ^ j → (code * 64 + y % 64 < 2048 * 64 ^ suc j) × (code * 64 + y % 64 < 2 ^ 32)
room j code y h k =
    let p : 64 ^ suc j ≡ 64 ^ j * 64 = pow-suc 64 j in
    let m : 64 ^ suc j ≤ 64 ^ 2 = pow-le-pow_right (lit< tt) h in
    omega arith

-- a tail
module _ {text : List ℕ} {at lead low high n code next : ℕ} (f : Following text at lead low high n code next) where
  pub following_done : at + 2 + n ≤ next → character code (n + 2) ≡ decoded_after lead low high n (drop (at + 1) text)
  unfolding decoded_tails
  following_done h = let z : at + 2 + n - next ≡ 0 = omega arith in sym (f.same ∙ rw z)

  module _ (h : next < at + 2 + n) where
    more : at + 2 + n - next ≡ suc (at + 2 + n - (next + 1))
    more = omega arith

    pub no_tail : length text ≤ next → None ≡ decoded_after lead low high n (drop (at + 1) text)
    unfolding decoded_tails
    no_tail l = sym (f.same ∙ rw (more, drop_of_length-le text l))

    pub following_room : (y : ℕ) → (code * 64 + y % 64 < 2048 * 64 ^ suc (next - (at + 2))) × (code * 64 + y % 64 < 2 ^ 32)
    following_room y = room (next - (at + 2)) code y (omega (arith, f.from, f.most)) f.small

    module _ (l : next < length text) {b : ℕ} (e : b ≡ get_or text next b) where
      tail_left : decoded_after lead low high n (drop (at + 1) text)
          ≡ cond (within 0x80 0xBF b) (decoded_tails (at + 2 + n - (next + 1)) (code * 64 + b % 64) (n + 2) (drop (next + 1) text)) None
      unfolding decoded_tails
      tail_left = f.same ∙ rw (more, front text next l e)

      pub bad_tail : within 0x80 0xBF b ≡ false → None ≡ decoded_after lead low high n (drop (at + 1) text)
      bad_tail t = sym (tail_left ∙ rw t)

      pub following_more : within 0x80 0xBF b ≡ true → Following text at lead low high n (code * 64 + b % 64) (next + 1)
      following_more t =
          let j : suc (next - (at + 2)) ≡ next + 1 - (at + 2) = omega (arith, f.from) in
          record {
            from = omega (arith, f.from);
            inside = omega arith;
            most = f.most;
            small = subst (λ (k : ℕ). code * 64 + b % 64 < 2048 * 64 ^ k) j (following_room b).0;
            same = tail_left ∙ rw t;
          }

-- At a position, by a table of classes: its end, an ASCII byte, a byte of a class.
module _ (table text : List ℕ) (at : ℕ) where
  pub at_end : length text ≤ at → None ≡ decoded_by table (drop at text)
  unfolding decoded_by
  at_end h = rw (drop_of_length-le text h)

  module _ (h : at < length text) {b : ℕ} (e : b ≡ get_or text at b) where
    pub ascii : b < 0x80 → character b 1 ≡ decoded_by table (drop at text)
    unfolding decoded_by
    ascii l = rw (front text at h e, lt-ltb b 0x80 l)

    pub classed : 0x80 ≤ b → by_class (get_or table b 0) b (drop (at + 1) text) ≡ decoded_by table (drop at text)
    unfolding decoded_by class_in
    classed l = rw (front text at h e, le-ltb b 0x80 l)
