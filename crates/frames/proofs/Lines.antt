-- Lines in a lent slice: a run of bytes after another is one run, and how long each line is.
-- Assumes nothing.
use Prim.Native.Nat.{ℕ, zero, suc, ◌+◌, ◌*◌, ◌≤◌, ◌<◌}
use mathlib.Core.Path.{◌≡◌, refl, ◌∙◌, sym, ap, subst}
use mathlib.Core.List.{List, [], ◌∷◌, ◌++◌}
use native.Mathlib.Nat.{add-suc, suc-add, add-zero}
use native.Mathlib.Numerals.{add-one}
use native.Mathlib.Omega.{arith}
use lib.Ieee.{Float, binary64, to_bits}
use lib.ListN.{length, get_or, set, length-append}
use lib.Seq.{sets, length-sets}
use borrow.Author.Tests.{le-leb}
use Rattle.hexadecimal.specs.Digits.{digits_of}
use Rattle.hexadecimal.specs.Frames.{write_at}
use Rattle.hexadecimal.proofs.Writing.{length_digits}
use Rattle.frames.specs.Answers.{Put, spelt_upto, spelt_of, fields_line, token_line, count_line, line_in, token_in}
use Rattle.frames.specs.declared.output.Fields.{Fields}

-- a run of stores after another
after : (u v l : List ℕ) (i : ℕ) → sets (sets l i u) (i + length u) v ≡ sets l i (u ++ v)
after [] v l i = rw (add-zero i)
after (a ∷ u) v l i =
    ap (λ (k : ℕ). sets (sets (set l i a) (suc i) u) k v) (add-suc i (length u) ∙ sym (suc-add i (length u)))
    ∙ after u v (set l i a) (suc i)

pub put_none : (before : List ℕ) (at : ℕ) → Put before at [] before at
put_none before at = record { same = refl; behind = sym (add-zero at) }

pub put_more : {before out more : List ℕ} {at next last : ℕ} (u v : List ℕ) → Put before at u out next → Put out next v more last → Put before at (u ++ v) more last
put_more {before} {out} {more} {at} {next} {last} u v p q = record {
  same =
      q.same ∙ ap (λ (k : ℕ). sets out k v) p.behind ∙ ap (λ (l : List ℕ). sets l (at + length u) v) p.same ∙ after u v before at;
  behind = q.behind ∙ omega (arith, p.behind, length-append u v);
}

pub put_long : {before out : List ℕ} {at next : ℕ} (u : List ℕ) → Put before at u out next → length out ≡ length before
put_long {before} {out} {at} u p = ap length p.same ∙ length-sets before at u

-- digits, where there is room
pub put_digits : (out : List ℕ) (at n x : ℕ) → at + n ≤ length out → (after : List ℕ) → after ≡ write_at out at n x → Put out at (digits_of n x) after (at + n)
unfolding write_at
put_digits out at n x h after e = record {
  same = e ∙ rw (le-leb (at + n) (length out) h);
  behind = ap (λ (k : ℕ). at + k) (sym (length_digits n x));
}

-- a number by another name
pub put_same : {before out : List ℕ} {at next : ℕ} (n x y : ℕ) → x ≡ y → Put before at (digits_of n x) out next → Put before at (digits_of n y) out next
put_same {before} {out} {at} {next} n x y e p = subst (λ (z : ℕ). Put before at (digits_of n z) out next) e p

-- the end of a line
pub put_end : (out : List ℕ) (at : ℕ) → Put out at (10 ∷ []) (set out at 10) (at + 1)
put_end out at = record { same = refl; behind = refl }

-- a text: two digits a byte
pub length_spelt : (text : List ℕ) (n : ℕ) → length (spelt_upto text n) ≡ 2 * n
unfolding spelt_upto
length_spelt text zero = refl
length_spelt text (suc n) =
    length-append (spelt_upto text n) (digits_of 2 (get_or text n 0))
    ∙ omega (arith, length_spelt text n, length_digits 2 (get_or text n 0))

-- so many bytes of a text are written
pub record Spelling (before : List ℕ) (at : ℕ) (text out : List ℕ) (next i : ℕ) : Type 0 where
  pub near : i ≤ length text
  pub room : at + 2 * length text ≤ length before
  pub long : length out ≡ length before
  pub put : Put before at (spelt_upto text i) out next

pub spelling_none : (before : List ℕ) (at : ℕ) (text : List ℕ) → at + 2 * length text ≤ length before → Spelling before at text before at 0
unfolding spelt_upto
spelling_none before at text h = record { near = omega arith; room = h; long = refl; put = put_none before at }

module _ {before : List ℕ} {at : ℕ} {text out : List ℕ} {next i : ℕ} (s : Spelling before at text out next i) where
  pub spelling_room : i < length text → next + 2 ≤ length out
  spelling_room h = omega (arith, s.room, s.long, s.put.behind, length_spelt text i)

  pub spelling_more : i < length text → (x last : ℕ) (more : List ℕ) → x ≡ get_or text i 0 → Put out next (digits_of 2 x) more last → Spelling before at text more last (i + 1)
  unfolding spelt_upto
  spelling_more h x last more e p = record {
    near = omega arith;
    room = s.room;
    long = put_long (digits_of 2 x) p ∙ s.long;
    put = rw (add-one i, ← e) (put_more (spelt_upto text i) (digits_of 2 x) s.put p);
  }

  pub spelling_end : length text ≤ i → Put before at (spelt_of text) out next
  spelling_end h =
      let e : i ≡ length text = omega (arith, s.near) in
      record {
        same = s.put.same ∙ ap (λ (k : ℕ). sets before at (spelt_upto text k)) e;
        behind = s.put.behind ∙ ap (λ (k : ℕ). at + length (spelt_upto text k)) e;
      }

  pub spelling_behind : length text ≤ i → next ≡ at + 2 * length text
  spelling_behind h = omega (arith, s.near, s.put.behind, length_spelt text i)

-- how long the lines are
pub length_fields : (a : Fields) → length (fields_line a) ≡ 35
unfolding fields_line
length_fields a =
    simp (length-append, length_digits 2 17, length_digits 2 a.refusal, length_digits 8 a.place, length_digits 8 a.tokens, length_digits 4 a.specials, length_digits 8 a.required, length_digits 2 a.stop)

pub length_token : (id : ℕ) (score : Float) (text : List ℕ) → length (token_line id score text) ≡ 29 + 2 * length text
unfolding token_line
length_token id score text = simp (length-append, length_digits, length_spelt) (omega arith)

pub length_count : (tokens : ℕ) → length (count_line tokens) ≡ 11
unfolding count_line
length_count tokens = simp (length-append, length_digits 2 19, length_digits 8 tokens)

-- a line in place, where there is room
module _ (out : List ℕ) (at : ℕ) (line : List ℕ) (n : ℕ) (e : length line ≡ n) where
  pub line_put : at + n ≤ length out → (after : List ℕ) (next : ℕ) → Put out at line after next → after ≡ line_in out at line
  unfolding line_in
  line_put h after next p =
      let l : at + length line ≤ length out = omega arith in
      rw (le-leb (at + length line) (length out) l) p.same

-- a whole line, number after number
pub count_put : (out : List ℕ) (at tokens : ℕ) → at + 11 ≤ length out → (o1 o2 : List ℕ) (n1 n2 : ℕ) → Put out at (digits_of 2 19) o1 n1
    → Put o1 n1 (digits_of 8 tokens) o2 n2
    → set o2 n2 10 ≡ line_in out at (count_line tokens)
unfolding count_line
count_put out at tokens h o1 o2 n1 n2 p q =
    line_put out at (count_line tokens) 11 (length_count tokens) h (set o2 n2 10) (n2 + 1)
    (put_more (digits_of 2 19 ++ digits_of 8 tokens) (10 ∷ []) (put_more (digits_of 2 19) (digits_of 8 tokens) p q) (put_end o2 n2))

pub fields_put : (out : List ℕ) (at : ℕ) (a : Fields) → at + 35 ≤ length out → (o1 o2 o3 o4 o5 o6 o7 : List ℕ) (n1 n2 n3 n4 n5 n6 n7 : ℕ)
    → Put out at (digits_of 2 17) o1 n1 → Put o1 n1 (digits_of 2 a.refusal) o2 n2 → Put o2 n2 (digits_of 8 a.place) o3 n3
    → Put o3 n3 (digits_of 8 a.tokens) o4 n4 → Put o4 n4 (digits_of 4 a.specials) o5 n5 → Put o5 n5 (digits_of 8 a.required) o6 n6
    → Put o6 n6 (digits_of 2 a.stop) o7 n7
    → set o7 n7 10 ≡ line_in out at (fields_line a)
unfolding fields_line
fields_put out at a h o1 o2 o3 o4 o5 o6 o7 n1 n2 n3 n4 n5 n6 n7 p1 p2 p3 p4 p5 p6 p7 =
    let u2 = put_more (digits_of 2 17) (digits_of 2 a.refusal) p1 p2 in
    let u3 = put_more (digits_of 2 17 ++ digits_of 2 a.refusal) (digits_of 8 a.place) u2 p3 in
    let u4 = put_more (digits_of 2 17 ++ digits_of 2 a.refusal ++ digits_of 8 a.place) (digits_of 8 a.tokens) u3 p4 in
    let u5 = put_more (digits_of 2 17 ++ digits_of 2 a.refusal ++ digits_of 8 a.place ++ digits_of 8 a.tokens) (digits_of 4 a.specials) u4 p5 in
    let u6 = put_more (digits_of 2 17 ++ digits_of 2 a.refusal ++ digits_of 8 a.place ++ digits_of 8 a.tokens ++ digits_of 4 a.specials) (digits_of 8 a.required) u5 p6 in
    let u7 = put_more (digits_of 2 17 ++ digits_of 2 a.refusal ++ digits_of 8 a.place ++ digits_of 8 a.tokens ++ digits_of 4 a.specials ++ digits_of 8 a.required) (digits_of 2 a.stop) u6 p7 in
    line_put out at (fields_line a) 35 (length_fields a) h (set o7 n7 10) (n7 + 1)
    (put_more (digits_of 2 17 ++ digits_of 2 a.refusal ++ digits_of 8 a.place ++ digits_of 8 a.tokens ++ digits_of 4 a.specials ++ digits_of 8 a.required ++ digits_of 2 a.stop) (10 ∷ []) u7 (put_end o7 n7))

pub token_puts : (out : List ℕ) (at id : ℕ) (score : Float) (text : List ℕ) → length text ≤ 255 → at + (29 + 2 * length text) ≤ length out
    → (o1 o2 o3 o4 o5 : List ℕ) (n1 n2 n3 n4 n5 : ℕ)
    → Put out at (digits_of 2 18) o1 n1 → Put o1 n1 (digits_of 8 id) o2 n2 → Put o2 n2 (digits_of 16 (to_bits binary64 score)) o3 n3
    → Put o3 n3 (digits_of 2 (length text)) o4 n4 → Put o4 n4 (spelt_of text) o5 n5
    → set o5 n5 10 ≡ token_in out at id score text
unfolding token_line token_in
token_puts out at id score text g h o1 o2 o3 o4 o5 n1 n2 n3 n4 n5 p1 p2 p3 p4 p5 =
    let s = to_bits binary64 score in
    let u2 = put_more (digits_of 2 18) (digits_of 8 id) p1 p2 in
    let u3 = put_more (digits_of 2 18 ++ digits_of 8 id) (digits_of 16 s) u2 p3 in
    let u4 = put_more (digits_of 2 18 ++ digits_of 8 id ++ digits_of 16 s) (digits_of 2 (length text)) u3 p4 in
    let u5 = put_more (digits_of 2 18 ++ digits_of 8 id ++ digits_of 16 s ++ digits_of 2 (length text)) (spelt_of text) u4 p5 in
    rw (le-leb (length text) 255 g)
    (line_put out at (token_line id score text) (29 + 2 * length text) (length_token id score text) h (set o5 n5 10) (n5 + 1)
    (put_more (digits_of 2 18 ++ digits_of 8 id ++ digits_of 16 s ++ digits_of 2 (length text) ++ spelt_of text) (10 ∷ []) u5 (put_end o5 n5)))
