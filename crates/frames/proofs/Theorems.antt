-- What the reader of frames accepts is what document 01 calls in order, and where it is not, the first line that breaks the rules is
-- the place, whatever follows.
-- Assumes nothing.
use Prim.Native.Nat.{ℕ, zero, suc, ◌+◌, ◌-◌, ◌≤◌, ◌<◌, min}
use mathlib.Core.Path.{◌≡◌, refl, ◌∙◌, sym, ap, subst}
use mathlib.Core.Bool.{Bool, true, cond}
use mathlib.Core.List.{List, [], ◌∷◌, ◌++◌}
use native.Mathlib.Omega.{arith}
use lib.Dec.{ltb, eqb}
use lib.ListN.{length}
use borrow.Author.Tests.{eq-eqb, ne_eqb, eqb-true, ltb-true, ltb-false}
use Rattle.laws.proofs.Choices.{cond_cases}
use Rattle.std.specs.Prelude.{Option, None, Some, Ok, Err}
use Rattle.settings.specs.declared.Settings.{Settings}
use Rattle.frames.specs.Sequence.{next, specials_awaited, after, begun_of, step_of, ended, end_of, read_all, input_of}
use Rattle.frames.specs.Order.{IsSpecial, IsWord, All, InOrder}
use Rattle.frames.specs.declared.input.Frame.{Frame}
use Rattle.frames.specs.declared.input.Frame.TheVariants.{Settings as First, Special, Word, Count}
use Rattle.frames.specs.declared.sequence.Awaited.{Awaited}
use Rattle.frames.specs.declared.sequence.Awaited.TheVariants.{First as Start, Specials, Words, Nothing, Broken}
use Rattle.frames.specs.declared.sequence.Reading.{Reading}

-- one more, up to a bound, is the lesser
next_min : (n most : ℕ) → n ≤ most → next n most ≡ min (n + 1) most
next_min n most h =
    cond_cases (λ (k : ℕ). k ≡ min (n + 1) most) (ltb n most) (n + 1) n
    (λ e. let l : n < most = ltb-true n most e in omega arith)
    (λ e. let l : most ≤ n = ltb-false n most e in omega arith)

-- reading goes on where it stood
pub read_append : (reading : Reading) (before rest : List (Option Frame)) → read_all reading (before ++ rest) ≡ read_all (read_all reading before) rest
unfolding read_all
read_append reading [] rest = refl
read_append reading (frame ∷ before) rest = read_append (step_of reading frame) before rest

-- Lines are counted, up to the widest place.
counted_from : (frames : List (Option Frame)) (reading : Reading) → reading.lines ≤ 4294967295 → (read_all reading frames).lines ≡ min (reading.lines + length frames) 4294967295
unfolding read_all step_of
counted_from [] reading h = omega arith
counted_from (frame ∷ frames) reading h =
    let e : next reading.lines 4294967295 ≡ min (reading.lines + 1) 4294967295 = next_min reading.lines 4294967295 h in
    let l : (step_of reading frame).lines ≤ 4294967295 = omega arith in
    counted_from frames (step_of reading frame) l ∙ omega arith

pub lines_counted : (frames : List (Option Frame)) → (read_all begun_of frames).lines ≡ min (length frames) 4294967295
lines_counted frames = counted_from frames begun_of (omega arith) ∙ omega arith

-- Nothing mends a line that breaks the rules.
pub stays_broken : (frames : List (Option Frame)) (reading : Reading) (line : ℕ) → reading.awaited ≡ Broken line → (read_all reading frames).awaited ≡ Broken line
unfolding read_all step_of
stays_broken [] reading line e = e
stays_broken (frame ∷ frames) reading line e =
    stays_broken frames (step_of reading frame) line
    (ap (λ (a : Awaited). after a frame reading.words (next reading.lines 4294967295)) e)

-- So the place is the first such line, whatever follows.
pub first_broken : (before : List (Option Frame)) (frame : Option Frame) (rest : List (Option Frame)) (line : ℕ) → (step_of (read_all begun_of before) frame).awaited ≡ Broken line
    → input_of (before ++ frame ∷ rest) ≡ Err line
unfolding input_of end_of read_all
first_broken before frame rest line e =
    let r : read_all begun_of (before ++ frame ∷ rest) ≡ read_all (step_of (read_all begun_of before) frame) rest = read_append begun_of before (frame ∷ rest) in
    let s : (read_all (step_of (read_all begun_of before) frame) rest).awaited ≡ Broken line = stays_broken rest (step_of (read_all begun_of before) frame) line e in
    ap (λ (a : Reading). ended a.awaited (next a.lines 4294967295)) r
    ∙ ap (λ (a : Awaited). ended a (next (read_all (step_of (read_all begun_of before) frame) rest).lines 4294967295)) s

-- ---- an input in order is read to its end
some_awaited : (n : ℕ) → specials_awaited (suc n) ≡ Specials (suc n)
some_awaited n = let h : (suc n ≡ 0 → ⊥) = λ e. omega (arith, e) in rw (ne_eqb (suc n) 0 h)

specials_read : (specials : List (Option Frame)) → All IsSpecial specials → (rest : List (Option Frame)) (reading : Reading) → reading.awaited ≡ specials_awaited (length specials)
    → reading.words ≡ 0 → (after : Reading) × (read_all reading (specials ++ rest) ≡ read_all after rest) × (after.awaited ≡ Words) × (after.words ≡ 0)
unfolding read_all step_of
specials_read [] all rest reading e z = (reading, refl, e, z)
specials_read (Some (Special from size) ∷ specials) all rest reading e z =
    let m : suc (length specials) - 1 ≡ length specials = omega arith in
    specials_read specials all.1 rest (step_of reading (Some (Special from size)))
    (ap (λ (a : Awaited). after a (Some (Special from size)) reading.words (next reading.lines 4294967295)) (e ∙ some_awaited (length specials)) ∙ ap specials_awaited m) z
specials_read (Some (First settings n) ∷ specials) all rest reading e z = absurd all.0
specials_read (Some (Word frequency from size) ∷ specials) all rest reading e z = absurd all.0
specials_read (Some (Count count) ∷ specials) all rest reading e z = absurd all.0
specials_read (None ∷ specials) all rest reading e z = absurd all.0

words_read : (words : List (Option Frame)) → All IsWord words → (rest : List (Option Frame)) (reading : Reading) → reading.awaited ≡ Words
    → reading.words + length words ≤ 4294967295
    → (after : Reading) × (read_all reading (words ++ rest) ≡ read_all after rest) × (after.awaited ≡ Words) × (after.words ≡ reading.words + length words)
unfolding read_all step_of
words_read [] all rest reading e h = (reading, refl, e, omega arith)
words_read (Some (Word frequency from size) ∷ words) all rest reading e h =
    let n : next reading.words 4294967296 ≡ reading.words + 1 = next_min reading.words 4294967296 (omega arith) ∙ omega arith in
    let (after, p, q, r) =
    words_read words all.1 rest (step_of reading (Some (Word frequency from size)))
    (ap (λ (a : Awaited). after a (Some (Word frequency from size)) reading.words (next reading.lines 4294967295)) e) (omega arith) in
    (after, p, q, r ∙ omega arith)
words_read (Some (First settings n) ∷ words) all rest reading e h = absurd all.0
words_read (Some (Special from size) ∷ words) all rest reading e h = absurd all.0
words_read (Some (Count count) ∷ words) all rest reading e h = absurd all.0
words_read (None ∷ words) all rest reading e h = absurd all.0

last_read : (reading : Reading) (count : ℕ) → reading.awaited ≡ Words → reading.words ≡ count → end_of (read_all reading (Some (Count count) ∷ [])) ≡ Ok tt
unfolding read_all step_of end_of
last_read reading count e w =
    let t : eqb count reading.words ≡ true = eq-eqb count reading.words (sym w) in
    ap (λ (a : Awaited). ended (after a (Some (Count count)) reading.words (next reading.lines 4294967295)) (next (next reading.lines 4294967295) 4294967295)) e
    ∙ ap (λ (b : Bool). ended (cond b Nothing (Broken (next reading.lines 4294967295))) (next (next reading.lines 4294967295) 4294967295)) t

-- An input in order, with no more words than a 04 can say, is accepted.
pub in_order_whole : (frames : List (Option Frame)) (o : InOrder frames) → length o.words ≤ 4294967295 → input_of frames ≡ Ok tt
unfolding input_of read_all step_of
in_order_whole frames o h =
    let rest : List (Option Frame) = o.words ++ Some (Count (length o.words)) ∷ [] in
    let begin : Reading = step_of begun_of (Some (First o.settings (length o.specials))) in
    let (a, p, q, r) = specials_read o.specials o.all_special rest begin refl refl in
    let (b, s, t, u) = words_read o.words o.all_words (Some (Count (length o.words)) ∷ []) a q (omega arith) in
    ap (λ (l : List (Option Frame)). end_of (read_all begun_of l)) o.is ∙ ap end_of (p ∙ s) ∙ last_read b (length o.words) t (u ∙ omega arith)

-- ---- and no other is
never : {line : ℕ} → Broken line ≡ Nothing → ⊥
never e = let z : ◌≡◌ {A = ℕ} 0 1 = cc in omega arith

-- a reading that is broken does not end well
not_broken : (frames : List (Option Frame)) (reading : Reading) (line : ℕ) → reading.awaited ≡ Broken line → (read_all reading frames).awaited ≡ Nothing → ⊥
not_broken frames reading line e h = never (sym (stays_broken frames reading line e) ∙ h)

-- nothing after
ends_here : (frames : List (Option Frame)) (reading : Reading) → reading.awaited ≡ Nothing → (read_all reading frames).awaited ≡ Nothing → frames ≡ []
unfolding read_all step_of
ends_here [] reading e h = refl
ends_here (frame ∷ frames) reading e h =
    absurd
    (not_broken frames (step_of reading frame) (next reading.lines 4294967295)
    (ap (λ (a : Awaited). after a frame reading.words (next reading.lines 4294967295)) e) h)

-- all counts are u32s
abbrev pub Fits : Option Frame → Type 0
Fits (Some (First settings n)) = Unit {0}
Fits (Some (Special from size)) = Unit {0}
Fits (Some (Word frequency from size)) = Unit {0}
Fits (Some (Count count)) = count ≤ 4294967295
Fits None = Unit {0}

-- a count that stays below its bound is one more
one_more : (n most : ℕ) → next n most < most → next n most ≡ n + 1
one_more n most =
    cond_cases (λ (k : ℕ). k < most → k ≡ n + 1) (ltb n most) (n + 1) n (λ e h. refl)
    (λ e h. let l : most ≤ n = ltb-false n most e in absurd (omega arith))

-- what a frame does to a reading, once what is awaited is known
moved : (reading : Reading) (frame : Option Frame) (awaited : Awaited) → reading.awaited ≡ awaited
    → (step_of reading frame).awaited ≡ after awaited frame reading.words (next reading.lines 4294967295)
unfolding step_of
moved reading frame awaited e = ap (λ (a : Awaited). after a frame reading.words (next reading.lines 4294967295)) e

-- what follows 03s so far: further ones, and the 04 that counts all
pub record Ends (words : ℕ) (frames : List (Option Frame)) : Type 0 where
  pub more : List (Option Frame)
  pub all : All IsWord more
  pub few : words + length more ≤ 4294967295
  pub is : frames ≡ more ++ Some (Count (words + length more)) ∷ []

ends_more : {words : ℕ} {frames : List (Option Frame)} (frequency from size : ℕ) → Ends (next words 4294967296) frames → Ends words (Some (Word frequency from size) ∷ frames)
ends_more {words} {frames} frequency from size w =
    let n : next words 4294967296 ≡ words + 1 = one_more words 4294967296 (omega (arith, w.few)) in
    let m : next words 4294967296 + length w.more ≡ words + suc (length w.more) = omega arith in
    record {
      more = Some (Word frequency from size) ∷ w.more;
      all = (tt, w.all);
      few = omega (arith, w.few);
      is = ap (λ (l : List (Option Frame)). Some (Word frequency from size) ∷ l) (w.is ∙ ap (λ (c : ℕ). w.more ++ Some (Count c) ∷ []) m);
    }

ends_last : (words count : ℕ) (frames : List (Option Frame)) → count ≤ 4294967295 → count ≡ words → frames ≡ [] → Ends words (Some (Count count) ∷ frames)
ends_last words count frames h e f =
    let c : count ≡ words + 0 = omega arith in
    record { more = []; all = tt; few = omega arith; is = ap (λ (l : List (Option Frame)). Some (Count count) ∷ l) f ∙ ap (λ (k : ℕ). Some (Count k) ∷ []) c }

-- a 04 that does not count right breaks the rules
counts : (words line count : ℕ) → (after Words (Some (Count count)) words line ≡ Broken line → ⊥) → (count ≡ words) × (after Words (Some (Count count)) words line ≡ Nothing)
counts words line count =
    cond_cases (λ (a : Awaited). (a ≡ Broken line → ⊥) → (count ≡ words) × (a ≡ Nothing)) (eqb count words) Nothing (Broken line)
    (λ t h. (eqb-true count words t, refl)) (λ t h. absurd (h refl))

words_end : (frames : List (Option Frame)) → All Fits frames → (reading : Reading) → reading.awaited ≡ Words → (read_all reading frames).awaited ≡ Nothing → Ends reading.words frames
unfolding read_all step_of
words_end [] fits reading e h = let z : ◌≡◌ {A = ℕ} 0 1 = cc in absurd (omega arith)
words_end (Some (Word frequency from size) ∷ frames) fits reading e h =
    ends_more frequency from size (words_end frames fits.1 (step_of reading (Some (Word frequency from size))) (moved reading (Some (Word frequency from size)) Words e) h)
words_end (Some (Count count) ∷ frames) fits reading e h =
    let m = moved reading (Some (Count count)) Words e in
    let (p, q) = counts reading.words (next reading.lines 4294967295) count (λ b. not_broken frames (step_of reading (Some (Count count))) (next reading.lines 4294967295) (m ∙ b) h) in
    ends_last reading.words count frames fits.0 p (ends_here frames (step_of reading (Some (Count count))) (m ∙ q) h)
words_end (Some (First settings n) ∷ frames) fits reading e h =
    absurd (not_broken frames (step_of reading (Some (First settings n))) (next reading.lines 4294967295) (moved reading (Some (First settings n)) Words e) h)
words_end (Some (Special from size) ∷ frames) fits reading e h =
    absurd (not_broken frames (step_of reading (Some (Special from size))) (next reading.lines 4294967295) (moved reading (Some (Special from size)) Words e) h)
words_end (None ∷ frames) fits reading e h =
    absurd (not_broken frames (step_of reading None) (next reading.lines 4294967295) (moved reading None Words e) h)

-- what follows the 01: so many 02s, and words to the end
pub record Follows (n : ℕ) (frames : List (Option Frame)) : Type 0 where
  pub specials : List (Option Frame)
  pub rest : List (Option Frame)
  pub all : All IsSpecial specials
  pub as_many : length specials ≡ n
  pub ends : Ends 0 rest
  pub is : frames ≡ specials ++ rest

follows_more : {n : ℕ} {frames : List (Option Frame)} (from size : ℕ) → Follows n frames → Follows (suc n) (Some (Special from size) ∷ frames)
follows_more from size f = record {
  specials = Some (Special from size) ∷ f.specials;
  rest = f.rest;
  all = (tt, f.all);
  as_many = ap suc f.as_many;
  ends = f.ends;
  is = ap (λ (l : List (Option Frame)). Some (Special from size) ∷ l) f.is;
}

specials_end : (n : ℕ) (frames : List (Option Frame)) → All Fits frames → (reading : Reading) → reading.awaited ≡ specials_awaited n → reading.words ≡ 0
    → (read_all reading frames).awaited ≡ Nothing → Follows n frames
unfolding read_all step_of
specials_end zero frames fits reading e z h = record {
  specials = [];
  rest = frames;
  all = tt;
  as_many = refl;
  ends = subst (λ (k : ℕ). Ends k frames) z (words_end frames fits reading e h);
  is = refl;
}
specials_end (suc n) [] fits reading e z h =
    let s : Specials (suc n) ≡ Nothing = sym (e ∙ some_awaited n) ∙ h in
    let y : ◌≡◌ {A = ℕ} 0 1 = cc in
    absurd (omega arith)
specials_end (suc n) (Some (Special from size) ∷ frames) fits reading e z h =
    let m : suc n - 1 ≡ n = omega arith in
    follows_more from size
    (specials_end n frames fits.1 (step_of reading (Some (Special from size))) (moved reading (Some (Special from size)) (Specials (suc n)) (e ∙ some_awaited n) ∙ ap specials_awaited m) z h)
specials_end (suc n) (Some (First settings k) ∷ frames) fits reading e z h =
    absurd (not_broken frames (step_of reading (Some (First settings k))) (next reading.lines 4294967295) (moved reading (Some (First settings k)) (Specials (suc n)) (e ∙ some_awaited n)) h)
specials_end (suc n) (Some (Word frequency from size) ∷ frames) fits reading e z h =
    absurd (not_broken frames (step_of reading (Some (Word frequency from size))) (next reading.lines 4294967295) (moved reading (Some (Word frequency from size)) (Specials (suc n)) (e ∙ some_awaited n)) h)
specials_end (suc n) (Some (Count count) ∷ frames) fits reading e z h =
    absurd (not_broken frames (step_of reading (Some (Count count))) (next reading.lines 4294967295) (moved reading (Some (Count count)) (Specials (suc n)) (e ∙ some_awaited n)) h)
specials_end (suc n) (None ∷ frames) fits reading e z h =
    absurd (not_broken frames (step_of reading None) (next reading.lines 4294967295) (moved reading None (Specials (suc n)) (e ∙ some_awaited n)) h)

-- an end that is whole awaited nothing more
whole_awaits : (awaited : Awaited) (line : ℕ) → ended awaited line ≡ Ok tt → awaited ≡ Nothing
whole_awaits Start line h = let z : ◌≡◌ {A = ℕ} 0 1 = cc in absurd (omega arith)
whole_awaits (Specials n) line h = let z : ◌≡◌ {A = ℕ} 0 1 = cc in absurd (omega arith)
whole_awaits Words line h = let z : ◌≡◌ {A = ℕ} 0 1 = cc in absurd (omega arith)
whole_awaits Nothing line h = refl
whole_awaits (Broken before) line h = let z : ◌≡◌ {A = ℕ} 0 1 = cc in absurd (omega arith)

ordered : (settings : Settings) (n : ℕ) (frames : List (Option Frame)) → Follows n frames → InOrder (Some (First settings n) ∷ frames)
ordered settings n frames f = record {
  settings = settings;
  specials = f.specials;
  words = f.ends.more;
  all_special = f.all;
  all_words = f.ends.all;
  is =
      ap (λ (k : ℕ). Some (First settings k) ∷ frames) (sym f.as_many)
      ∙ ap (λ (l : List (Option Frame)). Some (First settings (length f.specials)) ∷ l)
      (f.is ∙ ap (λ (l : List (Option Frame)). f.specials ++ l) (f.ends.is ∙ ap (λ (c : ℕ). f.ends.more ++ Some (Count c) ∷ []) (omega arith)));
}

from_start : (frames : List (Option Frame)) → All Fits frames → (read_all begun_of frames).awaited ≡ Nothing → InOrder frames
unfolding read_all step_of
from_start [] fits h = let z : ◌≡◌ {A = ℕ} 0 1 = cc in absurd (omega arith)
from_start (Some (First settings n) ∷ frames) fits h =
    ordered settings n frames (specials_end n frames fits.1 (step_of begun_of (Some (First settings n))) refl refl h)
from_start (Some (Special from size) ∷ frames) fits h = absurd (not_broken frames (step_of begun_of (Some (Special from size))) 1 refl h)
from_start (Some (Word frequency from size) ∷ frames) fits h = absurd (not_broken frames (step_of begun_of (Some (Word frequency from size))) 1 refl h)
from_start (Some (Count count) ∷ frames) fits h = absurd (not_broken frames (step_of begun_of (Some (Count count))) 1 refl h)
from_start (None ∷ frames) fits h = absurd (not_broken frames (step_of begun_of None) 1 refl h)

-- An input that is accepted is in order, where every count is a u32.
pub whole_in_order : (frames : List (Option Frame)) → All Fits frames → input_of frames ≡ Ok tt → InOrder frames
unfolding input_of end_of
whole_in_order frames fits h =
    from_start frames fits (whole_awaits (read_all begun_of frames).awaited (next (read_all begun_of frames).lines 4294967295) h)
