-- What feeding bytes comes to: lines are what stands between 0a and 0a, of any length.
-- Assumes nothing.
use Prim.Native.Nat.{ℕ, zero, suc, ◌/◌, ◌%◌, ◌≤◌, ◌<◌}
use mathlib.Core.Path.{◌≡◌, refl, ◌∙◌, sym, ap}
use mathlib.Core.Bool.{Bool, true, false, cond}
use mathlib.Core.List.{List, [], ◌∷◌, ◌++◌, append_assoc, append-nil}
use native.Mathlib.Omega.{arith}
use lib.Dec.{ltb}
use lib.ListN.{length, length-append}
use borrow.Author.Tests.{ne_eqb, lt-leb, ltb-false}
use Rattle.std.specs.Prelude.{Option, Ok}
use Rattle.laws.proofs.Choices.{cond_cases}
use Rattle.frames.specs.Bytes.{bytes_of, decodes}
use Rattle.frames.specs.Frames.{frame_of}
use Rattle.frames.specs.Sequence.{begun_of, step_of, end_of, read_all, input_of}
use Rattle.frames.specs.declared.input.Frame.{Frame}
use Rattle.frames.specs.declared.sequence.Reading.{Reading}
use Rattle.stored.specs.Stored.{Tables, store_of}
use Rattle.lines.specs.Lines.{line_bytes, line_frame, Stream, more, feed, feed_all}
use Rattle.frames.specs.Order.{All, InOrder}
use Rattle.frames.proofs.Theorems.{Fits, in_order_whole, whole_in_order}
use Rattle.frames.proofs.Fitting.{line_fits}
use Rattle.lines.proofs.Streaming.{stream}

-- no byte of a line is 0a
abbrev pub NoEnd : List ℕ → Type 0
NoEnd [] = Unit {0}
NoEnd (b ∷ line) = (b ≡ 10 → ⊥) × NoEnd line

-- A line of more than 530 bytes has none, and so is no frame.
pub too_long : (line : List ℕ) → 531 ≤ length line → line_bytes line ≡ []
unfolding line_bytes
too_long line h = odd (length line % 2) refl
  where
    odd : (r : ℕ) → length line % 2 ≡ r → line_bytes line ≡ []
    odd zero e = let l : 265 < length line / 2 = omega arith in rw (e, lt-leb (length line / 2) 265 l)
    odd (suc r) e = let n : (length line % 2 ≡ 0 → ⊥) = λ z. omega (arith, z) in rw (ne_eqb (length line % 2) 0 n)

-- past 531 bytes, one more changes nothing
both_long : (come line : List ℕ) (b : ℕ) → 531 ≤ length come → line_bytes (come ++ line) ≡ line_bytes (come ++ b ∷ line)
both_long come line b h =
    let p : 531 ≤ length (come ++ line) = omega (arith, length-append come line) in
    let q : 531 ≤ length (come ++ b ∷ line) = omega (arith, length-append come (b ∷ line)) in
    too_long (come ++ line) p ∙ sym (too_long (come ++ b ∷ line) q)

byte_fed : (reading : Reading) (tables : Tables) (come : List ℕ) (b : ℕ) → (b ≡ 10 → ⊥) → feed (stream reading tables come) b ≡ stream reading tables (more come b)
unfolding feed
byte_fed reading tables come b e = rw (ne_eqb b 10 e)

-- a line's bytes, and its 0a, after some that have come
module _ (reading : Reading) (tables : Tables) (rest : List ℕ) where
  -- the line by the bytes that it is
  abbrev said : List ℕ → Stream
  said bytes = feed_all (stream (step_of reading (frame_of bytes)) (store_of tables (frame_of bytes) bytes) []) rest

  line_fed : (line : List ℕ) → NoEnd line → (come : List ℕ) → feed_all (stream reading tables come) (line ++ 10 ∷ rest) ≡ said (line_bytes (come ++ line))
  unfolding feed_all feed
  line_fed [] none come = ap (λ (l : List ℕ). said (line_bytes l)) (sym (append-nil come))
  line_fed (b ∷ line) none come =
      ap (λ (s : Stream). feed_all s (line ++ 10 ∷ rest)) (byte_fed reading tables come b none.0)
      ∙ go (ltb (length come) 531) refl (λ c. line_fed line none.1 c)
    where
      go : (t : Bool) → ltb (length come) 531 ≡ t
          → ((c : List ℕ) → feed_all (stream reading tables c) (line ++ 10 ∷ rest) ≡ said (line_bytes (c ++ line)))
          → feed_all (stream reading tables (cond t (come ++ b ∷ []) come)) (line ++ 10 ∷ rest) ≡ said (line_bytes (come ++ b ∷ line))
      go true e ih = ih (come ++ b ∷ []) ∙ ap (λ (l : List ℕ). said (line_bytes l)) (append_assoc come (b ∷ []) line)
      go false e ih = ih come ∙ ap said (both_long come line b (ltb-false (length come) 531 e))

-- lines, each with its 0a
abbrev pub joined : List (List ℕ) → List ℕ
joined [] = []
joined (line ∷ lines) = line ++ 10 ∷ joined lines

abbrev pub AllLines : List (List ℕ) → Type 0
AllLines [] = Unit {0}
AllLines (line ∷ lines) = NoEnd line × AllLines lines

abbrev pub frames_of : List (List ℕ) → List (Option Frame)
frames_of [] = []
frames_of (line ∷ lines) = line_frame line ∷ frames_of lines

-- what lines say, stored one after the other
abbrev pub stored_by : Tables → List (List ℕ) → Tables
stored_by tables [] = tables
stored_by tables (line ∷ lines) = stored_by (store_of tables (line_frame line) (line_bytes line)) lines

-- Bytes that are lines are read as the frames of those lines, however long one is, and what these say is stored.
pub lines_fed : (lines : List (List ℕ)) → AllLines lines → (reading : Reading) (tables : Tables)
    → feed_all (stream reading tables []) (joined lines) ≡ stream (read_all reading (frames_of lines)) (stored_by tables lines) []
unfolding feed_all read_all
lines_fed [] none reading tables = refl
lines_fed (line ∷ lines) none reading tables =
    line_fed reading tables (joined lines) line none.0 []
    ∙ lines_fed lines none.1 (step_of reading (line_frame line)) (store_of tables (line_frame line) (line_bytes line))

line_fit : (line : List ℕ) → Fits (line_frame line)
unfolding line_bytes frame_of
line_fit line = cond_cases (λ (bytes : List ℕ). Fits (frame_of bytes)) (decodes line 265) (bytes_of line) [] (λ e. line_fits line) (λ e. tt)

lines_fit : (lines : List (List ℕ)) → All Fits (frames_of lines)
lines_fit [] = tt
lines_fit (line ∷ lines) = (line_fit line, lines_fit lines)

-- Lines that the program takes for a whole input are frames in document 01's order.
pub accepted_in_order : (lines : List (List ℕ)) → AllLines lines → (tables : Tables) → end_of (feed_all (stream begun_of tables []) (joined lines)).reading ≡ Ok tt → InOrder (frames_of lines)
unfolding input_of
accepted_in_order lines none tables h =
    whole_in_order (frames_of lines) (lines_fit lines)
    (ap (λ (s : Stream). end_of s.reading) (sym (lines_fed lines none begun_of tables)) ∙ h)

-- And frames in that order, with no more words than a 04 can say, are a whole input.
pub in_order_accepted : (lines : List (List ℕ)) → AllLines lines → (tables : Tables) (o : InOrder (frames_of lines)) → length o.words ≤ 4294967295
    → end_of (feed_all (stream begun_of tables []) (joined lines)).reading ≡ Ok tt
unfolding input_of
in_order_accepted lines none tables o h =
    ap (λ (s : Stream). end_of s.reading) (lines_fed lines none begun_of tables) ∙ in_order_whole (frames_of lines) o h
