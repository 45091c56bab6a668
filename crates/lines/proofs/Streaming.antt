-- The input, byte by byte and chunk after chunk.
-- Assumes nothing.
use Prim.Native.Nat.{ℕ, zero, suc, ◌+◌, ◌≤◌, ◌<◌}
use mathlib.Core.Path.{◌≡◌, refl, ◌∙◌, sym, ap}
use mathlib.Core.List.{List, [], ◌∷◌, ◌++◌}
use native.Mathlib.Numerals.{add-one}
use native.Mathlib.Omega.{arith}
use lib.ListN.{length, drop, get_or}
use lib.Seq.{drop-cons}
use Rattle.frames.specs.declared.sequence.Reading.{Reading}
use Rattle.stored.specs.Stored.{Tables}
use Rattle.lines.specs.declared.Input.{Input}
use Rattle.lines.specs.Lines.{Stream, feed, feed_all, stream_of, last_of, ReadFrom}

-- what has been read, by its parts
abbrev pub stream : Reading → Tables → List ℕ → Stream
stream reading tables line = record { reading = reading; tables = tables; line = line }

-- a chunk, of which so much was fed
pub record Fed (before now : Stream) (got : List ℕ) (i : ℕ) : Type 0 where
  pub upto : i ≤ length got
  pub same : feed_all before got ≡ feed_all now (drop i got)

pub fed_none : (before : Stream) (got : List ℕ) → Fed before before got 0
fed_none before got = record { upto = omega arith; same = refl }

drop_all : (l : List ℕ) (i : ℕ) → length l ≤ i → drop i l ≡ []
drop_all [] zero h = refl
drop_all [] (suc i) h = refl
drop_all (a ∷ l) zero h = absurd (omega arith)
drop_all (a ∷ l) (suc i) h = drop_all l i (omega arith)

module _ {before now : Stream} {got : List ℕ} {i : ℕ} (f : Fed before now got i) where
  pub fed_next : i < length got → (after : Stream) → after ≡ feed now (get_or got i 0) → Fed before after got (i + 1)
  unfolding feed_all
  fed_next h after e = record {
    upto = omega arith;
    same = f.same ∙ rw (add-one i, drop-cons got i 0 h, e);
  }

  pub fed_all : length got ≤ i → now ≡ feed_all before got
  unfolding feed_all
  fed_all h = sym (f.same ∙ ap (feed_all now) (drop_all got i h))

-- ---- chunk after chunk
feed_append : (s : Stream) (a b : List ℕ) → feed_all (feed_all s a) b ≡ feed_all s (a ++ b)
unfolding feed_all
feed_append s [] b = refl
feed_append s (x ∷ a) b = feed_append (feed s x) a b

-- some bytes have come
pub record Come (before now : Stream) : Type 0 where
  pub bytes : List ℕ
  pub is : now ≡ feed_all before bytes

pub come_none : (before now : Stream) → now ≡ before → Come before now
unfolding feed_all
come_none before now e = record { bytes = []; is = e }

pub come_more : {before now : Stream} → Come before now → (got : List ℕ) (after : Stream) → after ≡ feed_all now got → Come before after
come_more {before} {now} c got after e =
    record { bytes = c.bytes ++ got; is = e ∙ ap (λ (s : Stream). feed_all s got) c.is ∙ feed_append before c.bytes got }

pub come_all : {before : Stream} (input last : Input) (buffer texts specials text words frequencies : List ℕ)
    → Come before (stream_of input buffer texts specials text words frequencies) → last ≡ last_of input → ReadFrom before last texts specials text words frequencies
come_all input last buffer texts specials text words frequencies c e = record { bytes = c.bytes; fed = input; buffer = buffer; is = c.is; ended = e }
