-- From the lines of an input to what training is lent, and to the program's answer. Assumes nothing.
use mathlib.Core.Path.{◌≡◌, refl, ap, ap₂, ◌∙◌, subst}
use mathlib.Core.Bool.{Bool, false}
use mathlib.Core.List.{List, [], ◌∷◌, ◌++◌}
use Prim.Native.Nat.{ℕ, ◌*◌, ◌≤◌}
use native.Mathlib.Omega.{arith}
use lib.ListN.{length}
use lib.Seq.{take_all}
use Rattle.std.specs.Prelude.{Option, None, Some, Result, Err}
use Rattle.laws.proofs.Choices.{cond_cases}
use Rattle.lattice.specs.Layout.{joined}
use Rattle.copied.specs.Put.{spans_from}
use Rattle.copied.proofs.Puts.{spans_long}
use Rattle.settings.specs.declared.Settings.{Settings}
use Rattle.frames.specs.declared.input.Frame.{Frame}
use Rattle.frames.specs.declared.input.Frame.TheVariants.{Settings as First, Special, Word, Count}
use Rattle.frames.specs.Order.{IsSpecial, IsWord, All, InOrder}
use Rattle.stored.specs.Stored.{Tables, tables, nothing, fits, has_room, store_of}
use Rattle.listing.specs.Start.{Lent, count_of}
use Rattle.lines.specs.Lines.{line_bytes, line_frame}
use Rattle.lines.specs.Said.{words_in, frequencies_in, specials_in, Room}
use Rattle.lines.proofs.Theorems.{frames_of, stored_by}
use Rattle.lines.proofs.Said.{after, words_kept, specials_kept, text_lent, spans_lent, frequencies_lent}
use Rattle.refusal.specs.declared.Refusal.{Refusal}
use Rattle.refusal.specs.declared.Refusal.TheVariants.{BadFrame}
use Rattle.frames.specs.Sequence.{begun_of, end_of, read_all, input_of}
use Rattle.frames.proofs.Theorems.{in_order_whole}
use Rattle.make.specs.Make.{Results}
use Rattle.make.specs.declared.Trained.{Trained}
use Rattle.training.specs.Train.{Answers}
use Rattle.room.specs.Room.{asked, lent_by, rooms, Whether, Replies}

-- ---- the settings are those of the 01
abbrev setting_of : Settings → Option Frame → Settings
setting_of s (Some (First settings specials)) = settings
setting_of s (Some (Special from long)) = s
setting_of s (Some (Word frequency from long)) = s
setting_of s (Some (Count count)) = s
setting_of s None = s

abbrev settings_by : Settings → List (Option Frame) → Settings
settings_by s [] = s
settings_by s (frame ∷ frames) = settings_by (setting_of s frame) frames

stored_setting : (t : Tables) (frame : Option Frame) (bytes : List ℕ) → (store_of t frame bytes).settings ≡ setting_of t.settings frame
unfolding store_of
stored_setting t (Some (First settings specials)) bytes = refl
stored_setting t (Some (Special from long)) bytes =
    cond_cases (λ (x : Tables). x.settings ≡ t.settings) (fits t.specials bytes from long) _ t (λ e. refl) (λ e. refl)
stored_setting t (Some (Word frequency from long)) bytes =
    cond_cases (λ (x : Tables). x.settings ≡ t.settings) (has_room t.words t.frequencies t.short bytes from long) _ _ (λ e. refl) (λ e. refl)
stored_setting t (Some (Count count)) bytes = refl
stored_setting t None bytes = refl

stored_settings : (lines : List (List ℕ)) (t : Tables) → (stored_by t lines).settings ≡ settings_by t.settings (frames_of lines)
stored_settings [] t = refl
stored_settings (line ∷ lines) t =
    stored_settings lines (store_of t (line_frame line) (line_bytes line))
    ∙ ap (λ (s : Settings). settings_by s (frames_of lines)) (stored_setting t (line_frame line) (line_bytes line))

by_specials : (s : Settings) (frames rest : List (Option Frame)) → All IsSpecial frames → settings_by s (frames ++ rest) ≡ settings_by s rest
by_specials s [] rest a = refl
by_specials s (Some (Special from long) ∷ frames) rest a = by_specials s frames rest a.1
by_specials s (Some (First settings specials) ∷ frames) rest a = absurd a.0
by_specials s (Some (Word frequency from long) ∷ frames) rest a = absurd a.0
by_specials s (Some (Count count) ∷ frames) rest a = absurd a.0
by_specials s (None ∷ frames) rest a = absurd a.0

by_words : (s : Settings) (frames rest : List (Option Frame)) → All IsWord frames → settings_by s (frames ++ rest) ≡ settings_by s rest
by_words s [] rest a = refl
by_words s (Some (Word frequency from long) ∷ frames) rest a = by_words s frames rest a.1
by_words s (Some (First settings specials) ∷ frames) rest a = absurd a.0
by_words s (Some (Special from long) ∷ frames) rest a = absurd a.0
by_words s (Some (Count count) ∷ frames) rest a = absurd a.0
by_words s (None ∷ frames) rest a = absurd a.0

in_order_settings : (lines : List (List ℕ)) (t : Tables) (o : InOrder (frames_of lines)) → (stored_by t lines).settings ≡ o.settings
in_order_settings lines t o =
    stored_settings lines t
    ∙ ap (settings_by t.settings) o.is
    ∙ by_specials o.settings o.specials (o.words ++ Some (Count (length o.words)) ∷ []) o.all_special
    ∙ by_words o.settings o.words (Some (Count (length o.words)) ∷ []) o.all_words

-- ---- every word has a span and a frequency
all_asked : (s : Settings) (texts specials text : List ℕ) (words : List (List ℕ)) (counts : List ℕ) → length counts ≡ length words
    → asked s texts specials text (spans_from 0 words) counts
    ≡ record { settings = s; texts = texts; specials = specials; text = text; words = spans_from 0 words; frequencies = counts }
all_asked s texts specials text words counts e =
    let l = spans_long 0 words in
    let n : count_of (spans_from 0 words) counts ≡ length counts = omega arith in
    ap₂ (λ (w f : List ℕ). record { settings = s; texts = texts; specials = specials; text = text; words = w; frequencies = f })
    (take_all (2 * count_of (spans_from 0 words) counts) (spans_from 0 words) (omega arith))
    (take_all (count_of (spans_from 0 words) counts) counts (omega arith))

-- What training is lent: the settings of the 01, the specials of the 02s, and the words of the 03s with their frequencies, in order; and nothing else.
module _ (lines : List (List ℕ)) (bytes specials text words frequencies : List ℕ) where
  pub said_lent : (o : InOrder (frames_of lines)) → (after lines bytes specials text words frequencies).short ≡ false → Room (specials_in lines) bytes specials
      → lent_by (after lines bytes specials text words frequencies)
      ≡ record {
        settings = o.settings;
        texts = joined (specials_in lines);
        specials = spans_from 0 (specials_in lines);
        text = joined (words_in lines);
        words = spans_from 0 (words_in lines);
        frequencies = frequencies_in lines;
      }
  said_lent o whole room =
      let t = after lines bytes specials text words frequencies in
      let s = specials_kept lines bytes specials text words frequencies room in
      let w = words_kept lines bytes specials text words frequencies whole in
      rw (
        in_order_settings lines (tables nothing bytes specials text words frequencies) o,
        text_lent (specials_in lines) bytes specials t.specials s room,
        spans_lent (specials_in lines) bytes specials t.specials s room,
        text_lent (words_in lines) text words t.words w.stand w.room.room,
        spans_lent (words_in lines) text words t.words w.stand w.room.room,
        frequencies_lent (words_in lines) (frequencies_in lines) text words frequencies t.words t.frequencies w,
      )
      (all_asked o.settings (joined (specials_in lines)) (spans_from 0 (specials_in lines)) (joined (words_in lines)) (words_in lines) (frequencies_in lines) w.each)

  -- The answer to an input that is in order and has room is training's, to what its lines say.
  pub answered : (o : InOrder (frames_of lines)) → length o.words ≤ 4294967295 → (y y' : Results) (r : Result Trained Refusal)
      → Replies (end_of (read_all begun_of (frames_of lines))) (after lines bytes specials text words frequencies) y y' r
      → (after lines bytes specials text words frequencies).short ≡ false → Room (specials_in lines) bytes specials
      → Answers (record {
        settings = o.settings;
        texts = joined (specials_in lines);
        specials = spans_from 0 (specials_in lines);
        text = joined (words_in lines);
        words = spans_from 0 (words_in lines);
        frequencies = frequencies_in lines;
      }) rooms y y' r
  unfolding input_of
  answered o few y y' r replies whole room =
      let t = after lines bytes specials text words frequencies in
      subst (λ (x : Lent). Answers x rooms y y' r) (said_lent o whole room)
      (subst (λ (b : Bool). Whether b t y y' r) whole
      (subst (λ (e : Result (Unit {0}) ℕ). Replies e t y y' r) (in_order_whole (frames_of lines) o few) replies))

  -- A broken line is told before all else.
  pub broken_told : (line : ℕ) → end_of (read_all begun_of (frames_of lines)) ≡ Err line → (y y' : Results) (r : Result Trained Refusal)
      → Replies (end_of (read_all begun_of (frames_of lines))) (after lines bytes specials text words frequencies) y y' r → (r ≡ Err (BadFrame line)) × (y' ≡ y)
  broken_told line e y y' r replies = subst (λ (x : Result (Unit {0}) ℕ). Replies x (after lines bytes specials text words frequencies) y y' r) e replies
