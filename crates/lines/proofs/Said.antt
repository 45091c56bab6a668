-- What lines say is what is stored: the words, if they have room, and the specials. Assumes nothing.
use mathlib.Core.Path.{◌≡◌, refl, sym, ap, ap₂, ◌∙◌, subst}
use mathlib.Core.Bool.{Bool, true, false, cond}
use mathlib.Core.List.{List, [], ◌∷◌, ◌++◌, append_assoc, append-nil}
use Prim.Native.Nat.{ℕ, ◌+◌, ◌*◌, ◌/◌, ◌≤◌}
use native.Mathlib.Nat.{zero-add}
use native.Mathlib.Omega.{arith}
use lib.Dec.{eqb}
use lib.ListN.{length, take, drop, set, length-append, length-drop}
use lib.Seq.{sets, length-sets, length-take-le, take_at}
use borrow.Author.Tests.{le-leb, lt-ltb, eqb-true}
use Rattle.std.specs.Prelude.{Option, None, Some}
use Rattle.laws.proofs.Choices.{yes, no, cond_cases}
use Rattle.lattice.specs.Layout.{joined}
use Rattle.lattice.proofs.Joined.{joined_append}
use Rattle.lattice.proofs.Fronts.{sets_append}
use Rattle.copied.specs.Put.{spans_from}
use Rattle.copied.proofs.Puts.{spans_long, puts_more}
use Rattle.copied.proofs.Stores.{sets_over}
use Rattle.frames.specs.Frames.{byte, number_at, seed_fits, settings_of, settings_frame, special_frame, word_frame, count_frame, frame_of}
use Rattle.frames.specs.declared.input.Frame.{Frame}
use Rattle.frames.specs.declared.input.Frame.TheVariants.{Settings as First, Special, Word, Count}
use Rattle.stored.specs.Stored.{Texts, Tables, texts, tables, nothing, part, fits, behind, has_room, with_special, with_word, store_of}
use Rattle.stored.proofs.Rooms.{fitting, part_long, room_fits, room_whole}
use Rattle.lines.specs.Lines.{line_bytes, line_frame}
use Rattle.lines.specs.Said.{word_of, frequency_of, special_of, words_in, frequencies_in, specials_in, Room, Stand, WordRoom, Words}
use Rattle.lines.proofs.Theorems.{stored_by}

-- ---- a frame's part is inside its bytes
abbrev Inside : List ℕ → Option Frame → Type 0
Inside bytes (Some (First settings specials)) = Unit {0}
Inside bytes (Some (Special from long)) = from + long ≤ length bytes
Inside bytes (Some (Word frequency from long)) = from + long ≤ length bytes
Inside bytes (Some (Count count)) = Unit {0}
Inside bytes None = Unit {0}

module _ (bytes : List ℕ) where
  abbrev In : Option Frame → Type 0
  In = Inside bytes

  abbrev fit : Bool
  fit = seed_fits (byte bytes 5) (number_at bytes 6 4)

  abbrev made : Option Frame
  made = Some (First (settings_of bytes) (number_at bytes 29 2))

  first_inside : In (settings_frame bytes)
  unfolding settings_frame
  first_inside = cond_cases In (eqb (length bytes) 31) (cond fit made None) None (λ e. cond_cases In fit made None (λ f. tt) (λ f. tt)) (λ e. tt)

  special_inside : In (special_frame bytes)
  unfolding special_frame
  special_inside = cond_cases In (eqb (length bytes) (2 + byte bytes 1)) _ None (λ e. omega (arith, eqb-true (length bytes) (2 + byte bytes 1) e)) (λ e. tt)

  word_inside : In (word_frame bytes)
  unfolding word_frame
  word_inside = cond_cases In (eqb (length bytes) (10 + byte bytes 9)) _ None (λ e. omega (arith, eqb-true (length bytes) (10 + byte bytes 9) e)) (λ e. tt)

  count_inside : In (count_frame bytes)
  unfolding count_frame
  count_inside = cond_cases In (eqb (length bytes) 5) _ None (λ e. tt) (λ e. tt)

frame_inside : (bytes : List ℕ) → Inside bytes (frame_of bytes)
unfolding frame_of
frame_inside [] = tt
frame_inside (kind ∷ rest) =
    let P = Inside (kind ∷ rest) in
    cond_cases P (eqb kind 1) _ _ (λ e. first_inside (kind ∷ rest))
    (λ e. cond_cases P (eqb kind 2) _ _ (λ f. special_inside (kind ∷ rest))
    (λ f. cond_cases P (eqb kind 3) _ _ (λ g. word_inside (kind ∷ rest))
    (λ g. cond_cases P (eqb kind 4) _ None (λ h. count_inside (kind ∷ rest)) (λ h. tt))))

-- ---- one text more
module _ (list : List (List ℕ)) (bytes₀ spans₀ : List ℕ) (t : Texts) (s : Stand list bytes₀ spans₀ t) (bytes : List ℕ) (from long : ℕ) where
  abbrev next : List (List ℕ)
  next = list ++ part bytes from long ∷ []

  bytes_long : length t.bytes ≡ length bytes₀
  bytes_long = ap length s.put.bytes_are ∙ length-sets bytes₀ 0 (joined list)

  spans_as_long : length t.spans ≡ length spans₀
  spans_as_long = ap length s.put.spans_are ∙ length-sets spans₀ 0 (spans_from 0 list)

  counted : length next ≡ t.run.count + 1
  counted = let a = length-append list (part bytes from long ∷ []) in let c = s.count in omega arith

  summed : length (joined next) ≡ t.run.bytes + length (part bytes from long)
  summed =
      let a = ap length (joined_append list (part bytes from long ∷ []) ∙ ap (λ (l : List ℕ). joined list ++ l) (append-nil (part bytes from long))) in
      let b = length-append (joined list) (part bytes from long) in
      let n = s.put.next in
      omega arith

  stand_more : Stand next bytes₀ spans₀ (behind t (part bytes from long))
  stand_more = record {
    put = puts_more s.put (part bytes from long) t.run.count s.count (record { bytes_are = refl; span_is = ap (λ (k : ℕ). sets t.spans (2 * k) (t.run.bytes ∷ length (part bytes from long) ∷ [])) (zero_first t.run.count); next = refl });
    count = sym counted;
  }
    where
      zero_first : (k : ℕ) → k ≡ 0 + k
      zero_first k = omega arith

  room_more : fits t bytes from long ≡ true → Room next bytes₀ spans₀
  room_more e =
      let f = fitting t bytes from long e in
      let a = bytes_long in
      let b = spans_as_long in
      let c = counted in
      let d = summed in
      let l = part_long t bytes from long e in
      record {
        bytes_fit = let r = f.byte_room in omega arith;
        narrow = let r = f.narrow in omega arith;
        spans_fit = let r = f.slot_room in omega (arith, ap (λ (n : ℕ). n / 2) b);
      }

  -- and there is room exactly then
  fits_room : from + long ≤ length bytes → Room next bytes₀ spans₀ → fits t bytes from long ≡ true
  fits_room i r =
      let a = bytes_long in
      let b = spans_as_long in
      let c = counted in
      let d = summed in
      let l : length (part bytes from long) ≡ long = length-take-le long (drop from bytes) (omega (arith, length-drop from bytes)) in
      let x = r.bytes_fit in
      let y = r.narrow in
      let z = r.spans_fit in
      rw (le-leb (from + long) (length bytes) i, le-leb (t.run.bytes + long) (length t.bytes) (omega arith), le-leb (t.run.bytes + long) 4294967295 (omega arith), lt-ltb t.run.count (length t.spans / 2) (omega arith)) refl

-- less of a list has room too
room_less : (a b : List (List ℕ)) (bytes spans : List ℕ) → Room (a ++ b) bytes spans → Room a bytes spans
room_less a b bytes spans r =
    let l = length-append a b in
    let j = ap length (joined_append a b) ∙ length-append (joined a) (joined b) in
    let x = r.bytes_fit in
    let y = r.narrow in
    let z = r.spans_fit in
    record { bytes_fit = omega arith; narrow = omega arith; spans_fit = omega arith }

word_room_less : (a b : List (List ℕ)) (text spans frequencies : List ℕ) → WordRoom (a ++ b) text spans frequencies → WordRoom a text spans frequencies
word_room_less a b text spans frequencies r =
    let l = length-append a b in
    let f = r.frequencies_fit in
    record { room = room_less a b text spans r.room; frequencies_fit = omega arith }

-- ---- the words, frame after frame
module _ (text₀ spans₀ frequencies₀ : List ℕ) where
  record State (words : List (List ℕ)) (counts : List ℕ) (held : Texts) (frequencies : List ℕ) (short : Bool) : Type 0 where
    even : length counts ≡ length words
    kept : short ≡ false → Words words counts text₀ spans₀ frequencies₀ held frequencies
    lost : short ≡ true → WordRoom words text₀ spans₀ frequencies₀ → ⊥

  abbrev Of : List (List ℕ) → List ℕ → Tables → Type 0
  Of words counts t = State words counts t.words t.frequencies t.short

  module _ (words : List (List ℕ)) (counts : List ℕ) (t : Tables) (s : Of words counts t) (bytes : List ℕ) (frequency from long : ℕ) (i : from + long ≤ length bytes) where
    abbrev word : List ℕ
    word = part bytes from long

    both_longer : length (counts ++ frequency ∷ []) ≡ length (words ++ word ∷ [])
    both_longer =
        let a = s.even in
        let b = length-append counts (frequency ∷ []) in
        let c = length-append words (word ∷ []) in
        omega arith

    abbrev has : Bool
    has = has_room t.words t.frequencies t.short bytes from long

    word_kept : has ≡ true → Words (words ++ word ∷ []) (counts ++ frequency ∷ []) text₀ spans₀ frequencies₀ (behind t.words word) (set t.frequencies t.words.run.count frequency)
    word_kept e =
        let (c, f) = room_fits bytes from long t.short t.words t.frequencies e in
        let w = s.kept (room_whole bytes from long t.short t.words t.frequencies e) in
        let n : t.words.run.count ≡ 0 + length counts = let a = s.even in let b = w.stand.count in omega arith in
        let l = length-append words (word ∷ []) in
        let m = ap length w.frequencies_are ∙ length-sets frequencies₀ 0 counts in
        let k = w.stand.count in
        record {
          room = record { room = room_more words text₀ spans₀ t.words w.stand bytes from long f; frequencies_fit = omega arith };
          each = both_longer;
          stand = stand_more words text₀ spans₀ t.words w.stand bytes from long;
          frequencies_are = ap₂ (λ (x : List ℕ) (k : ℕ). set x k frequency) w.frequencies_are n ∙ sym (sets_append frequencies₀ 0 counts (frequency ∷ []));
        }

    word_lost : has ≡ false → WordRoom (words ++ word ∷ []) text₀ spans₀ frequencies₀ → ⊥
    word_lost e r = go t.short refl
      where
        go : (b : Bool) → t.short ≡ b → ⊥
        go true x = s.lost x (word_room_less words (word ∷ []) text₀ spans₀ frequencies₀ r)
        go false x =
            let w = s.kept x in
            let l = length-append words (word ∷ []) in
            let m = ap length w.frequencies_are ∙ length-sets frequencies₀ 0 counts in
            let k = w.stand.count in
            let g = r.frequencies_fit in
            let f = fits_room words text₀ spans₀ t.words w.stand bytes from long i r.room in
            let c = lt-ltb t.words.run.count (length t.frequencies) (omega arith) in
            let h : has ≡ true = rw (x, c, f) refl in no e (yes h)

    word_stored : Of (words ++ word ∷ []) (counts ++ frequency ∷ []) (with_word t frequency bytes from long)
    word_stored =
        cond_cases (Of (words ++ word ∷ []) (counts ++ frequency ∷ [])) has _ _
        (λ e. record { even = both_longer; kept = λ z. word_kept e; lost = λ z r. yes {b = false} z })
        (λ e. record { even = both_longer; kept = λ z. absurd (no {b = true} z tt); lost = λ z. word_lost e })

  -- nothing more
  same : (words : List (List ℕ)) (counts : List ℕ) (t : Tables) → Of words counts t → Of (words ++ []) (counts ++ []) t
  same words counts t s =
      subst (λ (y : List ℕ). Of (words ++ []) y t) (sym (append-nil counts)) (subst (λ (y : List (List ℕ)). Of y counts t) (sym (append-nil words)) s)

  stored : (words : List (List ℕ)) (counts : List ℕ) (t : Tables) → Of words counts t → (bytes : List ℕ) (frame : Option Frame) → Inside bytes frame
      → Of (words ++ word_of frame bytes) (counts ++ frequency_of frame) (store_of t frame bytes)
  unfolding store_of
  stored words counts t s bytes (Some (First settings specials)) i = same words counts t s
  stored words counts t s bytes (Some (Special from long)) i = cond_cases (Of (words ++ []) (counts ++ [])) (fits t.specials bytes from long) _ t (λ e. same words counts t s) (λ e. same words counts t s)
  stored words counts t s bytes (Some (Word frequency from long)) i = word_stored words counts t s bytes frequency from long i
  stored words counts t s bytes (Some (Count count)) i = same words counts t s
  stored words counts t s bytes None i = same words counts t s

  all_stored : (lines : List (List ℕ)) (words : List (List ℕ)) (counts : List ℕ) (t : Tables) → Of words counts t
      → Of (words ++ words_in lines) (counts ++ frequencies_in lines) (stored_by t lines)
  all_stored [] words counts t s = same words counts t s
  all_stored (line ∷ lines) words counts t s =
      let one = stored words counts t s (line_bytes line) (line_frame line) (frame_inside (line_bytes line)) in
      let all = all_stored lines (words ++ word_of (line_frame line) (line_bytes line)) (counts ++ frequency_of (line_frame line)) (store_of t (line_frame line) (line_bytes line)) one in
      subst₂' (append_assoc words (word_of (line_frame line) (line_bytes line)) (words_in lines)) (append_assoc counts (frequency_of (line_frame line)) (frequencies_in lines)) all
    where
      subst₂' : {a b : List (List ℕ)} {c d : List ℕ} → a ≡ b → c ≡ d → Of a c (stored_by t (line ∷ lines)) → Of b d (stored_by t (line ∷ lines))
      subst₂' {a} {b} {c} {d} p q x = subst (λ (y : List ℕ). Of b y (stored_by t (line ∷ lines))) q (subst (λ (y : List (List ℕ)). Of y c (stored_by t (line ∷ lines))) p x)

-- ---- the specials, frame after frame
module _ (texts₀ specials₀ : List ℕ) where
  abbrev Specials : List (List ℕ) → Tables → Type 0
  Specials list t = Room list texts₀ specials₀ → Stand list texts₀ specials₀ t.specials

  no_special : (list : List (List ℕ)) (t : Tables) → Specials list t → Specials (list ++ []) t
  no_special list t s = subst (λ (l : List (List ℕ)). Specials l t) (sym (append-nil list)) s

  module _ (list : List (List ℕ)) (t : Tables) (s : Specials list t) (bytes : List ℕ) where
    special_stored : (from long : ℕ) → from + long ≤ length bytes → Specials (list ++ part bytes from long ∷ []) (with_special t bytes from long)
    special_stored from long i r =
        let h = s (room_less list (part bytes from long ∷ []) texts₀ specials₀ r) in
        let e = fits_room list texts₀ specials₀ t.specials h bytes from long i r in
        cond_cases (λ (x : Tables). Stand (list ++ part bytes from long ∷ []) texts₀ specials₀ x.specials) (fits t.specials bytes from long) _ t
        (λ z. stand_more list texts₀ specials₀ t.specials h bytes from long)
        (λ z. absurd (no z (yes e)))

    specials_stored : (frame : Option Frame) → Inside bytes frame → Specials (list ++ special_of frame bytes) (store_of t frame bytes)
    unfolding store_of
    specials_stored (Some (First settings specials)) i = no_special list t s
    specials_stored (Some (Special from long)) i = special_stored from long i
    specials_stored (Some (Word frequency from long)) i =
        cond_cases (Specials (list ++ [])) (has_room t.words t.frequencies t.short bytes from long) _ _ (λ e. no_special list t s) (λ e. no_special list t s)
    specials_stored (Some (Count count)) i = no_special list t s
    specials_stored None i = no_special list t s

  all_specials : (lines : List (List ℕ)) (list : List (List ℕ)) (t : Tables) → Specials list t → Specials (list ++ specials_in lines) (stored_by t lines)
  all_specials [] list t s = no_special list t s
  all_specials (line ∷ lines) list t s =
      let one = specials_stored list t s (line_bytes line) (line_frame line) (frame_inside (line_bytes line)) in
      let all = all_specials lines (list ++ special_of (line_frame line) (line_bytes line)) (store_of t (line_frame line) (line_bytes line)) one in
      subst (λ (l : List (List ℕ)). Specials l (stored_by t (line ∷ lines))) (append_assoc list (special_of (line_frame line) (line_bytes line)) (specials_in lines)) all

-- ---- all lines, from the first on
none_stand : (bytes spans : List ℕ) → Stand [] bytes spans (texts (record { bytes = 0; count = 0 }) bytes spans)
none_stand bytes spans = record { put = record { bytes_are = refl; spans_are = refl; next = refl }; count = refl }

module _ (lines : List (List ℕ)) (bytes specials text words frequencies : List ℕ) where
  abbrev pub after : Tables
  after = stored_by (tables nothing bytes specials text words frequencies) lines

  state : State text words frequencies (words_in lines) (frequencies_in lines) after.words after.frequencies after.short
  state =
      all_stored text words frequencies lines [] [] (tables nothing bytes specials text words frequencies)
      (record {
        even = refl;
        kept = λ e. record {
          room = record { room = record { bytes_fit = omega arith; narrow = omega arith; spans_fit = omega arith }; frequencies_fit = omega arith };
          each = refl;
          stand = none_stand text words;
          frequencies_are = refl;
        };
        lost = λ e r. yes {b = false} e;
      })

  -- Where no word lacked room, the words of the lines stand in the slices, each with its frequency, in order.
  pub words_kept : after.short ≡ false → Words (words_in lines) (frequencies_in lines) text words frequencies after.words after.frequencies
  words_kept = state.kept

  -- And one lacked room exactly where they do not fit.
  pub words_lost : after.short ≡ true → WordRoom (words_in lines) text words frequencies → ⊥
  words_lost = state.lost

  -- The specials stand in theirs, if they fit.
  pub specials_kept : Room (specials_in lines) bytes specials → Stand (specials_in lines) bytes specials after.specials
  specials_kept = all_specials bytes specials lines [] (tables nothing bytes specials text words frequencies) (λ r. none_stand bytes specials)

-- ---- what is lent to training: the part of each slice that was filled
front : {A : Type 0} (values l : List A) (n : ℕ) → length values ≤ length l → n ≡ length values → take n (sets l 0 values) ≡ values
front values l n h e = ap (take n) (sets_over values l h) ∙ take_at values (drop (length values) l) n (sym e)

module _ (list : List (List ℕ)) (bytes spans : List ℕ) (t : Texts) (s : Stand list bytes spans t) (r : Room list bytes spans) where
  pub text_lent : take t.run.bytes t.bytes ≡ joined list
  text_lent = ap (take t.run.bytes) s.put.bytes_are ∙ front (joined list) bytes t.run.bytes r.bytes_fit (s.put.next ∙ zero-add (length (joined list)))

  pub spans_lent : take (2 * t.run.count) t.spans ≡ spans_from 0 list
  spans_lent =
      let l = spans_long 0 list in
      let c = s.count in
      let f = r.spans_fit in
      ap (take (2 * t.run.count)) s.put.spans_are ∙ front (spans_from 0 list) spans (2 * t.run.count) (omega arith) (omega arith)

pub frequencies_lent : (words : List (List ℕ)) (counts text spans frequencies : List ℕ) (held : Texts) (frequencies' : List ℕ)
    → Words words counts text spans frequencies held frequencies' → take held.run.count frequencies' ≡ counts
frequencies_lent words counts text spans frequencies held frequencies' w =
    let e = w.each in
    let c = w.stand.count in
    let f = w.room.frequencies_fit in
    ap (take held.run.count) w.frequencies_are ∙ front counts frequencies held.run.count (omega arith) (omega arith)
