-- What stands at an index of the kept words: the word that was chosen there. Assumes nothing.
use Rattle.std.specs.Prelude.{Result, Ok, Err}
use mathlib.Core.Path.{◌≡◌, refl, sym, ap, ap₂, ◌∙◌, subst}
use mathlib.Core.List.{List, [], ◌∷◌, ◌++◌, map}
use Prim.Native.Nat.{ℕ, zero, suc, ◌+◌, ◌*◌, ◌<◌}
use native.Mathlib.Decide.{dec_lt}
use native.Mathlib.Numerals.{add-one}
use native.Mathlib.Omega.{arith}
use lib.ListN.{length, get_or, take, drop, length-append}
use Rattle.utf8.specs.Encode.{Spells}
use Rattle.utf8.specs.Chars.{chars_of, measured}
use Rattle.spans.specs.Spans.{from, bytes, octets, chars_at, first}
use Rattle.spans.specs.Check.{Good}
use Rattle.corpus.specs.Corpus.{GoodWords, Utf8, weighs, weight_at, total}
use Rattle.corpus.specs.Kept.{pick, chosen, spans_at, frequencies_at, weight_in, Kept}
use Rattle.corpus.proofs.Measures.{measure_utf8, chars_are}
use Rattle.corpus.proofs.Chosen.{get_d_left, get_d_last, chosen_at}
use Rattle.corpus.proofs.Keeps.{spans_long, map_more, frequencies_long}

-- ---- lists by indexes
spans_from : (words ks : List ℕ) (j : ℕ) → j < length ks → get_or (spans_at words ks) (2 * j) 0 ≡ from words (get_or ks j 0)
spans_from words [] j l = absurd (omega arith)
spans_from words (k ∷ ks) zero l = refl
spans_from words (k ∷ ks) (suc j) l =
    let e : 2 * suc j ≡ suc (suc (2 * j)) = omega arith in
    ap (λ (i : ℕ). get_or (spans_at words (k ∷ ks)) i 0) e ∙ spans_from words ks j (omega arith)

spans_bytes : (words ks : List ℕ) (j : ℕ) → j < length ks → get_or (spans_at words ks) (2 * j + 1) 0 ≡ bytes words (get_or ks j 0)
spans_bytes words [] j l = absurd (omega arith)
spans_bytes words (k ∷ ks) zero l = refl
spans_bytes words (k ∷ ks) (suc j) l =
    let e : 2 * suc j + 1 ≡ suc (suc (2 * j + 1)) = omega arith in
    ap (λ (i : ℕ). get_or (spans_at words (k ∷ ks)) i 0) e ∙ spans_bytes words ks j (omega arith)

map_at : (f : ℕ → ℕ) (ks : List ℕ) (j : ℕ) → j < length ks → get_or (map f ks) j 0 ≡ f (get_or ks j 0)
map_at f [] j l = absurd (omega arith)
map_at f (k ∷ ks) zero l = refl
map_at f (k ∷ ks) (suc j) l = map_at f ks j (omega arith)

-- ---- the kept word j is the chosen word
module _ {text words frequencies kept counts kept' counts' : List ℕ} {n r : ℕ} (k : Kept text words frequencies n kept counts kept' counts' r) (j : ℕ) (l : j < r) where
  within : j < length (chosen text words n)
  within = let e = k.count in omega arith

  pub kept_from : from kept' j ≡ from words (get_or (chosen text words n) j 0)
  kept_from =
      let ks = chosen text words n in
      let w = within in
      ap (λ (x : List ℕ). get_or x (2 * j) 0) k.spans_are
      ∙ get_d_left (spans_at words ks) (drop (length (spans_at words ks)) kept) (2 * j) 0 (let s = spans_long words ks in omega arith)
      ∙ spans_from words ks j w

  pub kept_bytes : bytes kept' j ≡ bytes words (get_or (chosen text words n) j 0)
  kept_bytes =
      let ks = chosen text words n in
      let w = within in
      ap (λ (x : List ℕ). get_or x (2 * j + 1) 0) k.spans_are
      ∙ get_d_left (spans_at words ks) (drop (length (spans_at words ks)) kept) (2 * j + 1) 0 (let s = spans_long words ks in omega arith)
      ∙ spans_bytes words ks j w

  pub kept_frequency : get_or counts' j 0 ≡ get_or frequencies (get_or (chosen text words n) j 0) 0
  kept_frequency =
      let ks = chosen text words n in
      let w = within in
      ap (λ (x : List ℕ). get_or x j 0) k.frequencies_are
      ∙ get_d_left (frequencies_at frequencies ks) (drop (length (frequencies_at frequencies ks)) counts) j 0 (let s = frequencies_long frequencies ks in omega arith)
      ∙ map_at (λ i. get_or frequencies i 0) ks j w

  pub kept_octets : octets text kept' j ≡ octets text words (get_or (chosen text words n) j 0)
  kept_octets = ap₂ (λ (b i : ℕ). take b (drop i text)) kept_bytes kept_from

  pub kept_good : GoodWords text words frequencies n → Good text kept' 255 j
  kept_good good =
      let c = chosen_at text words n j within in
      let g = good (get_or (chosen text words n) j 0) c.below in
      let f = kept_from in
      let b = kept_bytes in
      let i = g.inside in
      let s = g.short in
      record {
        inside = omega arith;
        short = omega arith;
        utf8 = subst (λ (x : List ℕ). Spells x (chars_of x)) (sym kept_octets) c.utf8;
      }

-- ---- there is one, where a word is UTF-8
pick_some : (t : Result ℕ ℕ) (k : ℕ) (ks : List ℕ) → 0 < length ks → 0 < length (pick t k ks)
pick_some (Ok c) k ks h = let e = length-append ks (k ∷ []) in omega arith
pick_some (Err b) k ks h = h

pick_one : (t : Result ℕ ℕ) (n k : ℕ) (ks : List ℕ) → t ≡ Ok n → 0 < length (pick t k ks)
pick_one t n k ks e = let l = length-append ks (k ∷ []) in subst (λ (x : Result ℕ ℕ). 0 < length (pick x k ks)) (sym e) (omega arith)

pub chosen_some : (text words : List ℕ) (n k : ℕ) → k < n → Utf8 text words k → 0 < length (chosen text words n)
chosen_some text words zero k l u = absurd (omega arith)
chosen_some text words (suc n) k l u = elim (dec_lt k n) [
  | yes y ↦ pick_some (measured (octets text words n)) n (chosen text words n) (chosen_some text words n k y u)
  | no y ↦
      let e : k ≡ n = omega arith in
      pick_one (measured (octets text words n)) (length (chars_at text words n)) n (chosen text words n)
      (measure_utf8 (octets text words n) (subst (Utf8 text words) e u))
]

-- ---- values of the kept words, one after the other, are values of the chosen ones
module _ {A : Type 0} (f g : ℕ → A) where
  abbrev Agree : List ℕ → Type 0
  Agree ks = (j : ℕ) → j < length ks → f j ≡ g (get_or ks j 0)

  pick_first : (t : Result ℕ ℕ) (k : ℕ) (ks : List ℕ) → (Agree ks → first f (length ks) ≡ map g ks) → Agree (pick t k ks) → first f (length (pick t k ks)) ≡ map g (pick t k ks)
  pick_first (Ok c) k ks h a =
      let l : length (ks ++ k ∷ []) ≡ suc (length ks) = length-append ks (k ∷ []) ∙ add-one (length ks) in
      ap (first f) l
      ∙ ap₂ (λ (xs : List A) (x : A). xs ++ x ∷ [])
      (h (λ j m. a j (omega arith) ∙ ap g (get_d_left ks (k ∷ []) j 0 m)))
      (a (length ks) (omega arith) ∙ ap g (get_d_last ks k (length ks) refl))
      ∙ sym (map_more g ks k)
  pick_first (Err b) k ks h a = h a

  pub chosen_first : (text words : List ℕ) (n : ℕ) → Agree (chosen text words n) → first f (length (chosen text words n)) ≡ map g (chosen text words n)
  chosen_first text words zero a = refl
  chosen_first text words (suc n) a = pick_first (measured (octets text words n)) n (chosen text words n) (chosen_first text words n) a

-- ---- the chosen words weigh what all words weigh
weight_more : (xs : List (List ℕ × ℕ)) (chars : List ℕ) (frequency : ℕ) → weight_in (xs ++ (chars, frequency) ∷ []) ≡ weight_in xs + frequency * length chars
weight_more [] chars frequency = omega arith
weight_more ((c, f) ∷ xs) chars frequency = let h = weight_more xs chars frequency in omega arith

module _ (text words frequencies : List ℕ) where
  abbrev entry : ℕ → List ℕ × ℕ
  entry k = (chars_at text words k, get_or frequencies k 0)

  pick_weight : (t : Result ℕ ℕ) (k : ℕ) (ks : List ℕ) → measured (octets text words k) ≡ t → weight_in (map entry (pick t k ks)) ≡ weight_in (map entry ks) + weighs t (get_or frequencies k 0)
  pick_weight (Ok c) k ks m =
      ap weight_in (map_more entry ks k)
      ∙ weight_more (map entry ks) (chars_at text words k) (get_or frequencies k 0)
      ∙ ap (λ (n : ℕ). weight_in (map entry ks) + get_or frequencies k 0 * n) (chars_are (octets text words k) m)
  pick_weight (Err b) k ks m = omega arith

  pub chosen_weight : (n : ℕ) → weight_in (map entry (chosen text words n)) ≡ total (weight_at text words frequencies) n
  chosen_weight zero = refl
  chosen_weight (suc n) =
      pick_weight (measured (octets text words n)) n (chosen text words n) refl
      ∙ ap (λ (w : ℕ). w + weight_at text words frequencies n) (chosen_weight n)
