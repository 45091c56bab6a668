-- What is proved of the seed list, in document 01's words. Assumes nothing.
use mathlib.Core.Path.{◌≡◌, sym, ap, ◌∙◌}
use mathlib.Core.List.{List, []}
use mathlib.Core.Logic.{inl, inr, ◌↔◌}
use Prim.Native.Nat.{ℕ, ◌+◌, ◌-◌, ◌≤◌, ◌<◌, max}
use native.Mathlib.Omega.{arith}
use lib.ListN.{length, length-map}
use Rattle.order.proofs.Unique.{unique}
use Rattle.order.proofs.Spelling.{le_antisym}
use Rattle.utf8.specs.Encode.{spelling}
use Rattle.utf8.specs.Order as bytes
use Rattle.ranking.specs.Corpus.{Corpus, count}
use Rattle.ranking.specs.Ranked.{worth, Before, Ranked}
use Rattle.ranking.specs.Seed.{Listed, Uncut, Seeded, counts}
use Rattle.ranking.specs.Positions.{characters, Positioned}
use Rattle.ranking.specs.Counting.{Entry, found, ranked, spelt, texts, tallies, found_characters, found_strings, seed_entries}
use Rattle.ranking.proofs.Lists.{map_cut}
use Rattle.ranking.proofs.Bytes.{bytes_order}
use Rattle.ranking.proofs.Ranks.{ranked_length, found_ranked, found_counts}
use Rattle.ranking.proofs.Each.{text_at, weight_at, positioned}

-- ---- no second list

-- "then bytes": of two strings of one worth, the one whose bytes go first.
pub then_bytes : (corpus : Corpus) (s t : List ℕ) → worth corpus s ≡ worth corpus t
    → Before corpus s t ↔ bytes.Before (spelling s) (spelling t)
then_bytes corpus s t e = (there, λ b. inr (e, (bytes_order s t).1 b))
  where
    there : Before corpus s t → bytes.Before (spelling s) (spelling t)
    there (inl h) = absurd (omega arith)
    there (inr h) = (bytes_order s t).0 h.1

before_strict : (corpus : Corpus) (s t : List ℕ) → Before corpus s t → Before corpus t s → ⊥
before_strict corpus s t (inl a) (inl b) = omega arith
before_strict corpus s t (inl a) (inr b) = let e = b.0 in omega arith
before_strict corpus s t (inr a) (inl b) = let e = a.0 in omega arith
before_strict corpus s t (inr a) (inr b) = a.1.1 (le_antisym s t a.1.0 b.1.0)

-- No second list is the candidates in order,
pub ranked_unique : {corpus : Corpus} {low high least : ℕ} {ps qs : List (List ℕ)} → Ranked corpus low high least ps
    → Ranked corpus low high least qs → ps ≡ qs
ranked_unique {corpus} {low} {high} {least} {ps} {qs} a b =
    unique (Before corpus) (before_strict corpus) ps qs a.sorted b.sorted
    (λ s i. b.every s (a.only s i)) (λ s i. a.every s (b.only s i))

-- so none is the seed list, and the number of its required pieces is settled, and so is its size before the cut.
pub seeded_unique : {corpus : Corpus} {setting least pool : ℕ} {texts texts' : List (List ℕ)} {required required' : ℕ}
    → Seeded corpus setting least pool texts required → Seeded corpus setting least pool texts' required'
    → (texts ≡ texts') × (required ≡ required')
seeded_unique {corpus} {setting} {least} {pool} {texts} {texts'} {required} {required'} a b =
    let c = ranked_unique a.listed.single b.listed.single in
    let d = ranked_unique a.listed.longer b.listed.longer in
    let r : required ≡ required' = a.required_is ∙ ap length c ∙ sym b.required_is in
    let p = a.texts_are in
    let q = b.texts_are in
    (cc, r)

pub uncut_unique : {corpus : Corpus} {setting least size size' : ℕ} → Uncut corpus setting least size
    → Uncut corpus setting least size' → size ≡ size'
uncut_unique {corpus} {setting} {least} {size} {size'} a b =
    let c = ap length (ranked_unique a.listed.single b.listed.single) in
    let d = ap length (ranked_unique a.listed.longer b.listed.longer) in
    let e = a.size_is in
    let f = b.size_is in
    omega arith

-- Below two characters there is no string: a length setting of 0 or 1 leaves the characters alone.
pub no_strings : (corpus : Corpus) (setting least : ℕ) → setting < 2 → Ranked corpus 2 setting least []
no_strings corpus setting least h =
    record { sorted = tt; only = λ s i. absurd i; every = λ s c. let a = c.long in let b = c.short in absurd (omega arith) }

-- ---- the way of counting gives it

-- For positions whose texts reach as far as the length setting, and over one character at least:
module _ {corpus : Corpus} {text : ℕ → List ℕ} {frequency : ℕ → ℕ} {n : ℕ} (setting least : ℕ)
    (z : Positioned corpus (max 1 setting) text frequency n) where
  abbrev single : List Entry
  single = found_characters text frequency n

  abbrev longer : List Entry
  longer = found_strings text frequency n setting least

  listed : Listed corpus setting least (texts text (ranked single)) (texts text (ranked longer))
  listed = record {
    single = found_ranked z 1 1 0 (omega arith) (omega arith);
    longer = found_ranked z 2 setting least (omega arith) (omega arith);
  }

  texts_length : (es : List Entry) → length (texts text (ranked es)) ≡ length es
  texts_length es = length-map (ranked es) (spelt text) ∙ ranked_length es

  -- what is found, the characters and then the strings, each sorted by worth and then cut, is the seed list;
  pub found_seeded : (pool : ℕ)
      → Seeded corpus setting least pool
      (texts text (seed_entries text frequency n setting least pool)) (length (found_characters text frequency n))
  found_seeded pool =
      record {
        characters = texts text (ranked single);
        strings = texts text (ranked longer);
        listed = listed;
        required_is = sym (texts_length single);
        texts_are = map_cut (spelt text) (pool - length single) (ranked single) (ranked longer);
      }

  -- the sums that were found are its counts;
  pub found_tallies : (pool : ℕ)
      → counts corpus (texts text (seed_entries text frequency n setting least pool))
      ≡ tallies (seed_entries text frequency n setting least pool)
  found_tallies pool =
      let m = pool - length single in
      ap (counts corpus) (map_cut (spelt text) m (ranked single) (ranked longer))
      ∙ map_cut (count corpus) m (texts text (ranked single)) (texts text (ranked longer))
      ∙ rw (found_counts z 1 1 0 (omega arith) (omega arith), found_counts z 2 setting least (omega arith) (omega arith))
      (sym (map_cut (λ e. e.1.1) m (ranked single) (ranked longer)))

  -- and the number of all that is found is its size before the cut.
  pub found_uncut : Uncut corpus setting least
      (length (found_characters text frequency n) + length (found_strings text frequency n setting least))
  found_uncut =
      record {
        characters = texts text (ranked single);
        strings = texts text (ranked longer);
        listed = listed;
        size_is = omega (arith, texts_length single, texts_length longer);
      }

-- ---- every corpus has its list

abbrev pub ranked_list : Corpus → ℕ → ℕ → ℕ → List (List ℕ)
ranked_list corpus low high least =
    texts (text_at high corpus) (ranked (found (text_at high corpus) (weight_at corpus) low high least (characters corpus)))

pub ranked_exists : (corpus : Corpus) (low high least : ℕ) → 1 ≤ low
    → Ranked corpus low high least (ranked_list corpus low high least)
ranked_exists corpus low high least h = found_ranked (positioned corpus high) low high least h (omega arith)

pub seeded_exists : (corpus : Corpus) (setting least pool : ℕ)
    → (texts : List (List ℕ)) × ((required : ℕ) × Seeded corpus setting least pool texts required)
seeded_exists corpus setting least pool = (_, (_, found_seeded setting least (positioned corpus (max 1 setting)) pool))
