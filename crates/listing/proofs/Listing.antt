-- From what was checked to what the list asks for, and back. Assumes nothing.
use mathlib.Core.Path.{◌≡◌, sym, ap, ap₂, ◌∙◌, subst}
use mathlib.Core.List.{List}
use Prim.Native.Nat.{ℕ, ◌*◌, ◌/◌, ◌≤◌, ◌^◌, min}
use native.Mathlib.Omega.{arith}
use lib.ListN.{length, take}
use lib.Seq.{length-take-le}
use Rattle.spans.specs.Spans.{many}
use Rattle.positions.specs.Gathered.{bytes_before}
use Rattle.corpus.specs.Kept as words
use Rattle.corpus.proofs.Chosen.{chosen_few}
use Rattle.corpus.proofs.Theorems.{kept_front, kept_corpus, ready}
use Rattle.ranking.specs.Corpus.{weight}
use Rattle.seed.specs.Seed as seed
use Rattle.listing.specs.Start.{Lent, positions_of, corpus}
use Rattle.listing.specs.Steps.{Listing}
use Rattle.listing.proofs.Words.{cut_many, cut_good, cut_words, same_weight, kept_bytes}

-- ---- each slice has as many positions as all
below_left : (m a b : ℕ) → m ≤ min a b → m ≤ a
below_left m a b h = omega arith

below_right : (m a b : ℕ) → m ≤ min a b → m ≤ b
below_right m a b h = omega arith

pub record Roomy (chars places order work ranks : List ℕ) (m : ℕ) : Type 0 where
  pub in_chars : m ≤ length chars
  pub in_places : 3 * m ≤ length places
  pub in_order : m ≤ length order
  pub in_work : m ≤ length work
  pub in_ranks : m ≤ length ranks

roomy : (chars places order work ranks : List ℕ) {m : ℕ} → m ≤ positions_of chars places order work ranks → Roomy chars places order work ranks m
roomy chars places order work ranks {m} h =
    let sorting = min (length work) (length ranks) in
    let sorted = min (length order) sorting in
    let placed = min (length places / 3) sorted in
    let a : m ≤ placed = below_right m (length chars) placed h in
    let p : m ≤ length places / 3 = below_left m (length places / 3) sorted a in
    let b : m ≤ sorted = below_right m (length places / 3) sorted a in
    let c : m ≤ sorting = below_right m (length order) sorting b in
    record {
      in_chars = below_left m (length chars) placed h;
      in_places = thrice m (length places) p;
      in_order = below_left m (length order) sorting b;
      in_work = below_left m (length work) (length ranks) c;
      in_ranks = below_right m (length work) (length ranks) c;
    }
  where
    thrice : (m n : ℕ) → m ≤ n / 3 → 3 * m ≤ n
    thrice m n h = omega arith

module _ {x : Lent} {kept counts chars places order work ranks : List ℕ} (l : Listing x kept counts chars places order work ranks)
    {kept' counts' : List ℕ} {r : ℕ} (k : words.Kept x.text x.words x.frequencies (many x.words) kept counts kept' counts' r) (same : length kept' ≡ length kept) (even : length counts' ≡ length counts) where
  pub few : r ≤ many x.words
  few = let c = k.count in let h = chosen_few x.text x.words (many x.words) in omega arith

  pub spans_in : 2 * r ≤ length kept'
  spans_in = let h = l.bounded.kept_room in let f = few in omega arith

  pub counts_in : r ≤ length counts'
  counts_in = let h = l.bounded.counts_room in let f = few in omega arith

  pub corpus_is : seed.corpus_of x.text (take (2 * r) kept') (take r counts') ≡ corpus x
  corpus_is = cut_words kept' r spans_in x.text counts' ∙ kept_corpus k

  bytes_in : bytes_before (take (2 * r) kept') (many (take (2 * r) kept')) ≤ positions_of chars places order work ranks
  bytes_in =
      let e : bytes_before (take (2 * r) kept') (many (take (2 * r) kept')) ≡ bytes_before (words.spans_at x.words (words.chosen x.text x.words (many x.words))) (length (words.chosen x.text x.words (many x.words))) =
      ap₂ bytes_before (kept_front k) (cut_many kept' r spans_in ∙ k.count) in
      let h = kept_bytes x.text x.words (many x.words) in
      let b = l.bounded.words_room in
      omega arith

  light : weight (seed.corpus_of x.text (take (2 * r) kept') (take r counts')) ≤ 2 ^ 48
  light =
      subst (λ (n : ℕ). n ≤ 2 ^ 48) (sym (ap weight (cut_words kept' r spans_in x.text counts') ∙ same_weight (words.words_of x.text kept' counts' r)))
      (ready k l.words_fit).light

  pub asked : seed.Asked x.text (take (2 * r) kept') (take r counts') x.settings.max_piece_chars chars places order work ranks
  asked =
      let m = cut_many kept' r spans_in in
      let b = l.bounded in
      let f = few in
      let w = b.few_words in
      let t = b.short_text in
      let s = l.short in
      let n = length-take-le r counts' counts_in in
      let room = roomy chars places order work ranks bytes_in in
      record {
        words_good = record {
          good = cut_good kept' r spans_in (ready k l.words_fit).good;
          few = omega arith;
          small = omega arith;
          far = omega arith;
          chars_room = room.in_chars;
          places_room = room.in_places;
        };
        frequent = omega arith;
        light = light;
        short = l.short;
        order_room = room.in_order;
        work_room = room.in_work;
        keys_room = room.in_ranks;
      }
