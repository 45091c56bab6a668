-- The seed list that the start of training leaves: how many pieces it has at most, and which. Assumes nothing.
use Rattle.std.specs.Prelude.{Option, Some, None}
use mathlib.Core.Path.{◌≡◌, refl, sym, ap, ◌∙◌, subst}
use mathlib.Core.List.{List, ◌++◌}
use Prim.Native.Nat.{ℕ, ◌+◌, ◌-◌, ◌*◌, ◌/◌, ◌≤◌, min, max}
use native.Mathlib.Nat.{le_trans}
use native.Mathlib.Omega.{arith}
use lib.ListN.{length, take, length-append, length-take, length-map}
use lib.Seq.{take-append-le}
use lib.Ieee.{Float}
use Rattle.spans.specs.Spans.{many, chars_at}
use Rattle.spans.specs.Check.{AllGood}
use Rattle.settings.specs.Settings.{seed_of}
use Rattle.settings.specs.Check.{SeedWithin}
use Rattle.ranking.specs.Corpus.{Corpus, count as countIn}
use Rattle.ranking.specs.Seed.{Uncut, Seeded, counts}
use Rattle.ranking.specs.Scores.{seed_score, seed_total, seed_scores}
use Rattle.ranking.proofs.Theorems.{uncut_unique}
use Rattle.lattice.specs.Pieces.{Distinct}
use Rattle.inputs.specs.Inputs.{Once}
use Rattle.listing.specs.Start.{Lent, Work, Left, Given, corpus, pool, slots}
use Rattle.trie.proofs.Same.{length_first}
use Rattle.fresh.specs.Build.{smaller}
use Rattle.fresh.proofs.Building.{smaller_is}
use Rattle.begun.specs.First.{target_in, seed_texts}
use Rattle.begun.proofs.Distinct.{seeded_distinct, once_of}

-- ---- how long the list is
module _ {corpus : Corpus} {setting least pool : ℕ} {texts : List (List ℕ)} {required : ℕ} (s : Seeded corpus setting least pool texts required) where
  texts_long : length texts ≡ required + min (pool - required) (length s.strings)
  texts_long =
      let a = ap length s.texts_are in
      let b = length-append s.characters (take (pool - required) s.strings) in
      let c = length-take (pool - required) s.strings in
      let d = s.required_is in
      omega arith

  pub seeded_required : required ≤ length texts
  seeded_required = let a = texts_long in omega arith

  pub seeded_few : length texts ≤ max required pool
  seeded_few = let a = texts_long in omega arith

  -- no longer than before its cut
  pub seeded_fits : {size : ℕ} → Uncut corpus setting least size → length texts ≤ size
  seeded_fits {size} u =
      let a = texts_long in
      let b : size ≡ length s.characters + length s.strings =
      uncut_unique u (record { characters = s.characters; strings = s.strings; listed = s.listed; size_is = refl }) in
      let c = s.required_is in
      omega arith

-- ---- "the larger of target and `seed_size` (or 16 times target)"
pool_few : (seed : Option ℕ) (target : ℕ) → SeedWithin seed → target ≤ 65536 → max target (seed_of seed target) ≤ 1048576
pool_few (Some size) target h t = omega arith
pool_few None target h t = omega arith

few : {n a b m : ℕ} → n ≤ max a b → a ≤ m → b ≤ m → n ≤ m
few h k l = omega arith

-- ---- slots in each slice
below_left : (m a b : ℕ) → m ≤ min a b → m ≤ a
below_left m a b h = omega arith

below_right : (m a b : ℕ) → m ≤ min a b → m ≤ b
below_right m a b h = omega arith

pub record Slots (w : Work) (count : ℕ) : Type 0 where
  pub in_pieces : count ≤ length w.pieces / 2
  pub in_tallies : count ≤ length w.tallies
  pub in_scores : count ≤ length w.scores
  pub in_order : count ≤ length w.order
  pub in_work : count ≤ length w.work
  pub in_ranks : count ≤ length w.ranks

slots_each : (w : Work) (count : ℕ) → count ≤ slots w → Slots w count
slots_each w count h =
    let last = min (length w.work) (length w.ranks) in
    let ordered = min (length w.order) last in
    let scored = min (length w.scores) ordered in
    let tallied = min (length w.tallies) scored in
    let a : count ≤ tallied = below_right count (length w.pieces / 2) tallied h in
    let b : count ≤ scored = below_right count (length w.tallies) scored a in
    let c : count ≤ ordered = below_right count (length w.scores) ordered b in
    let d : count ≤ last = below_right count (length w.order) last c in
    record {
      in_pieces = below_left count (length w.pieces / 2) tallied h;
      in_tallies = below_left count (length w.tallies) scored a;
      in_scores = below_left count (length w.scores) ordered b;
      in_order = below_left count (length w.order) last c;
      in_work = below_left count (length w.work) (length w.ranks) d;
      in_ranks = below_right count (length w.work) (length w.ranks) d;
    }

-- as many scores as pieces
pub scores_long : (corpus : Corpus) (texts : List (List ℕ)) → length (seed_scores (counts corpus texts)) ≡ length texts
scores_long corpus texts = length-map (counts corpus texts) (seed_score (seed_total (counts corpus texts))) ∙ length-map texts (countIn corpus)

module _ (x : Lent) (w : Work) (y : Left) (r count required : ℕ) (g : Given x w y r count required) where
  -- ---- how many
  pub pieces_count : length (seed_texts x.text y.pieces count) ≡ count
  pieces_count = sym g.list.many_is

  pub pieces_many : many (take (2 * count) y.pieces) ≡ count
  pieces_many = sym (length_first (chars_at x.text (take (2 * count) y.pieces)) (many (take (2 * count) y.pieces))) ∙ pieces_count

  pub pieces_in : 2 * count ≤ length y.pieces
  pieces_in = let a = pieces_many in let b = length-take (2 * count) y.pieces in omega arith

  pub pieces_slots : count ≤ slots w
  pieces_slots =
      let a = pieces_count in
      let b : length (seed_texts x.text y.pieces count) ≤ g.list.size = seeded_fits g.list.seeded g.list.uncut in
      let d : count ≤ g.list.size = omega arith in
      le_trans d g.list.fits

  pub pieces_each : Slots w count
  pieces_each = slots_each w count pieces_slots

  pub required_there : required ≤ count
  required_there = let a = pieces_count in let b = seeded_required g.list.seeded in omega arith

  pool_in : pool x ≤ 1048576
  pool_in =
      let v = g.fit.settings_fit.vocab_within in
      pool_few x.settings.seed_size (target_in x) g.fit.settings_fit.seed_within (omega arith)

  -- "1,048,576 lent pieces"
  pub pieces_few : required ≤ target_in x → count ≤ 1048576
  pieces_few h =
      let a = pieces_count in
      let v = g.fit.settings_fit.vocab_within in
      let b : count ≤ max required (pool x) = subst (λ (n : ℕ). n ≤ max required (pool x)) a (seeded_few g.list.seeded) in
      few b (omega arith) pool_in

  -- ---- which
  pub pieces_good : AllGood x.text (take (2 * count) y.pieces) 255 count
  pieces_good = g.list.good

  pub pieces_distinct : Distinct (seed_texts x.text y.pieces count)
  pieces_distinct = seeded_distinct g.list.seeded

  pub pieces_once : Once x.text (take (2 * count) y.pieces)
  pieces_once = once_of x.text (take (2 * count) y.pieces) pieces_distinct

  -- ---- their scores
  pub scores_are : take count y.scores ≡ seed_scores (counts (corpus x) (seed_texts x.text y.pieces count))
  scores_are = g.list.scores_are ∙ ap seed_scores g.list.counts_are

  pub scores_in : count ≤ length y.scores
  scores_in =
      let a : length (take count y.scores) ≡ count = ap length scores_are ∙ scores_long (corpus x) (seed_texts x.text y.pieces count) ∙ pieces_count in
      let b = length-take count y.scores in
      omega arith

  -- where more stands behind
  pub scores_are_with : (rest : List Float) → take count (y.scores ++ rest) ≡ seed_scores (counts (corpus x) (seed_texts x.text y.pieces count))
  scores_are_with rest = take-append-le count y.scores rest scores_in ∙ scores_are

  pub scores_in_with : (rest : List Float) → count ≤ length (y.scores ++ rest)
  scores_in_with rest = let a = scores_in in let b = length-append y.scores rest in omega arith

  -- a slice of scores that was cut to as many slots as another has: both have a slot for each piece
  pub cut_slots : (scores : List Float) (most : ℕ) → w.scores ≡ take (smaller (length scores) most) scores → (count ≤ length scores) × (count ≤ most)
  cut_slots scores most e =
      let a = pieces_each.in_scores in
      let b = ap length e in
      let c = length-take (smaller (length scores) most) scores in
      let d = smaller_is (length scores) most refl in
      let l = d.left in
      let r = d.right in
      let h : count ≤ smaller (length scores) most = omega arith in
      (le_trans h l, le_trans h r)
