-- "Prove that no second outcome fits": training has one answer, and leaves one thing in the result slices. Assumes nothing.
use mathlib.Core.Path.{◌≡◌, refl, sym, ap, subst}
use mathlib.Core.Bool.{Bool}
use mathlib.Core.List.{List}
use Prim.Native.Nat.{ℕ, ◌≤◌, ◌<◌}
use native.Mathlib.Nat.{lt_irrefl}
use native.Mathlib.Omega.{arith}
use Rattle.laws.proofs.Outcome.{one_outcome}
use Rattle.refusal.specs.declared.Refusal.{Refusal}
use Rattle.std.specs.Prelude.{Result, Ok, Err}
use Rattle.settings.specs.Check.{InBounds, Why as NotInBounds}
use Rattle.settings.proofs.Theorems as settings
use Rattle.corpus.specs.Check.{InOrder, Why as NotInOrder}
use Rattle.corpus.proofs.Theorems as words
use Rattle.ranking.proofs.Theorems.{seeded_unique, uncut_unique}
use Rattle.listing.specs.Start as start
use Rattle.listing.specs.Start.{bad_settings, no_room, bad_words, bad, no_slots}
use Rattle.start.proofs.Theorems as starting
use Rattle.fresh.specs.Build as fresh
use Rattle.model.specs.Model.{Model, Task}
use Rattle.begun.specs.First.{Unlaid, no_trie, no_cache}
use Rattle.make.specs.Make.{Results, Late, too_small, unlaid, no_results, Made}
use Rattle.make.specs.declared.Trained.{Trained}
use Rattle.training.specs.Train.{Work, seeding_work, cache_slots, Seeds, Why, early, later, Gives, Answers, Zeros}

-- ---- the seed list: there is one, or `start` has refused
module _ (x : start.Lent) where
  not_settings : {r : Refusal} → NotInBounds x.settings x.texts x.specials r → InBounds x.settings x.texts x.specials → ⊥
  not_settings {r} a b = let e = settings.one_answer x.settings x.texts x.specials (Err r) (Ok tt) a b in let z : ◌≡◌ {A = ℕ} 0 1 = cc in lt_irrefl 0 (omega arith)

  not_words : {r : Refusal} → NotInOrder x.text x.words x.frequencies r → InOrder x.text x.words x.frequencies → ⊥
  not_words {r} a b = let e = words.one_answer x.text x.words x.frequencies (Err r) (Ok tt) a b in let z : ◌≡◌ {A = ℕ} 0 1 = cc in lt_irrefl 0 (omega arith)

  not_bad : {R : Type 0} {r : Refusal} → start.Fit x R → start.Bad x R r → ⊥
  not_bad f (bad_settings a) = not_settings a f.settings_fit
  not_bad f (no_room a n) = n f.room
  not_bad f (bad_words a n b) = not_words b f.words_fit

  module _ (w : start.Work) where
    -- "Place 1 comes before 8; 2, 3, 4 after": a call that has its seed list is not refused before
    seeds_not : {pieces : List (List ℕ)} {required : ℕ} {r : Refusal} → Seeds x w pieces required → start.Why x w r → ⊥
    seeds_not s (bad b) = not_bad s.fit b
    seeds_not s (no_slots f n) = let e = uncut_unique s.uncut n.uncut in let a = s.fits in let b = n.over in omega arith

    one_list : {pieces pieces' : List (List ℕ)} {required required' : ℕ} → Seeds x w pieces required → Seeds x w pieces' required' → (pieces ≡ pieces') × (required ≡ required')
    one_list s t = seeded_unique s.seeded t.seeded

    -- what `start` leaves does not matter to why it refuses
    one_start : {r s : Refusal} → start.Why x w r → start.Why x w s → r ≡ s
    one_start {r} {s} a b = starting.no_second x w nothing nothing (Err r) (Err s) a b
      where
        nothing : start.Left
        nothing = record { kept = w.kept; counts = w.counts; pieces = w.pieces; tallies = w.tallies; scores = w.scores }

-- ---- what comes of a seed list: 8, or 7 at 2, 3 or 4, or the tokens
both : {n m : ℕ} → n ≤ m → m < n → ⊥
both h l = omega arith

one_unlaid : {t : Task} {m : Model} {keys ends : List ℕ} {z : fresh.Results} {r s : Refusal} → Unlaid t m keys ends z r → Unlaid t m keys ends z s → r ≡ s
one_unlaid (no_trie n) (no_trie k) = refl
one_unlaid (no_trie n) (no_cache h k) = absurd (n h)
one_unlaid (no_cache h n) (no_trie k) = absurd (k h)
one_unlaid (no_cache h n) (no_cache g k) = refl

same_results : {a b : Results} → a.bytes ≡ b.bytes → a.tokens ≡ b.tokens → a.scores ≡ b.scores → a ≡ b
same_results p q r = λ i. record { bytes = p i; tokens = q i; scores = r i }

module _ (x : start.Lent) (keys ends : List ℕ) (z : fresh.Results) (y : Results) where
  module _ {pieces : List (List ℕ)} {required : ℕ} where
    one_late : {r s : Refusal} → Late x keys ends z y pieces required r → Late x keys ends z y pieces required s → r ≡ s
    one_late (too_small l) (too_small k) = refl
    one_late (too_small l) (unlaid h u) = absurd (both h l)
    one_late (too_small l) (no_results h t c n) = absurd (both h l)
    one_late (unlaid h u) (too_small l) = absurd (both h l)
    one_late (unlaid h u) (unlaid k v) = one_unlaid u v
    one_late (unlaid h (no_trie a)) (no_results k t c n) = absurd (a t)
    one_late (unlaid h (no_cache b a)) (no_results k t c n) = absurd (a c)
    one_late (no_results h t c n) (too_small l) = absurd (both h l)
    one_late (no_results h t c n) (unlaid k (no_trie a)) = absurd (a t)
    one_late (no_results h t c n) (unlaid k (no_cache b a)) = absurd (a c)
    one_late (no_results h t c n) (no_results k u d m) = refl

    made_not : {y' : Results} {count : ℕ} {over : Bool} {r : Refusal} → Made x keys ends z y y' pieces required count over → Late x keys ends z y pieces required r → ⊥
    made_not m (too_small l) = both m.asked l
    made_not m (unlaid h (no_trie a)) = a m.trie_fits
    made_not m (unlaid h (no_cache b a)) = a m.cache_fits
    made_not m (no_results h t c n) = n m.filled.room

    one_made : {y' y'' : Results} {count count' : ℕ} {over over' : Bool} → Made x keys ends z y y' pieces required count over → Made x keys ends z y y'' pieces required count' over'
        → (count ≡ count') × (over ≡ over') × (y' ≡ y'')
    one_made {y'} {y''} m n =
        let f = m.filled in
        let g = n.filled in (
          one_outcome f.count g.count,
          one_outcome m.over_is n.over_is,
          same_results {a = y'} {b = y''} (one_outcome f.bytes_are g.bytes_are) (one_outcome f.spans_are g.spans_are) (one_outcome f.scores_are g.scores_are),
        )

  -- the same of an equal list
  late_for : {pieces pieces' : List (List ℕ)} {required required' : ℕ} → (pieces ≡ pieces') × (required ≡ required') → {r : Refusal}
      → Late x keys ends z y pieces' required' r → Late x keys ends z y pieces required r
  late_for {pieces} {pieces'} {required} {required'} (p, n) {r} l =
      subst (λ (k : ℕ). Late x keys ends z y pieces k r) (sym n) (subst (λ (q : List (List ℕ)). Late x keys ends z y q required' r) (sym p) l)

  made_for : {pieces pieces' : List (List ℕ)} {required required' : ℕ} → (pieces ≡ pieces') × (required ≡ required') → {y' : Results} {count : ℕ} {over : Bool}
      → Made x keys ends z y y' pieces' required' count over → Made x keys ends z y y' pieces required count over
  made_for {pieces} {pieces'} {required} {required'} (p, n) {y'} {count} {over} l =
      subst (λ (k : ℕ). Made x keys ends z y y' pieces k count over) (sym n) (subst (λ (q : List (List ℕ)). Made x keys ends z y y' q required' count over) (sym p) l)

-- ---- training whole
module _ (x : start.Lent) (w : Work) (y : Results) where
  one_why : {r s : Refusal} → Why x w y r → Why x w y s → r ≡ s
  one_why (early a) (early b) = one_start x (seeding_work w) a b
  one_why (early a) (later b) = absurd (seeds_not x (seeding_work w) b.seeds a)
  one_why (later a) (early b) = absurd (seeds_not x (seeding_work w) a.seeds b)
  one_why (later a) (later b) =
      one_late x w.keys w.ends (cache_slots w) y a.late
      (late_for x w.keys w.ends (cache_slots w) y (one_list x (seeding_work w) a.seeds b.seeds) b.late)

  pub never : {y' : Results} {count required : ℕ} {over : Bool} {r : Refusal} → Gives x w y y' count required over → Why x w y r → ⊥
  never g (early a) = seeds_not x (seeding_work w) g.seeds a
  never g (later a) =
      made_not x w.keys w.ends (cache_slots w) y g.made
      (late_for x w.keys w.ends (cache_slots w) y (one_list x (seeding_work w) g.seeds a.seeds) a.late)

-- Of two calls with the same lists lent, both answer the same, a refusal or the tokens, and both leave the same results.
pub no_second : (x : start.Lent) (w : Work) (y y' y'' : Results) (r s : Result Trained Refusal) → Answers x w y y' r → Answers x w y y'' s → (r ≡ s) × (y' ≡ y'')
no_second x w y y' y'' (Ok t) (Ok u) g h =
    let l = one_list x (seeding_work w) g.seeds h.seeds in
    let m = one_made x w.keys w.ends (cache_slots w) y g.made (made_for x w.keys w.ends (cache_slots w) y l h.made) in
    let c = m.0 in
    let n = l.1 in
    let o = m.1 in
    (λ i. Ok (record { tokens = c i; required = n i; stalled = o i }), m.2)
no_second x w y y' y'' (Ok t) (Err s) g (q, v) = absurd (never x w y g q)
no_second x w y y' y'' (Err r) (Ok t) (p, u) h = absurd (never x w y h p)
no_second x w y y' y'' (Err r) (Err s) (p, u) (q, v) = (ap Err (one_why x w y p q), one_outcome u v)

-- And the work slices are zero.
pub one_work : {w w' w'' : Work} → Zeros w w' → Zeros w w'' → w' ≡ w''
one_work p q =
    let kept = one_outcome p.kept_zero q.kept_zero in
    let counts = one_outcome p.counts_zero q.counts_zero in
    let table = one_outcome p.table_zero q.table_zero in
    let chars = one_outcome p.chars_zero q.chars_zero in
    let places = one_outcome p.places_zero q.places_zero in
    let order = one_outcome p.order_zero q.order_zero in
    let work = one_outcome p.work_zero q.work_zero in
    let ranks = one_outcome p.ranks_zero q.ranks_zero in
    let pieces = one_outcome p.pieces_zero q.pieces_zero in
    let tallies = one_outcome p.tallies_zero q.tallies_zero in
    let scores = one_outcome p.scores_zero q.scores_zero in
    let expected = one_outcome p.expected_zero q.expected_zero in
    let keys = one_outcome p.keys_zero q.keys_zero in
    let ends = one_outcome p.ends_zero q.ends_zero in
    let offsets = one_outcome p.offsets_zero q.offsets_zero in
    let starts = one_outcome p.starts_zero q.starts_zero in
    let ids = one_outcome p.ids_zero q.ids_zero in
    let spans = one_outcome p.spans_zero q.spans_zero in
    λ i. record { kept = kept i; counts = counts i; table = table i; chars = chars i; places = places i; order = order i; work = work i; ranks = ranks i; pieces = pieces i; tallies = tallies i; scores = scores i; expected = expected i; keys = keys i; ends = ends i; offsets = offsets i; starts = starts i; ids = ids i; spans = spans i }
