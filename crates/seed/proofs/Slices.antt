-- The first pieces of slices. Assumes nothing.
use mathlib.Core.Path.{◌≡◌, refl, sym, ap, ap₂, ◌∙◌, subst}
use mathlib.Core.List.{List, [], ◌∷◌, ◌++◌}
use Prim.Native.Nat.{ℕ, zero, suc, ◌*◌, ◌≤◌}
use native.Mathlib.Omega.{arith}
use lib.ListN.{length, take, drop, length-append, length-map, take-append-drop}
use lib.Seq.{length-take-le, take-append-le, take_at}
use lib.Ieee.{Float}
use Rattle.ranking.specs.Counting.{Entry, ranked, tallies}
use Rattle.ranking.specs.Slots.{packed}
use Rattle.ranking.specs.Scores.{seed_scores, seed_score, seed_total}
use Rattle.ranking.proofs.Lists.{map_join}
use Rattle.ranks.specs.Ranks.{entries_of}
use Rattle.listed.specs.Spelled.{Spelling, Spelled}
use Rattle.seeding.specs.Phases.{BothRanked}
use Rattle.seed.specs.Steps.{Writing, Written, ordered, left, Listing, ListedNow}

pub cut_long : {A : Type 0} (m : ℕ) (l : List A) → m ≤ length l → m ≡ length (take m l)
cut_long m l h = sym (length-take-le m l h)

-- ---- entries and their slots
pub packed_join : (es fs : List Entry) → packed (es ++ fs) ≡ packed es ++ packed fs
packed_join [] fs = refl
packed_join (e ∷ es) fs = ap (λ (l : List ℕ). e.0 ∷ e.1.0 ∷ l) (packed_join es fs)

pub packed_take : (k : ℕ) (es : List Entry) → take (2 * k) (packed es) ≡ packed (take k es)
packed_take zero es = refl
packed_take (suc k) [] = let d : 2 * suc k ≡ suc (suc (2 * k)) = omega arith in rw d refl
packed_take (suc k) (e ∷ es) =
    let d : 2 * suc k ≡ suc (suc (2 * k)) = omega arith in
    rw d (ap (λ (l : List ℕ). e.0 ∷ e.1.0 ∷ l) (packed_take k es))

pub tallies_take : (k : ℕ) (es : List Entry) → take k (tallies es) ≡ tallies (take k es)
tallies_take zero es = refl
tallies_take (suc k) [] = refl
tallies_take (suc k) (e ∷ es) = ap (λ (l : List ℕ). e.1.1 ∷ l) (tallies_take k es)

-- ---- written
pub scores_room : {words places : List ℕ} {n many : ℕ} {pieces counts : List ℕ} {scores : List Float}
    → Writing words places n many pieces counts scores → length (take many counts) ≤ length scores
scores_room {many = many} {counts = counts} w = omega (arith, cut_long many counts w.counts_room, w.scores_room)

pub written : {words places : List ℕ} {n many : ℕ} {pieces counts : List ℕ} {scores : List Float}
    → Writing words places n many pieces counts scores → (front : List ℕ) → length front ≡ length (take (2 * many) pieces)
    → Spelled words places n (take (2 * many) pieces) front → {scores' : List Float}
    → scores' ≡ seed_scores (take many counts) ++ drop (length (take many counts)) scores
    → Written words places n many pieces counts scores (front ++ drop (2 * many) pieces) scores'
written {words} {places} {n} {many} {pieces} {counts} {scores} w front l s {scores'} e =
    let a = cut_long (2 * many) pieces w.pieces_room in
    let b = cut_long many counts w.counts_room in
    let m : length (seed_scores (take many counts)) ≡ many = length-map (take many counts) (seed_score (seed_total (take many counts))) ∙ sym b in
    record {
      spelled = subst (Spelled words places n (take (2 * many) pieces)) (sym (take_at front (drop (2 * many) pieces) (2 * many) (l ∙ sym a))) s;
      scores_are = ap (take many) e ∙ take_at (seed_scores (take many counts)) (drop (length (take many counts)) scores) many m;
    }

-- ---- both parts
module _ {words places : List ℕ} {n required size pool : ℕ} {order work keys pieces counts : List ℕ} {scores : List Float}
    (a : Listing words places n required size pool order work keys pieces counts scores) where
  abbrev P : List ℕ
  P = take (2 * size) pieces

  abbrev C : List ℕ
  C = take size counts

  counts_long : length (take size counts) ≡ size
  counts_long = length-take-le size counts a.counts_room

  pub within : required ≤ size
  within = omega (arith, a.both.within, counts_long)

  module _ {p c : List ℕ} (b : BothRanked (take (2 * size) pieces) (take size counts) required p c) where
    pieces_are : p ≡ packed (ordered pieces counts required size)
    pieces_are =
        sym (take-append-drop (2 * required) p) ∙ ap₂ (λ (x y : List ℕ). x ++ y) b.front.pieces_are b.back.pieces_are
        ∙ sym (packed_join
        (ranked (entries_of (take (2 * required) (take (2 * size) pieces)) (take required (take size counts))))
        (ranked (entries_of (drop (2 * required) (take (2 * size) pieces)) (drop required (take size counts)))))

    counts_are : c ≡ tallies (ordered pieces counts required size)
    counts_are =
        sym (take-append-drop required c) ∙ ap₂ (λ (x y : List ℕ). x ++ y) b.front.counts_are b.back.counts_are
        ∙ sym (map_join (λ (e : Entry). e.1.1)
        (ranked (entries_of (take (2 * required) (take (2 * size) pieces)) (take required (take size counts))))
        (ranked (entries_of (drop (2 * required) (take (2 * size) pieces)) (drop required (take size counts)))))

    module _ (lp : length p ≡ length (take (2 * size) pieces)) (lc : length c ≡ length (take size counts)) {many : ℕ}
        (m : many ≡ left required size pool) where
      many_le : many ≤ size
      many_le = omega (arith, within)

      pieces_long : length (take (2 * size) pieces) ≡ 2 * size
      pieces_long = length-take-le (2 * size) pieces a.pieces_room

      cut_pieces : take (2 * many) (p ++ drop (2 * size) pieces) ≡ packed (take many (ordered pieces counts required size))
      cut_pieces =
          take-append-le (2 * many) p (drop (2 * size) pieces) (omega (arith, lp, pieces_long, many_le))
          ∙ ap (take (2 * many)) pieces_are ∙ packed_take many (ordered pieces counts required size)

      cut_counts : take many (c ++ drop size counts) ≡ tallies (take many (ordered pieces counts required size))
      cut_counts =
          take-append-le many c (drop size counts) (omega (arith, lc, counts_long, many_le))
          ∙ ap (take many) counts_are ∙ tallies_take many (ordered pieces counts required size)

      pub writing : Writing words places n many (p ++ drop (2 * size) pieces) (c ++ drop size counts) scores
      writing = record {
        spelling = subst (Spelling words places n) (sym cut_pieces)
            (subst (λ (k : ℕ). Spelling words places n (packed (take k (ordered pieces counts required size)))) (sym m) a.spelling);
        pieces_room = omega (arith, length-append p (drop (2 * size) pieces), lp, pieces_long, many_le);
        counts_room = omega (arith, length-append c (drop size counts), lc, counts_long, many_le);
        scores_room = omega (arith, a.scores_room, many_le);
      }

      pub listed_now : {pieces' : List ℕ} {scores' : List Float}
          → Written words places n many (p ++ drop (2 * size) pieces) (c ++ drop size counts) scores pieces' scores'
          → ListedNow words places n required size pool pieces counts pieces' (c ++ drop size counts) scores' many
      listed_now {pieces'} w = record {
        many_is = m;
        spelled = subst (λ (x : List ℕ). Spelled words places n x (take (2 * many) pieces')) cut_pieces w.spelled;
        counts_are = cut_counts;
        scores_are = w.scores_are;
      }
