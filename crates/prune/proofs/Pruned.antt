-- The steps of `survivors`, one after the other. Assumes nothing.
use mathlib.Core.Path.{◌≡◌, sym, ap, ap₂, ◌∙◌, subst}
use mathlib.Core.List.{List, map}
use Prim.Native.Nat.{ℕ, ◌<◌}
use lib.ListN.{length, take, replicate, length-replicate}
use Rattle.lattice.specs.Pruning.{gone}
use Rattle.order.specs.Orders.{Each}
use Rattle.order.proofs.Items.{each_take}
use Rattle.prune.specs.Prune.{ids, ranking, kept, among, remap_from, remap_of}
use Rattle.prune.specs.Steps.{Pruning, alive, marked}
use Rattle.prune.proofs.Ranks.{ranking_each}
use Rattle.prune.proofs.Marked.{marked_live}

module _ {losses ranked remap : List ℕ} {required : ℕ} (p : Pruning losses required ranked remap) where
  module _ {ranked' : List ℕ} (r : ranked' ≡ ranking losses required)
      {many : ℕ} (n : many ≡ length remap) {none : List ℕ} (d : none ≡ replicate many gone) where
    none_long : length none ≡ length losses
    none_long = ap length d ∙ length-replicate many gone ∙ n ∙ p.in_remap

    -- each has an entry
    each_in : (count : ℕ) → Each (λ id. id < length none) (take count ranked')
    each_in count =
        subst (λ (k : ℕ). Each (λ id. id < k) (take count ranked')) (sym none_long)
        (each_take (λ id. id < length losses) count ranked'
        (subst (Each (λ id. id < length losses)) (sym r) (ranking_each losses required p.there)))

    none_is : none ≡ replicate (length losses) gone
    none_is = d ∙ ap (λ (k : ℕ). replicate k gone) (n ∙ p.in_remap)

  pub chosen_each : (count : ℕ) {ranked' : List ℕ} → ranked' ≡ ranking losses required → {many : ℕ} → many ≡ length remap
      → {none : List ℕ} → none ≡ replicate many gone → Each (λ id. id < length none) (take count ranked')
  chosen_each count r n d = each_in r n d count

  pub pruned : (keep : ℕ) {count : ℕ} → count ≡ kept required keep (length losses) → {ranked' : List ℕ}
      → ranked' ≡ ranking losses required
      → {many : ℕ} → many ≡ length remap → {none : List ℕ} → none ≡ replicate many gone
      → {marks : List ℕ} → marks ≡ marked (take count ranked') none → {done : List ℕ} → done ≡ remap_from 0 (map alive marks)
      → done ≡ remap_of losses required keep
  pruned keep {count} c {ranked'} r n {none} d {marks} m e =
      e
      ∙ ap (λ (l : List ℕ). remap_from 0 (map alive l)) m
      ∙ ap (λ (l : List ℕ). remap_from 0 (map alive (marked (take count ranked') l))) (none_is r n d)
      ∙ ap (remap_from 0) (marked_live (take count ranked') (length losses))
      ∙ ap₂ (λ (k : ℕ) (l : List ℕ). remap_from 0 (map (among (take k l)) (ids 0 (length losses)))) c r
