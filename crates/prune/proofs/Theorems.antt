-- What pruning does: the remap at exit is `remap_of` of the losses at entry, and a list closes up to `compacted` of it, so each
-- statement here is one about the functions. Assumes nothing.
use mathlib.Core.Path.{◌≡◌, refl, sym, ap, ◌∙◌, subst}
use mathlib.Core.Bool.{Bool, true, false, true≢false}
use mathlib.Core.List.{List, [], ◌∷◌}
use mathlib.Core.Logic.{◌⊎◌, inl, inr, ⊎_elim}
use Prim.Native.Nat.{ℕ, zero, suc, ◌+◌, ◌-◌, ◌*◌, ◌≤◌, ◌<◌}
use native.Mathlib.Decide.{dec_lt}
use native.Mathlib.Omega.{arith}
use lib.Dec.{T, ltb}
use lib.Ieee.{Float, nan, binary64, fits, lt, of_bits, to_bits}
use lib.Ieee.Bits.{of_bits-to_bits}
use lib.ListN.{length, get_or, take, drop, length-map, get_or-eq_default}
use lib.Seq.{length-take-le, take-append-add}
use borrow.Author.Tests.{lt-ltb}
use Rattle.order.specs.Sort.{In, sort}
use Rattle.order.proofs.Items.{each_take}
use Rattle.lattice.specs.Pruning.{gone, Remap, survivors}
use Rattle.spans.specs.Spans.{listed}
use Rattle.prune.specs.Prune.{costlier, ids, ranking, kept, chosen, among, lives, remap_from, remap_of}
use Rattle.prune.specs.Survive.{Lives, Gone, Survive}
use Rattle.prune.specs.Losses.{loss_like, AllLosses, bits_of}
use Rattle.prune.specs.Compact.{surviving, compacted, twice}
use Rattle.prune.proofs.Ranks.{ids_long, ranking_long, ranking_each}
use Rattle.prune.proofs.Marked.{ids_at, map_at}
use Rattle.prune.proofs.Sorted.{in_left, in_parts, sorted_take, sorted_across}
use Rattle.prune.proofs.Lives.{Ranked, in_ids, ranking_sorted, ranking_in, ahead, not_itself, among_in, in_among, as_many}
use Rattle.prune.proofs.Settled.{settled}
use Rattle.prune.proofs.Bits.{bits_order}
use Rattle.prune.proofs.Remaps.{remap_from_lem, remap_long, left_long, pairs_left_long, surviving_is, front}
use Rattle.prune.proofs.Listed.{listed_left}

module _ (losses : List ℕ) (required keep : ℕ) (h : required ≤ length losses) where
  lives_long : length (lives losses required keep) ≡ length losses
  lives_long = length-map (ids 0 (length losses)) (among (chosen losses required keep)) ∙ ids_long 0 (length losses)

  lives_at : (id : ℕ) → id < length losses → get_or (lives losses required keep) id false ≡ among (chosen losses required keep) id
  lives_at id l =
      let z : 0 + id ≡ id = omega arith in
      map_at (among (chosen losses required keep)) (ids 0 (length losses)) id false (omega (arith, ids_long 0 (length losses)))
      ∙ ap (among (chosen losses required keep)) (ids_at 0 (length losses) id l ∙ z)

  chosen_long : length (chosen losses required keep) ≡ kept required keep (length losses)
  chosen_long = length-take-le (kept required keep (length losses)) (ranking losses required)
      (omega (arith, ranking_long losses required h))

  -- the required prefix is chosen
  prefix_in : (id : ℕ) → id < required → In id (chosen losses required keep)
  prefix_in id l =
      let n = kept required keep (length losses) in
      let others = sort (costlier losses) (ids required (length losses - required)) in
      let e : length (ids 0 required) + (n - required) ≡ n = omega (arith, ids_long 0 required) in
      subst (In id) (sym (take-append-add (ids 0 required) others (n - required))
      ∙ ap (λ (k : ℕ). take k (ranking losses required)) e)
      (in_left id (ids 0 required) (take (n - required) others) (in_ids id 0 required (omega arith) (omega arith)))

  lives_in : (id : ℕ) → Lives (lives losses required keep) id → In id (chosen losses required keep)
  lives_in id e = elim (dec_lt id (length losses)) [
    | yes l ↦ among_in (chosen losses required keep) id (sym (lives_at id l) ∙ e)
    | no l ↦ absurd (true≢false (sym e ∙ get_or-eq_default (lives losses required keep) false (omega (arith, lives_long))))
  ]

  -- one that is gone is ranked behind those chosen
  gone_behind : (id : ℕ) → Gone (lives losses required keep) id
      → In id (drop (kept required keep (length losses)) (ranking losses required))
  gone_behind id g =
      let l : id < length losses = omega (arith, g.0, lives_long) in
      ⊎_elim (λ i. absurd (true≢false (sym (in_among (chosen losses required keep) id i) ∙ sym (lives_at id l) ∙ g.1)))
      (λ i. i)
      (in_parts id (kept required keep (length losses)) (ranking losses required) (ranking_in losses required id l))

  -- "Costliest survive, lower id on ties, the required prefix always."
  pub costliest_survive : Survive losses required keep (lives losses required keep)
  costliest_survive = record {
    each = lives_long;
    prefix = λ id l. lives_at id (omega arith) ∙ in_among (chosen losses required keep) id (prefix_in id l);
    many =
        as_many (Ranked losses required) (not_itself losses required) (length losses) (chosen losses required keep)
        (sorted_take (Ranked losses required) (kept required keep (length losses)) (ranking losses required)
        (ranking_sorted losses required))
        (each_take (λ i. i < length losses) (kept required keep (length losses)) (ranking losses required)
        (ranking_each losses required h))
        ∙ chosen_long;
    costliest = λ i j r l g.
        ahead losses required i j r
        (sorted_across (Ranked losses required) (kept required keep (length losses)) i j (ranking losses required)
        (ranking_sorted losses required) (lives_in i l) (gone_behind j g));
  }

  -- No others fit these words.
  pub no_others : (l : List Bool) → Survive losses required keep l → l ≡ lives losses required keep
  no_others l s = settled losses required keep l (lives losses required keep) s costliest_survive

  -- So the remap that fits them is the one.
  pub only_remap : (l : List Bool) → Survive losses required keep l → remap_from 0 l ≡ remap_of losses required keep
  only_remap l s = ap (remap_from 0) (no_others l s)

  -- ---- the remap
  -- An entry for each piece,
  pub entries : length (remap_of losses required keep) ≡ length losses
  entries = remap_long 0 (lives losses required keep) ∙ lives_long

  module _ (few : length losses ≤ gone) where
    -- each of them `u32::MAX` or the count of survivors before it.
    pub is_remap : Remap 0 (remap_of losses required keep)
    is_remap = remap_from_lem 0 (lives losses required keep) (omega (arith, lives_long))

    -- ---- how many survive, of a list of one item a piece
    module _ {A : Type 0} (l : List A) (e : length l ≡ length losses) where
      -- as many as `survivors` answers
      pub how_many : length (surviving (remap_of losses required keep) l) ≡ kept required keep (length losses)
      how_many = left_long 0 (lives losses required keep) l (omega (arith, lives_long)) (e ∙ sym lives_long)
          ∙ costliest_survive.many

      -- exactly as many as are to be kept, where no more are required; and fewer than there were, where fewer are to be kept
      pub exactly_keep : required ≤ keep → keep ≤ length losses → length (surviving (remap_of losses required keep) l) ≡ keep
      exactly_keep a b = omega (arith, how_many)

      pub strictly_shorter : required ≤ keep → keep < length l → length (surviving (remap_of losses required keep) l) < length l
      strictly_shorter a b = omega (arith, how_many, e)

    -- and so `compact_pieces` answers as many as `survivors`
    pub pieces_many : (pieces : List ℕ) → 2 * length losses ≤ length pieces → (count : ℕ)
        → 2 * count ≡ length (surviving (twice (remap_of losses required keep)) pieces) → count ≡ kept required keep (length losses)
    pieces_many pieces h count e =
        let a = pairs_left_long (remap_of losses required keep) pieces losses (omega (arith, entries)) (sym entries) in
        let b = how_many losses refl in
        omega arith

-- ---- losses are floats, and come as their bits
bits_at : (losses : List Float) (id : ℕ) → id < length losses → get_or (bits_of losses) id 0 ≡ to_bits binary64 (get_or losses id nan)
bits_at [] id h = absurd (omega arith)
bits_at (x ∷ l) zero h = refl
bits_at (x ∷ l) (suc id) h = bits_at l id (omega arith)

-- Of two that are +0 or greater, one is below the other exactly where its bits are.
pub bits_in_order : (x y : Float) → T (loss_like x) → T (loss_like y) → T (fits binary64 x) → T (fits binary64 y)
    → lt x y ≡ ltb (to_bits binary64 x) (to_bits binary64 y)
bits_in_order = bits_order binary64

-- So one that survives, and is not required, costs more as a float than one that does not, or as much and has the lower id.
pub costliest_of_floats : (losses : List Float) → AllLosses losses → (required keep : ℕ) → required ≤ length losses → (i j : ℕ)
    → required ≤ i → i < length losses → j < length losses
    → Lives (lives (bits_of losses) required keep) i → Gone (lives (bits_of losses) required keep) j
    → (lt (get_or losses j nan) (get_or losses i nan) ≡ true) ⊎ ((get_or losses j nan ≡ get_or losses i nan) × (i < j))
costliest_of_floats losses all required keep h i j r il jl a g =
    ⊎_elim (λ l. inl (more l)) (λ e. inr (level e.0, e.1))
    ((costliest_survive (bits_of losses) required keep (omega (arith, length-map losses (to_bits binary64)))).costliest i j r a g)
  where
    x : Float
    x = get_or losses i nan

    y : Float
    y = get_or losses j nan

    more : get_or (bits_of losses) j 0 < get_or (bits_of losses) i 0 → lt y x ≡ true
    more l =
        let p = bits_at losses i il in
        let q = bits_at losses j jl in
        bits_order binary64 y x (all j jl).0 (all i il).0 (all j jl).1 (all i il).1
        ∙ lt-ltb (to_bits binary64 y) (to_bits binary64 x) (omega arith)

    level : get_or (bits_of losses) j 0 ≡ get_or (bits_of losses) i 0 → y ≡ x
    level e =
        sym (of_bits-to_bits binary64 y (all j jl).1)
        ∙ ap (of_bits binary64) (sym (bits_at losses j jl) ∙ e ∙ bits_at losses i il)
        ∙ of_bits-to_bits binary64 x (all i il).1

-- ---- lists that close up
-- The pieces at the front are the survivors, as crate lattice has them: pieces and remap stay in step with the lattices.
pub pieces_left : (text remap pieces : List ℕ) → 2 * length remap ≤ length pieces
    → (count : ℕ) → 2 * count ≡ length (surviving (twice remap) pieces)
    → listed text (take (2 * count) (compacted (twice remap) pieces)) ≡ survivors remap (listed text pieces)
pieces_left text remap pieces h count e = ap (listed text) (front (twice remap) pieces (2 * count) e)
    ∙ listed_left text remap pieces h

-- The items at the front are those of the survivors, and `surviving` is crate lattice's `survivors`.
pub items_left : {A : Type 0} (remap : List ℕ) (l : List A) (count : ℕ) → count ≡ length (surviving remap l)
    → take count (compacted remap l) ≡ surviving remap l
items_left remap l count e = front remap l count e

pub same_survivors : (remap : List ℕ) (pieces : List (List ℕ)) → surviving remap pieces ≡ survivors remap pieces
same_survivors remap pieces = surviving_is remap pieces

-- ---- small cases
-- losses 5, 1, 7, 7, 0, 7: one is required, three are kept, and of three that cost as much the one with the highest id goes
pub ties : remap_of (5 ∷ 1 ∷ 7 ∷ 7 ∷ 0 ∷ 7 ∷ []) 1 3 ≡ 0 ∷ gone ∷ 1 ∷ 2 ∷ gone ∷ gone ∷ []
unfolding costlier
ties = refl

-- more are required than are to be kept
pub all_required : remap_of (0 ∷ 0 ∷ 9 ∷ []) 2 1 ≡ 0 ∷ 1 ∷ gone ∷ []
unfolding costlier
all_required = refl
