-- Demand 3, first part, whole: from the build through any number of prunings. And no second outcome of a build fits.
-- Assumes nothing.
use mathlib.Core.Path.{◌≡◌, refl, sym, ap, ◌∙◌, subst}
use mathlib.Core.List.{List, ◌++◌}
use Prim.Native.Nat.{ℕ, ◌-◌}
use native.Mathlib.Omega.{arith}
use lib.ListN.{length, replicate, length-append, length-replicate}
use Rattle.laws.proofs.Outcome.{one_outcome}
use Rattle.refusal.specs.declared.Refusal.{Refusal}
use Rattle.spans.specs.Spans.{many, chars_at, listed}
use Rattle.lattice.specs.Pieces.{Distinct}
use Rattle.lattice.specs.Lattice.{Edge, cache}
use Rattle.lattice.specs.Layout.{flat}
use Rattle.lattice.specs.Pruning.{Prunings, no_pruning, one_more, survivors, survivors_of}
use Rattle.lattice.proofs.Survivors.{still_distinct}
use Rattle.trie.proofs.Same.{length_first}
use Rattle.inputs.proofs.Theorems.{not_both, one_why, listed_distinct}
use Rattle.std.specs.Prelude.{Result, Ok, Err}
use Rattle.fresh.specs.Slots.{filled}
use Rattle.fresh.specs.Build.{Lent, Results, Work, TrieRoom, afresh, CacheRoom, Ordered, Why, not_in_order, no_trie, no_cache, Fresh, Accepted, Answers, Zeros}
use Rattle.cache.proofs.Theorems.{Calls, no_call, one_call, Built, in_step, still_built, same_results}

-- ---- "for any UTF-8 words, a length setting and any list of distinct UTF-8 pieces within bounds", with room for all; the
-- slices of starts and ids are equally long, as a cache's are
pub record Ready (x : Lent) (y : Results) (w : Work) : Type 0 where
  pub in_order : Ordered x w
  pub trie_room : TrieRoom x w
  pub cache_room : CacheRoom (afresh x) y
  pub equally_many : length y.starts ≡ length y.ids

-- such a build is not refused
never_refused : {x : Lent} {y : Results} {w : Work} {r : Refusal} → Ready x y w → Why x y w r → ⊥
never_refused ready (not_in_order n) = not_both n ready.in_order
never_refused ready (no_trie o n) = n ready.trie_room
never_refused ready (no_cache o t n) = n ready.cache_room

-- ---- the slices are these lattices, laid out from slot 0, and zeros behind: nothing else is in them
pub record Exactly (lattices : List (List (List Edge))) (z : Results) : Type 0 where
  pub offsets_are : z.offsets ≡ filled (flat lattices).ends (length z.offsets)
  pub starts_are : z.starts ≡ filled (flat lattices).starts (length z.starts)
  pub ids_are : z.ids ≡ filled (flat lattices).ids (length z.ids)
  pub spans_are : z.spans ≡ filled (flat lattices).spans (length z.spans)

self : (front : List ℕ) (n : ℕ) {z : List ℕ} → z ≡ filled front n → z ≡ filled front (length z)
self front n {z} e =
    let a = ap length e in
    let b = length-append front (replicate (n - length front) 0) in
    let c = length-replicate {A = ℕ} (n - length front) 0 in
    let d : n - length front ≡ length z - length front = omega arith in
    e ∙ ap (λ (k : ℕ). front ++ replicate k 0) d

exactly : {lattices : List (List (List Edge))} {y z : Results} {count : ℕ} → Fresh lattices y z count → Exactly lattices z
exactly {lattices} {y} h =
    record {
      offsets_are = self (flat lattices).ends (length y.offsets) h.offsets_are;
      starts_are = self (flat lattices).starts (length y.starts) h.starts_are;
      ids_are = self (flat lattices).ids (length y.ids) h.ids_are;
      spans_are = self (flat lattices).spans (length y.spans) h.spans_are;
    }

-- through any number of prunings
through : (setting : ℕ) {pieces remaps : List (List ℕ)} → Distinct pieces → Prunings pieces remaps → (words : List (List ℕ)) {y z : Results} → Calls (length words) remaps y z
    → Built setting pieces words y → Exactly (cache setting pieces words) y → Exactly (cache setting (survivors_of remaps pieces) words) z
through setting d no_pruning words no_call b e = e
through setting d (one_more {pieces} {remap} {remaps} m l s) words (one_call {x = x} {y = y} r call calls) b e =
    let p = in_step setting m d l words b r call in
    through setting (still_distinct remap d) s words calls (still_built setting (survivors remap pieces) words x y p.count b.equally_many p.afresh) (exactly p.afresh)

-- ---- THE THEOREM. Words and pieces are lent as they may be, and a build answers r and leaves y. Then any number of calls of
-- `retain` follow, one for each remap in which survivors keep their order, and leave z. Then z is, edge for edge and offset for
-- offset, the cache of the words over the survivors, and zeros behind. The first remaps of a list are a list of remaps too, so
-- it holds after each pruning.
pub record Kept (x : Lent) (remaps : List (List ℕ)) (z : Results) : Type 0 where
  pub in_step : Exactly (cache x.setting (survivors_of remaps (listed x.spellings x.pieces)) (listed x.text x.words)) z

pub always_in_step : {x : Lent} {y : Results} {w : Work} → Ready x y w → {y' : Results} (r : Result ℕ Refusal) → Answers x y w y' r
    → {remaps : List (List ℕ)} → Prunings (listed x.spellings x.pieces) remaps → {z : Results} → Calls (many x.words) remaps y' z → Kept x remaps z
always_in_step {x} {y} {w} ready (Err refusal) answers prunings calls = absurd (never_refused ready answers.0)
always_in_step {x} {y} {w} ready {y'} (Ok count) answers {remaps} prunings {z} calls =
    let pieces = listed x.spellings x.pieces in
    let words = listed x.text x.words in
    record {
      in_step =
          through x.setting (listed_distinct x.spellings x.pieces ready.in_order.pieces_good ready.in_order.once) prunings words
          (subst (λ (n : ℕ). Calls n remaps y' z) (sym (length_first (chars_at x.text x.words) (many x.words))) calls)
          (still_built x.setting pieces words y y' count ready.equally_many answers.fresh)
          (exactly answers.fresh);
    }

-- And so it is what a build of the survivors leaves, wherever their texts stand, in slices of the same lengths.
same_filled : (front : List ℕ) {a b : List ℕ} → length a ≡ length b → a ≡ filled front (length a) → b ≡ filled front (length b) → a ≡ b
same_filled front n p q = p ∙ ap (filled front) n ∙ sym q

pub record SameLengths (y z : Results) : Type 0 where
  pub offsets_long : length y.offsets ≡ length z.offsets
  pub starts_long : length y.starts ≡ length z.starts
  pub ids_long : length y.ids ≡ length z.ids
  pub spans_long : length y.spans ≡ length z.spans

pub as_built_afresh : {x : Lent} {remaps : List (List ℕ)} {z : Results} → Kept x remaps z
    → {x' : Lent} {y : Results} {w : Work} {y' : Results} (count : ℕ) → Answers x' y w y' (Ok count)
    → x'.setting ≡ x.setting → listed x'.spellings x'.pieces ≡ survivors_of remaps (listed x.spellings x.pieces) → listed x'.text x'.words ≡ listed x.text x.words
    → SameLengths z y' → z ≡ y'
as_built_afresh {x} {remaps} {z} kept {x'} {y} {w} {y'} count answers s p t same =
    let lattices = cache x.setting (survivors_of remaps (listed x.spellings x.pieces)) (listed x.text x.words) in
    let e : afresh x' ≡ lattices = λ i. cache (s i) (p i) (t i) in
    let a = kept.in_step in
    let b : Exactly lattices y' = subst (λ (l : List (List (List Edge))). Exactly l y') e (exactly answers.fresh) in
    same_results
    (same_filled (flat lattices).ends same.offsets_long a.offsets_are b.offsets_are)
    (same_filled (flat lattices).starts same.starts_long a.starts_are b.starts_are)
    (same_filled (flat lattices).ids same.ids_long a.ids_are b.ids_are)
    (same_filled (flat lattices).spans same.spans_long a.spans_are b.spans_are)

-- ---- no second outcome
module _ {x : Lent} {y : Results} {w : Work} where
  one_reason : {r s : Refusal} → Why x y w r → Why x y w s → r ≡ s
  one_reason (not_in_order a) (not_in_order b) = one_why a b
  one_reason (not_in_order a) (no_trie o n) = absurd (not_both a o)
  one_reason (not_in_order a) (no_cache o t n) = absurd (not_both a o)
  one_reason (no_trie o n) (not_in_order b) = absurd (not_both b o)
  one_reason (no_trie o n) (no_trie p m) = refl
  one_reason (no_trie o n) (no_cache p t m) = absurd (n t)
  one_reason (no_cache o t n) (not_in_order b) = absurd (not_both b o)
  one_reason (no_cache o t n) (no_trie p m) = absurd (m t)
  one_reason (no_cache o t n) (no_cache p u m) = refl

  accepted_not : {y' : Results} {count : ℕ} {r : Refusal} → Accepted x y w y' count → Why x y w r → ⊥
  accepted_not a (not_in_order n) = not_both n a.in_order
  accepted_not a (no_trie o n) = n a.trie_room
  accepted_not a (no_cache o t n) = n a.cache_room

pub no_second : (x : Lent) (y : Results) (w : Work) {y' y'' : Results} (r s : Result ℕ Refusal) → Answers x y w y' r → Answers x y w y'' s → (y' ≡ y'') × (r ≡ s)
no_second x y w (Ok a) (Ok b) p q =
    let h = p.fresh in
    let k = q.fresh in
    (same_results (one_outcome h.offsets_are k.offsets_are) (one_outcome h.starts_are k.starts_are) (one_outcome h.ids_are k.ids_are) (one_outcome h.spans_are k.spans_are), ap (λ (n : ℕ). Ok n) (one_outcome h.edges k.edges))
no_second x y w (Ok a) (Err s) p q = absurd (accepted_not p q.0)
no_second x y w (Err r) (Ok b) p q = absurd (accepted_not q p.0)
no_second x y w (Err r) (Err s) p q =
    let h = p.1 in
    let k = q.1 in
    (same_results (one_outcome h.offsets_kept k.offsets_kept) (one_outcome h.starts_kept k.starts_kept) (one_outcome h.ids_kept k.ids_kept) (one_outcome h.spans_kept k.spans_kept), ap (λ (r : Refusal). Err r) (one_reason p.0 q.0))

-- and the work slices are zero
pub one_work : {w w' w'' : Work} → Zeros w w' → Zeros w w'' → w' ≡ w''
one_work p q =
    let k = one_outcome p.keys_zero q.keys_zero in
    let e = one_outcome p.ends_zero q.ends_zero in
    let t = one_outcome p.table_zero q.table_zero in
    λ i. record { keys = k i; ends = e i; table = t i }
