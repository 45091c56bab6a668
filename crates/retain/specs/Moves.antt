-- What the steps of retain do, by the numbers of edges: the contracts of the functions below `retain_core`. Definitions only.
use Rattle.std.specs.Prelude.{◌≡◌, cond, List, [], ◌∷◌, ◌++◌, map, ℕ, zero, suc, ◌+◌, ◌-◌, ◌≤◌, ◌<◌, eqb, length, get_or, set, take, drop}
use Rattle.std.proofs.lemmas.List.Edits.{sets}
use Rattle.lattice.specs.Pruning.{gone}

-- edge k's new id; and k itself where it stays
abbrev pub new_id : List ℕ → List ℕ → ℕ → ℕ
new_id remap ids k = get_or remap (get_or ids k 0) 0

abbrev pub stay : List ℕ → List ℕ → ℕ → List ℕ
stay remap ids k = cond (eqb (new_id remap ids k) gone) [] (k ∷ [])

-- those of the n edges from k on that stay; and those from k up to, not with, j
abbrev pub kept : List ℕ → List ℕ → ℕ → ℕ → List ℕ
kept remap ids k zero = []
kept remap ids k (suc n) = kept remap ids k n ++ stay remap ids (k + n)

abbrev pub kept_to : List ℕ → List ℕ → ℕ → ℕ → List ℕ
kept_to remap ids k j = kept remap ids k (j - k)

-- how many of the first edges from `base` on stay: what becomes of an offset
abbrev pub rank : List ℕ → List ℕ → ℕ → ℕ → ℕ
rank remap ids base offset = length (kept_to remap ids base (base + offset))

-- the edges of these numbers have moved to `write` and on, with their new ids; `next` is the next free place
pub record Moved (starts ids remap : List ℕ) (write : ℕ) (edges starts' ids' : List ℕ) (next : ℕ) : Type 0 where
  pub count : next ≡ write + length edges
  pub starts_are : starts' ≡ sets starts write (map (λ k. get_or starts k 0) edges)
  pub ids_are : ids' ≡ sets ids write (map (new_id remap ids) edges)

-- ---- what each function requires
-- an edge can be read, and has a remap entry; its place to be lies no further than itself
pub record Spot (starts ids remap : List ℕ) (write edge : ℕ) : Type 0 where
  pub behind : write ≤ edge
  pub in_starts : edge < length starts
  pub in_ids : edge < length ids
  pub entry : get_or ids edge 0 < length remap

-- and so of the edges from `from` up to `to`
pub record Run (starts ids remap : List ℕ) (write from to : ℕ) : Type 0 where
  pub behind : write ≤ from
  pub ordered : from ≤ to
  pub in_starts : to ≤ length starts
  pub in_ids : to ≤ length ids
  pub entries : (k : ℕ) → from ≤ k → k < to → get_or ids k 0 < length remap

-- and of those that end at a position, once the edges of the positions before have moved
pub record End (offsets starts ids remap : List ℕ) (base home write position : ℕ) : Type 0 where
  pub inside : position + 1 < length offsets
  pub lower : home ≤ write
  pub upper : write ≤ home + get_or offsets position 0
  pub behind : home ≤ base
  pub rises : get_or offsets position 0 ≤ get_or offsets (position + 1) 0
  pub in_starts : base + get_or offsets (position + 1) 0 ≤ length starts
  pub in_ids : base + get_or offsets (position + 1) 0 ≤ length ids
  pub entries : (k : ℕ) → base + get_or offsets position 0 ≤ k → k < base + get_or offsets (position + 1) 0 → get_or ids k 0 < length remap

-- and of a word's, with its "n+2 offsets, rising from 0 to the edge count"
pub record Word (offsets starts ids remap : List ℕ) (base home n : ℕ) : Type 0 where
  pub many : length offsets ≡ n + 2
  pub first : get_or offsets 0 0 ≡ 0
  pub rises : (position : ℕ) → position ≤ n → get_or offsets position 0 ≤ get_or offsets (position + 1) 0
  pub behind : home ≤ base
  pub in_starts : base + get_or offsets (n + 1) 0 ≤ length starts
  pub in_ids : base + get_or offsets (n + 1) 0 ≤ length ids
  pub entries : (k : ℕ) → base ≤ k → k < base + get_or offsets (n + 1) 0 → get_or ids k 0 < length remap

-- a span is four numbers: where a word's edges begin and end, where its offsets begin, and its number of characters
abbrev pub edges_from : List ℕ → ℕ → ℕ
edges_from spans at = get_or spans at 0

abbrev pub edges_to : List ℕ → ℕ → ℕ
edges_to spans at = get_or spans (at + 1) 0

abbrev pub ends_from : List ℕ → ℕ → ℕ
ends_from spans at = get_or spans (at + 2) 0

abbrev pub chars : List ℕ → ℕ → ℕ
chars spans at = get_or spans (at + 3) 0

-- and of the word that a span tells of
pub record Span (offsets starts ids spans remap : List ℕ) (write at : ℕ) : Type 0 where
  pub in_spans : at + 3 < length spans
  pub in_offsets : ends_from spans at + (chars spans at + 2) ≤ length offsets
  pub word : Word (take (chars spans at + 2) (drop (ends_from spans at) offsets)) starts ids remap (edges_from spans at) write (chars spans at)
  pub whole : edges_to spans at ≡ edges_from spans at + get_or offsets (ends_from spans at + (chars spans at + 1)) 0

-- that word has moved: its edges, its offsets' values and its span
pub record Shifted (offsets starts ids spans remap : List ℕ) (write at : ℕ) (offsets' starts' ids' spans' : List ℕ) (next : ℕ) : Type 0 where
  pub moved : Moved starts ids remap write (kept_to remap ids (edges_from spans at) (edges_to spans at)) starts' ids' next
  pub offsets_are : offsets' ≡ take (ends_from spans at) offsets ++ (map (rank remap ids (edges_from spans at)) (take (chars spans at + 2) (drop (ends_from spans at) offsets)) ++ drop (ends_from spans at + (chars spans at + 2)) offsets)
  pub spans_are : spans' ≡ set (set spans at write) (at + 1) next
