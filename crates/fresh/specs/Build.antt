-- What a build is lent, when it is refused, and what it leaves. Definitions only.
use Rattle.std.specs.Prelude.{◌≡◌, List, ℕ, ◌+◌, ◌/◌, ◌≤◌, min, length, replicate, Result, Ok, Err}
use Rattle.refusal.specs.declared.Refusal.{Refusal}
use Rattle.refusal.specs.declared.Refusal.TheVariants.{NoRoom}
use Rattle.spans.specs.Spans.{listed}
use Rattle.lattice.specs.Lattice.{Edge, cache}
use Rattle.lattice.specs.Layout.{flat}
use Rattle.trie.specs.Prefixes.{prefixes_of}
use Rattle.trie.specs.Listed.{newest}
use Rattle.inputs.specs.Inputs.{InOrder, Why as NotInOrder}
use Rattle.fresh.specs.Slots.{Holds, Kept}

-- what is lent: the length setting, the words and their text, the pieces and theirs; and the slices
pub record Lent : Type 0 where
  pub setting : ℕ
  pub text : List ℕ
  pub words : List ℕ
  pub spellings : List ℕ
  pub pieces : List ℕ

pub record Results : Type 0 where
  pub offsets : List ℕ
  pub starts : List ℕ
  pub ids : List ℕ
  pub spans : List ℕ

pub record Work : Type 0 where
  pub keys : List ℕ
  pub ends : List ℕ
  pub table : List ℕ

-- the smaller of two numbers
abbrev pub smaller : ℕ → ℕ → ℕ
smaller a b = min a b

-- "the lent trie places": as many as both slices have, and as a node's number of 32 bits can name
abbrev pub places : Work → ℕ
places w = smaller (smaller (length w.keys) (length w.ends)) 4294967295

-- "distinct non-empty prefixes plus the root exceed half the lent trie places", or not
abbrev pub TrieRoom : Lent → Work → Type 0
TrieRoom x w = length (prefixes_of (newest x.spellings x.pieces)) + 1 ≤ places w / 2

-- the cache that is to be built, by its characters
abbrev pub afresh : Lent → List (List (List Edge))
afresh x = cache x.setting (listed x.spellings x.pieces) (listed x.text x.words)

-- "edges, offsets .. exceed their slots", or not
pub record CacheRoom (lattices : List (List (List Edge))) (y : Results) : Type 0 where
  pub in_offsets : length (flat lattices).ends ≤ length y.offsets
  pub in_starts : length (flat lattices).starts ≤ length y.starts
  pub in_ids : length (flat lattices).ids ≤ length y.ids
  pub in_spans : length (flat lattices).spans ≤ length y.spans

-- the words and pieces are in order
abbrev pub Ordered : Lent → Work → Type 0
Ordered x w = InOrder x.setting x.text x.words x.spellings x.pieces w.table

-- 2, 7 at 0, 3, 14, 15, as the words and pieces are; then 7 at 2; then 7 at 3
pub data Why (x : Lent) (y : Results) (w : Work) : Refusal → Type 0 where
  not_in_order : {refusal : Refusal} → NotInOrder x.setting x.text x.words x.spellings x.pieces w.table refusal → Why x y w refusal
  no_trie : Ordered x w → (TrieRoom x w → ⊥) → Why x y w (NoRoom 2)
  no_cache : Ordered x w → TrieRoom x w → (CacheRoom (afresh x) y → ⊥) → Why x y w (NoRoom 3)

-- "A refusal changes no result slice, cache or path"; "Cache slots past the last used hold zeros after an accepted build"
abbrev pub Unchanged : Results → Results → Type 0
Unchanged y y' = Kept y.offsets y.starts y.ids y.spans y'.offsets y'.starts y'.ids y'.spans

abbrev pub Fresh : List (List (List Edge)) → Results → Results → ℕ → Type 0
Fresh lattices y y' count = Holds lattices y.offsets y.starts y.ids y.spans y'.offsets y'.starts y'.ids y'.spans count

pub record Accepted (x : Lent) (y : Results) (w : Work) (y' : Results) (count : ℕ) : Type 0 where
  pub in_order : Ordered x w
  pub trie_room : TrieRoom x w
  pub cache_room : CacheRoom (afresh x) y
  pub fresh : Fresh (afresh x) y y' count

abbrev pub Answers : Lent → Results → Work → Results → Result ℕ Refusal → Type 0
Answers x y w y' (Ok count) = Accepted x y w y' count
Answers x y w y' (Err refusal) = Why x y w refusal × Unchanged y y'

-- "Work slices hold zeros after every call, accepted or refused"
pub record Zeros (w w' : Work) : Type 0 where
  pub keys_zero : w'.keys ≡ replicate (length w.keys) 0
  pub ends_zero : w'.ends ≡ replicate (length w.ends) 0
  pub table_zero : w'.table ≡ replicate (length w.table) 0
