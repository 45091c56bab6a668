-- A word laid out behind those before it, and all words of a list. Definitions only.
use Rattle.std.specs.Prelude.{◌≡◌, List, [], ◌∷◌, ◌++◌, ℕ, ◌+◌, ◌*◌, ◌≤◌, ◌<◌, length, take, drop}
use Rattle.std.proofs.lemmas.List.Edits.{sets}
use Rattle.spans.specs.Spans.{many, chars_at, first}
use Rattle.spans.specs.Check.{AllGood}
use Rattle.lattice.specs.Lattice.{cache}
use Rattle.lattice.specs.Layout.{joined, offsets, flat}
use Rattle.lattice.specs.Written.{Written}
use Rattle.rows.specs.Grid.{lattice_in}
use Rattle.rows.specs.Word.{Holds}
use Rattle.builder.specs.Put.{Put, Room, Grid}
use Rattle.builder.specs.declared.Sizes.{Sizes}

-- slots for a word's offsets from `at` on, and for its edges from `write` on
pub record Part (offs starts ids grid : List ℕ) (setting n at write : ℕ) : Type 0 where
  pub grid_is : Grid grid setting n
  pub in_offsets : at + (n + 2) ≤ length offs
  pub room : Room starts ids write (length (joined (lattice_in setting grid n)))

pub record Parted (offs starts ids grid : List ℕ) (setting n at write : ℕ) (offs' starts' ids' : List ℕ) (next : ℕ) : Type 0 where
  pub edges : Put starts ids write (joined (lattice_in setting grid n)) starts' ids' next
  pub offsets_are : offs' ≡ take at offs ++ (offsets (lattice_in setting grid n) ++ drop (at + (n + 2)) offs)

-- four numbers of a span, each of 32 bits
pub record Numbers (spans : List ℕ) (k from to at n : ℕ) : Type 0 where
  pub in_spans : 4 * k + 3 < length spans
  pub small_from : from < 4294967296
  pub small_to : to < 4294967296
  pub small_at : at < 4294967296
  pub small_n : n < 4294967296

-- word k, of n characters
pub record Word (offs starts ids spans grid : List ℕ) (setting n k : ℕ) (so : Sizes) : Type 0 where
  pub part : Part offs starts ids grid setting n so.ends so.edges
  pub in_spans : 4 * k + 3 < length spans
  pub few_edges : so.edges ≤ 65280 * k
  pub few_ends : so.ends ≤ 257 * k
  pub few : k < 16384

pub record Laid (offs starts ids spans grid : List ℕ) (setting n k : ℕ) (so : Sizes) (offs' starts' ids' spans' : List ℕ) (next : Sizes) : Type 0 where
  pub parted : Parted offs starts ids grid setting n so.ends so.edges offs' starts' ids' next.edges
  pub spans_are : spans' ≡ sets spans (4 * k) (so.edges ∷ next.edges ∷ so.ends ∷ n ∷ [])
  pub ends_are : next.ends ≡ so.ends + (n + 2)

-- ---- all words: of whatever pieces the trie is
abbrev pub words_of : List ℕ → List ℕ → ℕ → List (List ℕ)
words_of text words k = first (chars_at text words) k

-- how many slots the cache of the first k words wants
pub record Wants (setting : ℕ) (pieces ws : List (List ℕ)) (so : Sizes) : Type 0 where
  pub edges_are : so.edges ≡ length (flat (cache setting pieces ws)).ids
  pub ends_are : so.ends ≡ length (flat (cache setting pieces ws)).ends

abbrev pub Counts : List ℕ → List ℕ → List ℕ → List ℕ → ℕ → Sizes → Type 0
Counts keys ends text words setting so = (f : ℕ → List ℕ) (count : ℕ) → Holds keys ends f count → Wants setting (first f count) (words_of text words (many words)) so

-- the words of a list, checked
pub record Listed (text words : List ℕ) : Type 0 where
  pub good : AllGood text words 255 (many words)
  pub few : many words ≤ 16384

-- slots for all
pub record Fits (offs starts ids spans : List ℕ) (words : ℕ) (so : Sizes) : Type 0 where
  pub in_offsets : so.ends ≤ length offs
  pub in_starts : so.edges ≤ length starts
  pub in_ids : so.edges ≤ length ids
  pub in_spans : 4 * words ≤ length spans

pub record Building (keys ends text words : List ℕ) (setting : ℕ) (offs starts ids spans : List ℕ) : Type 0 where
  pub listed : Listed text words
  pub f : ℕ → List ℕ
  pub count : ℕ
  pub holds : Holds keys ends f count
  pub so : Sizes
  pub wants : Wants setting (first f count) (words_of text words (many words)) so
  pub fits : Fits offs starts ids spans (many words) so

abbrev pub Builds : List ℕ → List ℕ → List ℕ → List ℕ → ℕ → List ℕ → List ℕ → List ℕ → List ℕ → List ℕ → List ℕ → List ℕ → List ℕ → Sizes → Type 0
Builds keys ends text words setting offs starts ids spans offs' starts' ids' spans' so =
    (f : ℕ → List ℕ) (count : ℕ) → Holds keys ends f count
    → Written (cache setting (first f count) (words_of text words (many words))) offs starts ids spans offs' starts' ids' spans' so.edges × Wants setting (first f count) (words_of text words (many words)) so
