-- What the steps of a build ask and promise. Definitions only.
use Rattle.std.specs.Prelude.{◌≡◌, Bool, List, ℕ, ◌+◌, ◌*◌, ◌≤◌, ◌<◌, length, take, Option, Result, Ok, Err}
use Rattle.refusal.specs.declared.Refusal.{Refusal}
use Rattle.refusal.specs.declared.Refusal.TheVariants.{NoRoom}
use Rattle.laws.specs.Tests.{Says}
use Rattle.spans.specs.Spans.{many, bytes, bytes_before, first}
use Rattle.lattice.specs.Lattice.{Edge, cache}
use Rattle.trie.specs.Index.{Indexing, Indexes}
use Rattle.rows.specs.Word.{Holds}
use Rattle.builder.specs.Lay.{words_of, Listed, Fits}
use Rattle.fresh.specs.Build.{Lent, Results, CacheRoom, Unchanged, Fresh, Ordered, Answers}

-- ---- the trie, in the first places of both slices
pub record Front (keys ends : List ℕ) (places : ℕ) (spellings pieces : List ℕ) : Type 0 where
  pub in_keys : places ≤ length keys
  pub in_ends : places ≤ length ends
  pub indexing : Indexing (take places keys) (take places ends) spellings pieces

abbrev pub Fronted : List ℕ → ℕ → List ℕ → List ℕ → List ℕ → List ℕ → Option ℕ → Type 0
Fronted keys places spellings pieces keys' ends' r = Indexes spellings pieces (take places keys) (take places keys') (take places ends') r

-- ---- the room that suffices, whatever the words and pieces are
-- "A word has 0 to 255 bytes", "At most 16,384 words"
pub record Short (words : List ℕ) : Type 0 where
  pub few : many words ≤ 16384
  pub short : (k : ℕ) → k < many words → bytes words k ≤ 255

-- how many bytes the first k words have
abbrev pub bytes_of : List ℕ → ℕ → ℕ
bytes_of = bytes_before

-- slots for n + 2 offsets a word of n characters, and for as many edges a character as the length setting; a character has a byte or more
abbrev pub Ample : List ℕ → ℕ → Results → Type 0
Ample words setting y = Fits y.offsets y.starts y.ids y.spans (many words) (record { edges = setting * bytes_of words (many words); ends = bytes_of words (many words) + 2 * many words })

-- ---- the cache: of whatever pieces the trie is
-- there are slots, or not
abbrev pub Enough : List ℕ → List ℕ → List ℕ → List ℕ → ℕ → Results → Bool → Type 0
Enough keys ends text words setting y r = (f : ℕ → List ℕ) (count : ℕ) → Holds keys ends f count → Says r (CacheRoom (cache setting (first f count) (words_of text words (many words))) y)

pub record Laying (keys ends text words : List ℕ) (setting : ℕ) : Type 0 where
  pub few : length keys ≤ 4294967295
  pub level : length ends ≡ length keys
  pub narrow : setting ≤ 32
  pub listed : Listed text words
  pub f : ℕ → List ℕ
  pub count : ℕ
  pub holds : Holds keys ends f count

abbrev pub LaysTo : List (List (List Edge)) → Results → Results → Result ℕ Refusal → Type 0
LaysTo lattices y y' (Ok count) = CacheRoom lattices y × Fresh lattices y y' count
LaysTo lattices y y' (Err refusal) = (refusal ≡ NoRoom 3) × (CacheRoom lattices y → ⊥) × Unchanged y y'

abbrev pub Lays : List ℕ → List ℕ → List ℕ → List ℕ → ℕ → Results → Results → Result ℕ Refusal → Type 0
Lays keys ends text words setting y y' r = (f : ℕ → List ℕ) (count : ℕ) → Holds keys ends f count → LaysTo (cache setting (first f count) (words_of text words (many words))) y y' r

-- ---- both, of words and pieces that are in order; the work table is no part of it any more
abbrev pub InOrder : Lent → List ℕ → List ℕ → Type 0
InOrder x keys ends = (table : List ℕ) × Ordered x (record { keys = keys; ends = ends; table = table })

abbrev pub Follows : Lent → Results → List ℕ → List ℕ → Results → Result ℕ Refusal → Type 0
Follows x y keys ends y' r = (table : List ℕ) → Ordered x (record { keys = keys; ends = ends; table = table }) → Answers x y (record { keys = keys; ends = ends; table = table }) y' r
