-- When a cache in slices is well formed: document 01, "and a cache's words follow each other from slot 0". Definitions only.
use Rattle.std.specs.Prelude.{◌≡◌, List, ℕ, zero, suc, ◌+◌, ◌*◌, ◌≤◌, ◌<◌, length, get_or, Result, Ok, Err}
use Rattle.formed.specs.declared.Span.{Span}
use Rattle.formed.specs.Formed.{Formed}

-- a word has a span, four numbers
abbrev pub Present : List ℕ → ℕ → Type 0
Present spans word = 4 * word + 4 ≤ length spans

abbrev pub span_at : List ℕ → ℕ → Span
span_at spans word = record { from = get_or spans (4 * word) 0; to = get_or spans (4 * word + 1) 0; at = get_or spans (4 * word + 2) 0; n = get_or spans (4 * word + 3) 0 }

-- where the words before end, in edges and in offsets
abbrev pub edges_before : List ℕ → ℕ → ℕ
edges_before spans zero = 0
edges_before spans (suc word) = (span_at spans word).to

abbrev pub offsets_before : List ℕ → ℕ → ℕ
offsets_before spans zero = 0
offsets_before spans (suc word) = (span_at spans word).at + (span_at spans word).n + 2

pub record WordFormed (starts ids ends spans : List ℕ) (pieces word : ℕ) : Type 0 where
  pub present : Present spans word
  pub edges_follow : (span_at spans word).from ≡ edges_before spans word
  pub offsets_follow : (span_at spans word).at ≡ offsets_before spans word
  pub formed : Formed starts ids ends pieces (span_at spans word)

abbrev pub CacheFormed : List ℕ → List ℕ → List ℕ → List ℕ → ℕ → ℕ → Type 0
CacheFormed starts ids ends spans pieces words = (word : ℕ) → word < words → WordFormed starts ids ends spans pieces word

-- the first word that is not as it should be
pub record FirstBad (starts ids ends spans : List ℕ) (pieces words word : ℕ) : Type 0 where
  pub within : word < words
  pub before : CacheFormed starts ids ends spans pieces word
  pub bad : WordFormed starts ids ends spans pieces word → ⊥

abbrev pub Answers : List ℕ → List ℕ → List ℕ → List ℕ → ℕ → ℕ → Result (Unit {0}) ℕ → Type 0
Answers starts ids ends spans pieces words (Ok _) = CacheFormed starts ids ends spans pieces words
Answers starts ids ends spans pieces words (Err word) = FirstBad starts ids ends spans pieces words word
