-- What the demands say of training, beyond its contract in crates/training/specs/Train.antt. Definitions only.
use Rattle.std.specs.Prelude.{◌≡◌, Bool, false, List, ◌++◌, ℕ, ◌+◌, ◌≤◌, ◌<◌, length, drop, Result, Ok}
use Rattle.refusal.specs.declared.Refusal.{Refusal}
use Rattle.refusal.specs.declared.Refusal.TheVariants.{BadFrame, BadSetting, BadWord, RepeatedWord, TooHeavy, EmptyCorpus, NoRoom, VocabTooSmall, BadLattice, BadScore, NoPath, PathBroken, BadRemap, BadPiece, RepeatedPiece}
use Rattle.spans.specs.Spans.{many}
use Rattle.ranking.specs.Seed.{Seeded}
use Rattle.lattice.specs.Lattice.{Edge}
use Rattle.lattice.specs.Layout.{joined}
use Rattle.lattice.specs.Written.{over}
use Rattle.lattice.specs.Pruning.{retained}
use Rattle.listing.specs.Start as start
use Rattle.copied.specs.Put.{spans_from}
use Rattle.model.specs.Model.{Model, Task, remap_to, keep_next, stops, stalled}
use Rattle.model.specs.Loop.{next}
use Rattle.begun.specs.First.{task_of}
use Rattle.make.specs.declared.Trained.{Trained}
use Rattle.make.specs.Make.{Results, final, token_bytes, token_scores}

-- ---- demand 1: the rows of the table that training gives, with the places they have
abbrev pub InTable : start.Lent → Refusal → Type 0
-- "1 vocab, 2 seed, 3 piece length, 4 EM, 5 specials"
InTable x (BadSetting place) = (1 ≤ place) × (place ≤ 5)
-- "word index"
InTable x (BadWord word) = word < many x.words
InTable x (RepeatedWord word) = word < many x.words
-- "0"
InTable x TooHeavy = Unit {0}
InTable x EmptyCorpus = Unit {0}
-- "room"; 5 is the program's
InTable x (NoRoom room) = room ≤ 4
-- "required + specials": a `vocab_size` that would do, which the one lent is below
InTable x (VocabTooSmall needed) = x.settings.vocab_size < needed
InTable x (BadFrame line) = ⊥
InTable x (BadLattice word) = ⊥
InTable x (BadScore id) = ⊥
InTable x NoPath = ⊥
InTable x (PathBroken position) = ⊥
InTable x (BadRemap entry) = ⊥
InTable x (BadPiece id) = ⊥
InTable x (RepeatedPiece id) = ⊥

-- ---- an accepted call's answer: so many tokens, so many required pieces, and whether it stalled
abbrev pub given : ℕ → ℕ → Bool → Result Trained Refusal
given tokens required stalled = Ok (record { tokens = tokens; required = required; stalled = stalled })

-- ---- demand 2: the tokens are those that seeding, the rounds and the last EM give, with each count taken from its list
pub record TheTokens (x : start.Lent) (y y' : Results) (count required : ℕ) (stall : Bool) : Type 0 where
  -- the seed list, of which there is one
  pub pieces : List (List ℕ)
  pub seeded : Seeded (start.corpus x) x.settings.max_piece_chars x.settings.min_frequency (start.pool x) pieces required
  -- "Specials come first, score 0."
  pub count_is : count ≡ many x.specials + length (final x pieces required).pieces
  pub bytes_are : y'.bytes ≡ over (joined (token_bytes x (final x pieces required))) y.bytes
  pub spans_are : y'.tokens ≡ over (spans_from 0 (token_bytes x (final x pieces required))) y.tokens
  pub scores_are : y'.scores ≡ token_scores x (final x pieces required) ++ drop (length (token_scores x (final x pieces required))) y.scores
  -- "stalled, over target"
  pub stalls : stall ≡ stalled (task_of x required) (final x pieces required)

-- ---- demand 3, inside training: the lattices at the loop's head, pruned each time as the pieces are and never built again
pub data Carries (t : Task) : Model → List (List (List Edge)) → Model → List (List (List Edge)) → Type 0 where
  here : {m : Model} {kept : List (List (List Edge))} → Carries t m kept m kept
  further : {m last : Model} {kept left : List (List (List Edge))} → stops t (length m.pieces) ≡ false
      → Carries t (next t m) (retained (remap_to t (keep_next t (length m.pieces)) m) kept) last left → Carries t m kept last left
