-- The demands as theorems: the file to open first. Each comment says which sentence its theorem is. The words of the theorems are
-- definitions of specs/; those of demand 3 are also the records beside its theorems, in crates/cache/proofs and
-- crates/one_word/proofs. Assumes nothing.
use mathlib.Core.Path.{◌≡◌, refl, sym, ap, ◌∙◌, subst}
use mathlib.Core.Bool.{Bool, false}
use mathlib.Core.Logic.{◌↔◌}
use mathlib.Core.List.{List, ◌++◌, map}
use Prim.Native.Nat.{ℕ, ◌+◌, ◌-◌, ◌≤◌}
use native.Mathlib.Omega.{arith}
use lib.Dec.{T, ltb}
use lib.Ieee.{binary64, fits, le}
use lib.ListN.{length, take, length-append, length-map}
use lib.Seq.{take-append_seam}
use Rattle.std.specs.Prelude.{Result, Ok, Err}
use Rattle.refusal.specs.declared.Refusal.{Refusal}
use Rattle.refusal.specs.Numbers.{number_of}
use Rattle.utf8.specs.Encode.{spelling}
use Rattle.spans.specs.Spans.{many, octets, listed}
use Rattle.lattice.specs.Lattice.{Edge}
use Rattle.lattice.specs.Pieces.{Distinct}
use Rattle.lattice.specs.Pruning.{Prunings, survivors_of}
use Rattle.trie.proofs.Same.{length_first}
use Rattle.listing.specs.Start as start
use Rattle.fresh.specs.Build as fresh
use Rattle.cache.proofs.Theorems.{Calls}
use Rattle.cache.proofs.Builds as builds
use Rattle.cut.specs.declared.Cut.{Cut}
use Rattle.one_word.specs.Word as word
use Rattle.one_word.proofs.Theorems as one_word
use Rattle.keep.proofs.Below.{one}
use Rattle.model.specs.Model.{Model, Task, lattices, improved, rounds as allRounds}
use Rattle.model.specs.Loop.{Sound}
use Rattle.model.proofs.Theorems.{trained_pieces, rounds_front, rounds_distinct, ends_at_target as at_Target, never_stalls}
use Rattle.begun.specs.First.{first_model, target_in, task_of}
use Rattle.begun.proofs.Distinct.{seeded_distinct}
use Rattle.tokens.specs.Tokens.{texts_of}
use Rattle.make.specs.Make.{Results, final}
use Rattle.make.specs.declared.Trained.{Trained}
use Rattle.training.specs.Train.{Work, seeding_work, Seeds, Why, Gives, Answers, Zeros}
use Rattle.demands.specs.Demands.{InTable, given, TheTokens, Carries}
use Rattle.demands.proofs.NoSecond as second
use Rattle.demands.proofs.Rows.{row, row_number}
use Rattle.demands.proofs.Rounds as rounds

-- ==== Demand 1, of training. `training::train` asks nothing of its caller. It ends with an r, results y' and work slices w' for
-- which `Answers x w y y' r` and `Zeros w w'` hold.
module _ (x : start.Lent) (w : Work) (y y' : Results) where
  -- "A refusal leaves result tables untouched."
  pub refusal_untouched : {refusal : Refusal} → Answers x w y y' (Err refusal) → y' ≡ y
  refusal_untouched a = a.1

  -- "Bad input is refused by number and place": by a row of the table, at a place that the row has,
  pub by_number_and_place : {refusal : Refusal} → Answers x w y y' (Err refusal) → InTable x refusal
  by_number_and_place a = row x {w = w} {y = y} a.0

  -- whose number is one of 2 to 8;
  pub numbers : {refusal : Refusal} → Answers x w y y' (Err refusal) → (2 ≤ number_of refusal) × (number_of refusal ≤ 8)
  numbers {refusal} a = row_number x refusal (by_number_and_place a)

  -- "Given exactly when": the refusal is given where the table says so, and nowhere else,
  pub refused_exactly : (r : Result Trained Refusal) → Answers x w y y' r → (refusal : Refusal) → Why x w y refusal ↔ (r ≡ Err refusal)
  refused_exactly r a refusal =
      (λ why. (second.no_second x w y y' y r (Err refusal) a (why, refl)).0, λ e. (subst (Answers x w y y') e a).0)

  -- so that no trainer that refuses everything fits: where tokens can be given, they are.
  pub given_exactly : (r : Result Trained Refusal) → Answers x w y y' r → {y'' : Results} {count required : ℕ} {over : Bool} → Gives x w y y'' count required over
      → (r ≡ given count required over) × (y' ≡ y'')
  given_exactly r a {y''} {count} {required} {over} g = second.no_second x w y y' y'' r (given count required over) a g

  pub accepted_or_refused_not_both : {y'' : Results} {count required : ℕ} {over : Bool} {refusal : Refusal} → Answers x w y y' (given count required over)
      → Answers x w y y'' (Err refusal) → ⊥
  accepted_or_refused_not_both g r = second.never x w y g r.0

-- "Prove that no second outcome fits": of the answer and the results, and of the work slices.
pub no_second : (x : start.Lent) (w : Work) (y y' y'' : Results) (r s : Result Trained Refusal) → Answers x w y y' r → Answers x w y y'' s → (r ≡ s) × (y' ≡ y'')
no_second x w y y' y'' r s a b = second.no_second x w y y' y'' r s a b

pub one_work : (w w' w'' : Work) → Zeros w w' → Zeros w w'' → w' ≡ w''
one_work w w' w'' a b = second.one_work a b

-- ==== Demand 2, of training: the same answer. The tokens are the specials and then the pieces that the definitions of seeding,
-- rounds and the last EM give, with their scores; each count is taken from its list.
tokens_many : (x : start.Lent) (m : Model) → length (texts_of x.texts x.specials ++ map spelling m.pieces) ≡ many x.specials + length m.pieces
tokens_many x m =
    let a = length-append (texts_of x.texts x.specials) (map spelling m.pieces) in
    let b = length_first (octets x.texts x.specials) (many x.specials) in
    let c = length-map m.pieces spelling in
    omega arith

pub same_answer : (x : start.Lent) (w : Work) (y y' : Results) (count required : ℕ) (over : Bool) → Answers x w y y' (given count required over) → TheTokens x y y' count required over
same_answer x w y y' count required over g =
    let f = g.made.filled in
    record {
      pieces = g.pieces;
      seeded = g.seeds.seeded;
      count_is = f.count ∙ tokens_many x (final x g.pieces required);
      bytes_are = f.bytes_are;
      spans_are = f.spans_are;
      scores_are = f.scores_are;
      stalls = g.made.over_is;
    }

-- What the tokens are, by the port order's sentences:
module _ (x : start.Lent) (w : Work) (y y' : Results) (count required : ℕ) (over : Bool) (a : Answers x w y y' (given count required over)) where
  abbrev task : Task
  task = task_of x required

  abbrev first : Model
  first = first_model (start.corpus x) a.pieces

  sound : Sound (task_of x required) (first_model (start.corpus x) a.pieces)
  sound = rounds.first_sound x (seeding_work w) a.pieces required a.seeds a.made.asked

  -- "the required prefix always": the characters of the corpus are the first pieces, in their order;
  pub characters_stay : take required (final x a.pieces required).pieces ≡ a.seeds.seeded.characters
  characters_stay =
      let s = a.seeds.seeded in
      ap (take required) (trained_pieces task first)
      ∙ rounds_front task (length a.pieces) first sound
      ∙ ap (take required) s.texts_are
      ∙ ap (λ (n : ℕ). take n (s.characters ++ take (start.pool x - required) s.strings)) s.required_is
      ∙ take-append_seam s.characters (take (start.pool x - required) s.strings)

  -- no piece stands twice;
  pub pieces_distinct : Distinct (final x a.pieces required).pieces
  pieces_distinct = subst Distinct (sym (trained_pieces task first)) (rounds_distinct task (length a.pieces) first (seeded_distinct a.seeds.seeded))

  -- "Below 1, [..] a list over target ends at exactly target", and training does not stall.
  module _ (f64 : T (fits binary64 x.settings.shrink_factor)) (below : T (le one x.settings.shrink_factor) → ⊥) where
    pub ends_at_target : target_in x ≤ length a.pieces → count ≡ many x.specials + target_in x
    ends_at_target h =
        a.made.filled.count
        ∙ tokens_many x (final x a.pieces required)
        ∙ ap (λ (n : ℕ). many x.specials + n) (ap length (trained_pieces task first) ∙ at_Target task first sound f64 below h)

    pub does_not_stall : over ≡ false
    does_not_stall =
        a.made.over_is
        ∙ ap (λ (ps : List (List ℕ)). ltb (target_in x) (length ps)) (trained_pieces task first)
        ∙ never_stalls task first sound f64 below

-- ==== Demand 3, first part: "after each of any number of prunings" the kept lattices are, edge for edge and offset for offset,
-- those built afresh from the survivors. Of `cache::build` and then any number of calls of `cache::retain`:
pub lattices_in_step : {x : fresh.Lent} {y : fresh.Results} {w : fresh.Work} → builds.Ready x y w → {y' : fresh.Results} (r : Result ℕ Refusal) → fresh.Answers x y w y' r
    → {remaps : List (List ℕ)} → Prunings (listed x.spellings x.pieces) remaps → {z : fresh.Results} → Calls (many x.words) remaps y' z
    → builds.Kept x remaps z
lattices_in_step ready r a prunings calls = builds.always_in_step ready r a prunings calls

-- so they are, slot for slot, what a build of the survivors leaves.
pub as_built_afresh : {x : fresh.Lent} {remaps : List (List ℕ)} {z : fresh.Results} → builds.Kept x remaps z
    → {x' : fresh.Lent} {y : fresh.Results} {w : fresh.Work} {y' : fresh.Results} (count : ℕ) → fresh.Answers x' y w y' (Ok count)
    → x'.setting ≡ x.setting → listed x'.spellings x'.pieces ≡ survivors_of remaps (listed x.spellings x.pieces) → listed x'.text x'.words ≡ listed x.text x.words
    → builds.SameLengths z y' → z ≡ y'
as_built_afresh {x} {remaps} {z} kept {x'} {y} {w} {y'} count a s p t same = builds.as_built_afresh {x = x} {remaps = remaps} {z = z} kept {x' = x'} {y = y} {w = w} {y' = y'} count a s p t same

-- Inside training: the lattices that are pruned from round to round are, at each, those of the pieces there are.
pub training_in_step : (x : start.Lent) (w : start.Work) (pieces : List (List ℕ)) (required : ℕ) → Seeds x w pieces required → required ≤ target_in x
    → {last : Model} {left : List (List (List Edge))}
    → Carries (task_of x required) (improved (task_of x required) (first_model (start.corpus x) pieces)) (lattices (task_of x required) (first_model (start.corpus x) pieces)) last left
    → left ≡ lattices (task_of x required) last
training_in_step x w pieces required s h c = rounds.in_step x w pieces required s h c

-- The rounds' last list is one of them.
pub training_to_the_end : (x : start.Lent) (w : start.Work) (pieces : List (List ℕ)) (required : ℕ) → Seeds x w pieces required → required ≤ target_in x
    → ((left : List (List (List Edge)))
    × Carries (task_of x required) (improved (task_of x required) (first_model (start.corpus x) pieces)) (lattices (task_of x required) (first_model (start.corpus x) pieces))
    (allRounds (task_of x required) (length pieces) (first_model (start.corpus x) pieces)) left)
training_to_the_end x w pieces required s h = rounds.to_the_end x w pieces required s h

-- ==== Demand 3, second part: "a best cut is given exactly when some cut's left-to-right rounded sum is finite; its sum is the
-- greatest there is, and its pieces spell the word". Of `one_word::cut`:
pub best_cut : (x : word.Lent) (w : fresh.Work) (path path' : List ℕ) → one_word.Ready x w path → (r : Result Cut Refusal) → word.Answers x w path path' r → one_word.Answered x path' r
best_cut x w path path' ready r a = one_word.answered x w path path' ready r a
