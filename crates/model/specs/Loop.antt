-- The rounds as a loop has them: EM; while fewer pieces are to be kept than there are, a pruning and EM. Definitions only.
use Rattle.std.specs.Prelude.{◌≡◌, cond, false, ℕ, zero, suc, ◌≤◌, ◌<◌, length}
use Rattle.lattice.specs.Pruning.{gone}
use Rattle.model.specs.Model.{Model, Task, improved, pruned_to, keep_next, stops, rounds}

-- a score for each piece; the required pieces are there, and no more are required than are asked for; ids stay below `u32::MAX`
pub record Sound (t : Task) (m : Model) : Type 0 where
  pub scored : length m.scores ≡ length m.pieces
  pub there : t.required ≤ length m.pieces
  pub asked : t.required ≤ t.target
  pub few : length m.pieces ≤ gone

module _ (t : Task) where
  -- a pruning to as many as the count says, and EM
  abbrev pub next : Model → Model
  next m = improved t (pruned_to t (keep_next t (length m.pieces)) m)

  -- what is left to do at the loop's head, where EM has been run; so many prunings at most
  unfoldable pub rest : ℕ → Model → Model
  rest zero m = m
  rest (suc more) m = cond (stops t (length m.pieces)) m (rest more (next m))

  -- the models at the loop's head, from one on
  pub data Reaches : Model → Model → Type 0 where
    here : {m : Model} → Reaches m m
    further : {m last : Model} → stops t (length m.pieces) ≡ false → Reaches (next m) last → Reaches m last

-- At the loop's head: what is left to do leads to the rounds' outcome, and no list has more prunings than pieces.
pub record Going (t : Task) (begin m : Model) : Type 0 where
  pub fuel : ℕ
  pub enough : length m.pieces ≤ fuel
  pub same : rest t fuel m ≡ rounds t (length begin.pieces) begin
  pub sound : Sound t m

-- "If that is not below the piece count, training stops as stalled, over target": a list is reached that is over target, of which
-- no fewer are to be kept
pub record Stalls (t : Task) (begin : Model) : Type 0 where
  pub last : Model
  pub reached : Reaches t (improved t begin) last
  pub over : t.target < length last.pieces
  pub stuck : length last.pieces ≤ keep_next t (length last.pieces)
