use Rattle.viterbi.proofs.Walks.{Next, next, written_more, written_all}
use Rattle.viterbi.proofs.write_back.Goals as goal
use Rattle.viterbi.proofs.write_back.Goals.{In-loop-position}

-- the walk's next edge, inside the loop
ahead : (c : In-loop-position) → Next c.args.back.now c.args.lattice.now.starts.now c.args.lattice.now.ids.now c.loop-position.position c.loop-position.invariant.left
ahead c = next c.loop-position.invariant.left c.loop-position.invariant.rest c.loop-position-test.true

pub bounds-lattice-k : goal.bounds-lattice-k
bounds-lattice-k c = (ahead (goal.at.bounds-lattice-k c).In-loop-position).leads.in_ids

pub bounds-lattice-k-in-loop-position : goal.bounds-lattice-k-in-loop-position
bounds-lattice-k-in-loop-position c = (ahead (goal.at.bounds-lattice-k-in-loop-position c).In-loop-position).leads.in_starts

pub loop-position-smaller : goal.loop-position-smaller
loop-position-smaller c = (ahead (goal.at.loop-position-smaller c).In-loop-position).leads.lower

pub loop-position-preserved : goal.loop-position-preserved
loop-position-preserved c = written_more c.loop-position-test.true c.loop-position.invariant

pub returns : goal.returns
returns c = written_all c.loop-position-test.false c.loop-position.invariant
