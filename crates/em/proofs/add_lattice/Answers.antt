-- `em::add_lattice` meets its contract: a word with no character, one with no cut, and one whose shares are added.
-- Assumes nothing.
use Rattle.std.proofs.Common.{length, arith, length-take-le}
use Rattle.expectations.specs.Sums.{expected_shares}
use Rattle.em.proofs.Turns.{word_empty, word_unconnected, word_added, all_counted, entries}
use Rattle.em.proofs.add_lattice.Goals as goal
use Rattle.em.proofs.add_lattice.Goals.{then-lattice-eq0-via-then-lattice-eq0, then-lattice-eq0-via-else-lattice-eq0+then-not-is_connected_core}

pub returns-then-lattice-eq0 : goal.returns-then-lattice-eq0
returns-then-lattice-eq0 c =
    elim c.then-lattice-eq0.branch [
      | then-lattice-eq0-via-then-lattice-eq0 w ↦ word_empty c.args.lattice.now.offsets.now c.args.lattice.now.starts.now c.args.lattice.now.ids.now c.args.lattice.now.n c.args.scores.now c.args.frequency c.args.expected.now w.if-lattice-eq0.true
      | then-lattice-eq0-via-else-lattice-eq0+then-not-is_connected_core w ↦ word_unconnected c.args.lattice.now.offsets.now c.args.lattice.now.starts.now c.args.lattice.now.ids.now c.args.lattice.now.n c.args.scores.now c.args.frequency c.args.expected.now c.requires.word_formed.0 w.is_connected_core.result w.is_connected_core.ensures w.if-not-is_connected_core.true
    ]

pub add_edges-requires : goal.add_edges-requires
add_edges-requires c = let s = c.requires.word_formed.2 in let l = c.expectations_core.auto.emitted in let t = length-take-le (length c.args.lattice.now.starts.now) c.expectations_core.new.emitted (omega arith) in all_counted c.requires.word_formed.0 (omega arith) c.requires.as_many

pub returns : goal.returns
returns c = let s = c.requires.word_formed.2 in word_added c.args.lattice.now.offsets.now c.args.lattice.now.starts.now c.args.lattice.now.ids.now c.args.lattice.now.n c.args.scores.now c.args.frequency c.args.expected.now c.requires.word_formed.0 c.is_connected_core.result c.is_connected_core.ensures c.if-not-is_connected_core.false c.if-lattice-eq0.false (entries (expected_shares c.args.lattice.now.offsets.now c.args.lattice.now.starts.now c.args.lattice.now.ids.now c.args.scores.now c.args.lattice.now.n) c.expectations_core.new.emitted c.args.work.now.emitted (length c.args.lattice.now.starts.now) c.expectations_core.ensures.emitted_after c.expectations_core.auto.emitted (omega arith)) c.nearest_u64_to_f64-weight.ensures c.add_edges.ensures
