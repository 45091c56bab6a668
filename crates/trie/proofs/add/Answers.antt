-- `trie::add` meets its contract: an empty piece, a new spelling, one that was there, or no room.
-- Assumes nothing.
use Rattle.std.proofs.Common.{sym, eqb-true}
use Rattle.std.proofs.lemmas.Bool.{eqb-false}
use Rattle.trie.proofs.Adding.{adds_empty, adds_new, adds_again, node_low, node_in}
use Rattle.trie.proofs.add.Goals as goal

pub returns-then-is_empty : goal.returns-then-is_empty
returns-then-is_empty c = adds_empty c.args.keys.now c.args.ends.now c.args.piece.now c.args.id c.args.count (eqb-true _ 0 (sym c.if-is_empty.ensures))

pub overflow_sub-p : goal.overflow_sub-p
overflow_sub-p c = node_low c.args.keys.now c.args.ends.now c.args.piece.now c.args.id c.args.count c.requires (eqb-false _ 0 (sym c.if-is_empty.ensures)) c.spell.new.keys c.in_ok-spelt.spelt.node c.in_ok-spelt.spelt.count c.in_ok-spelt.ensures

pub bounds-ends-p : goal.bounds-ends-p
bounds-ends-p c = node_in c.args.keys.now c.args.ends.now c.args.piece.now c.args.id c.args.count c.requires (eqb-false _ 0 (sym c.if-is_empty.ensures)) c.spell.new.keys c.in_ok-spelt.spelt.node c.in_ok-spelt.spelt.count c.in_ok-spelt.ensures

pub bounds-ends-p-2 : goal.bounds-ends-p-2
bounds-ends-p-2 c = node_in c.args.keys.now c.args.ends.now c.args.piece.now c.args.id c.args.count c.requires (eqb-false _ 0 (sym c.if-is_empty.ensures)) c.spell.new.keys c.in_ok-spelt.spelt.node c.in_ok-spelt.spelt.count c.in_ok-spelt.ensures

pub returns-then-before-eq0 : goal.returns-then-before-eq0
returns-then-before-eq0 c = adds_new c.args.keys.now c.args.ends.now c.args.piece.now c.args.id c.args.count c.requires (eqb-false _ 0 (sym c.if-is_empty.ensures)) c.spell.new.keys c.in_ok-spelt.spelt.node c.in_ok-spelt.spelt.count c.in_ok-spelt.ensures c.if-before-eq0.true

pub returns : goal.returns
returns c = adds_again c.args.keys.now c.args.ends.now c.args.piece.now c.args.id c.args.count c.requires (eqb-false _ 0 (sym c.if-is_empty.ensures)) c.spell.new.keys c.in_ok-spelt.spelt.node c.in_ok-spelt.spelt.count c.in_ok-spelt.ensures c.if-before-eq0.false
