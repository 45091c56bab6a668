-- `trie::put` meets its contract: the piece's bytes are added.
-- Assumes nothing.
use Rattle.trie.proofs.Indexing.{put_new, put_again, put_full}
use Rattle.trie.proofs.put.Goals as goal

pub returns-in_err-made : goal.returns-in_err-made
returns-in_err-made c = rw c.from_residual.ensures (put_full c.args.text.now c.args.pieces.now c.args.k c.octets-piece.ensures c.args.keys.now c.args.ends.now c.args.count c.add.new.keys c.add.new.ends c.in_err-made.ensures)

pub returns-in-New : goal.returns-in-New
returns-in-New c = put_new c.args.text.now c.args.pieces.now c.args.k c.octets-piece.ensures c.args.keys.now c.args.ends.now c.args.count c.add.new.keys c.add.new.ends c.in_ok-made.ensures c.in-New.is

pub returns-in-Again : goal.returns-in-Again
returns-in-Again c = put_again c.args.text.now c.args.pieces.now c.args.k c.octets-piece.ensures c.args.keys.now c.args.ends.now c.args.count c.add.new.keys c.add.new.ends c.in_ok-made.ensures c.in-Again.is
