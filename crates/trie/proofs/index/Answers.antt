-- `trie::index` meets its contract: the slices are cleared, and filled if the root has room.
-- Assumes nothing.
use Rattle.trie.proofs.Indexing.{cleared}
use borrow.Author.Rules.{rules}
use Rattle.trie.proofs.index.Goals as goal

pub fill-requires-3 : goal.fill-requires-3
fill-requires-3 c = cleared c.args.keys.now c.args.ends.now c.args.text.now c.args.pieces.now c.fill.new.self c.fill-2.new.self c.requires (c.fill.ensures.after (λ _ e. e)) (c.fill-2.ensures.after (λ _ e. e)) (search rules)
