use Rattle.rows.proofs.Words.{word_decoding, word_count, word_chars, word_walking, word_walked}
use lib.ListN.{length}
use mathlib.Core.Path.{ap, sym, ◌∙◌}
use Rattle.rows.proofs.walk_word.Goals as goal

pub characters-n-requires : goal.characters-n-requires
characters-n-requires c = word_decoding c.requires.room c.args.text.now c.args.words.now c.args.k c.octets.ensures c.requires.k_bound.1

pub slice_bounds-rows-end-2 : goal.slice_bounds-rows-end-2
slice_bounds-rows-end-2 c = word_count c.requires.room c.args.text.now c.args.words.now c.args.k c.octets.ensures c.requires.k_bound.1 c.characters-n.ensures ∙ sym (ap length (word_chars c.requires.room c.args.text.now c.args.words.now c.args.k c.octets.ensures c.requires.k_bound.1 c.characters-n.ensures))

pub rows-requires : goal.rows-requires
rows-requires c = word_walking c.requires.room c.args.text.now c.args.words.now c.args.k c.octets.ensures c.requires.k_bound.1 c.characters-n.ensures

pub returns : goal.returns
returns c = word_walked c.requires.room c.args.text.now c.args.words.now c.args.k c.octets.ensures c.requires.k_bound.1 c.characters-n.ensures c.rows.ensures
