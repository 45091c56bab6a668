use Rattle.builder.proofs.Build.{laying_word, laying_more, laying_all}
use native.Mathlib.Omega.{arith}
use Rattle.builder.proofs.build_words.Goals as goal

pub lay_word-so-requires : goal.lay_word-so-requires
lay_word-so-requires c = laying_word c.args.keys.now c.args.ends.now c.args.text.now c.args.words.now c.args.setting c.args.offsets.now c.args.starts.now c.args.ids.now c.args.spans.now c.requires.room c.requires.building c.loop-k.invariant (omega (arith, c.loop-k-test.true, c.count-many.ensures)) c.walk_word-n.ensures

pub loop-k-preserved : goal.loop-k-preserved
loop-k-preserved c = laying_more c.args.keys.now c.args.ends.now c.args.text.now c.args.words.now c.args.setting c.args.offsets.now c.args.starts.now c.args.ids.now c.args.spans.now c.requires.room c.requires.building c.loop-k.invariant (omega (arith, c.loop-k-test.true, c.count-many.ensures)) c.walk_word-n.ensures c.lay_word-so.ensures c.walk_word-n.auto.chars c.lay_word-so.auto.offsets c.lay_word-so.auto.starts c.lay_word-so.auto.ids c.lay_word-so.auto.spans

pub returns : goal.returns
returns c = laying_all c.args.keys.now c.args.ends.now c.args.text.now c.args.words.now c.args.setting c.args.offsets.now c.args.starts.now c.args.ids.now c.args.spans.now c.loop-k.invariant (omega (arith, c.loop-k-test.false, c.count-many.ensures))
