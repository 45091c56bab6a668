use Rattle.make.proofs.Results.{unwritten, written}
use Rattle.tokens.specs.Tokens.{tokens_of, scores_of}
use mathlib.Core.Path.{refl}
use Rattle.make.proofs.conclude.Goals as goal

pub returns-in-None : goal.returns-in-None
returns-in-None c = (refl, (unwritten (tokens_of c.args.texts.now c.args.specials.now c.args.text.now c.args.pieces.now) (scores_of c.args.specials.now c.args.scores.now) c.args.bytes.now c.args.tokens.now c.args.token_scores.now c.write.new.bytes c.write.new.tokens c.write.new.token_scores c.write.result c.write.ensures c.in-None.is).0, (unwritten (tokens_of c.args.texts.now c.args.specials.now c.args.text.now c.args.pieces.now) (scores_of c.args.specials.now c.args.scores.now) c.args.bytes.now c.args.tokens.now c.args.token_scores.now c.write.new.bytes c.write.new.tokens c.write.new.token_scores c.write.result c.write.ensures c.in-None.is).1)

pub returns-in-Some : goal.returns-in-Some
returns-in-Some c = (written (tokens_of c.args.texts.now c.args.specials.now c.args.text.now c.args.pieces.now) (scores_of c.args.specials.now c.args.scores.now) c.args.bytes.now c.args.tokens.now c.args.token_scores.now c.write.new.bytes c.write.new.tokens c.write.new.token_scores c.write.result c.write.ensures _ c.in-Some.is, refl, refl)
