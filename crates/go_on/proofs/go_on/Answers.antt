use Rattle.std.proofs.lemmas.Result.{err_from_is_err_and}
use Rattle.shrink.specs.Lent.{cache_of}
use Rattle.shrink.proofs.Lent.{same_state, same_work}
use Rattle.go_on.proofs.Followed.{made, not_made}
use Rattle.go_on.proofs.go_on.Goals as goal

pub make-requires : goal.make-requires
make-requires c = c.requires _ c.in_ok-seeded.was

pub returns-in_err-seeded-clause-follows : goal.returns-in_err-seeded-clause-follows
returns-in_err-seeded-clause-follows c =
    let p = err_from_is_err_and c.from_residual.result c.from_residual.ensures.1 in
    rw (p.1, p.2) (not_made c.args.settings c.args.texts.now c.args.specials.now c.args.text.now c.args.kept.now c.args.counts.now c.args.state.now.pieces.now c.args.state.now.scores.now c.args.started _ c.in_err-seeded.was c.args.work.now.keys.now c.args.work.now.ends.now (cache_of c.args.state.now) (record { bytes = c.args.bytes.now; tokens = c.args.tokens.now; scores = c.args.token_scores.now }))

pub returns-clause-follows : goal.returns-clause-follows
returns-clause-follows c = made c.args.settings c.args.texts.now c.args.specials.now c.args.text.now c.args.kept.now c.args.counts.now c.args.state.now.pieces.now c.args.state.now.scores.now c.args.started _ c.in_ok-seeded.was c.args.work.now.keys.now c.args.work.now.ends.now (cache_of c.args.state.now) (record { bytes = c.args.bytes.now; tokens = c.args.tokens.now; scores = c.args.token_scores.now }) (record { bytes = c.make.new.bytes; tokens = c.make.new.tokens; scores = c.make.new.token_scores }) c.make.result c.make.ensures.makes
