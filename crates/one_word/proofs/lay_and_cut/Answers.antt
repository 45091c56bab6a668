use native.Mathlib.Omega.{arith}
use Rattle.std.proofs.lemmas.Result.{err_from_is_err_and}
use Rattle.one_word.proofs.Laid.{exact}
use Rattle.one_word.proofs.Cutting.{answers, built_edges, built_stands, built_starts, built_ids, build_refused}
use Rattle.one_word.proofs.lay_and_cut.Goals as goal

pub returns-in_err-edges : goal.returns-in_err-edges
returns-in_err-edges c =
    let p = err_from_is_err_and c.from_residual.result c.from_residual.ensures.1 in
    rw (p.1, p.2) (build_refused _ c.requires.spanned c.args.keys.now c.args.ends.now _ _ (omega arith) (omega arith) (omega arith) (omega arith) c.in_err-edges.ensures c.args.path.now)

pub best_of-requires : goal.best_of-requires
best_of-requires c =
    let ready = c.requires.ready.1 in
    let many_starts = built_starts _ c.requires.spanned c.args.keys.now c.args.ends.now _ _ c.in_ok-edges.ensures ready in
    let many_ids = built_ids _ c.requires.spanned c.args.keys.now c.args.ends.now _ _ c.in_ok-edges.ensures ready in
    let kept = c.index_and_lay.auto in
    exact _ ready (built_stands _ c.requires.spanned c.args.keys.now c.args.ends.now _ _ c.in_ok-edges.ensures ready) (omega arith) (omega arith) (omega arith)

pub returns : goal.returns
returns c = λ table o.
    answers _ o (built_stands _ c.requires.spanned c.args.keys.now c.args.ends.now _ _ c.in_ok-edges.ensures o) c.args.keys.now c.args.ends.now c.args.path.now c.best_of.new.path
    (built_edges _ c.requires.spanned c.args.keys.now c.args.ends.now _ _ c.in_ok-edges.ensures o).trie_room c.best_of.result c.best_of.ensures
