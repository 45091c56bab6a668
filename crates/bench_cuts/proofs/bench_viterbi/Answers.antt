-- `bench_cuts::bench_viterbi` meets its contract. Assumes nothing.
use Rattle.bench_cuts.proofs.bench_viterbi.Goals as goal

pub returns : goal.returns
returns c = record { answers = (c.viterbi_core.result.best, c.viterbi_core.ensures.answers); behind = c.viterbi_core.ensures.behind }
