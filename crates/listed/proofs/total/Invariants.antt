use Rattle.ranking.specs.Scores.{seed_total}
use Rattle.std.proofs.Common.{◌≡◌, take}
use Rattle.listed.proofs.total.Given as goal

abbrev pub invariant-loop-count : goal.invariant-loop-count
invariant-loop-count l = l.sum ≡ seed_total (take l.count-index l.counts)
