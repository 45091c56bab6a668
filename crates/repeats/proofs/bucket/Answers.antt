-- `repeats::bucket` meets its contract: a fraction of the buckets is one of them.
-- Assumes nothing.
use native.Mathlib.Omega.{arith}
use Rattle.repeats.proofs.Hashes.{fraction, bucket_is}
use Rattle.repeats.proofs.bucket.Goals as goal

pub returns : goal.returns
returns c = (bucket_is c.args.text.now c.args.spans.now c.args.k c.hash-h.result c.count.result c.hash-h.ensures.0 c.octets.ensures c.count.ensures, omega (arith, fraction c.hash-h.result c.count.result c.hash-h.ensures.1 (omega arith)))
