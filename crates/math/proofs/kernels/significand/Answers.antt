-- `math::kernels::significand` meets its contract. Assumes nothing.
use Prim.Native.Nat.{◌%◌}
use Rattle.rounding.proofs.Fields.{significand_defined}
use Rattle.math.proofs.Halves.{low}
use Rattle.math.proofs.kernels.significand.Goals as goal

pub float_from_bits-result : goal.float_from_bits-result
float_from_bits-result c = significand_defined (c.args.b % 4503599627370496) (low c.args.b)
