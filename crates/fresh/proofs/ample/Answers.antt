use Rattle.fresh.proofs.Most.{small, product_small}
use native.Mathlib.Omega.{arith}
use Rattle.fresh.proofs.ample.Goals as goal

pub overflow_mul-setting : goal.overflow_mul-setting
overflow_mul-setting c = omega (arith, product_small c.requires.0 c.requires.1 c.all_bytes-bytes.ensures)

pub overflow_add-bytes : goal.overflow_add-bytes
overflow_add-bytes c = omega (arith, small c.requires.0 c.all_bytes-bytes.ensures, c.requires.0.few, c.count-many.ensures)
