-- ln(e ^ a + e ^ b) in rounded steps: `log_add` of document 01's port order 6. Definitions only.
use Rattle.std.specs.Prelude.{true, cond, Float}
use Rattle.std.specs.Float.{inf}
use Rattle.std.specs.Float.Ieee.{lt, eq}
use Rattle.math.specs.Steps.{exp_steps, ln1p_steps, ◌⊕◌, ◌⊖◌}

-- the greater, and what the smaller adds to it
abbrev pub above : Float → Float → Float
above hi lo = hi ⊕ ln1p_steps (exp_steps (lo ⊖ hi))

-- "Minus infinity on one side returns the other; equal sides are added too."
unfoldable pub log_add : Float → Float → Float
log_add a b = cond (eq a (inf true)) b (cond (eq b (inf true)) a (cond (lt b a) (above a b) (above b a)))
