-- Grid points: ((t - G / 2) + C) - C is t cut down to a multiple of the grid's step G, for C = 3 * 2 ^ 51 * G. Definitions only.
use Rattle.std.specs.Prelude.{◌≡◌, ℕ, suc, ◌*◌, ◌^◌, ◌-◌, ◌≤◌, T, Float}
use Rattle.std.specs.Float.{binary64}
use Rattle.std.specs.Float.Ieee.{add, sub, mul, of_bits, to_unsigned, in_unsigned}
use Rattle.rounding.specs.Units.{Is, Whole}

-- a grid by its numbers' bit patterns: half a step, C, and how many steps there are to 1
pub record Grid : Type 0 where
  pub half : ℕ
  pub far : ℕ
  pub per : ℕ

abbrev pub cut : Grid → Float → Float
cut g t = sub binary64 (add binary64 (sub binary64 t (of_bits binary64 g.half)) (of_bits binary64 g.far)) (of_bits binary64 g.far)

-- how many steps the cut is, as a float and as a number
abbrev pub steps : Grid → Float → Float
steps g t = mul binary64 (cut g t) (of_bits binary64 g.per)

abbrev pub index : Grid → Float → ℕ
index g t = to_unsigned 32 (steps g t)

-- what is left of t
abbrev pub rest : Grid → Float → Float
rest g t = sub binary64 t (cut g t)

-- the grid's numbers are what they should be: a step is 2 ^ suc h units, and there are c of them to 1
pub record Sound (g : Grid) (h c : ℕ) : Type 0 where
  pub low : h ≤ 1074
  pub half_is : Is (of_bits binary64 g.half) (2 ^ h)
  pub far_is : Is (of_bits binary64 g.far) (6755399441055744 * 2 ^ suc h)
  pub per_is : Is (of_bits binary64 g.per) (c * 2 ^ 1074)
  pub all : 2 ^ suc h * c ≡ 2 ^ 1074

-- z is j steps, and t units lie from there to the next step
pub record Cut (z : Float) (t h : ℕ) : Type 0 where
  pub j : ℕ
  pub is : Is z (j * 2 ^ suc h)
  pub under : j * 2 ^ suc h ≤ t
  pub above : t ≤ suc j * 2 ^ suc h

-- where t lies on the grid: it is τ units, index g t steps and a rest of at most a step
pub record Placed (g : Grid) (h : ℕ) (t : Float) (τ : ℕ) : Type 0 where
  pub is : Is (cut g t) (index g t * 2 ^ suc h)
  pub under : index g t * 2 ^ suc h ≤ τ
  pub defined : T (in_unsigned binary64 32 (steps g t))
  pub left : Whole (rest g t) (τ - index g t * 2 ^ suc h) (suc h)
