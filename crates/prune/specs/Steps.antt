-- What the steps ask for and do. Definitions only.
use Rattle.std.specs.Prelude.{◌≡◌, Bool, not, List, [], ◌∷◌, ℕ, ◌-◌, ◌≤◌, eqb, length, set}
use Rattle.lattice.specs.Pruning.{gone}

-- slices cut to the pieces there are, of which so many are required; new ids stay below `u32::MAX`
pub record Pruning (losses : List ℕ) (required : ℕ) (ranked remap : List ℕ) : Type 0 where
  pub in_ranked : length ranked ≡ length losses
  pub in_remap : length remap ≡ length losses
  pub there : required ≤ length losses
  pub few : length losses ≤ gone

-- the costliest has the lowest key: `u64::MAX` less its bits
abbrev pub turned : ℕ → ℕ
turned key = 0xffff_ffff_ffff_ffff - key

-- an entry that is not `u32::MAX`
abbrev pub alive : ℕ → Bool
alive entry = not (eqb entry gone)

-- zeros at these ids
abbrev pub marked : List ℕ → List ℕ → List ℕ
marked [] remap = remap
marked (id ∷ is) remap = marked is (set remap id 0)
