-- Which edges a lattice has: one from a start to an end exactly when a piece spells what lies between. Assumes nothing.
use mathlib.Core.Path.{◌≡◌, refl, sym, ap, ◌∙◌, subst}
use mathlib.Core.Logic.{inl, inr}
use mathlib.Core.Bool.{Bool, true, false, cond}
use mathlib.Core.List.Memᴰ
use mathlib.Core.List.{List, Memᴰ}
use mathlib.Core.Option.{Option, none, some}
use Prim.Native.Nat.{ℕ, zero, suc, ◌-◌, ◌≤◌, ◌<◌}
use native.Mathlib.Nat.{eq-or-lt_of_le, le_of_suc-le-suc}
use native.Mathlib.Omega.{arith}
use lib.Dec.{leb, leb→le, le→leb}
use lib.Ieee.Bits.{is_true}
use Rattle.laws.proofs.Choices.{yes}
use Rattle.lattice.specs.Pieces.{id_of}
use Rattle.lattice.specs.Lattice.{Edge, between, edge_id, edge, starting}

-- an edge of the first n starts
pub record Starts (f : ℕ → Option ℕ) (n : ℕ) (e : Edge) : Type 0 where
  pub before : e.start < n
  pub is : f e.start ≡ some e.id

in_edge : (s : ℕ) (o : Option ℕ) (e : Edge) → Memᴰ e (edge s o) → (e.start ≡ s) × (o ≡ some e.id)
in_edge s none e m = elim m [ ]
in_edge s (some k) e m = let z : e ≡ record { start = s; id = k } = Memᴰ.eq_of_singleton m in (ap (λ (x : Edge). x.start) z, ap (λ (x : Edge). some x.id) (sym z))

pub in_starting : (f : ℕ → Option ℕ) (n : ℕ) (e : Edge) → Memᴰ e (starting f n) → Starts f n e
in_starting f zero e m = elim m [ ]
in_starting f (suc n) e m = elim (Memᴰ.append_cases (starting f n) m) [
  | inl h ↦ let s = in_starting f n e h in record { before = let l = s.before in omega arith; is = s.is }
  | inr h ↦ let p = in_edge n (f n) e h in record { before = let q = p.0 in omega arith; is = ap f p.0 ∙ p.1 }
]

edge_in : (s k : ℕ) (o : Option ℕ) → o ≡ some k → Memᴰ (record { start = s; id = k }) (edge s o)
edge_in s k o e = subst (λ (x : Option ℕ). Memᴰ (record { start = s; id = k }) (edge s x)) (sym e) (Memᴰ.head refl)

pub starting_in : (f : ℕ → Option ℕ) (n s k : ℕ) → s < n → f s ≡ some k → Memᴰ (record { start = s; id = k }) (starting f n)
starting_in f zero s k l e = absurd (omega arith)
starting_in f (suc n) s k l e = elim (eq-or-lt_of_le (le_of_suc-le-suc l)) [
  | inl z ↦ Memᴰ.append_right (starting f n) (subst (λ (m : ℕ). Memᴰ (record { start = s; id = k }) (edge m (f m))) z (edge_in s k (f s) e))
  | inr h ↦ Memᴰ.append_left (edge n (f n)) (starting_in f n s k h e)
]

-- ---- the test of the length setting
pub within : (setting : ℕ) (ps : List (List ℕ)) (word : List ℕ) (end start k : ℕ) → edge_id setting ps word end start ≡ some k → (end - start ≤ setting) × (id_of ps (between word start end) ≡ some k)
within setting ps word end start k = go (leb (end - start) setting) refl
  where
    go : (b : Bool) → leb (end - start) setting ≡ b → cond b (id_of ps (between word start end)) none ≡ some k → (end - start ≤ setting) × (id_of ps (between word start end) ≡ some k)
    go true h e = (leb→le (end - start) setting (yes h), e)
    go false h e = let z : ◌≡◌ {A = ℕ} 0 1 = cc in absurd (omega arith)

pub from_within : (setting : ℕ) (ps : List (List ℕ)) (word : List ℕ) (end start : ℕ) → end - start ≤ setting → edge_id setting ps word end start ≡ id_of ps (between word start end)
from_within setting ps word end start l = ap (λ (b : Bool). cond b (id_of ps (between word start end)) none) (is_true (leb (end - start) setting) (le→leb (end - start) setting l))
