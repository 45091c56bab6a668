-- Edges put one after the other. Assumes nothing.
use mathlib.Core.Path.{◌≡◌, refl, sym, ap, ◌∙◌}
use mathlib.Core.List.{List, [], ◌++◌, map, map-append}
use mathlib.Core.Option.{Option, none, some}
use Prim.Native.Nat.{ℕ, zero, suc, ◌+◌, ◌-◌, ◌<◌}
use native.Mathlib.Omega.{arith}
use lib.ListN.{length, length-append, length-map}
use lib.Seq.{sets, length-sets}
use Rattle.lattice.specs.Lattice.{Edge, edge}
use Rattle.lattice.proofs.Fronts.{sets_append}
use Rattle.rows.specs.Grid.{piece_of}
use Rattle.builder.specs.Put.{Put, Slot}

pub put_none : (s i : List ℕ) (w : ℕ) → Put s i w [] s i w
put_none s i w = record { count = omega arith; starts_are = refl; ids_are = refl }

-- one column of it: a run of values after another
column : (f : Edge → ℕ) (l : List ℕ) {l' l'' : List ℕ} (w : ℕ) {x : ℕ} (a b : List Edge) → x ≡ w + length a → l' ≡ sets l w (map f a) → l'' ≡ sets l' x (map f b) → l'' ≡ sets l w (map f (a ++ b))
column f l {l'} {l''} w {x} a b n p q =
    let e : x ≡ w + length (map f a) = let m = length-map a f in omega arith in
    q ∙ ap (λ (k : List ℕ). sets k x (map f b)) p ∙ ap (λ (k : ℕ). sets (sets l w (map f a)) k (map f b)) e
    ∙ sym (sets_append l w (map f a) (map f b)) ∙ ap (sets l w) (sym (map-append f a b))

pub put_join : {s i s' i' s'' i'' : List ℕ} {w x y : ℕ} (a b : List Edge) → Put s i w a s' i' x → Put s' i' x b s'' i'' y → Put s i w (a ++ b) s'' i'' y
put_join {s} {i} {w = w} a b p q =
    record {
      count = let n = p.count in let m = q.count in let l = length-append a b in omega arith;
      starts_are = column (λ e. e.start) s w a b p.count p.starts_are q.starts_are;
      ids_are = column (λ e. e.id) i w a b p.count p.ids_are q.ids_are;
    }

pub put_long : {s i s' i' : List ℕ} {w x : ℕ} {a : List Edge} → Put s i w a s' i' x → (length s' ≡ length s) × (length i' ≡ length i)
put_long {s} {i} {s'} {i'} {w} {x} {a} p = (ap length p.starts_are ∙ length-sets s w (map (λ e. e.start) a), ap length p.ids_are ∙ length-sets i w (map (λ e. e.id) a))

-- one edge, or none
pub piece_none : (found : ℕ) → found ≡ 0 → piece_of found ≡ none
piece_none found e = ap piece_of e

pub piece_some : (found : ℕ) → (found ≡ 0 → ⊥) → piece_of found ≡ some (found - 1)
piece_some zero n = absurd (n refl)
piece_some (suc id) n = ap some (omega arith)

module _ {s i : List ℕ} {found start w : ℕ} (r : Slot s i found start w) (n : found ≡ 0 → ⊥) where
  one : length (edge start (piece_of found)) ≡ 1
  one = ap (λ (o : Option ℕ). length (edge start o)) (piece_some found n)

  pub some_start : w < length s
  some_start = let e = one in let l = r.room.in_starts in omega arith

  pub some_id : w < length i
  some_id = let e = one in let l = r.room.in_ids in omega arith
