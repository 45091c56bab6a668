-- What loops need of a word's lattice that is well formed. Assumes nothing.
use mathlib.Core.Path.{◌≡◌, ap}
use mathlib.Core.List.{List}
use Prim.Native.Nat.{ℕ, ◌+◌, ◌≤◌, ◌<◌}
use native.Mathlib.Nat.{zero-add}
use native.Mathlib.Omega.{arith}
use lib.ListN.{length, get_or}
use Rattle.formed.specs.Formed.{EdgeFormed}
use Rattle.formed.specs.Word.{WordFormed}
use Rattle.connected.specs.Word.{Linked, Starting, Naming, low, high}

module _ {offsets starts ids : List ℕ} {pieces n : ℕ} (w : WordFormed offsets starts ids pieces n) where
  from_at : (p : ℕ) → get_or offsets (0 + p) 0 ≡ low offsets p
  from_at p = ap (λ (k : ℕ). get_or offsets k 0) (zero-add p)

  -- "rising from 0 to the edge count"
  pub first : low offsets 0 ≡ 0
  first = let a = from_at 0 in let b = w.formed.from_nought in omega arith

  pub last : high offsets n ≡ length starts
  last = let a = from_at (n + 1) in let b = w.formed.to_count in omega arith

  edge_at : (end k : ℕ) → end ≤ n → low offsets end ≤ k → k < high offsets end → EdgeFormed starts ids pieces end (0 + get_or offsets (0 + end) 0) k
  edge_at end k l a b = let f = from_at end in let t = from_at (end + 1) in (w.formed.ending end l).each k (omega arith) (omega arith)

  pub starting : (end : ℕ) → end ≤ n → Starting starts end (low offsets end) (high offsets end)
  starting end l =
      let f = from_at end in
      let t = from_at (end + 1) in
      let e = w.formed.ending end l in
      record { rises = omega arith; edges_in = omega arith; before = λ k a b. (edge_at end k l a b).before }

  pub naming : (end : ℕ) → end ≤ n → Naming ids pieces (low offsets end) (high offsets end)
  naming end l =
      let s = starting end l in
      let i = w.formed.inside.equally_many in
      record { ids_in = omega arith; named = λ k a b. (edge_at end k l a b).named }

  pub linked : Linked offsets starts n
  linked = record { ids = ids; pieces = pieces; word = w }

pub link : {offsets starts : List ℕ} {n : ℕ} → Linked offsets starts n → (end : ℕ) → end ≤ n → Starting starts end (low offsets end) (high offsets end)
link l end h = starting l.word end h
