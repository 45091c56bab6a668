-- One turn of a forward pass, over any scores. Assumes nothing.
use mathlib.Core.Path.{◌≡◌, sym, ap}
use mathlib.Core.List.{List}
use Prim.Native.Nat.{ℕ, ◌+◌, ◌<◌}
use lib.ListN.{length, take, set}
use Rattle.scores.specs.Domain.{Domain}
use Rattle.scores.specs.Cuts.{Lattice}
use Rattle.scores.specs.Table.{Pick, ending, table, edges_to}
use Rattle.scores.proofs.Table.{table_more, edges_more, long_table, long_edges}
use Rattle.viterbi.proofs.Filled.{Filled, filled_more, filled_part}

module _ {S : Type 0} (D : Domain S) (l : Lattice S) (q : ℕ) {base best : List S} (filled : Filled S (table D l q) base q best) where
  -- the pick at the position behind those filled
  abbrev pick : Pick S
  pick = ending D l (take (q + 1) best) (q + 1)

  next : ending D l (table D l q) (q + 1) ≡ pick
  next = sym (ap (λ (t : List S). ending D l t (q + 1)) (filled_part (long_table D l q) filled))

  pub sum_turn : q + 1 < length base → Filled S (table D l (q + 1)) base (q + 1) (set best (q + 1) pick.top)
  sum_turn h = rw (table_more D l q, next) (filled_more pick.top (long_table D l q) h filled)

  pub edge_turn : {base' back : List ℕ} → q + 1 < length base' → Filled ℕ (edges_to D l q) base' q back → Filled ℕ (edges_to D l (q + 1)) base' (q + 1) (set back (q + 1) pick.via)
  edge_turn h f = rw (edges_more D l q, next) (filled_more pick.via (long_edges D l q) h f)
