-- What a search answers, and what an insertion answers and leaves: read off the place at which the key's walk ends.
-- Assumes nothing.
use Rattle.std.specs.Prelude.{ℕ, ◌+◌, ◌/◌, Bool, cond, ◌&&◌, List, length, ◌==◌, nat_le, slice_index, slice_set, Option, Some, None}
use Rattle.places.specs.Walk.{stop_of}
use Rattle.places.specs.declared.Inserted.{Inserted}
use Rattle.places.specs.declared.Inserted.TheVariants.{Old, New}

-- the key stands where its walk ends
abbrev pub stands_in : List ℕ → ℕ → Bool
stands_in keys key = slice_index keys (stop_of keys key) == key

-- the place at which the walk ends is empty; and one node more, with the root and the count, is at most half of the places
abbrev pub room_in : List ℕ → ℕ → ℕ → Bool
room_in keys key count = slice_index keys (stop_of keys key) == 0 && nat_le (count + 2) (length keys / 2)

-- a node is the place of its key, plus 1
unfoldable pub found_in : List ℕ → ℕ → Option ℕ
found_in keys key = cond (stands_in keys key) (Some (stop_of keys key + 1)) None

unfoldable pub inserted_in : List ℕ → ℕ → ℕ → Option Inserted
inserted_in keys key count =
    cond (stands_in keys key) (Some (Old (stop_of keys key + 1))) (cond (room_in keys key count) (Some (New (stop_of keys key + 1))) None)

-- and the places then: the key where its walk ended, or all as it was
unfoldable pub put_in : List ℕ → ℕ → ℕ → List ℕ
put_in keys key count = cond (stands_in keys key) keys (cond (room_in keys key count) (slice_set keys (stop_of keys key) key) keys)
