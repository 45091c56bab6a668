-- How a key is looked for: from its home up to the last place, and on from the first, to the key or an empty place.
-- Assumes nothing.
use Rattle.std.specs.Prelude.{ℕ, zero, suc, ◌+◌, ◌-◌, ◌*◌, ◌/◌, ◌%◌, cond, List, length, ◌==◌, nat_lt, slice_index}

-- a node and a character as one number, never 0
abbrev pub key_of : ℕ → ℕ → ℕ
key_of node character = node * 4294967296 + (character + 1)

-- node and character, each times a constant, added with a wrap at 64 bits
unfoldable pub mixed : ℕ → ℕ
mixed key = (key / 4294967296 * 2654435769 + key % 4294967296 * 3144134277) % 18446744073709551616

-- the place at which the walk for a key begins, of n: the low half of the sum, as a fraction of all that it may be, of n
unfoldable pub home_of : ℕ → ℕ → ℕ
home_of key n = mixed key % 4294967296 * n / 4294967296

-- the first of the k places from p on that holds the key or nothing, or the place after them
unfoldable pub seek : List ℕ → ℕ → ℕ → ℕ → ℕ
seek keys key zero p = p
seek keys key (suc k) p = cond (slice_index keys p == key) p (cond (slice_index keys p == 0) p (seek keys key k (p + 1)))

-- the same of all places, beginning at h
unfoldable pub stop_from : List ℕ → ℕ → ℕ → ℕ
stop_from keys key h = cond (nat_lt (seek keys key (length keys - h) h) (length keys)) (seek keys key (length keys - h) h) (seek keys key h 0)

-- the place at which the walk for a key ends
abbrev pub stop_of : List ℕ → ℕ → ℕ
stop_of keys key = stop_from keys key (home_of key (length keys))
