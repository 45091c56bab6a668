-- The map as a list: the keys in order of creation, the newest first, so that one entry more is one at the head.
-- Assumes nothing.
use Rattle.std.specs.Prelude.{◌≡◌, ℕ, ◌+◌, ◌/◌, ◌<◌, ◌≤◌, cond, List, [], ◌∷◌, length, replicate, ◌==◌, ◌≢◌, nat_le, slice_set, Option, Some, None}
use Rattle.places.specs.Walk.{stop_of}
use Rattle.places.specs.declared.Inserted.{Inserted}
use Rattle.places.specs.declared.Inserted.TheVariants.{Old, New}

-- n empty places
abbrev pub zeros : ℕ → List ℕ
zeros n = replicate n 0

-- n places in which the entries were put: each went where its walk ended among the older ones
unfoldable pub filled : ℕ → List ℕ → List ℕ
filled n [] = zeros n
filled n (e ∷ older) = slice_set (filled n older) (stop_of (filled n older) e) e

-- the node that an entry was given when it was put
abbrev pub given : ℕ → List ℕ → ℕ → ℕ
given n older e = stop_of (filled n older) e + 1

-- the node of a key: that of its entry, or there is none
unfoldable pub node_of : ℕ → List ℕ → ℕ → Option ℕ
node_of n [] key = None
node_of n (e ∷ older) key = cond (e == key) (Some (given n older e)) (node_of n older key)

-- a key is none of the entries
abbrev pub Absent : List ℕ → ℕ → Type 0
Absent [] key = Unit {0}
Absent (e ∷ older) key = (e ≢ key) × Absent older key

-- each entry is a key, and no key stands twice
abbrev pub Once : List ℕ → Type 0
Once [] = Unit {0}
Once (e ∷ older) = (0 < e) × Absent older e × Once older

-- the places hold the entries, and are at most half full
pub record Holds (keys entries : List ℕ) : Type 0 where
  pub same : keys ≡ filled (length keys) entries
  pub once : Once entries
  pub half : length entries ≤ length keys / 2

-- one entry more, where the entries and the root are at most half of the n places then
abbrev pub new_answer : ℕ → List ℕ → ℕ → Option Inserted
new_answer n entries key = cond (nat_le (length entries + 2) (n / 2)) (Some (New (given n entries key))) None

abbrev pub new_entries : ℕ → List ℕ → ℕ → List ℕ
new_entries n entries key = cond (nat_le (length entries + 2) (n / 2)) (key ∷ entries) entries

-- what an insertion answers, by what a search would answer
abbrev pub answer_by : Option ℕ → ℕ → List ℕ → ℕ → Option Inserted
answer_by (Some m) n entries key = Some (Old m)
answer_by None n entries key = new_answer n entries key

abbrev pub answer_of : ℕ → List ℕ → ℕ → Option Inserted
answer_of n entries key = answer_by (node_of n entries key) n entries key

-- and the entries after it
abbrev pub entries_by : Option ℕ → ℕ → List ℕ → ℕ → List ℕ
entries_by (Some m) n entries key = entries
entries_by None n entries key = new_entries n entries key

abbrev pub entries_after : ℕ → List ℕ → ℕ → List ℕ
entries_after n entries key = entries_by (node_of n entries key) n entries key

-- What a search promises of any entries that the places hold.
abbrev pub Finds : List ℕ → ℕ → Option ℕ → Type 0
Finds keys key r = (entries : List ℕ) → Holds keys entries → r ≡ node_of (length keys) entries key

-- What an insertion promises of them, if it is told their count: the answer, and what the places hold then.
pub record Grown (keys entries : List ℕ) (key : ℕ) (after : List ℕ) (r : Option Inserted) : Type 0 where
  pub answer : r ≡ answer_of (length keys) entries key
  pub holds : Holds after (entries_after (length keys) entries key)

abbrev pub Inserts : List ℕ → ℕ → ℕ → List ℕ → Option Inserted → Type 0
Inserts keys key count after r = (entries : List ℕ) → Holds keys entries → count ≡ length entries → Grown keys entries key after r
