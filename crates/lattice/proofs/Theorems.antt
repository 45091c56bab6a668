-- Demand 3, first part, of the definitions: what edges a lattice has, and that pruning keeps lattices in step with the pieces. Assumes nothing.
use mathlib.Core.Path.{◌≡◌, refl, ap, ◌∙◌}
use mathlib.Core.Logic.{◌↔◌}
use mathlib.Core.List.{List, [], ◌∷◌, Memᴰ}
use Prim.Native.Nat.{ℕ, ◌-◌, ◌≤◌, ◌<◌}
use lib.ListN.{length}
use Rattle.lattice.specs.Pieces.{Distinct}
use Rattle.lattice.specs.Lattice.{Edge, between, edge_id, ending, cache}
use Rattle.lattice.specs.Pruning.{gone, Remap, survivors, retained, Prunings, no_pruning, one_more, survivors_of, retained_by}
use Rattle.lattice.specs.Layout.{flat}
use Rattle.lattice.proofs.Spelling.{Stands, found, complete}
use Rattle.lattice.proofs.Survivors.{still_distinct}
use Rattle.lattice.proofs.Sifted.{new_lattice}
use Rattle.lattice.proofs.Edges.{in_starting, starting_in, within, from_within}

-- ---- "An edge exists exactly when a piece of 1 character up to the length setting spells it"
-- the pieces are distinct; the edge ends at `end`
pub edge_exactly : (setting : ℕ) {pieces : List (List ℕ)} → Distinct pieces → (word : List ℕ) (end start id : ℕ)
    → Memᴰ (record { start = start; id = id }) (ending setting pieces word end) ↔ ((start < end) × (end - start ≤ setting) × Stands pieces (between word start end) id)
edge_exactly setting {pieces} d word end start id = (there, back)
  where
    there : Memᴰ (record { start = start; id = id }) (ending setting pieces word end) → (start < end) × (end - start ≤ setting) × Stands pieces (between word start end) id
    there m =
        let s = in_starting (edge_id setting pieces word end) end (record { start = start; id = id }) m in
        let w = within setting pieces word end start id s.is in
        (s.before, w.0, found pieces (between word start end) id w.1)

    back : (start < end) × (end - start ≤ setting) × Stands pieces (between word start end) id → Memᴰ (record { start = start; id = id }) (ending setting pieces word end)
    back (l, h, s) = starting_in (edge_id setting pieces word end) end start id l (from_within setting pieces word end start h ∙ complete d (between word start end) id s)

-- ---- one pruning: the kept lattices are those built afresh from the survivors
pub in_step_once : (setting : ℕ) {remap : List ℕ} {pieces : List (List ℕ)} → Remap 0 remap → Distinct pieces → length remap ≡ length pieces → (words : List (List ℕ))
    → retained remap (cache setting pieces words) ≡ cache setting (survivors remap pieces) words
in_step_once setting r d l [] = refl
in_step_once setting r d l (word ∷ words) = two (new_lattice setting r d l word) (in_step_once setting r d l words)
  where
    two : {x y : List (List Edge)} {xs ys : List (List (List Edge))} → x ≡ y → xs ≡ ys → x ∷ xs ≡ y ∷ ys
    two p q = cc

-- ---- "after each of any number of prunings (survivors keep their order) the kept lattices are, edge for edge and offset for offset, those built afresh from the survivors"
-- for any words, length setting and list of distinct pieces. The first prunings of a list are a list of prunings too, so it holds after each.
pub in_step : (setting : ℕ) {pieces remaps : List (List ℕ)} → Distinct pieces → Prunings pieces remaps → (words : List (List ℕ))
    → retained_by remaps (cache setting pieces words) ≡ cache setting (survivors_of remaps pieces) words
in_step setting d no_pruning words = refl
in_step setting d (one_more {pieces} {remap} {remaps} r l s) words =
    ap (retained_by remaps) (in_step_once setting r d l words) ∙ in_step setting (still_distinct remap d) s words

-- and so of the flat lists that a cache's slices hold
pub in_step_flat : (setting : ℕ) {pieces remaps : List (List ℕ)} → Distinct pieces → Prunings pieces remaps → (words : List (List ℕ))
    → flat (retained_by remaps (cache setting pieces words)) ≡ flat (cache setting (survivors_of remaps pieces) words)
in_step_flat setting d s words = ap flat (in_step setting d s words)

-- ---- document 01's examples, a and b as 97 and 98: pieces a, b, ab, ba and the word aba; and b pruned
abbrev four : List (List ℕ)
four = (97 ∷ []) ∷ (98 ∷ []) ∷ (97 ∷ 98 ∷ []) ∷ (98 ∷ 97 ∷ []) ∷ []

abbrev aba : List ℕ
aba = 97 ∷ 98 ∷ 97 ∷ []

pub example_built : flat (cache 16 four (aba ∷ [])) ≡ record { starts = 0 ∷ 0 ∷ 1 ∷ 1 ∷ 2 ∷ []; ids = 0 ∷ 2 ∷ 1 ∷ 3 ∷ 0 ∷ []; ends = 0 ∷ 0 ∷ 1 ∷ 3 ∷ 5 ∷ []; spans = 0 ∷ 5 ∷ 0 ∷ 3 ∷ [] }
example_built = refl

-- the empty word has two zeros
pub example_empty : flat (cache 16 four ([] ∷ [])) ≡ record { starts = []; ids = []; ends = 0 ∷ 0 ∷ []; spans = 0 ∷ 0 ∷ 0 ∷ 0 ∷ [] }
example_empty = refl

pub example_pruned : flat (retained (0 ∷ gone ∷ 1 ∷ 2 ∷ []) (cache 16 four (aba ∷ []))) ≡ record { starts = 0 ∷ 0 ∷ 1 ∷ 2 ∷ []; ids = 0 ∷ 1 ∷ 2 ∷ 0 ∷ []; ends = 0 ∷ 0 ∷ 1 ∷ 2 ∷ 4 ∷ []; spans = 0 ∷ 4 ∷ 0 ∷ 3 ∷ [] }
example_pruned = refl
