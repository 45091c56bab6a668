-- Demand 3, second part: "its pieces spell the word". Assumes nothing.
use mathlib.Core.Path.{◌≡◌, sym, ap, ap₂, ◌∙◌, subst}
use mathlib.Core.List.{List, [], ◌∷◌, ◌++◌, map, reverse-cons, map-append, append-nil, Memᴰ}
use Prim.Native.Nat.{ℕ, suc, ◌+◌, ◌-◌, ◌≤◌, ◌<◌}
use native.Mathlib.Omega.{arith}
use native.Mathlib.Numerals.{add-one}
use lib.ListN.{length, get_or, take, drop, length-map, length-reverse, get_or-map}
use lib.Seq.{take-add, take_at, take-length}
use lib.Ieee.{Float}
use Rattle.lattice.specs.Pieces.{Distinct}
use Rattle.lattice.specs.Lattice.{Edge, between, ending, lattice}
use Rattle.lattice.specs.Layout.{joined, offsets}
use Rattle.lattice.proofs.Joined.{joined_append}
use Rattle.lattice.proofs.Spelling.{Stands}
use Rattle.lattice.proofs.Theorems.{edge_exactly}
use Rattle.scores.specs.Cuts.{Lattice, Cut}
use Rattle.scores.specs.Floats.{f64s}
use Rattle.scores.proofs.Winner.{wins_cut}
use Rattle.viterbi.specs.Slices.{lattice_of}
use Rattle.viterbi.specs.Walk.{spell}
use Rattle.viterbi.specs.Answers.{Found}
use Rattle.cut.specs.Cut.{Lent, Given}
use Rattle.spelt.proofs.Rows.{offset_at, edge_of}

module _ (setting : ℕ) {pieces : List (List ℕ)} (distinct : Distinct pieces) (word : List ℕ) (scores : List Float) where
  -- the word's lattice, and its slices
  abbrev edges_seen : List Edge
  edges_seen = joined (lattice setting pieces word)

  abbrev starts_of : List ℕ
  starts_of = map (λ e. e.start) edges_seen

  abbrev ids_of : List ℕ
  ids_of = map (λ e. e.id) edges_seen

  abbrev built : Lattice Float
  built = lattice_of (offsets (lattice setting pieces word)) starts_of ids_of scores

  -- the characters of some pieces, one after the other
  abbrev pub characters : List ℕ → List ℕ
  characters ids = joined (map (λ id. get_or pieces id []) ids)

  abbrev none : Edge
  none = record { start = 0; id = 0 }

  -- edge k, which ends at p, is a piece that spells what lies between
  stands : (p k : ℕ) → p ≤ length word → get_or (offsets (lattice setting pieces word)) p 0 ≤ k → k < get_or (offsets (lattice setting pieces word)) (p + 1) 0
      → (get_or starts_of k 0 < p) × Stands pieces (between word (get_or starts_of k 0) p) (get_or ids_of k 0)
  stands p k h a b =
      let f = ending setting pieces word in
      let n = suc (length word) in
      let low = offset_at f n p (omega arith) in
      let high = ap (λ (q : ℕ). get_or (offsets (lattice setting pieces word)) q 0) (add-one p) ∙ offset_at f n (suc p) (omega arith) in
      let e = get_or edges_seen k none in
      let m : Memᴰ e (f p) = edge_of f n p k none (omega arith) (omega arith) (omega arith) in
      let x = (edge_exactly setting distinct word p e.start e.id).0 m in
      let s = get_or-map (λ (g : Edge). g.start) edges_seen k none in
      let i = get_or-map (λ (g : Edge). g.id) edges_seen k none in
      (subst (λ (q : ℕ). q < p) (sym s) x.0, subst (λ (q : ℕ). Stands pieces (between word q p) (get_or ids_of k 0)) (sym s) (subst (λ (q : ℕ). Stands pieces (between word e.start p) q) (sym i) x.2))

  one_more : (k : ℕ) (ks : List ℕ) → characters (spell ids_of (k ∷ ks)) ≡ characters (spell ids_of ks) ++ get_or pieces (get_or ids_of k 0) []
  one_more k ks =
      let piece : ℕ → List ℕ = λ id. get_or pieces id [] in
      ap characters (reverse-cons (get_or ids_of k 0) (map (λ j. get_or ids_of j 0) ks))
      ∙ ap joined (map-append piece (spell ids_of ks) (get_or ids_of k 0 ∷ []))
      ∙ joined_append (map piece (spell ids_of ks)) (piece (get_or ids_of k 0) ∷ [])
      ∙ ap (λ (l : List ℕ). characters (spell ids_of ks) ++ l) (append-nil (piece (get_or ids_of k 0)))

  -- a cut of the first p characters spells them, by its edges from the last
  front : (ks : List ℕ) (p : ℕ) → p ≤ length word → Cut built p ks → characters (spell ids_of ks) ≡ take p word
  front [] p h e = sym (ap (λ (q : ℕ). take q word) e)
  front (k ∷ ks) p h (ends, rest) =
      let (l, s) = stands p k h ends.0 ends.1 in
      let start = get_or starts_of k 0 in
      let z : start + (p - start) ≡ p = omega arith in
      one_more k ks
      ∙ ap₂ (λ (a b : List ℕ). a ++ b) (front ks start (omega arith) rest) s.spells
      ∙ sym (take-add start (p - start) word)
      ∙ ap (λ (q : ℕ). take q word) z

  -- a cut of the first p characters spells them
  pub spells_front : (ks : List ℕ) (p : ℕ) → p ≤ length word → Cut built p ks → characters (spell ids_of ks) ≡ take p word
  spells_front ks p h c = front ks p h c

  -- "its pieces spell the word": so of the best cut, and of every other
  pub spells_word : (ks : List ℕ) → Cut built (length word) ks → characters (spell ids_of ks) ≡ word
  spells_word ks c = front ks (length word) (omega arith) c ∙ take-length word

  -- ---- and so the ids that a best cut leaves: the first `count` are pieces that spell the word
  pub found_spells : {path path' : List ℕ} {score : Float} {count : ℕ} → Found built ids_of (length word) path path' score count → characters (take count path') ≡ word
  found_spells {path = path} {count = count} f =
      let long : length (spell ids_of f.cut) ≡ count = length-reverse (map (λ j. get_or ids_of j 0) f.cut) ∙ length-map f.cut (λ j. get_or ids_of j 0) ∙ sym f.count_is in
      ap (λ (l : List ℕ). characters (take count l)) f.written
      ∙ ap characters (take_at (spell ids_of f.cut) (drop count path) count long)
      ∙ spells_word f.cut (wins_cut f64s built (length word) f.cut f.is_best.wins)

  -- so of the path that `cut::viterbi` leaves
  abbrev lent : Lent
  lent = record { offsets = offsets (lattice setting pieces word); starts = starts_of; ids = ids_of; n = length word; scores = scores }

  pub path_spells : {best : List Float} {back path path' : List ℕ} {score : Float} {count : ℕ} → Given lent best back path path' score count → characters (take count path') ≡ word
  path_spells g = found_spells g.found
