-- Sifting the edges that the pieces spell gives those that the survivors spell. Assumes nothing.
use mathlib.Core.Path.{◌≡◌, refl, sym, ap, ◌∙◌}
use mathlib.Core.Bool.{Bool, true, false, cond}
use mathlib.Core.List.{List, [], ◌∷◌, ◌++◌, map, append-nil, append_assoc}
use mathlib.Core.Option.{Option, none, some}
use Prim.Native.Nat.{ℕ, zero, suc, ◌-◌}
use lib.Dec.{leb}
use lib.ListN.{length}
use Rattle.lattice.specs.Pieces.{id_of, Distinct}
use Rattle.lattice.specs.Lattice.{Edge, between, edge_id, edge, starting, ending, rows, lattice}
use Rattle.lattice.specs.Pruning.{Remap, survivors, renew, sift}
use Rattle.lattice.proofs.Survivors.{renewed, renewed_id}

sift_join : (m : List ℕ) (a b : List Edge) → sift m (a ++ b) ≡ sift m a ++ sift m b
sift_join m [] b = refl
sift_join m (e ∷ a) b = ap (λ (l : List Edge). edge e.start (renew m e.id) ++ l) (sift_join m a b) ∙ sym (append_assoc (edge e.start (renew m e.id)) (sift m a) (sift m b))

sift_edge : (m : List ℕ) (s : ℕ) (o : Option ℕ) → sift m (edge s o) ≡ edge s (renewed m o)
sift_edge m s none = refl
sift_edge m s (some k) = append-nil (edge s (renew m k))

-- which piece an edge is, by f before and by g after
sift_starting : (m : List ℕ) (f g : ℕ → Option ℕ) → ((s : ℕ) → renewed m (f s) ≡ g s) → (n : ℕ) → sift m (starting f n) ≡ starting g n
sift_starting m f g h zero = refl
sift_starting m f g h (suc n) =
    sift_join m (starting f n) (edge n (f n))
    ∙ ap (λ (l : List Edge). l ++ sift m (edge n (f n))) (sift_starting m f g h n)
    ∙ ap (λ (l : List Edge). starting g n ++ l) (sift_edge m n (f n) ∙ ap (edge n) (h n))

map_join : (f : List Edge → List Edge) (a b : List (List Edge)) → map f (a ++ b) ≡ map f a ++ map f b
map_join f [] b = refl
map_join f (x ∷ a) b = ap (λ (l : List (List Edge)). f x ∷ l) (map_join f a b)

sift_rows : (m : List ℕ) (f g : ℕ → List Edge) → ((p : ℕ) → sift m (f p) ≡ g p) → (n : ℕ) → map (sift m) (rows f n) ≡ rows g n
sift_rows m f g h zero = refl
sift_rows m f g h (suc n) =
    map_join (sift m) (rows f n) (f n ∷ [])
    ∙ ap (λ (l : List (List Edge)). l ++ (sift m (f n) ∷ [])) (sift_rows m f g h n)
    ∙ ap (λ (l : List Edge). rows g n ++ (l ∷ [])) (h n)

-- ---- one word
module _ (setting : ℕ) {remap : List ℕ} {ps : List (List ℕ)} (r : Remap 0 remap) (d : Distinct ps) (l : length remap ≡ length ps) (word : List ℕ) where
  new_edge : (end start : ℕ) → renewed remap (edge_id setting ps word end start) ≡ edge_id setting (survivors remap ps) word end start
  new_edge end start = go (leb (end - start) setting)
    where
      go : (b : Bool) → renewed remap (cond b (id_of ps (between word start end)) none) ≡ cond b (id_of (survivors remap ps) (between word start end)) none
      go true = renewed_id r d l (between word start end)
      go false = refl

  new_ending : (end : ℕ) → sift remap (ending setting ps word end) ≡ ending setting (survivors remap ps) word end
  new_ending end = sift_starting remap (edge_id setting ps word end) (edge_id setting (survivors remap ps) word end) (new_edge end) end

  pub new_lattice : map (sift remap) (lattice setting ps word) ≡ lattice setting (survivors remap ps) word
  new_lattice = sift_rows remap (ending setting ps word) (ending setting (survivors remap ps) word) new_ending (suc (length word))
