-- From the best cut of the laid-out lattice to the answer. Assumes nothing.
use mathlib.Core.Path.{◌≡◌, refl, sym, subst}
use mathlib.Core.List.{List, map}
use Prim.Native.Nat.{ℕ, ◌+◌, ◌≤◌}
use native.Mathlib.Nat.{lt_irrefl}
use native.Mathlib.Omega.{arith}
use lib.ListN.{length, get_or, take}
use lib.Ieee.{Float}
use Rattle.std.specs.Prelude.{Result, Ok, Err}
use Rattle.refusal.specs.declared.Refusal.{Refusal}
use Rattle.lattice.specs.Layout.{joined, offsets}
use Rattle.inputs.proofs.Theorems.{not_both}
use Rattle.scores.specs.Best.{FiniteCut}
use Rattle.viterbi.specs.Slices.{lattice_of}
use Rattle.viterbi.specs.Answers.{Found}
use Rattle.cut.specs.Cut.{Lent as Exactly, Why as NotBest, bad as not-asked, bad_lattice, bad_score, no_room, no_slots as few-slots, no_path as nowhere, Answers as BestAnswers}
use Rattle.cut.specs.Checked.{Ready as Asked}
use Rattle.cut.specs.declared.Cut.{Cut}
use Rattle.retain.proofs.Held.{same_many}
use Rattle.fresh.specs.Build.{Results, afresh, Why as NotBuilt, not_in_order, no_trie as few_places, no_cache, Accepted}
use Rattle.fresh.specs.Steps.{Follows as BuildFollows}
use Rattle.one_word.specs.Word.{Lent, chars, rows, ids, InOrder, TrieRoom, Why, no_trie, no_slots, no_path, Answers}
use Rattle.one_word.specs.Steps.{Spanned, Exact, NotCut, no_slots as short-path, no_path as uncut, Cuts}
use Rattle.one_word.proofs.Checking.{ordered_so}
use Rattle.one_word.proofs.Laid.{as_text, Stands, stands, room}

-- ---- what the core answers, where all that it asks holds
abbrev exactly : List ℕ → List ℕ → List ℕ → ℕ → ℕ → List Float → Exactly
exactly offs starts ns edges n scores = record { offsets = take (n + 2) offs; starts = take edges starts; ids = take edges ns; n = n; scores = scores }

module _ {offs starts ns : List ℕ} {edges n : ℕ} {scores : List Float} (path : List ℕ) (e : Exact offs starts ns edges n scores) (h : n ≤ length path) where
  pub asked : {best : List Float} {back : List ℕ} → 256 ≤ length best → 256 ≤ length back → Asked (exactly offs starts ns edges n scores) best back path
  asked a b = let s = e.short in record { formed = e.formed; scored = e.scored; rooms = (omega arith, omega arith); slots = h }

  pub cuts : (best : List Float) (back path' : List ℕ) → 256 ≤ length best → 256 ≤ length back → (r : Result Cut Refusal) → BestAnswers (exactly offs starts ns edges n scores) best back path path' r → Cuts offs starts ns edges n scores path path' r
  cuts best back path' a b (Ok cut) g = (h, g.found)
  cuts best back path' a b (Err refusal) (w, kept) = (why w, kept)
    where
      why : {r : Refusal} → NotBest (exactly offs starts ns edges n scores) best back path r → NotCut offs starts ns edges n scores path r
      why (not-asked (bad_lattice m)) = absurd (m e.formed)
      why (not-asked (bad_score f m)) = absurd (m.bad (e.scored _ m.within))
      why (not-asked (no_room f s m)) = absurd (m (asked {best = best} {back = back} a b).rooms)
      why (few-slots f s m l) = absurd (lt_irrefl n (omega arith))
      why (nowhere f s m l none) = uncut h none

-- ---- said of the word's own lattice
module _ (x : Lent) {table : List ℕ} (o : InOrder x table) {offs starts ns : List ℕ} {edges n : ℕ} (t : Stands x offs starts ns edges n) where
  moved : (F : List ℕ → List ℕ → List ℕ → ℕ → Type 0) → F (take (n + 2) offs) (take edges starts) (take edges ns) n → F (offsets (rows x)) (map (λ e. e.start) (joined (rows x))) (ids x) (length (chars x))
  moved F f =
      subst (F (offsets (rows x)) (map (λ e. e.start) (joined (rows x))) (ids x)) t.n_is
      (subst (λ (l : List ℕ). F (offsets (rows x)) (map (λ e. e.start) (joined (rows x))) l n) t.ids_are
      (subst (λ (l : List ℕ). F (offsets (rows x)) l (take edges ns) n) t.starts_are
      (subst (λ (l : List ℕ). F l (take edges starts) (take edges ns) n) t.offsets_are f)))

  pub answers : (keys ends path path' : List ℕ) → TrieRoom x (record { keys = keys; ends = ends; table = table }) → (r : Result Cut Refusal) → Cuts offs starts ns edges n x.scores path path' r
      → Answers x (record { keys = keys; ends = ends; table = table }) path path' r
  answers keys ends path path' place (Ok cut) (h, f) =
      record { in_order = o; trie_room = place; slots = subst (λ (k : ℕ). k ≤ length path) t.n_is h; found = moved (λ a b c m. Found (lattice_of a b c x.scores) c m path path' cut.score cut.count) f }
  answers keys ends path path' place (Err refusal) (w, kept) = (why w, kept)
    where
      why : {r : Refusal} → NotCut offs starts ns edges n x.scores path r → Why x (record { keys = keys; ends = ends; table = table }) path r
      why (short-path m) = no_slots o place (λ l. m (subst (λ (k : ℕ). k ≤ length path) (sym t.n_is) l))
      why (uncut h none) = no_path o place (subst (λ (k : ℕ). k ≤ length path) t.n_is h) (moved (λ a b c m. FiniteCut (lattice_of a b c x.scores) m → ⊥) none)

-- ---- no lattice was laid out: only the trie can lack room
module _ (x : Lent) {bytes : ℕ} {span : List ℕ} (s : Spanned x.word bytes span) {keys ends table : List ℕ} (o : InOrder x table) {y : Results} where
  pub unbuilt : 257 ≤ length y.offsets → 8160 ≤ length y.starts → 8160 ≤ length y.ids → 4 ≤ length y.spans → {refusal : Refusal} {path : List ℕ} → NotBuilt (as_text x bytes span) y (record { keys = keys; ends = ends; table = table }) refusal
      → Why x (record { keys = keys; ends = ends; table = table }) path refusal
  unbuilt a b c d (not_in_order n) = absurd (not_both n (ordered_so x s o))
  unbuilt a b c d (few_places p n) = no_trie o n
  unbuilt a b c d (no_cache p t n) = absurd (n (room x s o a b c d))

-- ---- what the build answered
module _ (x : Lent) {bytes : ℕ} {span : List ℕ} (s : Spanned x.word bytes span) (keys ends : List ℕ) (y y' : Results) where
  module _ (a : 257 ≤ length y.offsets) (b : 8160 ≤ length y.starts) (c : 8160 ≤ length y.ids) (d : 4 ≤ length y.spans) where
    pub build_refused : {refusal : Refusal} → BuildFollows (as_text x bytes span) y keys ends y' (Err refusal) → (path : List ℕ) (table : List ℕ) → InOrder x table
        → Why x (record { keys = keys; ends = ends; table = table }) path refusal × (path ≡ path)
    build_refused f path table o = (unbuilt x s o a b c d (f table (ordered_so x s o)).0, refl)

  module _ {edges : ℕ} (f : BuildFollows (as_text x bytes span) y keys ends y' (Ok edges)) {table : List ℕ} (o : InOrder x table) where
    pub built_edges : Accepted (as_text x bytes span) y (record { keys = keys; ends = ends; table = table }) y' edges
    built_edges = f table (ordered_so x s o)

    -- an accepted build: the lattice stands in front, and there are slots
    pub built_stands : Stands x y'.offsets y'.starts y'.ids edges (get_or y'.spans 3 0)
    built_stands = stands x s o built_edges.fresh

    -- there are slots for its edges
    pub built_starts : edges ≤ length y.starts
    built_starts =
        let a = built_edges in
        let c = a.fresh.edges in
        let d = same_many (afresh (as_text x bytes span)) in
        let h = a.cache_room.in_starts in
        omega arith

    pub built_ids : edges ≤ length y.ids
    built_ids =
        let a = built_edges in
        let c = a.fresh.edges in
        let h = a.cache_room.in_ids in
        omega arith
