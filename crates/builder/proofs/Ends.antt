-- The edges of a word, an end more at each turn, and its offsets. Assumes nothing.
use mathlib.Core.Path.{◌≡◌, refl, sym, ap, ap₂, ◌∙◌}
use mathlib.Core.List.{List, [], ◌∷◌, ◌++◌, append-nil}
use mathlib.Core.Option.{Option, none, some}
use Prim.Native.Nat.{ℕ, zero, suc, ◌+◌, ◌*◌, ◌-◌, ◌≤◌, ◌<◌}
use native.Mathlib.Decide.{dec_lt}
use native.Mathlib.Omega.{arith}
use native.Mathlib.Numerals.{add-one}
use lib.ListN.{length, set, length-append, length-set, drop_of_length-le}
use Rattle.lattice.specs.Lattice.{Edge, edge, starting, rows}
use Rattle.lattice.specs.Layout.{joined, offsets_from, offsets}
use Rattle.lattice.specs.Written.{over}
use Rattle.lattice.proofs.Joined.{joined_append, offsets_long}
use Rattle.lattice.proofs.Fronts.{stored, over_long}
use Rattle.rows.specs.Grid.{grid_id, ending_in, lattice_in}
use Rattle.builder.specs.Put.{Put, Grid, End, Whole, Ended}
use Rattle.builder.proofs.Puts.{put_none, put_join, put_long}

-- ---- one row more
module _ (f : ℕ → List Edge) where
  pub joined_more : (k : ℕ) → joined (rows f (suc k)) ≡ joined (rows f k) ++ f k
  joined_more k = joined_append (rows f k) (f k ∷ []) ∙ ap (λ (l : List Edge). joined (rows f k) ++ l) (append-nil (f k))

  pub count_more : (k : ℕ) → length (joined (rows f (suc k))) ≡ length (joined (rows f k)) + length (f k)
  count_more k = ap length (joined_more k) ∙ length-append (joined (rows f k)) (f k)

  pub rows_most : (k n : ℕ) → k ≤ n → length (joined (rows f k)) ≤ length (joined (rows f n))
  rows_most k zero h = let e : k ≡ 0 = omega arith in let a = ap (λ (j : ℕ). length (joined (rows f j))) e in omega arith
  rows_most k (suc n) h = elim (dec_lt n k) [
    | yes l ↦ let e : k ≡ suc n = omega arith in let a = ap (λ (j : ℕ). length (joined (rows f j))) e in omega arith
    | no l ↦ let a = rows_most k n (omega arith) in let b = count_more n in omega arith
  ]

  pub rows_long : (k : ℕ) → length (rows f k) ≡ k
  rows_long zero = refl
  rows_long (suc k) = let a = length-append (rows f k) (f k ∷ []) in let b = rows_long k in omega arith

-- the offset of one row more is the count of all edges
last_offset : (at : ℕ) (lattice : List (List Edge)) (row : List Edge) → offsets_from at (lattice ++ row ∷ []) ≡ offsets_from at lattice ++ (at + length (joined lattice) + length row) ∷ []
last_offset at [] row = let e : at + length row ≡ at + 0 + length row = omega arith in ap (λ (n : ℕ). at ∷ n ∷ []) e
last_offset at (r ∷ rs) row =
    let n = length-append r (joined rs) in
    let e : at + length r + length (joined rs) + length row ≡ at + length (joined (r ∷ rs)) + length row = omega arith in
    ap (λ (l : List ℕ). at ∷ l) (last_offset (at + length r) rs row ∙ ap (λ (m : ℕ). offsets_from (at + length r) rs ++ m ∷ []) e)

pub offsets_more : (f : ℕ → List Edge) (k : ℕ) → offsets (rows f (suc k)) ≡ offsets (rows f k) ++ length (joined (rows f (suc k))) ∷ []
offsets_more f k =
    let n = count_more f k in
    let e : 0 + length (joined (rows f k)) + length (f k) ≡ length (joined (rows f (suc k))) = omega arith in
    last_offset 0 (rows f k) (f k) ∙ ap (λ (m : ℕ). offsets (rows f k) ++ m ∷ []) e

-- ---- few edges: an end has at most one for each start
pub edge_one : (k : ℕ) (o : Option ℕ) → length (edge k o) ≤ 1
edge_one k none = omega arith
edge_one k (some id) = omega arith

starting_few : (g : ℕ → Option ℕ) (n : ℕ) → length (starting g n) ≤ n
starting_few g zero = omega arith
starting_few g (suc n) = let a = starting_few g n in let b = edge_one n (g n) in let c = length-append (starting g n) (edge n (g n)) in omega arith

module _ (setting : ℕ) (grid : List ℕ) where
  abbrev pub up_to : ℕ → List (List Edge)
  up_to k = rows (ending_in setting grid) k

  pub end_few : (end : ℕ) → length (ending_in setting grid end) ≤ end
  end_few end = starting_few (grid_id setting grid end) end

  pub rows_few : (k : ℕ) → k ≤ 256 → length (joined (up_to k)) ≤ 255 * k
  rows_few zero h = omega arith
  rows_few (suc k) h = let a = rows_few k (omega arith) in let b = end_few k in let c = count_more (ending_in setting grid) k in omega arith

  pub count_next : (k : ℕ) → length (joined (up_to (k + 1))) ≡ length (joined (up_to k)) + length (ending_in setting grid k)
  count_next k = ap (λ (j : ℕ). length (joined (up_to j))) (add-one k) ∙ count_more (ending_in setting grid) k

  pub count_all : (n end : ℕ) {count more : ℕ} → end ≤ n → n ≤ end → count ≡ length (joined (up_to end)) → more ≡ length (ending_in setting grid end) → count + more ≡ length (joined (lattice_in setting grid n))
  count_all n end g h a b =
      let e : end ≡ n = omega arith in
      let c = count_more (ending_in setting grid) end in
      omega (arith, ap (λ (j : ℕ). length (joined (up_to (suc j)))) e)

  pub lower : {n k : ℕ} → Grid grid setting n → k ≤ n → Grid grid setting k
  lower g h = let r = g.rows in let f = g.few in record { rows = omega arith; few = omega arith; narrow = g.narrow }

  -- ---- the loop of `put_word`: the ends before `end` are put
  pub record Ends (offs₀ s i : List ℕ) (n w : ℕ) (offs s' i' : List ℕ) (at end : ℕ) : Type 0 where
    pub near : end ≤ n + 1
    pub many : length offs₀ ≡ n + 2
    pub edges : Put s i w (joined (up_to end)) s' i' at
    pub offsets_are : offs ≡ over (offsets (up_to end)) offs₀

  front_set : (l : List ℕ) → 0 < length l → set l 0 0 ≡ over (0 ∷ []) (set l 0 0)
  front_set [] h = let z : 0 < 0 = h in absurd (omega arith)
  front_set (x ∷ l) h = refl

  module _ {offs s i : List ℕ} {n w : ℕ} (r : Whole offs s i grid setting n w) where
    pub ends_none : Ends (set offs 0 0) s i n w (set offs 0 0) s i w 0
    ends_none = let m = r.many in record { near = omega arith; many = length-set offs 0 0 ∙ m; edges = put_none s i w; offsets_are = front_set offs (omega arith) }

    module _ {offs₀ offs' s' i' : List ℕ} {at end : ℕ} (p : Ends offs₀ s i n w offs' s' i' at end) where
      pub ends_long : (length offs' ≡ n + 2) × (length s' ≡ length s) × (length i' ≡ length i)
      ends_long =
          let l = put_long p.edges in
          let a = offsets_long 0 (up_to end) in
          let b = rows_long (ending_in setting grid) end in
          let m = p.many in
          let h = p.near in
          let c = over_long (offsets (up_to end)) offs₀ (omega arith) in
          let d = ap length p.offsets_are in
          (omega arith, l.0, l.1)

      module _ (h : end ≤ n) where
        enough : at + length (ending_in setting grid end) ≤ w + length (joined (lattice_in setting grid n))
        enough =
            let a = p.edges.count in
            let b = count_next end in
            let c = rows_most (ending_in setting grid) (end + 1) (suc n) (omega arith) in
            omega arith

        pub ends_room : End s' i' grid setting end at
        ends_room =
            let l = put_long p.edges in
            let e = enough in
            let a = r.room.in_starts in
            let b = r.room.in_ids in
            record { grid_is = lower r.grid_is h; room = record { in_starts = omega arith; in_ids = omega arith } }

        module _ {s'' i'' : List ℕ} {next : ℕ} (q : Put s' i' at (ending_in setting grid end) s'' i'' next) where
          pub ends_count : (w ≤ next) × (next - w ≤ 65280)
          ends_count =
              let a = p.edges.count in
              let b = q.count in
              let c = count_next end in
              let f = r.grid_is.few in
              let d = rows_few (end + 1) (omega arith) in
              (omega arith, omega arith)

          pub ends_more : Ends offs₀ s i n w (set offs' (end + 1) (next - w)) s'' i'' next (end + 1)
          ends_more =
              let a = p.edges.count in
              let b = q.count in
              let c = count_next end in
              let long = offsets_long 0 (up_to end) in
              let k = rows_long (ending_in setting grid) end in
              let m = p.many in
              let v : next - w ≡ length (joined (up_to (suc end))) = let z = ap (λ (j : ℕ). length (joined (up_to j))) (add-one end) in omega arith in
              let x : end + 1 ≡ length (offsets (up_to end)) = omega arith in
              record {
                near = omega arith;
                many = m;
                edges = rw (ap (λ (j : ℕ). joined (up_to j)) (add-one end) ∙ joined_more (ending_in setting grid) end) (put_join (joined (up_to end)) (ending_in setting grid end) p.edges q);
                offsets_are =
                    ap (λ (l : List ℕ). set l (end + 1) (next - w)) p.offsets_are
                    ∙ ap₂ (λ (j u : ℕ). set (over (offsets (up_to end)) offs₀) j u) x v
                    ∙ stored (offsets (up_to end)) (length (joined (up_to (suc end))) ∷ []) offs₀ (omega arith)
                    ∙ ap (λ (l : List ℕ). over l offs₀) (sym (offsets_more (ending_in setting grid) end) ∙ ap (λ (j : ℕ). offsets (up_to j)) (sym (add-one end)));
              }

      pub ends_all : n < end → Ended offs s i grid setting n w offs' s' i' at
      ends_all h =
          let g = p.near in
          let e : end ≡ suc n = omega arith in
          let a = offsets_long 0 (up_to end) in
          let b = rows_long (ending_in setting grid) end in
          let m = p.many in
          record {
            edges = rw (ap (λ (j : ℕ). joined (up_to j)) (sym e)) p.edges;
            offsets_are =
                p.offsets_are
                ∙ ap (λ (l : List ℕ). offsets (up_to end) ++ l) (drop_of_length-le offs₀ {i = length (offsets (up_to end))} (omega arith))
                ∙ append-nil (offsets (up_to end))
                ∙ ap (λ (j : ℕ). offsets (up_to j)) e;
          }
