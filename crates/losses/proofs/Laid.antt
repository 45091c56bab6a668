-- The lattice of a piece's own text, as it is laid out: it stands in front of its slices. Assumes nothing.
use mathlib.Core.Path.{◌≡◌, refl, sym, ap, ap₂, ◌∙◌, subst}
use mathlib.Core.List.{List, [], ◌∷◌, map, append-nil}
use Prim.Native.Nat.{ℕ, zero, suc, ◌+◌, ◌*◌, ◌-◌, ◌≤◌, ◌<◌}
use native.Mathlib.Nat.{le_trans, mul-le-mul}
use native.Mathlib.Numerals.{add-one}
use native.Mathlib.Omega.{arith}
use lib.ListN.{length, get_or, take, drop, length-map, length-take}
use lib.Seq.{take-append_seam, drop-cons}
use lib.Ieee.{Float}
use Rattle.spans.specs.Spans.{many, from, bytes, chars_at, listed}
use Rattle.spans.specs.Check.{Good, AllGood}
use Rattle.lattice.specs.Lattice.{Edge, ending, lattice}
use Rattle.lattice.specs.Layout.{joined, offsets, flat}
use Rattle.lattice.specs.Written.{over, Written}
use Rattle.lattice.proofs.Joined.{offsets_long}
use Rattle.formed.proofs.Built.{length_rows}
use Rattle.trie.proofs.Same.{length_first}
use Rattle.builder.specs.Lay.{Building, Builds}
use Rattle.builder.specs.declared.Sizes.{Sizes}
use Rattle.retain.proofs.Held.{same_many}
use Rattle.fresh.specs.Build.{Results, CacheRoom}
use Rattle.fresh.specs.Steps.{Ample}
use Rattle.fresh.proofs.Most.{chars_few}
use Rattle.fresh.proofs.Building.{ample_room}
use Rattle.scores.specs.Table.{best}
use Rattle.scores.specs.Floats.{f64s}
use Rattle.viterbi.specs.Slices.{lattice_of, without, WellFormed}
use Rattle.viterbi.proofs.Exact.{built_exact}
use Rattle.losses.specs.Losses.{alternative}
use Rattle.losses.specs.Steps.{Lent}

-- a front, whatever is behind it
front_of : (front l : List ℕ) {xs : List ℕ} (n : ℕ) → xs ≡ over front l → n ≡ length front → take n xs ≡ front
front_of front l n e h = ap (take n) e ∙ ap (λ (k : ℕ). take k (over front l)) h ∙ take-append_seam front (drop (length front) l)

-- ---- the two numbers of a piece, as the only span of a list
module _ (pieces : List ℕ) (id : ℕ) where
  abbrev pub span_of : List ℕ
  span_of = take (2 * id + 2 - 2 * id) (drop (2 * id) pieces)

  abbrev pair : List ℕ
  pair = from pieces id ∷ bytes pieces id ∷ []

  span_is : id < many pieces → span_of ≡ pair
  span_is l =
      let two : 2 * id + 2 - 2 * id ≡ 2 = omega arith in
      let a : drop (2 * id) pieces ≡ from pieces id ∷ drop (suc (2 * id)) pieces = drop-cons pieces (2 * id) 0 (omega arith) in
      let b : drop (suc (2 * id)) pieces ≡ bytes pieces id ∷ drop (suc (suc (2 * id))) pieces = next in
      ap₂ (λ (k : ℕ) (xs : List ℕ). take k xs) two (a ∙ ap (λ (xs : List ℕ). from pieces id ∷ xs) b)
    where
      next : drop (suc (2 * id)) pieces ≡ bytes pieces id ∷ drop (suc (suc (2 * id))) pieces
      next = drop-cons pieces (suc (2 * id)) 0 (omega arith) ∙ ap (λ (k : ℕ). get_or pieces k 0 ∷ drop (suc (suc (2 * id))) pieces) (sym (add-one (2 * id)))

  pair_good : (text : List ℕ) → Good text pieces 255 id → AllGood text pair 255 1
  pair_good text g zero l = record { inside = g.inside; short = g.short; utf8 = g.utf8 }
  pair_good text g (suc k) l = absurd (none k l)
    where
      none : (k : ℕ) → suc k < 1 → ⊥
      none k l = omega arith

-- what is known of slices that hold the lattice of a piece's text
pub record Spelt (text pieces : List ℕ) (setting : ℕ) (scores : List Float) (id : ℕ) (offs starts ids : List ℕ) (edges n : ℕ) : Type 0 where
  pub short : n ≤ 255
  pub well_formed : WellFormed (take (n + 2) offs) (take edges starts) (take edges ids) scores n
  pub exact : (r : Float) → r ≡ best f64s (lattice_of (take (n + 2) offs) (take edges starts) (take edges ids) (without id scores)) n → r ≡ alternative setting (listed text pieces) (chars_at text pieces id) scores id

module _ {text pieces : List ℕ} {setting : ℕ} {keys ends : List ℕ} {scores : List Float} (x : Lent text pieces setting keys ends scores) (id : ℕ) (l : id < many pieces) where
  abbrev word : List ℕ
  word = chars_at text pieces id

  abbrev rows : List (List Edge)
  rows = lattice setting (listed text pieces) word

  -- ---- there are slots for it: so many as any text of 255 bytes can have
  module _ (offs starts ids spans : List ℕ) (a : 257 ≤ length offs) (b : 8160 ≤ length starts) (c : 8160 ≤ length ids) (d : 4 ≤ length spans) where
    abbrev slots : Results
    slots = record { offsets = offs; starts = starts; ids = ids; spans = spans }

    few : 0 + bytes pieces id ≤ 255
    few = let h = (x.good id l).short in omega arith

    ample : Ample (pair pieces id) setting slots
    ample =
        let e : setting * (0 + bytes pieces id) ≤ 8160 = mul-le-mul x.narrow few in
        let h = few in
        record { in_offsets = omega arith; in_starts = le_trans e b; in_ids = le_trans e c; in_spans = omega arith }

    room : CacheRoom (rows ∷ []) slots
    room = ample_room setting (listed text pieces) text (pair pieces id) (pair_good pieces id text (x.good id l)) slots ample

    building_pair : Building keys ends text (pair pieces id) setting offs starts ids spans
    building_pair =
        let same = same_many (rows ∷ []) in
        let s = room.in_starts in
        record {
          listed = record { good = pair_good pieces id text (x.good id l); few = omega arith };
          f = chars_at text pieces;
          count = many pieces;
          holds = x.holds;
          so = record { edges = length (flat (rows ∷ [])).ids; ends = length (flat (rows ∷ [])).ends };
          wants = record { edges_are = refl; ends_are = refl };
          fits = record { in_offsets = room.in_offsets; in_starts = omega arith; in_ids = room.in_ids; in_spans = omega arith };
        }

    pub building : Building keys ends text (span_of pieces id) setting offs starts ids spans
    building = subst (λ (w : List ℕ). Building keys ends text w setting offs starts ids spans) (sym (span_is pieces id l)) building_pair

    -- ---- it stands in front of its slices
    module _ (offs' starts' ids' spans' : List ℕ) (so : Sizes) (g : Builds keys ends text (span_of pieces id) setting offs starts ids spans offs' starts' ids' spans' so) where
      written : Written (rows ∷ []) offs starts ids spans offs' starts' ids' spans' so.edges
      written = (subst (λ (w : List ℕ). Builds keys ends text w setting offs starts ids spans offs' starts' ids' spans' so) (span_is pieces id l) g (chars_at text pieces) (many pieces) x.holds).0

      its_edges : joined (joined (rows ∷ [])) ≡ joined rows
      its_edges = ap joined (append-nil rows)

      count_is : so.edges ≡ length (joined rows)
      count_is = written.edges ∙ length-map (joined (joined (rows ∷ []))) (λ e. e.id) ∙ ap length its_edges

      many_rows : length rows ≡ suc (length word)
      many_rows = length_rows (ending setting (listed text pieces) word) (suc (length word))

      many_ends : length (offsets rows) ≡ length word + 2
      many_ends = let a = offsets_long 0 rows in let b = many_rows in omega arith

      n_is : get_or spans' 3 0 ≡ length word
      n_is = ap (λ (k : List ℕ). get_or k 3 0) written.spans_are ∙ (let a = many_rows in omega arith)

      column : (f : Edge → ℕ) (base : List ℕ) {xs : List ℕ} → xs ≡ over (map f (joined (joined (rows ∷ [])))) base → take so.edges xs ≡ map f (joined rows)
      column f base e = front_of (map f (joined rows)) base so.edges (e ∙ ap (λ (es : List Edge). over (map f es) base) its_edges) (count_is ∙ sym (length-map (joined rows) f))

      few_chars : length word ≤ 255
      few_chars =
          let g = x.good id l in
          let a = chars_few g.utf8 in
          let b = g.short in
          let c = length-take (bytes pieces id) (drop (from pieces id) text) in
          omega arith

      -- n is what stands in the span
      module _ (n : ℕ) (is : n ≡ get_or spans' 3 0) where
        here : n ≡ length word
        here = is ∙ n_is

        short : n ≤ 255
        short = let h = here in let f = few_chars in omega arith

        offsets_are : take (n + 2) offs' ≡ offsets rows
        offsets_are =
            front_of (offsets rows) offs (n + 2) (written.offsets_are ∙ ap (λ (k : List ℕ). over k offs) (append-nil (offsets rows)))
            (let h = here in let m = many_ends in omega arith)

        starts_are : take so.edges starts' ≡ map (λ e. e.start) (joined rows)
        starts_are = column (λ e. e.start) starts written.starts_are

        ids_are : take so.edges ids' ≡ map (λ e. e.id) (joined rows)
        ids_are = column (λ e. e.id) ids written.ids_are

        -- said of the lattice itself, it is said of its slices
        moved : (F : List ℕ → List ℕ → List ℕ → ℕ → Type 0) → F (offsets rows) (map (λ e. e.start) (joined rows)) (map (λ e. e.id) (joined rows)) (length word)
            → F (take (n + 2) offs') (take so.edges starts') (take so.edges ids') n
        moved F f =
            subst (F (take (n + 2) offs') (take so.edges starts') (take so.edges ids')) (sym here)
            (subst (λ (k : List ℕ). F (take (n + 2) offs') (take so.edges starts') k (length word)) (sym ids_are)
            (subst (λ (k : List ℕ). F (take (n + 2) offs') k (map (λ e. e.id) (joined rows)) (length word)) (sym starts_are)
            (subst (λ (k : List ℕ). F k (map (λ e. e.start) (joined rows)) (map (λ e. e.id) (joined rows)) (length word)) (sym offsets_are) f)))

        well_formed : WellFormed (take (n + 2) offs') (take so.edges starts') (take so.edges ids') scores n
        well_formed =
            let p : length (listed text pieces) ≤ length scores = let e = length_first (chars_at text pieces) (many pieces) in let h = x.scored in omega arith in
            moved (λ a b c m. WellFormed a b c scores m) (built_exact setting (listed text pieces) word scores p)

        is_alternative : (r : Float) → r ≡ best f64s (lattice_of (take (n + 2) offs') (take so.edges starts') (take so.edges ids') (without id scores)) n
            → r ≡ alternative setting (listed text pieces) word scores id
        unfolding alternative
        is_alternative r e =
            e ∙ moved (λ a b c m. best f64s (lattice_of a b c (without id scores)) m ≡ best f64s (lattice_of (offsets rows) (map (λ g. g.start) (joined rows)) (map (λ g. g.id) (joined rows)) (without id scores)) (length word)) refl

        pub spelt : Spelt text pieces setting scores id offs' starts' ids' so.edges n
        spelt = record { short = short; well_formed = well_formed; exact = is_alternative }
