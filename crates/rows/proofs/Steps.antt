-- How far the loops of `rows` have come, and each way out of them. Assumes nothing.
use mathlib.Core.Path.{◌≡◌, refl, sym, ap, ◌∙◌, subst}
use mathlib.Core.List.{List}
use Prim.Native.Nat.{ℕ, ◌+◌, ◌*◌, ◌-◌, ◌≤◌, ◌<◌}
use native.Mathlib.Decide.{dec_lt}
use native.Mathlib.Numerals.{add-one}
use native.Mathlib.Omega.{arith}
use lib.ListN.{length, get_or, set, drop, length-set, length-drop}
use lib.Seq.{get_or-drop, get_or-set_same, get_or-set_other}
use Rattle.places.specs.Walk.{key_of}
use Rattle.places.specs.Map.{found_in}
use Rattle.std.specs.Prelude.{Some, None, min}
use Rattle.places.proofs.Theorems.{key_some}
use Rattle.places.proofs.Answers.{found_range}
use Rattle.trie.specs.Prefixes.{back}
use Rattle.trie.specs.Trie.{node_at, Trie}
use Rattle.trie.proofs.Nodes.{child_of}
use Rattle.trie.proofs.Walked.{Stepped, step_on, step_off}
use Rattle.rows.specs.Walks.{Walking, spelt, Told, Walks}
use Rattle.rows.proofs.Zeros.{Zeroed}

-- how many steps a walk may take
pub record Most (setting left most : ℕ) : Type 0 where
  pub by_setting : most ≤ setting
  pub by_left : most ≤ left
  pub all : (step : ℕ) → step < setting → step < left → step < most

pub most_of : (setting left : ℕ) {most : ℕ} → most ≡ min setting left → Most setting left most
most_of setting left e = record { by_setting = omega arith; by_left = omega arith; all = λ k a b. omega arith }

module _ (keys ends chars : List ℕ) (setting : ℕ) where
  -- what holds of every trie that the slices may be
  abbrev Any : ((pieces : List (List ℕ)) → Type 0) → Type 0
  Any P = (prefixes pieces : List (List ℕ)) → Trie keys ends prefixes pieces → P pieces

  -- the rows before `start` are told
  pub record Outer (grid₀ grid : List ℕ) (start : ℕ) : Type 0 where
    pub near : start ≤ length chars
    pub long : length grid ≡ length grid₀
    pub told : Any (λ pieces. (s : ℕ) → s < start → Told chars pieces setting grid s)

  -- and of this row the steps before `step`
  pub record Inner (grid₀ : List ℕ) (start most : ℕ) (grid : List ℕ) (node step : ℕ) : Type 0 where
    pub within : start < length chars
    pub most_is : Most setting (length chars - start) most
    pub near : step ≤ most
    pub long : length grid ≡ length grid₀
    pub wide : 32 * length chars ≤ length grid
    pub leads : node_at keys (back (drop start chars) step) ≡ Some node
    pub told : Any (λ pieces. (s : ℕ) → s < start → Told chars pieces setting grid s)
    pub here : Any (λ pieces. (j : ℕ) → j < step → get_or grid (32 * start + j) 0 ≡ spelt chars pieces start j)

  -- no piece is spelt by more characters
  abbrev pub Off : ℕ → ℕ → ℕ → Type 0
  Off start most step = Any (λ pieces. (j : ℕ) → step ≤ j → j < most → spelt chars pieces start j ≡ 0)

  none_below : {A : Type 0} (k : ℕ) → k < 0 → A
  none_below k l = absurd (omega arith)

  pub outer_none : (grid : List ℕ) → Outer grid grid 0
  outer_none grid = record { near = omega arith; long = refl; told = λ q p t s l. none_below s l }

  module _ {grid₀ : List ℕ} (x : Walking keys ends chars setting grid₀) where
    pub inner_none : {grid : List ℕ} {start most : ℕ} → Outer grid₀ grid start → start < length chars → most ≡ min setting (length chars - start) → Inner grid start most grid 0 0
    inner_none {grid} {start} o l e =
        let n = o.long in
        let w = x.wide in
        record {
          within = l;
          most_is = most_of setting (length chars - start) e;
          near = omega arith;
          long = refl;
          wide = omega arith;
          leads = refl;
          told = o.told;
          here = λ q p t j h. none_below j h;
        }

    module _ {head grid : List ℕ} {start most node step : ℕ} (i : Inner head start most grid node step) where
      small : (j : ℕ) → j < length (drop start chars) → get_or (drop start chars) j 0 < 4294967295
      small j h =
          let n = length-drop start chars in
          subst (λ (v : ℕ). v < 4294967295) (sym (get_or-drop start chars j 0)) (x.small (start + j) (omega arith))

      pub at_end : most ≤ step → Off start most step
      at_end h q p t j a b = none_between (omega arith)
        where
          none_between : {A : Type 0} → most < most → A
          none_between l = absurd (omega arith)

      module _ (h : step < most) where
        pub read_in : start + step < length chars
        read_in = let m = i.most_is.by_left in let w = i.within in omega arith

        inside : step < length (drop start chars)
        inside = let n = length-drop start chars in let m = i.most_is.by_left in omega arith

        pub write_in : 32 * start + step < length grid
        write_in = let m = i.most_is.by_setting in let n = x.narrow in let w = i.wide in let l = i.within in omega arith

        same_char : get_or (drop start chars) step 0 ≡ get_or chars (start + step) 0
        same_char = get_or-drop start chars step 0

        pub at_hole : found_in keys (key_of node (get_or chars (start + step) 0)) ≡ None → Off start most step
        at_hole e q p t j a b =
            let n = length-drop start chars in
            let m = i.most_is.by_left in
            step_off t (drop start chars) small i.leads inside (ap (λ (c : ℕ). found_in keys (key_of node c)) same_char ∙ e) j a (omega arith)

        module _ {m : ℕ} (e : found_in keys (key_of node (get_or chars (start + step) 0)) ≡ Some m) where
          pub node_range : (0 < m) × (m ≤ length keys)
          node_range = found_range keys (key_of node (get_or chars (start + step) 0)) (key_some node (get_or chars (start + step) 0)) e

          found : found_in keys (key_of node (get_or (drop start chars) step 0)) ≡ Some m
          found = ap (λ (c : ℕ). found_in keys (key_of node c)) same_char ∙ e

          next : {prefixes pieces : List (List ℕ)} → Trie keys ends prefixes pieces → Stepped keys ends pieces (drop start chars) step m
          next t = step_on t (drop start chars) small i.leads inside found

          abbrev after : List ℕ
          after = set grid (32 * start + step) (get_or ends (m - 1) 0)

          told_after : Any (λ pieces. (s : ℕ) → s < start → Told chars pieces setting after s)
          told_after q p t s l j a b =
              let n = x.narrow in
              get_or-set_other grid (32 * start + step) (32 * s + j) (get_or ends (m - 1) 0) 0 (omega arith) ∙ i.told q p t s l j a b

          here_after : Any (λ pieces. (j : ℕ) → j < step + 1 → get_or after (32 * start + j) 0 ≡ spelt chars pieces start j)
          here_after q p t j l = elim (dec_lt j step) [
            | yes b ↦ get_or-set_other grid (32 * start + step) (32 * start + j) (get_or ends (m - 1) 0) 0 (omega arith) ∙ i.here q p t j b
            | no b ↦
                let z : j ≡ step = omega arith in
                ap (λ (k : ℕ). get_or after (32 * start + k) 0) z
                ∙ get_or-set_same grid (32 * start + step) (get_or ends (m - 1) 0) 0 write_in
                ∙ (next t).names
                ∙ ap (spelt chars p start) (sym z)
          ]

          pub inner_more : Inner head start most after m (step + 1)
          inner_more =
              record {
                within = i.within;
                most_is = i.most_is;
                near = omega arith;
                long = length-set grid (32 * start + step) (get_or ends (m - 1) 0) ∙ i.long;
                wide = let n = length-set grid (32 * start + step) (get_or ends (m - 1) 0) in let w = i.wide in omega arith;
                leads =
                    ap (λ (k : ℕ). node_at keys (back (drop start chars) k)) (add-one step)
                    ∙ child_of keys (get_or (drop start chars) step 0) (back (drop start chars) step) i.leads
                    ∙ found;
                told = told_after;
                here = here_after;
              }

      -- the row is done: the steps that were not taken are zeros
      pub clear_in : 32 * start + most ≤ length grid
      clear_in = let m = i.most_is.by_setting in let n = x.narrow in let w = i.wide in let l = i.within in omega arith

      module _ (o : Outer grid₀ head start) (off : Off start most step) {grid' : List ℕ} (z : Zeroed grid (32 * start + step) (32 * start + most) grid') where
        told_row : Any (λ pieces. (s : ℕ) → s < start + 1 → Told chars pieces setting grid' s)
        told_row q p t s l j a b = elim (dec_lt s start) [
          | yes e ↦ z.before (32 * s + j) (let n = x.narrow in omega arith) ∙ i.told q p t s e j a b
          | no e ↦
              let f : start ≡ s = omega arith in
              subst (λ (r : ℕ). get_or grid' (32 * r + j) 0 ≡ spelt chars p r j) f
              (elim (dec_lt j step) [
                | yes c ↦ z.before (32 * start + j) (omega arith) ∙ i.here q p t j c
                | no c ↦
                    let g : j < most = i.most_is.all j a (omega arith) in
                    z.zeros (32 * start + j) (omega arith) (omega arith) ∙ sym (off q p t j (omega arith) g)
              ])
        ]

        pub outer_more : Outer grid₀ grid' (start + 1)
        outer_more = record { near = let w = i.within in omega arith; long = z.long ∙ i.long ∙ o.long; told = told_row }

    pub outer_all : {grid : List ℕ} {start : ℕ} → Outer grid₀ grid start → length chars ≤ start → Walks keys ends chars setting grid₀ grid
    outer_all o h = record { long = o.long; told = λ q p t s l. o.told q p t s (omega arith) }
