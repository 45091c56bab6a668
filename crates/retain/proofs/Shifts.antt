-- One word more: its span can be moved, and the slices then hold a pruned cache that is one lattice longer. Assumes nothing.
use mathlib.Core.Path.{◌≡◌, sym, ap, ap₂, ◌∙◌, subst}
use mathlib.Core.List.{List, [], ◌∷◌, ◌++◌, map}
use Prim.Native.Nat.{ℕ, ◌+◌, ◌*◌, ◌-◌, ◌≤◌, ◌<◌}
use native.Mathlib.Omega.{arith}
use lib.ListN.{length, get_or, take, drop, set, length-append, length-map, get_or-append}
use lib.Seq.{sets, take_at, get_or-drop}
use Rattle.lattice.specs.Lattice.{Edge}
use Rattle.lattice.specs.Pruning.{sift, retained}
use Rattle.lattice.specs.Layout.{joined, offsets, edge_count, char_count, spans_from}
use Rattle.lattice.specs.Written.{over, Written}
use Rattle.retain.specs.Moves.{new_id, kept_to, Moved, Word, Span, Shifted}
use Rattle.lattice.proofs.Fronts.{over_long, behind, at_behind, stored, placed, renewed_span}
use Rattle.lattice.proofs.Joined.{offsets_long}
use Rattle.lattice.proofs.Flat.{edges, ends, spans_long, first_is_0, rises, last_is_count}
use Rattle.retain.proofs.Sifted.{sift_joined, edges_retained, no_more, ends_retained, Held, starts_sifted, ids_sifted, offsets_sifted}
use Rattle.retain.proofs.Turns.{span_of, Turn, column_more, ends_more, spans_more}

-- no more edges than there were
pub fewer : (m : List ℕ) (done : List (List (List Edge))) → length (edges (retained m done)) ≤ length (edges done)
fewer m done = let a = ap length (edges_retained m done) in let b = no_more m (edges done) in omega arith

module _ {m offs s i sp : List ℕ} {done : List (List (List Edge))} {lattice : List (List Edge)} (T : Turn m offs s i sp done lattice) {offs' s' i' sp' : List ℕ} {w : ℕ} (P : Written (retained m done) offs s i sp offs' s' i' sp' w) where
  -- ---- the slices as they are now
  w_is : w ≡ length (edges (retained m done))
  w_is = P.edges ∙ length-map (edges (retained m done)) (λ e. e.id)

  w_behind : w ≤ length (edges done)
  w_behind = let a = w_is in let b = fewer m done in omega arith

  ends_front : length (ends (retained m done)) ≡ length (ends done)
  ends_front = ends_retained m done

  spans_front : length (spans_from 0 0 (retained m done)) ≡ 4 * length done
  spans_front = spans_long 0 0 (retained m done) ∙ ap (λ (n : ℕ). 4 * n) (length-map done (map (sift m)))

  offsets_behind : drop (length (ends done)) offs' ≡ drop (length (ends done)) offs
  offsets_behind = ap (drop (length (ends done))) P.offsets_are ∙ behind (ends (retained m done)) offs (length (ends done)) (let a = ends_front in omega arith)

  spans_behind : drop (4 * length done) sp' ≡ drop (4 * length done) sp
  spans_behind = ap (drop (4 * length done)) P.spans_are ∙ behind (spans_from 0 0 (retained m done)) sp (4 * length done) (let a = spans_front in omega arith)

  column_behind : (f : Edge → ℕ) (l l' : List ℕ) → l' ≡ over (map f (edges (retained m done))) l → drop (length (edges done)) l' ≡ drop (length (edges done)) l
  column_behind f l l' e =
      ap (drop (length (edges done))) e
      ∙ behind (map f (edges (retained m done))) l (length (edges done)) (let a = fewer m done in let b = length-map (edges (retained m done)) f in omega arith)

  held_now : Held s' i' (length (edges done)) (joined lattice)
  held_now =
      record {
        starts_after = T.held.starts_after;
        ids_after = T.held.ids_after;
        starts_are = column_behind (λ e. e.start) s s' P.starts_are ∙ T.held.starts_are;
        ids_are = column_behind (λ e. e.id) i i' P.ids_are ∙ T.held.ids_are;
      }

  offsets_long_now : length offs' ≡ length offs
  offsets_long_now = ap length P.offsets_are ∙ over_long (ends (retained m done)) offs (let a = ends_front in let b = T.in_offsets in omega arith)

  spans_long_now : length sp' ≡ length sp
  spans_long_now = ap length P.spans_are ∙ over_long (spans_from 0 0 (retained m done)) sp (let a = spans_front in let b = T.in_spans in omega arith)

  column_long_now : (f : Edge → ℕ) (l l' : List ℕ) → length (edges done) + edge_count lattice ≤ length l → l' ≡ over (map f (edges (retained m done))) l → length l' ≡ length l
  column_long_now f l l' h e = ap length e ∙ over_long (map f (edges (retained m done))) l (let a = fewer m done in let b = length-map (edges (retained m done)) f in omega arith)

  -- ---- its span
  read : (j : ℕ) → get_or sp' (4 * length done + j) 0 ≡ get_or (span_of (length (edges done)) (length (ends done)) lattice ++ T.spans_after) j 0
  read j = sym (get_or-drop (4 * length done) sp' j 0) ∙ ap (λ (x : List ℕ). get_or x j 0) (spans_behind ∙ T.spans_here)

  read_0 : get_or sp' (4 * length done) 0 ≡ length (edges done)
  read_0 = let z : 4 * length done ≡ 4 * length done + 0 = omega arith in ap (λ (n : ℕ). get_or sp' n 0) z ∙ read 0

  -- ---- its offsets
  n_is : length (offsets lattice) ≡ char_count lattice + 2
  n_is = let a = offsets_long 0 lattice in let b = T.rows in omega arith

  part_is : take (char_count lattice + 2) (drop (length (ends done)) offs') ≡ offsets lattice
  part_is = ap (take (char_count lattice + 2)) (offsets_behind ∙ T.offsets_here) ∙ take_at (offsets lattice) T.offsets_after (char_count lattice + 2) n_is

  last_is : get_or (offsets lattice) (char_count lattice + 1) 0 ≡ edge_count lattice
  last_is = let e : char_count lattice + 1 ≡ length lattice = let b = T.rows in omega arith in ap (λ (n : ℕ). get_or (offsets lattice) n 0) e ∙ last_is_count lattice

  last_now : get_or offs' (length (ends done) + (char_count lattice + 1)) 0 ≡ edge_count lattice
  last_now =
      sym (get_or-drop (length (ends done)) offs' (char_count lattice + 1) 0)
      ∙ ap (λ (x : List ℕ). get_or x (char_count lattice + 1) 0) (offsets_behind ∙ T.offsets_here)
      ∙ get_or-append (offsets lattice) T.offsets_after 0 (char_count lattice + 1) (let a = n_is in omega arith)
      ∙ last_is

  word_is : Word (offsets lattice) s' i' m (length (edges done)) w (char_count lattice)
  word_is =
      let l = last_is in
      let a = column_long_now (λ e. e.start) s s' T.in_starts P.starts_are in
      let b = column_long_now (λ e. e.id) i i' T.in_ids P.ids_are in
      record {
        many = n_is;
        first = first_is_0 lattice;
        rises = λ p h. rises lattice p (let r = T.rows in omega arith);
        behind = w_behind;
        in_starts = omega (arith, T.in_starts);
        in_ids = omega (arith, T.in_ids);
        entries = λ k g h.
            let e : length (edges done) + (k - length (edges done)) ≡ k = omega arith in
            subst (λ (x : ℕ). x < length m)
            (sym (subst (λ (n : ℕ). get_or i' n 0 ≡ get_or i n 0) e (at_behind i i' (length (edges done)) (k - length (edges done)) (column_behind (λ e. e.id) i i' P.ids_are))))
            (T.entries k (omega arith));
      }

  pub ready : Span offs' s' i' sp' m w (4 * length done)
  ready =
      let a = offsets_long_now in
      let b = spans_long_now in
      let c = n_is in
      record {
        in_spans = omega (arith, T.in_spans);
        in_offsets = rw (read 2, read 3) (omega (arith, T.in_offsets));
        word = rw (read 2, read 3, part_is, read_0) word_is;
        whole = rw (read 1, read_0, read 2, read 3, last_now);
      }

  -- ---- once it has moved
  module _ {offs'' s'' i'' sp'' : List ℕ} {x : ℕ} (S : Shifted offs' s' i' sp' m w (4 * length done) offs'' s'' i'' sp'' x) where
    moved : Moved s' i' m w (kept_to m i' (length (edges done)) (length (edges done) + edge_count lattice)) s'' i'' x
    moved = rw (read_0, read 1) at S.moved

    x_is : x ≡ w + length (sift m (joined lattice))
    x_is =
        let ks = kept_to m i' (length (edges done)) (length (edges done) + edge_count lattice) in
        let a = length-map ks (new_id m i') in
        let b = ap length (ids_sifted m held_now) in
        let c = length-map (sift m (joined lattice)) (λ e. e.id) in
        let d = moved.count in
        omega arith

    -- a slice of starts or of ids, whose stored values are the sifted ones
    column_next : (f : Edge → ℕ) (l l' l'' vs : List ℕ) → length (edges done) + edge_count lattice ≤ length l → l' ≡ over (map f (edges (retained m done))) l → l'' ≡ sets l' w vs → vs ≡ map f (sift m (joined lattice))
        → l'' ≡ over (map f (edges (retained m (done ++ lattice ∷ [])))) l
    column_next f l l' l'' vs h e g v =
        let front = map f (edges (retained m done)) in
        let more = map f (sift m (joined lattice)) in
        let n : w ≡ length front = w_is ∙ sym (length-map (edges (retained m done)) f) in
        g
        ∙ ap₂ (λ (a b : List ℕ). sets a w b) e v
        ∙ ap (λ (k : ℕ). sets (over front l) k more) n
        ∙ stored front more l (let a = w_behind in let b = length-map (sift m (joined lattice)) f in let c = no_more m (joined lattice) in omega arith)
        ∙ ap (λ (k : List ℕ). over k l) (sym (column_more m done lattice f))

    offsets_next : offs'' ≡ over (ends (retained m (done ++ lattice ∷ []))) offs
    offsets_next =
        let front = ends (retained m done) in
        let part = offsets (map (sift m) lattice) in
        let d : length (ends done) + (char_count lattice + 2) ≡ length (front ++ part) =
        (let a = length-append front part in let b = ends_front in let c = offsets_long 0 (map (sift m) lattice) in let e = length-map lattice (sift m) in let g = T.rows in omega arith) in
        rw (read 2, read 3, part_is, read_0) at S.offsets_are
        ∙ ap (λ (k : List ℕ). take (length (ends done)) offs' ++ (k ++ drop (length (ends done) + (char_count lattice + 2)) offs')) (offsets_sifted m lattice held_now)
        ∙ ap₂ (λ (k : ℕ) (o : List ℕ). take k o ++ (part ++ drop (length (ends done) + (char_count lattice + 2)) o)) (sym ends_front) P.offsets_are
        ∙ placed front part offs (length (ends done) + (char_count lattice + 2)) d
        ∙ ap (λ (k : List ℕ). over k offs) (sym (ends_more m done lattice))

    spans_next : sp'' ≡ over (spans_from 0 0 (retained m (done ++ lattice ∷ []))) sp
    spans_next =
        let front = spans_from 0 0 (retained m done) in
        let x-now : x ≡ w + edge_count (map (sift m) lattice) = x_is ∙ ap (λ (es : List Edge). w + length es) (sym (sift_joined m lattice)) in
        let n-now : char_count lattice ≡ char_count (map (sift m) lattice) = ap (λ (n : ℕ). n - 1) (sym (length-map lattice (sift m))) in
        S.spans_are
        ∙ ap₂ (λ (k : ℕ) (l : List ℕ). set (set l k w) (k + 1) x) (sym spans_front) P.spans_are
        ∙ renewed_span front sp (length (edges done)) (length (edges done) + edge_count lattice) (length (ends done)) (char_count lattice) w x (ap (λ (n : ℕ). drop n sp) spans_front ∙ T.spans_here)
        ∙ ap (λ (y : ℕ). over (front ++ w ∷ y ∷ length (ends done) ∷ char_count lattice ∷ []) sp) x-now
        ∙ ap₂ (λ (d n : ℕ). over (front ++ w ∷ (w + edge_count (map (sift m) lattice)) ∷ d ∷ n ∷ []) sp) (sym ends_front) n-now
        ∙ ap (λ (y : ℕ). over (front ++ span_of y (length (ends (retained m done))) (map (sift m) lattice)) sp) w_is
        ∙ ap (λ (k : List ℕ). over k sp) (sym (spans_more m done lattice))

    pub more : Written (retained m (done ++ lattice ∷ [])) offs s i sp offs'' s'' i'' sp'' x
    more =
        record {
          edges =
              let a = ap length (column_more m done lattice (λ e. e.id)) in
              let b = length-append (map (λ e. e.id) (edges (retained m done))) (map (λ e. e.id) (sift m (joined lattice))) in
              let c = length-map (edges (retained m done)) (λ e. e.id) in
              let d = length-map (sift m (joined lattice)) (λ e. e.id) in
              let e = x_is in
              let g = w_is in
              omega arith;
          offsets_are = offsets_next;
          starts_are = column_next (λ e. e.start) s s' s'' (map (λ k. get_or s' k 0) (kept_to m i' (length (edges done)) (length (edges done) + edge_count lattice))) T.in_starts P.starts_are moved.starts_are (starts_sifted m held_now);
          ids_are = column_next (λ e. e.id) i i' i'' (map (new_id m i') (kept_to m i' (length (edges done)) (length (edges done) + edge_count lattice))) T.in_ids P.ids_are moved.ids_are (ids_sifted m held_now);
          spans_are = spans_next;
        }
