-- The table holds the greatest sums, the walk back wins, and no second cut wins. Assumes nothing.
use mathlib.Core.Path.{◌≡◌, refl, sym, ap, ◌∙◌, subst}
use mathlib.Core.Bool.{true, false}
use mathlib.Core.Logic.{◌⊎◌, inl, inr}
use mathlib.Core.List.{List, [], ◌∷◌}
use Prim.Native.Nat.{ℕ, zero, suc, ◌-◌, ◌≤◌, ◌<◌}
use native.Mathlib.Nat.{eq-or-lt_of_le, lt_irrefl, le_refl}
use native.Mathlib.Decide.{dec_lt}
use native.Mathlib.Omega.{arith}
use Rattle.scores.specs.Domain.{Domain, Laws}
use Rattle.scores.specs.Cuts.{Lattice, Ends, Cut, sum, Sound}
use Rattle.scores.specs.Wins.{Greatest, Earliest, Wins}
use Rattle.scores.specs.Table.{offered, ending, table, best, edge, back}
use Rattle.scores.proofs.Table.{best_suc, table_at}
use Rattle.scores.proofs.Picked.{clash, not_no, le_less, Picked, picked}

pub wins_cut : {S : Type 0} (D : Domain S) (l : Lattice S) (p : ℕ) (ks : List ℕ) → Wins D l p ks → Cut l p ks
wins_cut D l p [] w = w
wins_cut D l p (k ∷ ks) w = (w.0, wins_cut D l (l.edges.start k) ks w.3)

three : (j k : ℕ) → (j < k) ⊎ ((k < j) ⊎ (j ≡ k))
three j k = elim (dec_lt j k) [ yes a ↦ inl a | no a ↦ elim (dec_lt k j) [ yes b ↦ inr (inl b) | no b ↦ inr (inr (omega arith)) ] ]

module _ {S : Type 0} {Score : S → Type 0} (l : Lattice S) (n : ℕ) (F : Sound Score l n) where
  -- among the edges of one end, an earlier start is a smaller number, and an equal start the same edge
  earlier : (p j k : ℕ) → p ≤ n → Ends l p j → Ends l p k → l.edges.start j < l.edges.start k → j < k
  earlier p j k h a b s = elim (three j k) [
    | inl c ↦ c
    | inr d ↦ elim d [
      | inl c ↦ let r = F.rising p k j h b a c in absurd (lt_irrefl 0 (omega arith))
      | inr c ↦ absurd (lt_irrefl (l.edges.start k) (subst (λ (x : ℕ). l.edges.start x < l.edges.start k) c s))
    ]
  ]

  same_edge : (p j k : ℕ) → p ≤ n → Ends l p j → Ends l p k → l.edges.start j ≡ l.edges.start k → j ≡ k
  same_edge p j k h a b s = elim (three j k) [
    | inl c ↦ let r = F.rising p j k h a b c in absurd (lt_irrefl 0 (omega arith))
    | inr d ↦ elim d [
      | inl c ↦ let r = F.rising p k j h b a c in absurd (lt_irrefl 0 (omega arith))
      | inr c ↦ c
    ]
  ]

  -- ---- no second cut fits
  pub wins_one : (D : Domain S) (p : ℕ) → p ≤ n → (ks js : List ℕ) → Wins D l p ks → Wins D l p js → ks ≡ js
  wins_one D p h [] [] v w = refl
  wins_one D p h [] (j ∷ js) v w = let b = F.before p j h w.0 in absurd (lt_irrefl 0 (omega arith))
  wins_one D p h (k ∷ ks) [] v w = let b = F.before p k h v.0 in absurd (lt_irrefl 0 (omega arith))
  wins_one D p h (k ∷ ks) (j ∷ js) v w =
      elim (three (l.edges.start j) (l.edges.start k)) [
        | inl a ↦ clash (D.less (sum D l (j ∷ js)) (sum D l (k ∷ ks))) (v.2 j js (wins_cut D l p (j ∷ js) w) a) (w.1 (k ∷ ks) (wins_cut D l p (k ∷ ks) v))
        | inr d ↦
            elim d [
              | inl a ↦ clash (D.less (sum D l (k ∷ ks)) (sum D l (j ∷ js))) (w.2 k ks (wins_cut D l p (k ∷ ks) v) a) (v.1 (j ∷ js) (wins_cut D l p (j ∷ js) w))
              | inr s ↦
                  let e = same_edge p j k h w.0 v.0 s in
                  let b = F.before p k h v.0 in
                  let r : ks ≡ js = wins_one D (l.edges.start k) (omega arith) ks js v.3 (subst (λ (x : ℕ). Wins D l (l.edges.start x) js) e w.3) in
                  cc
            ]
      ]

module _ {S : Type 0} (D : Domain S) {Score : S → Type 0} (L : Laws D Score) (l : Lattice S) (n : ℕ) (F : Sound Score l n) where
  -- ---- the table holds admitted scores
  offered_is : (p k : ℕ) → suc p ≤ n → Ends l (suc p) k → offered D l.edges (table D l p) k ≡ D.add (best D l (l.edges.start k)) (l.edges.score k)
  offered_is p k h a = let s = F.before (suc p) k h a in ap (λ (x : S). D.add x (l.edges.score k)) (table_at D l p (l.edges.start k) (omega arith))

  ending_picked : (p : ℕ) → suc p ≤ n → ((q : ℕ) → q ≤ p → Score (best D l q)) → Picked D Score l.edges (table D l p) (l.low (suc p)) (l.high (suc p) - l.low (suc p)) (ending D l (table D l p) (suc p))
  ending_picked p h u =
      picked D L l.edges (table D l p) (l.low (suc p)) (l.high (suc p) - l.low (suc p))
      (λ j a b. let w : Ends l (suc p) j = (a, omega arith) in
      let s = F.before (suc p) j h w in
      subst Score (sym (offered_is p j h w)) (L.add_in (u (l.edges.start j) (omega arith)) (F.scored (suc p) j h w)))

  bests_in : (p : ℕ) → p ≤ n → (q : ℕ) → q ≤ p → Score (best D l q)
  bests_in zero h zero a = L.zero_in
  bests_in zero h (suc q) a = absurd (lt_irrefl 0 (omega arith))
  bests_in (suc p) h q a =
      elim (eq-or-lt_of_le a) [
        | inl e ↦ subst (λ (x : ℕ). Score (best D l x)) (sym e) (subst Score (sym (best_suc D l p)) (ending_picked p h (bests_in p (omega arith))).top_in)
        | inr m ↦ bests_in p (omega arith) q (omega arith)
      ]

  pub best_in : (p : ℕ) → p ≤ n → Score (best D l p)
  best_in p h = bests_in p h p (le_refl p)

  winner : (p : ℕ) → suc p ≤ n → Picked D Score l.edges (table D l p) (l.low (suc p)) (l.high (suc p) - l.low (suc p)) (ending D l (table D l p) (suc p))
  winner p h = ending_picked p h (bests_in p (omega arith))

  pub sum_in : (ks : List ℕ) (p : ℕ) → p ≤ n → Cut l p ks → Score (sum D l ks)
  sum_in [] p h c = L.zero_in
  sum_in (k ∷ ks) p h c = let s = F.before p k h c.0 in L.add_in (sum_in ks (l.edges.start k) (omega arith) c.1) (F.scored p k h c.0)

  -- ---- no cut has a greater sum
  -- a cut whose last edge is k has at most what the table gives for k
  by_edge : (p k : ℕ) (ks : List ℕ) → suc p ≤ n → Cut l (suc p) (k ∷ ks) → Greatest D l (l.edges.start k) (best D l (l.edges.start k)) → D.less (offered D l.edges (table D l p) k) (sum D l (k ∷ ks)) ≡ false
  by_edge p k ks h c greatest =
      let s = F.before (suc p) k h c.0 in
      let r : l.edges.start k ≤ n = omega arith in
      rw (offered_is p k h c.0) (L.monotone (sum_in ks (l.edges.start k) r c.1) (best_in (l.edges.start k) r) (F.scored (suc p) k h c.0) (greatest ks c.1))

  offered_in : (p k : ℕ) → suc p ≤ n → Ends l (suc p) k → Score (offered D l.edges (table D l p) k)
  offered_in p k h a = let s = F.before (suc p) k h a in subst Score (sym (offered_is p k h a)) (L.add_in (best_in (l.edges.start k) (omega arith)) (F.scored (suc p) k h a))

  pub greatest_in : (ks : List ℕ) (p : ℕ) → p ≤ n → Cut l p ks → D.less (best D l p) (sum D l ks) ≡ false
  greatest_in [] p h c = subst (λ (x : ℕ). D.less (best D l x) D.zero ≡ false) (sym c) (L.irreflexive L.zero_in)
  greatest_in (k ∷ ks) zero h c = let s = F.before 0 k h c.0 in absurd (lt_irrefl 0 (omega arith))
  greatest_in (k ∷ ks) (suc p) h c =
      let s = F.before (suc p) k h c.0 in
      let r : l.edges.start k ≤ n = omega arith in
      let t = L.add_in (sum_in ks (l.edges.start k) r c.1) (F.scored (suc p) k h c.0) in
      let one = L.monotone (sum_in ks (l.edges.start k) r c.1) (best_in (l.edges.start k) r) (F.scored (suc p) k h c.0) (greatest_in ks (l.edges.start k) r c.1) in
      let two : D.less (best D l (suc p)) (D.add (best D l (l.edges.start k)) (l.edges.score k)) ≡ false = rw (best_suc D l p, ← offered_is p k h c.0) ((winner p h).greatest k c.0.0 (omega arith)) in
      L.transitive t (L.add_in (best_in (l.edges.start k) r) (F.scored (suc p) k h c.0)) (best_in (suc p) h) one two

  pub table_greatest : (p : ℕ) → p ≤ n → Greatest D l p (best D l p)
  table_greatest p h ks c = greatest_in ks p h c

  -- ---- the walk back wins, and its sum is the table's
  pub wins : (m p : ℕ) → p ≤ m → p ≤ n → D.less D.bottom (best D l p) ≡ true → Wins D l p (back D l m p) × (sum D l (back D l m p) ≡ best D l p)
  wins zero zero a h t = (refl, refl)
  wins zero (suc p) a h t = absurd (lt_irrefl 0 (omega arith))
  wins (suc m) zero a h t = (refl, refl)
  wins (suc m) (suc p) a h t =
      let k = edge D l (suc p) in
      let top : D.less D.bottom (ending D l (table D l p) (suc p)).top ≡ true = subst (λ (x : S). D.less D.bottom x ≡ true) (best_suc D l p) t in
      let s = (winner p h).source top in
      let high : k < l.high (suc p) = omega (arith, s) in
      let ends : Ends l (suc p) k = (s.0, high) in
      let lower : l.edges.start k < suc p = F.before (suc p) k h ends in
      let value : best D l (suc p) ≡ D.add (best D l (l.edges.start k)) (l.edges.score k) = best_suc D l p ∙ s.2 ∙ offered_is p k h ends in
      let reached : D.less D.bottom (best D l (l.edges.start k)) ≡ true =
      not_no (D.less D.bottom (best D l (l.edges.start k)))
      (λ (e : D.less D.bottom (best D l (l.edges.start k)) ≡ false).
      clash (D.less D.bottom (best D l (suc p))) t
      (subst (λ (x : S). D.less D.bottom x ≡ false)
      (sym (value ∙ ap (λ (x : S). D.add x (l.edges.score k)) (L.only (best_in (l.edges.start k) (omega arith)) e) ∙ L.absorbing (F.scored (suc p) k h ends)))
      (L.irreflexive L.bottom_in))) in
      let rest = wins m (l.edges.start k) (omega arith) (omega arith) reached in
      let whole : sum D l (k ∷ back D l m (l.edges.start k)) ≡ best D l (suc p) = ap (λ (x : S). D.add x (l.edges.score k)) rest.1 ∙ sym value in
      let greatest : Greatest D l (suc p) (sum D l (k ∷ back D l m (l.edges.start k))) = subst (Greatest D l (suc p)) (sym whole) (table_greatest (suc p) h) in
      let earliest : Earliest D l (suc p) (l.edges.start k) (sum D l (k ∷ back D l m (l.edges.start k))) =
      λ j js c b.
      let z = F.before (suc p) j h c.0 in
      subst (λ (x : S). D.less (sum D l (j ∷ js)) x ≡ true) (sym (whole ∙ best_suc D l p))
      (le_less D L (sum_in (j ∷ js) (suc p) h c) (offered_in p j h c.0) (winner p h).top_in (by_edge p j js h c (table_greatest (l.edges.start j) (omega arith)))
      ((winner p h).first top j c.0.0 (earlier l n F (suc p) j k h c.0 ends b))) in
      ((ends, greatest, earliest, rest.0), whole)
