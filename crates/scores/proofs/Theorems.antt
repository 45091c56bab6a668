-- Demand 3, second part, of the definitions: the best cut, in one statement. Assumes nothing.
use mathlib.Core.Path.{◌≡◌, refl, sym, ◌∙◌, subst}
use mathlib.Core.Bool.{Bool, true, false}
use mathlib.Core.List.{List, [], ◌∷◌}
use Prim.Native.Nat.{ℕ}
use native.Mathlib.Nat.{le_refl, lt_irrefl}
use native.Mathlib.Omega.{arith}
use lib.Dec.{T}
use lib.Ieee.{Float}
use lib.Ieee.Scale.{finite}
use Rattle.laws.proofs.Choices.{yes, no}
use Rattle.scores.specs.Cuts.{Lattice, Cut, sum, Sound}
use Rattle.scores.specs.Wins.{Greatest, Wins}
use Rattle.scores.specs.Table.{best, best_cut}
use Rattle.scores.specs.Floats.{ZeroOrBelow, f64s}
use Rattle.scores.specs.Best.{FiniteCut, BestCut, BestCutTheorem}
use Rattle.scores.proofs.Winner.{wins_cut, wins_one, best_in, sum_in, table_greatest, wins}
use Rattle.scores.proofs.Floats.{f64_laws, above_bottom, finite_before}

module _ (l : Lattice Float) (n : ℕ) (F : Sound ZeroOrBelow l n) where
  -- ---- the table, at n
  -- its sum is finite exactly when the walk back is the best cut
  pub best_finite : T (finite (best f64s l n)) → BestCut l n (best_cut f64s l n) × (sum f64s l (best_cut f64s l n) ≡ best f64s l n)
  best_finite t =
      let w = wins f64s f64_laws l n F n n (le_refl n) (le_refl n) (above_bottom (best f64s l n) (best_in f64s f64_laws l n F n (le_refl n)) ∙ is_true (finite (best f64s l n)) t) in
      (record { wins = w.0; is_finite = subst (λ (x : Float). T (finite x)) (sym w.1) t }, w.1)
    where
      is_true : (b : Bool) → T b → b ≡ true
      is_true true t = refl
      is_true false t = absurd t

  -- and where it is not, no cut's is
  pub none_finite : finite (best f64s l n) ≡ false → (ks : List ℕ) → Cut l n ks → T (finite (sum f64s l ks)) → ⊥
  none_finite e ks c t =
      let b = best_in f64s f64_laws l n F n (le_refl n) in
      let s = sum_in f64s f64_laws l n F ks n (le_refl n) c in
      let low = f64_laws.transitive s b tt (table_greatest f64s f64_laws l n F n (le_refl n) ks c) (above_bottom (best f64s l n) b ∙ e) in
      no (sym (above_bottom (sum f64s l ks) s) ∙ low) t

  -- ---- the theorem
  wins_greatest : (ks : List ℕ) → Wins f64s l n ks → Greatest f64s l n (sum f64s l ks)
  wins_greatest [] e [] c = f64_laws.irreflexive f64_laws.zero_in
  wins_greatest [] e (j ∷ js) c = let s = F.before n j (le_refl n) c.0 in absurd (lt_irrefl 0 (omega arith))
  wins_greatest (k ∷ ks) w js c = w.1 js c

  pub best_cut_theorem : BestCutTheorem l n
  best_cut_theorem =
      record {
        given_exactly = (λ c. some c (finite (best f64s l n)) refl, λ c. record { cut = c.0; is_cut = wins_cut f64s l n c.0 c.1.wins; is_finite = c.1.is_finite });
        is_cut = λ ks b. wins_cut f64s l n ks b.wins;
        greatest = λ ks b. wins_greatest ks b.wins;
        earliest = λ k ks b. b.wins.2;
        shorter = λ k ks b. let s = F.before n k (le_refl n) b.wins.0 in
            record {
              wins = b.wins.3;
              is_finite = finite_before (sum f64s l ks) (l.edges.score k) (sum_in f64s f64_laws l n F ks (l.edges.start k) (omega arith) (wins_cut f64s l (l.edges.start k) ks b.wins.3)) (F.scored n k (le_refl n) b.wins.0) b.is_finite;
            };
        no_second = λ ks js a b. wins_one l n F f64s n (le_refl n) ks js a.wins b.wins;
      }
    where
      some : FiniteCut l n → (b : Bool) → finite (best f64s l n) ≡ b → ((ks : List ℕ) × BestCut l n ks)
      some c true e = (best_cut f64s l n, (best_finite (yes e)).0)
      some c false e = absurd (none_finite e c.cut c.is_cut c.is_finite)
