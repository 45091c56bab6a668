-- Document 01's examples, a and b as 97 and 98: "aba of frequency 2, minimum 2: a, b, aba, ab, ba; minimum 3: a, b". The length
-- setting is the default, 16. Assumes nothing.
use mathlib.Core.Path.{◌≡◌, refl, subst}
use mathlib.Core.List.{List, [], ◌∷◌}
use Prim.Native.Nat.{ℕ, ◌-◌, ◌≤◌}
use native.Mathlib.Omega.{arith}
use lib.Seq.{take_all, take-nil}
use Rattle.ranking.specs.Corpus.{Corpus}
use Rattle.ranking.specs.Ranked.{Ranked}
use Rattle.ranking.specs.Seed.{Seeded}
use Rattle.ranking.proofs.Theorems.{ranked_list, ranked_exists}

abbrev a : List ℕ
a = 97 ∷ []

abbrev b : List ℕ
b = 98 ∷ []

abbrev ab : List ℕ
ab = 97 ∷ 98 ∷ []

abbrev ba : List ℕ
ba = 98 ∷ 97 ∷ []

abbrev aba : List ℕ
aba = 97 ∷ 98 ∷ 97 ∷ []

abbrev pub corpus : Corpus
corpus = (aba, 2) ∷ []

works_out : (low high least : ℕ) → 1 ≤ low → (strings : List (List ℕ)) → ranked_list corpus low high least ≡ strings
    → Ranked corpus low high least strings
works_out low high least h strings e = subst (Ranked corpus low high least) e (ranked_exists corpus low high least h)

single : Ranked corpus 1 1 0 (a ∷ b ∷ [])
single = works_out 1 1 0 (omega arith) (a ∷ b ∷ []) refl

-- minimum 2, and a pool that cuts nothing off
pub minimum_2 : (pool : ℕ) → 5 ≤ pool → Seeded corpus 16 2 pool (a ∷ b ∷ aba ∷ ab ∷ ba ∷ []) 2
minimum_2 pool h =
    record {
      characters = a ∷ b ∷ [];
      strings = aba ∷ ab ∷ ba ∷ [];
      listed = record { single = single; longer = works_out 2 16 2 (omega arith) (aba ∷ ab ∷ ba ∷ []) refl };
      required_is = refl;
      texts_are = rw (take_all (pool - 2) (aba ∷ ab ∷ ba ∷ []) (omega arith));
    }

-- minimum 3
pub minimum_3 : (pool : ℕ) → Seeded corpus 16 3 pool (a ∷ b ∷ []) 2
minimum_3 pool =
    record {
      characters = a ∷ b ∷ [];
      strings = [];
      listed = record { single = single; longer = works_out 2 16 3 (omega arith) [] refl };
      required_is = refl;
      texts_are = rw (take-nil {A = List ℕ} (pool - 2));
    }
