-- No spelling stands twice in the seed list. Assumes nothing.
use mathlib.Core.Path.{◌≡◌, refl, sym, ap, ◌∙◌, subst}
use mathlib.Core.Logic.{inl, inr, ⊎_elim}
use mathlib.Core.List.Memᴰ
use mathlib.Core.List.{List, [], ◌∷◌, ◌++◌, Memᴰ}
use mathlib.Core.Option.{some}
use Prim.Native.Nat.{ℕ, zero, suc, ◌-◌, ◌<◌}
use native.Mathlib.Omega.{arith}
use lib.ListN.{length, get_or, take}
use Rattle.utf8.specs.Chars.{chars_of}
use Rattle.spans.specs.Spans.{many, chars_at, listed}
use Rattle.inputs.specs.Inputs.{Once}
use Rattle.order.specs.Sort.{In, Sorted}
use Rattle.ranking.specs.Corpus.{Corpus}
use Rattle.ranking.specs.Ranked.{Before, Ranked}
use Rattle.ranking.specs.Seed.{Seeded}
use Rattle.lattice.specs.Pieces.{id_of, Distinct, no_piece, one_more}
use Rattle.lattice.proofs.Spelling.{complete}
use Rattle.trie.proofs.Same.{length_first}
use Rattle.model.proofs.Nodes.{first_at}

-- ---- an item of a list, by two names
mem_in : (p : List ℕ) (ps : List (List ℕ)) → Memᴰ p ps → In p ps
mem_in p [] m = Memᴰ.not-nil m
mem_in p (q ∷ ps) m = ⊎_elim (λ e. inl e) (λ h. inr (mem_in p ps h)) (Memᴰ.cases_cons m)

-- ---- no string goes before itself, so that strings in order are distinct
never_before : (corpus : Corpus) (s : List ℕ) → Before corpus s s → ⊥
never_before corpus s (inl h) = omega arith
never_before corpus s (inr h) = h.1.1 refl

sorted_distinct : (corpus : Corpus) (ps : List (List ℕ)) → Sorted (Before corpus) ps → Distinct ps
sorted_distinct corpus [] s = no_piece
sorted_distinct corpus (p ∷ ps) s = one_more (λ m. never_before corpus p (s.0 p (mem_in p ps m))) (sorted_distinct corpus ps s.1)

-- ---- the first of distinct strings
taken_in : (n : ℕ) (p : List ℕ) (ps : List (List ℕ)) → Memᴰ p (take n ps) → Memᴰ p ps
taken_in zero p ps m = absurd (Memᴰ.not-nil m)
taken_in (suc n) p [] m = m
taken_in (suc n) p (q ∷ ps) m = ⊎_elim (λ e. Memᴰ.head e) (λ h. Memᴰ.tail (taken_in n p ps h)) (Memᴰ.cases_cons m)

taken_distinct : (n : ℕ) {ps : List (List ℕ)} → Distinct ps → Distinct (take n ps)
taken_distinct zero d = no_piece
taken_distinct (suc n) no_piece = no_piece
taken_distinct (suc n) (one_more {p} {ps} m d) = one_more (λ h. m (taken_in n p ps h)) (taken_distinct n d)

-- ---- distinct strings, and others behind them
joined_distinct : {ps qs : List (List ℕ)} → Distinct ps → Distinct qs → ((p : List ℕ) → Memᴰ p ps → Memᴰ p qs → ⊥) → Distinct (ps ++ qs)
joined_distinct no_piece e apart = e
joined_distinct {qs = qs} (one_more {p} {ps} m d) e apart =
    one_more
    (λ h. ⊎_elim m (apart p (Memᴰ.head refl)) (Memᴰ.append_cases ps {t = qs} h))
    (joined_distinct d e (λ q h i. apart q (Memᴰ.tail h) i))

-- a character is no string of two
apart_ranked : {corpus : Corpus} {setting least : ℕ} {characters strings : List (List ℕ)} → Ranked corpus 1 1 0 characters → Ranked corpus 2 setting least strings
    → (n : ℕ) (p : List ℕ) → Memᴰ p characters → Memᴰ p (take n strings) → ⊥
apart_ranked {characters = characters} {strings = strings} a b n p h i =
    let c = (a.only p (mem_in p characters h)).short in
    let d = (b.only p (mem_in p strings (taken_in n p strings i))).long in
    omega arith

-- "Characters [..]; then strings [..], cut to pool less required."
pub seeded_distinct : {corpus : Corpus} {setting least pool : ℕ} {texts : List (List ℕ)} {required : ℕ} → Seeded corpus setting least pool texts required → Distinct texts
seeded_distinct {corpus} {pool = pool} {required = required} s =
    subst Distinct (sym s.texts_are)
    (joined_distinct
    (sorted_distinct corpus s.characters s.listed.single.sorted)
    (taken_distinct (pool - required) (sorted_distinct corpus s.strings s.listed.longer.sorted))
    (apart_ranked s.listed.single s.listed.longer (pool - required)))

-- ---- where no spelling stands twice, no bytes do
same_place : {ps : List (List ℕ)} → Distinct ps → (i j : ℕ) → i < length ps → j < length ps → get_or ps i [] ≡ get_or ps j [] → i ≡ j
same_place {ps} d i j k l e =
    let a : id_of ps (get_or ps j []) ≡ some i = complete d (get_or ps j []) i (record { inside = k; spells = e }) in
    let b : id_of ps (get_or ps j []) ≡ some j = complete d (get_or ps j []) j (record { inside = l; spells = refl }) in
    let c : some i ≡ some j = sym a ∙ b in
    cc

pub once_of : (text pieces : List ℕ) → Distinct (listed text pieces) → Once text pieces
once_of text pieces d k l (i, h, e) =
    let n = length_first (chars_at text pieces) (many pieces) in
    let a = first_at (chars_at text pieces) [] (many pieces) i (omega arith) in
    let b = first_at (chars_at text pieces) [] (many pieces) k l in
    let z : i ≡ k = same_place d i k (omega arith) (omega arith) (a ∙ ap chars_of e ∙ sym b) in
    omega arith
