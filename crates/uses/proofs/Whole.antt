-- Uses are whole numbers that a float holds exactly, as long as the words weigh less than 2^53. Assumes nothing.
use Rattle.std.proofs.Common.{◌≡◌, ℕ, zero, suc, ◌+◌, ◌*◌, ◌^◌, ◌<◌, ◌≤◌, Bool, true, false, eqb, List, [], ◌∷◌, map, length, get_or, sym, refl, ap, ◌∙◌, subst, le_refl, lt_of_lt_of_le, add-mul, mul-le-mul_left, mul-lt-mul_of_pos_right, mul-suc, arith, lit≤, length-set, get_or-set_other, get_or-set_same, pow_pos, eqb-true}
use borrow.Author.Tests.{eqb-false}
use lib.ListN.{length-replicate, get_or-replicate}
use lib.Ieee.{Float, nan, binary64, of_bits}
use lib.Ieee.Exact.{round_exact}
use Rattle.rounding.specs.Units.{Is}
use Rattle.rounding.proofs.Operations.{add_units}
use Rattle.rounding.proofs.Casts.{int_is}
use Rattle.math.specs.Steps.{◌⊕◌, zero as nought}
use Rattle.lattice.specs.Lattice.{Edge}
use Rattle.lattice.specs.Layout.{joined, offsets, char_count}
use Rattle.formed.specs.Held.{Rows}
use Rattle.cached.specs.Held.{Lattices}
use Rattle.scores.specs.Cuts.{Cut}
use Rattle.viterbi.specs.Slices.{lattice_of, WellFormed}
use Rattle.viterbi.specs.Path.{path}
use Rattle.viterbi.proofs.Shapes.{end_of}
use Rattle.viterbi.proofs.Paths.{spelt_long, path_cases}
use Rattle.viterbi.proofs.Exact.{exact}
use Rattle.uses.specs.Uses.{weight_of, add_one, add_each, uses_to}
use Rattle.uses.specs.Whole.{Whole, AllWhole, weight}

-- ---- one sum
add_whole : (x y : Float) (k f : ℕ) → Is x (k * 2 ^ 1074) → Is y (f * 2 ^ 1074) → k + f < 9007199254740992 → Is (x ⊕ y) ((k + f) * 2 ^ 1074)
add_whole x y k f ix iy l =
    let U = 2 ^ 1074 in
    let e : k * U + f * U ≡ (k + f) * U = sym (add-mul k f U) in
    subst (Is (x ⊕ y)) e
    (subst (λ (z : Float). Is z (k * U + f * U)) (sym (add_units x y (k * U) (f * U) ix iy))
    (round_exact binary64 false (k * U + f * U) U (k + f) 1074 (pow_pos 1074) l (lt_of_lt_of_le (mul-lt-mul_of_pos_right l (pow_pos 1074)) (lit≤ tt)) (ap (λ (z : ℕ). z * U) e)))

whole_more : {x : Float} {a b : ℕ} → a ≤ b → Whole x a → Whole x b
whole_more l w = let h = w.most in record { count = w.count; is = w.is; most = omega arith }

whole_sum : (x y : Float) (most f : ℕ) → Whole x most → Is y (f * 2 ^ 1074) → most + f < 9007199254740992 → Whole (x ⊕ y) (most + f)
whole_sum x y most f w i l = let h = w.most in record { count = w.count + f; is = add_whole x y w.count f w.is i (omega arith); most = omega arith }

-- ---- a piece more, and a path
add_one_lem : (weight : Float) (uses : List Float) (i most f : ℕ) → Is weight (f * 2 ^ 1074) → most + f < 9007199254740992 → AllWhole uses most → AllWhole (add_one weight uses i) (most + f)
add_one_lem weight uses i most f w l a id h = go (eqb id i) refl
  where
    inside : id < length uses
    inside = subst (λ (n : ℕ). id < n) (length-set uses i (get_or uses i nan ⊕ weight)) h

    go : (b : Bool) → eqb id i ≡ b → Whole (get_or (add_one weight uses i) id nan) (most + f)
    go true t =
        let e = eqb-true id i t in
        subst (λ (x : Float). Whole x (most + f)) (sym (ap (λ (k : ℕ). get_or (add_one weight uses i) k nan) e ∙ get_or-set_same uses i (get_or uses i nan ⊕ weight) nan (subst (λ (k : ℕ). k < length uses) e inside)))
        (whole_sum (get_or uses i nan) weight most f (subst (λ (k : ℕ). Whole (get_or uses k nan) most) e (a id inside)) w l)
    go false t = subst (λ (x : Float). Whole x (most + f)) (sym (get_or-set_other uses i id (get_or uses i nan ⊕ weight) nan (eqb-false id i t))) (whole_more (omega arith) (a id inside))

add_each_lem : (weight : Float) (f : ℕ) → Is weight (f * 2 ^ 1074) → (ids : List ℕ) (uses : List Float) (most : ℕ) → most + f * length ids < 9007199254740992 → AllWhole uses most → AllWhole (add_each weight uses ids) (most + f * length ids)
add_each_lem weight f w [] uses most l a id h = whole_more (omega arith) (a id h)
add_each_lem weight f w (i ∷ ids) uses most l a id h =
    let s = mul-suc f (length ids) in
    let e : most + f + f * length ids ≡ most + f * suc (length ids) = same most f (f * length ids) (f * suc (length ids)) s in
    subst (Whole (get_or (add_each weight uses (i ∷ ids)) id nan)) e
    (add_each_lem weight f w ids (add_one weight uses i) (most + f) (below most f (f * length ids) (f * suc (length ids)) s l) (add_one_lem weight uses i most f w (first most f (f * length ids) (f * suc (length ids)) s l) a) id h)
  where
    same : (m f p q : ℕ) → q ≡ p + f → m + f + p ≡ m + q
    same m f p q s = omega arith

    below : (m f p q : ℕ) → q ≡ p + f → m + q < 9007199254740992 → m + f + p < 9007199254740992
    below m f p q s l = omega arith

    first : (m f p q : ℕ) → q ≡ p + f → m + q < 9007199254740992 → m + f < 9007199254740992
    first m f p q s l = omega arith

-- ---- a path has no more pieces than its word has characters
module _ {offs starts ids : List ℕ} {scores : List Float} {n : ℕ} (w : WellFormed offs starts ids scores n) where
  cut_short : (ks : List ℕ) (p : ℕ) → p ≤ n → Cut (lattice_of offs starts ids scores) p ks → length ks ≤ p
  cut_short [] p l c = omega arith
  cut_short (k ∷ ks) p l c =
      let b = ((end_of w p l).each k c.0.0 c.0.1).before in
      let r = cut_short ks (get_or starts k 0) (omega arith) c.1 in
      omega arith

  path_short : length (path offs starts ids n scores) ≤ n
  path_short = path_cases offs starts ids scores n w (λ (path : List ℕ). length path ≤ n) (omega arith) (λ cut c. let s = cut_short cut n (le_refl n) c in let a = spelt_long ids cut in omega arith)

-- ---- a word
word_whole : (frequency n most : ℕ) (ids : List ℕ) (uses : List Float) → length ids ≤ n → most + frequency * n < 9007199254740992 → AllWhole uses most → AllWhole (add_each (weight_of frequency) uses ids) (most + frequency * n)
word_whole frequency n most [] uses l h a id i = whole_more (omega arith) (a id i)
word_whole frequency n most (x ∷ xs) uses l h a id i =
    let m : frequency * suc (length xs) ≤ frequency * n = mul-le-mul_left frequency l in
    let one : frequency ≤ frequency * suc (length xs) = le_one frequency (length xs) in
    whole_more (omega arith) (add_each_lem (weight_of frequency) frequency (int_is frequency (omega arith)) (x ∷ xs) uses most (omega arith) a id i)
  where
    le_one : (f k : ℕ) → f ≤ f * suc k
    le_one f k = let s = mul-suc f k in omega arith

-- ---- all words
nought_is : Is nought (0 * 2 ^ 1074)
unfolding of_bits
nought_is = (refl, refl)

nought_whole : Whole nought 0
nought_whole = record { count = 0; is = nought_is; most = omega arith }

lattice_at : (pieces : ℕ) (ls : List (List (List Edge))) (v : ℕ) → v < length ls → Lattices pieces ls → (length (get_or ls v []) ≡ char_count (get_or ls v []) + 1) × Rows pieces 0 (get_or ls v [])
lattice_at pieces [] v h sound = absurd (omega arith)
lattice_at pieces ([] ∷ ls) v h sound = absurd sound
lattice_at pieces ((row ∷ rows) ∷ ls) zero h sound = (omega arith, sound.0)
lattice_at pieces ((row ∷ rows) ∷ ls) (suc v) h sound = lattice_at pieces ls v (omega arith) sound.1

module _ (lattices : List (List (List Edge))) (frequencies : List ℕ) (scores : List Float) (rows : Lattices (length scores) lattices) where
  pub uses_whole : (words : ℕ) → words ≤ length lattices → weight lattices frequencies words < 9007199254740992 → AllWhole (uses_to lattices frequencies scores words) (weight lattices frequencies words)
  uses_whole zero l h = λ id i. subst (λ (x : Float). Whole x 0) (sym (get_or-replicate (length scores) id nought nan (subst (λ (k : ℕ). id < k) (length-replicate (length scores) nought) i))) nought_whole
  uses_whole (suc word) l h =
      let lattice = get_or lattices word [] in
      let r = lattice_at (length scores) lattices word (omega arith) rows in
      let w = exact {scores = scores} {n = char_count lattice} lattice refl refl refl r.0 r.1 in
      word_whole (get_or frequencies word 0) (char_count lattice) (weight lattices frequencies word) (path (offsets lattice) (map (λ e. e.start) (joined lattice)) (map (λ e. e.id) (joined lattice)) (char_count lattice) scores) (uses_to lattices frequencies scores word)
      (path_short w) h (uses_whole word (omega arith) (less (weight lattices frequencies word) (get_or frequencies word 0 * char_count lattice) h))
    where
      less : (a b : ℕ) → a + b < 9007199254740992 → a < 9007199254740992
      less a b h = omega arith
