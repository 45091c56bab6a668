-- Demand 3, second part, of the one-word cut: exactly when there is a cut, the best one, whose pieces spell the word. And no second
-- outcome fits. Assumes nothing.
use mathlib.Core.Path.{◌≡◌, refl, sym, ap, ap₂, ◌∙◌, subst}
use mathlib.Core.Bool.{false}
use mathlib.Core.Logic.{◌↔◌, ◌⊎◌, inl, inr}
use mathlib.Core.List.{List, [], ◌∷◌, ◌++◌}
use Prim.Native.Nat.{ℕ, min}
use native.Mathlib.Decide.{dec_lt}
use native.Mathlib.Omega.{arith}
use lib.IntN.{pos}
use lib.ListN.{length, take, drop}
use lib.Ieee.{Float, fin}
use Rattle.std.specs.Prelude.{Result, Ok, Err}
use Rattle.laws.proofs.Outcome.{one_outcome}
use Rattle.refusal.specs.declared.Refusal.{Refusal}
use Rattle.refusal.specs.declared.Refusal.TheVariants.{BadScore}
use Rattle.inputs.specs.Inputs.{InOrder as AllInOrder, Why as NotInOrder, bad_setting as its-setting, no_room as its-room, bad_word as its-word, bad_piece as its-piece, repeated as its-repeat}
use Rattle.inputs.proofs.Theorems.{not_both, one_why as one_input, listed_distinct}
use Rattle.scores.specs.Cuts.{Cut as IsCut, sum}
use Rattle.scores.specs.Floats.{f64s}
use Rattle.scores.specs.Wins.{Greatest}
use Rattle.scores.specs.Best.{FiniteCut, BestCut, BestCutTheorem}
use Rattle.scores.proofs.Theorems.{best_cut_theorem}
use Rattle.viterbi.specs.Walk.{spell}
use Rattle.viterbi.proofs.Shapes.{sound}
use Rattle.cut.specs.declared.Cut.{Cut}
use Rattle.spelt.proofs.Theorems.{found_spells}
use Rattle.fresh.specs.Build.{Work}
use Rattle.fresh.proofs.Most.{chars_few}
use Rattle.one_word.specs.Word.{Lent, chars, ids, whole_lattice, spelt, FirstUnscored, InOrder, Bad, bad_setting, no_room, bad_word, bad_piece, repeated, bad_score, TrieRoom, Slots, Why, bad, no_trie, no_slots, no_path, Given, Answers}
use Rattle.one_word.specs.Steps.{Spanned}
use Rattle.one_word.proofs.Spans.{good_span, span_bad}
use Rattle.one_word.proofs.Checking.{bounded_so, so_bounded, ordered_so}
use Rattle.one_word.proofs.Laid.{well_formed}

theorem : (x : Lent) {table : List ℕ} → InOrder x table → BestCutTheorem (whole_lattice x) (length (chars x))
theorem x o = best_cut_theorem (whole_lattice x) (length (chars x)) (sound (well_formed x o) (λ id l. o.scored id (omega arith)))

-- ---- what is refused before any trie is made: as the words and pieces are, or a score
-- the word, as the only span of a text
abbrev size : Lent → ℕ
size x = min (length x.word) 256

abbrev text : Lent → List ℕ
text x = take (size x) x.word

abbrev span : Lent → List ℕ
span x = 0 ∷ size x ∷ []

spanned : (x : Lent) → Spanned x.word (size x) (span x)
spanned x = record { bytes_are = refl; span_is = refl }

pub record Unscored (x : Lent) (table : List ℕ) (refusal : Refusal) : Type 0 where
  pub id : ℕ
  pub is : refusal ≡ BadScore id
  pub in_order : AllInOrder x.setting (text x) (span x) x.spellings x.pieces table
  pub first : FirstUnscored x id

either : (x : Lent) (table : List ℕ) {r : Refusal} → Bad x table r → NotInOrder x.setting (text x) (span x) x.spellings x.pieces table r ⊎ Unscored x table r
either x table (bad_setting n) = inl (its-setting n)
either x table (no_room h n) = inl (its-room h (λ b. n (so_bounded x (spanned x) b)))
either x table (bad_word h b n) = inl (its-word h (bounded_so x (spanned x) b) (span_bad (spanned x) n))
either x table (bad_piece h b w f) = inl (its-piece h (bounded_so x (spanned x) b) (good_span (spanned x) w) f)
either x table (repeated h b w p l) = inl (its-repeat h (bounded_so x (spanned x) b) (good_span (spanned x) w) p l)
either x table (bad_score {id = id} h b w p once f) =
    inr (record { id = id; is = refl; in_order = record { short = h; bounded = bounded_so x (spanned x) b; words_good = good_span (spanned x) w; pieces_good = p; once = once }; first = f })

one_first : (x : Lent) (i j : ℕ) → FirstUnscored x i → FirstUnscored x j → i ≡ j
one_first x i j f g = elim (dec_lt i j) [
  | yes l ↦ absurd (f.bad (g.before i l))
  | no l ↦ elim (dec_lt j i) [
    | yes m ↦ absurd (g.bad (f.before j m))
    | no m ↦ omega arith
  ]
]

one_bad : (x : Lent) (table : List ℕ) (r s : Refusal) → Bad x table r → Bad x table s → r ≡ s
one_bad x table r s p q = elim (either x table p) [
  | inl a ↦ elim (either x table q) [
    | inl b ↦ one_input a b
    | inr b ↦ absurd (not_both a b.in_order)
  ]
  | inr a ↦ elim (either x table q) [
    | inl b ↦ absurd (not_both b a.in_order)
    | inr b ↦ a.is ∙ ap BadScore (one_first x a.id b.id a.first b.first) ∙ sym b.is
  ]
]

not_bad : (x : Lent) (table : List ℕ) {r : Refusal} → InOrder x table → Bad x table r → ⊥
not_bad x table o p = elim (either x table p) [
  | inl a ↦ not_both a (ordered_so x (spanned x) o)
  | inr a ↦ a.first.bad (o.scored a.id a.first.within)
]

-- ---- a call that is in order and has room is refused only for want of a path
pub record Ready (x : Lent) (w : Work) (path : List ℕ) : Type 0 where
  pub in_order : InOrder x w.table
  pub trie_room : TrieRoom x w
  pub slots : Slots x path

module _ (x : Lent) (w : Work) (path : List ℕ) where
  never : {refusal : Refusal} → Ready x w path → FiniteCut (whole_lattice x) (length (chars x)) → Why x w path refusal → ⊥
  never r c (bad p) = not_bad x w.table r.in_order p
  never r c (no_trie o n) = n r.trie_room
  never r c (no_slots o t n) = n r.slots
  never r c (no_path o t h n) = n c

  one_why : {r s : Refusal} → Why x w path r → Why x w path s → r ≡ s
  one_why (bad {refusal = r} p) (bad {refusal = s} q) = one_bad x w.table r s p q
  one_why (bad p) (no_trie o n) = absurd (not_bad x w.table o p)
  one_why (bad p) (no_slots o t n) = absurd (not_bad x w.table o p)
  one_why (bad p) (no_path o t h n) = absurd (not_bad x w.table o p)
  one_why (no_trie o n) (bad q) = absurd (not_bad x w.table o q)
  one_why (no_trie o n) (no_trie p m) = refl
  one_why (no_trie o n) (no_slots p t m) = absurd (n t)
  one_why (no_trie o n) (no_path p t h m) = absurd (n t)
  one_why (no_slots o t n) (bad q) = absurd (not_bad x w.table o q)
  one_why (no_slots o t n) (no_trie p m) = absurd (m t)
  one_why (no_slots o t n) (no_slots p u m) = refl
  one_why (no_slots o t n) (no_path p u h m) = absurd (n h)
  one_why (no_path o t h n) (bad q) = absurd (not_bad x w.table o q)
  one_why (no_path o t h n) (no_trie p m) = absurd (m t)
  one_why (no_path o t h n) (no_slots p u m) = absurd (m h)
  one_why (no_path o t h n) (no_path p u k m) = refl

  ready : {path' : List ℕ} {score : Float} {count : ℕ} → Given x w path path' score count → Ready x w path
  ready g = record { in_order = g.in_order; trie_room = g.trie_room; slots = g.slots }

  finite_cut : {path' : List ℕ} {score : Float} {count : ℕ} → Given x w path path' score count → FiniteCut (whole_lattice x) (length (chars x))
  finite_cut g = record { cut = g.found.cut; is_cut = (theorem x g.in_order).is_cut g.found.cut g.found.is_best; is_finite = g.found.is_best.is_finite }

-- ---- the second part of demand 3 in one statement: "a best cut is given exactly when some cut's left-to-right rounded sum is
-- finite; its sum is the greatest there is, and its pieces spell the word"
pub record IsBest (x : Lent) (path' : List ℕ) (score : Float) (count : ℕ) : Type 0 where
  pub cut : List ℕ
  pub is_cut : IsCut (whole_lattice x) (length (chars x)) cut
  pub sum_is : score ≡ sum f64s (whole_lattice x) cut
  pub greatest : Greatest f64s (whole_lattice x) (length (chars x)) score
  pub wins : BestCut (whole_lattice x) (length (chars x)) cut
  pub spells : spelt x (take count path') ≡ chars x

-- `theorem` says of the cut that wins: "the earliest start at each position wins ties, and what precedes is chosen so for the
-- shorter word"; and that no second cut does
pub record Answered (x : Lent) (path' : List ℕ) (r : Result Cut Refusal) : Type 0 where
  pub theorem : BestCutTheorem (whole_lattice x) (length (chars x))
  pub exactly : FiniteCut (whole_lattice x) (length (chars x)) ↔ ((cut : Cut) × (r ≡ Ok cut))
  pub is_best : (cut : Cut) → r ≡ Ok cut → IsBest x path' cut.score cut.count

best_of : {x : Lent} {w : Work} {path path' : List ℕ} {score : Float} {count : ℕ} → Given x w path path' score count → IsBest x path' score count
best_of {x} {path' = path'} g =
    let t = theorem x g.in_order in
    let f = g.found in
    record {
      cut = f.cut;
      is_cut = t.is_cut f.cut f.is_best;
      sum_is = f.score_is;
      greatest = subst (Greatest f64s (whole_lattice x) (length (chars x))) (sym f.score_is) (t.greatest f.cut f.is_best);
      wins = f.is_best;
      spells = found_spells x.setting (listed_distinct x.spellings x.pieces g.in_order.pieces_good g.in_order.once) (chars x) x.scores f;
    }

-- Of a word, pieces and scores that are in order, and room for all: what `cut` answers.
pub answered : (x : Lent) (w : Work) (path path' : List ℕ) → Ready x w path → (r : Result Cut Refusal) → Answers x w path path' r → Answered x path' r
answered x w path path' r (Ok cut) g =
    record {
      theorem = theorem x r.in_order;
      exactly = (λ c. (cut, refl), λ _. finite_cut x w path g);
      is_best = λ other e. let same : cut ≡ other = cc in subst (λ (c : Cut). IsBest x path' c.score c.count) same (best_of g);
    }
answered x w path path' r (Err refusal) (y, kept) =
    record {
      theorem = theorem x r.in_order;
      exactly = (λ c. absurd (never x w path r c y), λ (cut, e). absurd cc);
      is_best = λ cut e. absurd cc;
    }

-- ---- no second outcome
pub no_second : (x : Lent) (w : Work) (path path' path'' : List ℕ) (r s : Result Cut Refusal) → Answers x w path path' r → Answers x w path path'' s → (path' ≡ path'') × (r ≡ s)
no_second x w path path' path'' (Ok a) (Ok b) p q =
    let f = p.found in
    let g = q.found in
    let e : f.cut ≡ g.cut = (theorem x p.in_order).no_second f.cut g.cut f.is_best g.is_best in
    let s : a.score ≡ b.score = f.score_is ∙ ap (sum f64s (whole_lattice x)) e ∙ sym g.score_is in
    let n : a.count ≡ b.count = f.count_is ∙ ap length e ∙ sym g.count_is in
    (f.written ∙ ap₂ (λ (k : List ℕ) (m : ℕ). spell (ids x) k ++ drop m path) e n ∙ sym g.written, ap₂ (λ (score : Float) (count : ℕ). Ok (record { score = score; count = count })) s n)
no_second x w path path' path'' (Ok a) (Err t) p (y, kept) = absurd (never x w path (ready x w path p) (finite_cut x w path p) y)
no_second x w path path' path'' (Err r) (Ok b) (y, kept) q = absurd (never x w path (ready x w path q) (finite_cut x w path q) y)
no_second x w path path' path'' (Err r) (Err s) (v, k) (y, l) = (one_outcome k l, ap Err (one_why x w path v y))

-- ---- "P empty word: no pieces, score 0, accepted": over any pieces and scores that are in order, and with any path
module _ (x : Lent) (e : x.word ≡ []) (w : Work) (o : InOrder x w.table) where
  no_chars : length (chars x) ≡ 0
  no_chars = let a = chars_few o.word_good.utf8 in let b = ap length e in omega arith

  nothing_best : BestCut (whole_lattice x) (length (chars x)) []
  nothing_best = record { wins = no_chars; is_finite = tt }

  pub empty_word : (path path' : List ℕ) (r : Result Cut Refusal) → TrieRoom x w → Answers x w path path' r → (r ≡ Ok (record { score = fin false 0 (pos 0); count = 0 })) × (path' ≡ path)
  empty_word path path' (Ok cut) t g =
      let f = g.found in
      let n : f.cut ≡ [] = (theorem x o).no_second f.cut [] f.is_best nothing_best in
      let s : cut.score ≡ fin false 0 (pos 0) = f.score_is ∙ ap (sum f64s (whole_lattice x)) n in
      let c : cut.count ≡ 0 = f.count_is ∙ ap length n in
      (ap₂ (λ (score : Float) (count : ℕ). Ok (record { score = score; count = count })) s c, f.written ∙ ap₂ (λ (k : List ℕ) (m : ℕ). spell (ids x) k ++ drop m path) n c)
  empty_word path path' (Err refusal) t (y, kept) =
      let n = no_chars in
      absurd (never x w path (record { in_order = o; trie_room = t; slots = omega arith }) (record { cut = []; is_cut = no_chars; is_finite = tt }) y)
