-- The lattice of the only word of a text, as it is laid out. Assumes nothing.
use mathlib.Core.Path.{◌≡◌, sym, ap, ◌∙◌, subst}
use mathlib.Core.List.{List, [], ◌∷◌, map, append-nil}
use Prim.Native.Nat.{ℕ, suc, ◌+◌, ◌*◌, ◌-◌, ◌≤◌}
use native.Mathlib.Nat.{le_trans, mul-le-mul}
use native.Mathlib.Decide.{dec_lt}
use native.Mathlib.Omega.{arith}
use lib.ListN.{length, get_or, take, replicate, length-map, get_or-eq_default}
use lib.Seq.{take-append_seam}
use lib.Ieee.{nan}
use Rattle.spans.specs.Spans.{many, chars_at, listed}
use Rattle.lattice.specs.Lattice.{Edge, ending, cache}
use Rattle.lattice.specs.Layout.{joined, offsets}
use Rattle.lattice.proofs.Joined.{offsets_long}
use Rattle.formed.proofs.Built.{length_rows}
use Rattle.formed.specs.Word.{WordFormed}
use Rattle.trie.proofs.Same.{length_first}
use Rattle.fresh.specs.Slots.{filled}
use Rattle.fresh.specs.Build.{Lent as BuildLent, Results, afresh, CacheRoom, Fresh}
use Rattle.fresh.specs.Steps.{Ample}
use Rattle.fresh.proofs.Most.{chars_few}
use Rattle.fresh.proofs.Building.{ample_room}
use Rattle.scores.specs.Floats.{ZeroOrBelow}
use Rattle.viterbi.specs.Slices.{WellFormed}
use Rattle.viterbi.proofs.Exact.{built_exact}
use Rattle.one_word.specs.Word.{Lent, chars, rows, ids, InOrder}
use Rattle.one_word.specs.Steps.{Spanned, Exact}
use Rattle.one_word.proofs.Spans.{good_span, listed_span}

-- a front, whatever is behind it
front_of : (front : List ℕ) (slots : ℕ) {xs : List ℕ} (n : ℕ) → xs ≡ filled front slots → n ≡ length front → take n xs ≡ front
front_of front slots n e h = ap (take n) e ∙ ap (λ (k : ℕ). take k (filled front slots)) h ∙ take-append_seam front (replicate (slots - length front) 0)

-- what a build is lent for it
abbrev pub as_text : Lent → ℕ → List ℕ → BuildLent
as_text x bytes span = record { setting = x.setting; text = take bytes x.word; words = span; spellings = x.spellings; pieces = x.pieces }

-- ---- the lattice stands in front of its slices
pub record Stands (x : Lent) (offs starts ns : List ℕ) (edges n : ℕ) : Type 0 where
  pub n_is : n ≡ length (chars x)
  pub offsets_are : take (n + 2) offs ≡ offsets (rows x)
  pub starts_are : take edges starts ≡ map (λ e. e.start) (joined (rows x))
  pub ids_are : take edges ns ≡ ids x

module _ (x : Lent) {bytes : ℕ} {span : List ℕ} (s : Spanned x.word bytes span) {table : List ℕ} (o : InOrder x table) where
  one_lattice : afresh (as_text x bytes span) ≡ rows x ∷ []
  one_lattice = ap (cache x.setting (listed x.spellings x.pieces)) (listed_span s o.word_good)

  many_rows : length (rows x) ≡ suc (length (chars x))
  many_rows = length_rows (ending x.setting (listed x.spellings x.pieces) (chars x)) (suc (length (chars x)))

  many_ends : length (offsets (rows x)) ≡ length (chars x) + 2
  many_ends = let a = offsets_long 0 (rows x) in let b = many_rows in omega arith

  module _ {y y' : Results} {count : ℕ} (f : Fresh (afresh (as_text x bytes span)) y y' count) where
    alone : Fresh (rows x ∷ []) y y' count
    alone = subst (λ (ls : List (List (List Edge))). Fresh ls y y' count) one_lattice f

    its_edges : joined (joined (rows x ∷ [])) ≡ joined (rows x)
    its_edges = ap joined (append-nil (rows x))

    count_is : count ≡ length (joined (rows x))
    count_is = alone.edges ∙ length-map (joined (joined (rows x ∷ []))) (λ e. e.id) ∙ ap length its_edges

    column : (g : Edge → ℕ) (slots : ℕ) {xs : List ℕ} → xs ≡ filled (map g (joined (joined (rows x ∷ [])))) slots → take count xs ≡ map g (joined (rows x))
    column g slots e = front_of (map g (joined (rows x))) slots count (e ∙ ap (λ (l : List Edge). filled (map g l) slots) its_edges) (count_is ∙ sym (length-map (joined (rows x)) g))

    pub stands : Stands x y'.offsets y'.starts y'.ids count (get_or y'.spans 3 0)
    stands =
        let n : get_or y'.spans 3 0 ≡ length (chars x) = ap (λ (l : List ℕ). get_or l 3 0) alone.spans_are ∙ (let a = many_rows in omega arith) in
        record {
          n_is = n;
          offsets_are = front_of (offsets (rows x)) (length y.offsets) (get_or y'.spans 3 0 + 2) (alone.offsets_are ∙ ap (λ (l : List ℕ). filled l (length y.offsets)) (append-nil (offsets (rows x)))) (ap (λ (k : ℕ). k + 2) n ∙ sym many_ends);
          starts_are = column (λ e. e.start) (length y.starts) alone.starts_are;
          ids_are = column (λ e. e.id) (length y.ids) alone.ids_are;
        }

  -- ---- there are slots for it: so many as any word of 255 bytes can have
  pub room : {y : Results} → 257 ≤ length y.offsets → 8160 ≤ length y.starts → 8160 ≤ length y.ids → 4 ≤ length y.spans → CacheRoom (afresh (as_text x bytes span)) y
  room {y} a b c d =
      ample_room x.setting (listed x.spellings x.pieces) (take bytes x.word) span (good_span s o.word_good) y
      (subst (λ (l : List ℕ). Ample l x.setting y) (sym s.span_is) ample)
    where
      few : bytes ≤ 255
      few = let e = s.bytes_are in let h = o.word_good.short in omega arith

      edges : x.setting * (0 + bytes) ≤ 8160
      edges = let h : 0 + bytes ≤ 255 = let f = few in omega arith in mul-le-mul o.short h

      ample : Ample (0 ∷ bytes ∷ []) x.setting y
      ample = let e = edges in let h = few in record { in_offsets = omega arith; in_starts = le_trans e b; in_ids = le_trans e c; in_spans = omega arith }

-- ---- every piece has a score
module _ (x : Lent) {table : List ℕ} (o : InOrder x table) where
  pub enough_scores : many x.pieces ≤ length x.scores
  enough_scores = elim (dec_lt (length x.scores) (many x.pieces)) [
    | yes l ↦ absurd (subst ZeroOrBelow (get_or-eq_default x.scores nan {n = length x.scores} (omega arith)) (o.scored (length x.scores) (omega arith)))
    | no l ↦ omega arith
  ]

  pub few_chars : length (chars x) ≤ 255
  few_chars = let a = chars_few o.word_good.utf8 in let h = o.word_good.short in omega arith

  pub well_formed : WellFormed (offsets (rows x)) (map (λ e. e.start) (joined (rows x))) (ids x) x.scores (length (chars x))
  well_formed =
      let pieces = listed x.spellings x.pieces in
      let p : length pieces ≤ length x.scores = let e = length_first (chars_at x.spellings x.pieces) (many x.pieces) in let h = enough_scores in omega arith in
      built_exact x.setting pieces (chars x) x.scores p

  pub exact : {offs starts ns : List ℕ} {edges n : ℕ} → Stands x offs starts ns edges n → 257 ≤ length offs → edges ≤ length starts → edges ≤ length ns → Exact offs starts ns edges n x.scores
  exact {offs} {starts} {ns} {edges} {n} t a b c =
      let w = well_formed.word in
      let few = few_chars in
      let e = t.n_is in
      record {
        short = omega arith;
        in_offsets = omega arith;
        in_starts = b;
        in_ids = c;
        formed =
            subst (λ (k : ℕ). WordFormed (take (n + 2) offs) (take edges starts) (take edges ns) (length x.scores) k) (sym e)
            (subst (λ (l : List ℕ). WordFormed l (take edges starts) (take edges ns) (length x.scores) (length (chars x))) (sym t.offsets_are)
            (subst (λ (l : List ℕ). WordFormed (offsets (rows x)) l (take edges ns) (length x.scores) (length (chars x))) (sym t.starts_are)
            (subst (λ (l : List ℕ). WordFormed (offsets (rows x)) (map (λ g. g.start) (joined (rows x))) l (length x.scores) (length (chars x))) (sym t.ids_are) w)));
        scored = λ id l. o.scored id (omega arith);
      }
