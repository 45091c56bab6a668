-- From the checks of the parts to the check of all. Assumes nothing.
use mathlib.Core.Path.{sym, subst}
use mathlib.Core.List.{List}
use Prim.Native.Nat.{ℕ, ◌≤◌, ◌<◌}
use native.Mathlib.Omega.{arith}
use lib.ListN.{length, take, get_or-eq_default}
use lib.Ieee.{Float, nan}
use Rattle.refusal.specs.declared.Refusal.{Refusal}
use Rattle.refusal.specs.declared.Refusal.TheVariants.{BadWord, BadScore}
use Rattle.spans.specs.Spans.{many}
use Rattle.inputs.specs.Inputs.{Bounded as AllBounded, InOrder as AllInOrder, Why as NotInOrder, bad_setting as its-setting, no_room as its-room, bad_word as its-word, bad_piece as its-piece, repeated as its-repeat}
use Rattle.scores.specs.Floats.{ZeroOrBelow}
use Rattle.lent.specs.Lent.{AllScored as LentScored, FirstBad as LentFirstBad}
use Rattle.one_word.specs.Word.{Lent, Bounded, FirstUnscored, InOrder, Bad, bad_setting, no_room, bad_word, bad_piece, repeated, bad_score}
use Rattle.one_word.specs.Steps.{Spanned}
use Rattle.one_word.proofs.Spans.{short_text, one_span, good_span, span_good, bad_span}

-- the text of which the word is the only span
abbrev text : Lent → ℕ → List ℕ
text x bytes = take bytes x.word

module _ (x : Lent) {bytes : ℕ} {span : List ℕ} (s : Spanned x.word bytes span) {table : List ℕ} where
  pub bounded_so : Bounded x table → AllBounded (text x bytes) span x.spellings x.pieces table
  bounded_so b =
      let one = one_span s in
      let l = short_text s in
      record { few_words = omega arith; few_pieces = b.few_pieces; short_text = omega arith; short_pieces = b.short_pieces; table_room = b.table_room }

  pub so_bounded : AllBounded (text x bytes) span x.spellings x.pieces table → Bounded x table
  so_bounded b = record { few_pieces = b.few_pieces; short_pieces = b.short_pieces; table_room = b.table_room }

  pub refused_so : {refusal : Refusal} → NotInOrder x.setting (text x bytes) span x.spellings x.pieces table refusal → Bad x table refusal
  refused_so (its-setting n) = bad_setting n
  refused_so (its-room h n) = no_room h (λ b. n (bounded_so b))
  refused_so (its-word h b f) = let (z, n) = bad_span s f in subst (λ (k : ℕ). Bad x table (BadWord k)) (sym z) (bad_word h (so_bounded b) n)
  refused_so (its-piece h b w f) = bad_piece h (so_bounded b) (span_good s w) f
  refused_so (its-repeat h b w p l) = repeated h (so_bounded b) (span_good s w) p l

  pub ordered_so : InOrder x table → AllInOrder x.setting (text x bytes) span x.spellings x.pieces table
  ordered_so o = record { short = o.short; bounded = bounded_so o.bounded; words_good = good_span s o.word_good; pieces_good = o.pieces_good; once = o.once }

  module _ (o : AllInOrder x.setting (text x bytes) span x.spellings x.pieces table) where
    unscored : {id : ℕ} → FirstUnscored x id → Bad x table (BadScore id)
    unscored f = bad_score o.short (so_bounded o.bounded) (span_good s o.words_good) o.pieces_good o.once f

    pub bad_at : {id : ℕ} → LentFirstBad x.scores id → Bad x table (BadScore id)
    bad_at f = let h = f.within in unscored (record { within = omega arith; before = f.before; bad = f.bad })

    module _ (all : LentScored x.scores (length x.scores)) where
      -- a score that is missing reads as NaN
      pub missing_at : length x.scores < many x.pieces → Bad x table (BadScore (length x.scores))
      missing_at h = unscored (record { within = omega arith; before = all; bad = λ z. subst (λ (f : Float). ZeroOrBelow f) (get_or-eq_default x.scores nan {n = length x.scores} (omega arith)) z })

      pub in_order : many x.pieces ≤ length x.scores → InOrder x table
      in_order h =
          record {
            short = o.short;
            bounded = so_bounded o.bounded;
            word_good = span_good s o.words_good;
            pieces_good = o.pieces_good;
            once = o.once;
            scored = λ id l. all id (omega arith);
          }
