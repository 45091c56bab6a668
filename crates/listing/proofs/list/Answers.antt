-- `listing::list` meets its contract: the list is of the words that were kept.
-- Assumes nothing.
use mathlib.Core.Path.{refl, sym, ap, ◌∙◌}
use Prim.Native.Nat.{ℕ, ◌*◌}
use native.Mathlib.Omega.{arith}
use lib.Seq.{length-take-le}
use Rattle.settings.specs.Settings.{pool_of}
use Rattle.listing.proofs.Listing.{few, spans_in, counts_in, corpus_is, asked}
use Rattle.listing.proofs.list.Goals as goal

pub overflow_mul-numbers : goal.overflow_mul-numbers
overflow_mul-numbers c = omega (arith, few c.requires c.utf8_words-many.ensures c.utf8_words-many.auto.kept c.utf8_words-many.auto.counts, c.requires.bounded.few_words)

pub slice_bounds-seed-end : goal.slice_bounds-seed-end
slice_bounds-seed-end c = spans_in c.requires c.utf8_words-many.ensures c.utf8_words-many.auto.kept c.utf8_words-many.auto.counts

pub slice_bounds-seed-end-2 : goal.slice_bounds-seed-end-2
slice_bounds-seed-end-2 c = sym (length-take-le (2 * c.utf8_words-many.result) c.utf8_words-many.new.kept (spans_in c.requires c.utf8_words-many.ensures c.utf8_words-many.auto.kept c.utf8_words-many.auto.counts))

pub slice_bounds-seed-end-3 : goal.slice_bounds-seed-end-3
slice_bounds-seed-end-3 c = counts_in c.requires c.utf8_words-many.ensures c.utf8_words-many.auto.kept c.utf8_words-many.auto.counts

pub seed-requires : goal.seed-requires
seed-requires c = asked c.requires c.utf8_words-many.ensures c.utf8_words-many.auto.kept c.utf8_words-many.auto.counts

pub returns-in_default : goal.returns-in_default
returns-in_default c =
    let e = corpus_is c.requires c.utf8_words-many.ensures c.utf8_words-many.auto.kept c.utf8_words-many.auto.counts in
    (refl, rw e at c.in_default.ensures)

pub returns : goal.returns
returns c =
    let e = corpus_is c.requires c.utf8_words-many.ensures c.utf8_words-many.auto.kept c.utf8_words-many.auto.counts in
    let p = c.pool-pool.ensures ∙ ap (λ (n : ℕ). pool_of c.args.lent.now.settings n) c.target.ensures in
    (c.utf8_words-many.ensures, rw (e, p) at c.in-Some.ensures)
