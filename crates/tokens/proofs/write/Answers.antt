-- `tokens::write` meets its contract: what is needed is counted, and if there is room both lists are put.
-- Assumes nothing.
use mathlib.Core.Path.{◌≡◌, refl, ap, ap₂, ◌∙◌}
use Prim.Native.Nat.{ℕ, ◌+◌, ◌-◌}
use mathlib.Core.Bool.{false}
use mathlib.Core.List.{◌++◌}
use lib.IntN.{pos}
use lib.Ieee.{fin, of_bits}
use lib.ListN.{length, drop, replicate}
use lib.Seq.{length-sets}
use Rattle.copied.proofs.Stores.{front_stored, part_stored}
use native.Mathlib.Omega.{arith}
use Rattle.laws.proofs.Tests.{said_yes, said_no}
use Rattle.spans.specs.Spans.{many}
use Rattle.positions.specs.Gathered.{bytes_before}
use Rattle.tokens.specs.Steps.{Fits}
use Rattle.tokens.proofs.Both.{small, fitting, ask_specials, ask_pieces, written}
use Rattle.tokens.proofs.write.Goals as goal
use Rattle.tokens.proofs.write.Goals.{After-all_bytes, Else-not-fits}

-- how many tokens there are, and of how many bytes
sum_is : (c : After-all_bytes) → c.count-first.result + c.count.result ≡ many c.args.specials.now + many c.args.pieces.now
sum_is c = ap₂ (λ (a b : ℕ). a + b) c.count-first.ensures c.count.ensures

long_is : (c : After-all_bytes) → c.all_bytes-special_bytes.result + c.all_bytes.result ≡ bytes_before c.args.specials.now (many c.args.specials.now) + bytes_before c.args.pieces.now (many c.args.pieces.now)
long_is c = ap₂ (λ (a b : ℕ). a + b) c.all_bytes-special_bytes.ensures c.all_bytes.ensures

-- and there is room for them
enough : (c : Else-not-fits) → Fits (c.count-first.result + c.count.result) (c.all_bytes-special_bytes.result + c.all_bytes.result) c.args.bytes.now c.args.tokens.now c.args.token_scores.now
enough c = said_yes _ c.if-not-fits.false c.fits.ensures

pub overflow_add-long : goal.overflow_add-long
overflow_add-long c = omega (arith, small c.requires, c.all_bytes-special_bytes.ensures, c.all_bytes.ensures)

pub returns-then-not-fits : goal.returns-then-not-fits
returns-then-not-fits c = record { no_room = λ r. said_no _ c.if-not-fits.true c.fits.ensures (fitting c.requires (sum_is (goal.at.returns-then-not-fits c).After-all_bytes) (long_is (goal.at.returns-then-not-fits c).After-all_bytes) r); same_bytes = refl; same_spans = refl; same_scores = refl }

pub put_all-next-requires : goal.put_all-next-requires
put_all-next-requires c = ask_specials c.requires (sum_is (goal.at.put_all-next-requires c).After-all_bytes) (long_is (goal.at.put_all-next-requires c).After-all_bytes) (enough (goal.at.put_all-next-requires c).Else-not-fits)

pub put_all-requires : goal.put_all-requires
put_all-requires c = ask_pieces c.requires (sum_is (goal.at.put_all-requires c).After-all_bytes) (long_is (goal.at.put_all-requires c).After-all_bytes) (enough (goal.at.put_all-requires c).Else-not-fits) c.put_all-next.auto.bytes c.put_all-next.auto.tokens c.count-first.ensures c.put_all-next.ensures

pub returns : goal.returns
unfolding of_bits
returns c =
    let f = enough (goal.at.returns c).Else-not-fits in
    let slots = c.args.token_scores.now in
    let zeros = front_stored (fin false 0 (pos 0)) slots c.fill.new.self c.count-first.result (c.fill.ensures.after (λ _ e. e)) (omega (arith, f.scores_fit)) in
    let long = ap length zeros ∙ length-sets slots 0 (replicate c.count-first.result (fin false 0 (pos 0))) in
    let scores = part_stored (c.fill.new.self ++ drop c.count-first.result slots) c.args.scores.now c.over.new.to c.count-first.result (c.count-first.result + c.count.result - c.count-first.result) c.over.ensures (omega arith) (omega (arith, long, f.scores_fit)) in
    written c.requires (sum_is (goal.at.returns c).After-all_bytes) (long_is (goal.at.returns c).After-all_bytes) f c.count-first.result c.put_all-next.result c.put_all.result c.count-first.ensures c.put_all-next.ensures c.put_all.ensures zeros scores
