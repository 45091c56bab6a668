use Rattle.std.proofs.Common.{inl, inr, ⊎_elim}
use Rattle.places.proofs.Seek.{scanning_none, scanning_here, scanning_more, scanning_end}
use Rattle.places.proofs.scan.Goals as goal

pub loop-p-init : goal.loop-p-init
loop-p-init c = scanning_none _ _ _ _ c.requires.0

pub returns-then-there-key : goal.returns-then-there-key
returns-then-there-key c = scanning_here c.loop-p.invariant c.loop-p-test.true (⊎_elim (λ x. inl x) (λ x. inr x.1) c.then-there-key.either)

pub loop-p-preserved : goal.loop-p-preserved
loop-p-preserved c = scanning_more c.loop-p.invariant c.loop-p-test.true c.if-there-key.false c.if-there-eq0.false

pub returns : goal.returns
returns c = scanning_end c.loop-p.invariant c.loop-p-test.false
