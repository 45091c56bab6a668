-- What the best cut asks of scores: a sum, an order, the sum of no edge, and the score of no cut. Definitions only.
use Rattle.std.specs.Prelude.{◌≡◌, Bool, true, false}

-- `bottom` is the score of no cut. `past` is what a read past the end of a list gives: no law names it
pub record Domain (S : Type 0) : Type 0 where
  pub add : S → S → S
  pub less : S → S → Bool
  pub zero : S
  pub bottom : S
  pub past : S

-- The laws, for the scores that `Score` admits. x ≤ y is written `less y x ≡ false`, and then +0 and -0 are equals
pub record Laws {S : Type 0} (D : Domain S) (Score : S → Type 0) : Type 0 where
  pub zero_in : Score D.zero
  pub bottom_in : Score D.bottom
  pub add_in : {x s : S} → Score x → Score s → Score (D.add x s)
  pub irreflexive : {x : S} → Score x → D.less x x ≡ false
  pub asymmetric : {x y : S} → Score x → Score y → D.less x y ≡ true → D.less y x ≡ false
  pub transitive : {x y z : S} → Score x → Score y → Score z → D.less y x ≡ false → D.less z y ≡ false → D.less z x ≡ false
  pub monotone : {x y s : S} → Score x → Score y → Score s → D.less y x ≡ false → D.less (D.add y s) (D.add x s) ≡ false
  pub least : {x : S} → Score x → D.less x D.bottom ≡ false
  pub only : {x : S} → Score x → D.less D.bottom x ≡ false → x ≡ D.bottom
  pub absorbing : {s : S} → Score s → D.add D.bottom s ≡ D.bottom
