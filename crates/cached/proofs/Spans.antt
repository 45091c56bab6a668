-- A word's span, number by number. Assumes nothing.
use mathlib.Core.Path.{◌≡◌, ap, ◌∙◌}
use Prim.Native.Nat.{ℕ}
use Rattle.formed.specs.declared.Span.{Span}

pub same_span : {from to at n from' to' at' n' : ℕ} → from ≡ from' → to ≡ to' → at ≡ at' → n ≡ n' → ◌≡◌ {A = Span} (record { from = from; to = to; at = at; n = n }) (record { from = from'; to = to'; at = at'; n = n' })
same_span {to = to} {at = at} {n = n} {from' = from'} {to' = to'} {at' = at'} p q r s =
    ap (λ (x : ℕ). record { from = x; to = to; at = at; n = n }) p
    ∙ ap (λ (x : ℕ). record { from = from'; to = x; at = at; n = n }) q
    ∙ ap (λ (x : ℕ). record { from = from'; to = to'; at = x; n = n }) r
    ∙ ap (λ (x : ℕ). record { from = from'; to = to'; at = at'; n = x }) s
