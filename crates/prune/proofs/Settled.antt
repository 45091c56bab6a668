-- Who survives is settled: two answers that fit are one. Assumes nothing.
use mathlib.Core.Path.{◌≡◌, refl, sym, ap, ◌∙◌}
use mathlib.Core.Bool.{Bool, true, false, true≢false}
use mathlib.Core.List.{List, [], ◌∷◌}
use mathlib.Core.Logic.{◌⊎◌, inl, inr, ⊎_elim}
use Prim.Native.Nat.{ℕ, zero, suc, ◌≤◌}
use native.Mathlib.Decide.{dec_lt}
use native.Mathlib.Omega.{arith}
use lib.ListN.{length}
use Rattle.prune.specs.Survive.{Lives, Gone, living, Ahead, Survive}

-- who lives in a lives in b
abbrev Within : List Bool → List Bool → Type 0
Within a b = (id : ℕ) → Lives a id → Gone b id → ⊥

tail : (x y : Bool) (a b : List Bool) → Within (x ∷ a) (y ∷ b) → Within a b
tail x y a b f id l g = f (suc id) l (omega (arith, g.0), g.1)

fewer : (a b : List Bool) → length a ≡ length b → Within a b → living a ≤ living b
fewer [] b l f = omega arith
fewer (x ∷ a) [] l f = absurd (omega arith)
fewer (x ∷ a) (y ∷ b) l f = go x y f (fewer a b (omega arith) (tail x y a b f))
  where
    go : (x y : Bool) → Within (x ∷ a) (y ∷ b) → living a ≤ living b → living (x ∷ a) ≤ living (y ∷ b)
    go true true f h = omega arith
    go true false f h = absurd (f 0 refl (omega arith, refl))
    go false true f h = omega arith
    go false false f h = h

-- as many live in both
alike : (a b : List Bool) → length a ≡ length b → Within a b → living a ≡ living b → a ≡ b
alike [] [] l f e = refl
alike [] (y ∷ b) l f e = absurd (omega arith)
alike (x ∷ a) [] l f e = absurd (omega arith)
alike (x ∷ a) (y ∷ b) l f e = go x y f e (fewer a b (omega arith) (tail x y a b f)) (alike a b (omega arith) (tail x y a b f))
  where
    go : (x y : Bool) → Within (x ∷ a) (y ∷ b) → living (x ∷ a) ≡ living (y ∷ b) → living a ≤ living b
        → (living a ≡ living b → a ≡ b)
        → x ∷ a ≡ y ∷ b
    go true true f e h r = ap (λ (l : List Bool). true ∷ l) (r (omega arith))
    go true false f e h r = absurd (f 0 refl (omega arith, refl))
    go false true f e h r = absurd (omega arith)
    go false false f e h r = ap (λ (l : List Bool). false ∷ l) (r e)

-- one that lives in a and is gone in b, or none
pub record Differs (a b : List Bool) : Type 0 where
  pub id : ℕ
  pub lives : Lives a id
  pub is_gone : Gone b id

look : (a b : List Bool) → length a ≡ length b → Differs a b ⊎ Within a b
look [] b l = inr (λ id e g. absurd (true≢false (sym e)))
look (x ∷ a) [] l = absurd (omega arith)
look (x ∷ a) (y ∷ b) l = go x y (look a b (omega arith))
  where
    here : (x y : Bool) → (x ≡ true → y ≡ false → ⊥) → Within a b → Within (x ∷ a) (y ∷ b)
    here x y n w zero e g = n e g.1
    here x y n w (suc id) e g = w id e (omega (arith, g.0), g.1)

    later : (x y : Bool) → Differs a b → Differs (x ∷ a) (y ∷ b)
    later x y d = record { id = suc d.id; lives = d.lives; is_gone = (omega (arith, d.is_gone.0), d.is_gone.1) }

    go : (x y : Bool) → Differs a b ⊎ Within a b → Differs (x ∷ a) (y ∷ b) ⊎ Within (x ∷ a) (y ∷ b)
    go true false s = inl (record { id = 0; lives = refl; is_gone = (omega arith, refl) })
    go true true s = ⊎_elim (λ d. inl (later true true d)) (λ w. inr (here true true (λ p q. true≢false q) w)) s
    go false y s = ⊎_elim (λ d. inl (later false y d)) (λ w. inr (here false y (λ p q. true≢false (sym p)) w)) s

module _ (losses : List ℕ) (required keep : ℕ) (a b : List Bool) (s : Survive losses required keep a)
    (t : Survive losses required keep b) where
  -- no required one is gone
  others : (l : List Bool) → Survive losses required keep l → (id : ℕ) → Gone l id → required ≤ id
  others l s id g = elim (dec_lt id required) [ yes h ↦ absurd (true≢false (sym (s.prefix id h) ∙ g.1)) | no h ↦ omega arith ]

  both : Differs a b → Differs b a → ⊥
  both d e =
      clash (s.costliest d.id e.id (others b t d.id d.is_gone) d.lives e.is_gone)
      (t.costliest e.id d.id (others a s e.id e.is_gone) e.lives d.is_gone)
    where
      clash : {i j : ℕ} → Ahead losses i j → Ahead losses j i → ⊥
      clash (inl p) (inl q) = omega arith
      clash (inl p) (inr q) = omega (arith, q.0)
      clash (inr p) (inl q) = omega (arith, p.0)
      clash (inr p) (inr q) = omega (arith, p.1, q.1)

  pub settled : a ≡ b
  settled =
      let n = s.each in
      let m = t.each in
      let k : living a ≡ living b = s.many ∙ sym t.many in
      ⊎_elim (λ d. ⊎_elim (λ e. absurd (both d e)) (λ w. sym (alike b a (omega arith) w (sym k))) (look b a (omega arith)))
      (λ w. alike a b (omega arith) w k) (look a b (omega arith))
