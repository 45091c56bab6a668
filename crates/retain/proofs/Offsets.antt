-- One word's offsets, rewritten from the front while its edges move. Assumes nothing.
use mathlib.Core.Path.{◌≡◌, sym, ap, ◌∙◌, subst}
use mathlib.Core.List.{List, [], ◌∷◌, ◌++◌, map, append-nil, append_assoc}
use Prim.Native.Nat.{ℕ, zero, suc, ◌+◌, ◌-◌, ◌≤◌, ◌<◌}
use native.Mathlib.Nat.{le_refl, le_trans}
use native.Mathlib.Numerals.{add-one}
use native.Mathlib.Omega.{arith}
use lib.ListN.{length, get_or, take, drop, set, length-set, length-map, get_or-map, drop_of_length-le}
use lib.Seq.{take-suc, drop-cons, set_at, take_all, length-take-le, get_or-append-add, get_or-drop}
use Rattle.retain.specs.Moves.{kept_to, rank, Moved, End, Word}
use Rattle.retain.proofs.Moving.{moved_join, moved_long, moved_count, ids_after}

-- f of each of the first p, and the rest as it was
pub record Mapped (f : ℕ → ℕ) (base : List ℕ) (p : ℕ) (l : List ℕ) : Type 0 where
  pub is : l ≡ take p (map f base) ++ drop p base
  pub long : length l ≡ length base

front : (f : ℕ → ℕ) (base : List ℕ) (p : ℕ) → p ≤ length base → length (take p (map f base)) ≡ p
front f base p h = length-take-le p (map f base) (let e = length-map base f in omega arith)

pub mapped_after : {f : ℕ → ℕ} {base l : List ℕ} {p : ℕ} (q : ℕ) → p ≤ length base → p ≤ q → Mapped f base p l → get_or l q 0 ≡ get_or base q 0
mapped_after {f} {base} {l} {p} q h a m =
    let t = take p (map f base) in
    let e : q ≡ length t + (q - p) = let k = front f base p h in omega arith in
    let d : p + (q - p) ≡ q = omega arith in
    ap (λ (x : List ℕ). get_or x q 0) m.is ∙ ap (λ (x : ℕ). get_or (t ++ drop p base) x 0) e ∙ get_or-append-add t (drop p base) (q - p) 0 ∙ get_or-drop p base (q - p) 0 ∙ ap (λ (x : ℕ). get_or base x 0) d

pub mapped_more : {f : ℕ → ℕ} {base l : List ℕ} {p : ℕ} (v : ℕ) → p < length base → v ≡ f (get_or base p 0) → Mapped f base p l → Mapped f base (p + 1) (set l p v)
mapped_more {f} {base} {l} {p} v h e m =
    let t = take p (map f base) in
    let here : take (suc p) (map f base) ≡ t ++ (v ∷ []) =
    take-suc (map f base) p (f 0) (let k = length-map base f in omega arith) ∙ ap (λ (x : ℕ). t ++ (x ∷ [])) (get_or-map f base p 0 ∙ sym e) in
    record {
      is =
          ap (λ (x : List ℕ). set x p v) (m.is ∙ ap (λ (x : List ℕ). t ++ x) (drop-cons base p 0 h))
          ∙ set_at t (get_or base p 0) (drop (suc p) base) v p (front f base p (omega arith))
          ∙ sym (append_assoc t (v ∷ []) (drop (suc p) base))
          ∙ ap (λ (x : List ℕ). x ++ drop (suc p) base) (sym here)
          ∙ ap (λ (x : ℕ). take x (map f base) ++ drop x base) (sym (add-one p));
      long = length-set l p v ∙ m.long;
    }

pub mapped_all : {f : ℕ → ℕ} {base l : List ℕ} {p : ℕ} → length base ≤ p → Mapped f base p l → l ≡ map f base
mapped_all {f} {base} {l} {p} h m =
    m.is ∙ ap (λ (x : List ℕ). x ++ drop p base) (take_all p (map f base) (let e = length-map base f in omega arith))
    ∙ ap (λ (x : List ℕ). map f base ++ x) (drop_of_length-le base h) ∙ append-nil (map f base)

-- ---- offsets that rise
climbs : (a : ℕ → ℕ) (n : ℕ) → ((p : ℕ) → p ≤ n → a p ≤ a (p + 1)) → (d q : ℕ) → q + d ≡ n + 1 → a q ≤ a (n + 1)
climbs a n h zero q e = let x : q ≡ n + 1 = omega arith in subst (λ (z : ℕ). a q ≤ a z) x (le_refl (a q))
climbs a n h (suc d) q e = le_trans (h q (omega arith)) (climbs a n h d (q + 1) (omega arith))

-- ---- one word's loop: the offsets before p are new, and the edges that end before p have moved
pub record Going (offs s i m : List ℕ) (base w n p : ℕ) (l s' i' : List ℕ) (at : ℕ) : Type 0 where
  pub new : Mapped (rank m i base) offs p l
  pub moved : Moved s i m w (kept_to m i base (base + get_or offs p 0)) s' i' at

pub at_most : {offs s i m : List ℕ} {base w n p : ℕ} {l s' i' : List ℕ} {at : ℕ} → Going offs s i m base w n p l s' i' at → (w ≤ at) × (at ≤ w + get_or offs p 0)
at_most {offs} {s} {i} {m} {base} {w} {n} {p} v = let c = moved_count base (base + get_or offs p 0) v.moved in (omega arith, omega arith)

pub end_of : {offs s i m : List ℕ} {base w n p : ℕ} {l s' i' : List ℕ} {at : ℕ} → Word offs s i m base w n → p ≤ n → Going offs s i m base w n p l s' i' at → End l s' i' m base w at p
end_of {offs} {s} {i} {m} {base} {w} {n} {p} {l} {s'} {i'} {at} u h v =
    let k = u.many in
    let e0 : get_or l p 0 ≡ get_or offs p 0 = mapped_after p (omega arith) (omega arith) v.new in
    let e1 : get_or l (p + 1) 0 ≡ get_or offs (p + 1) 0 = mapped_after (p + 1) (omega arith) (omega arith) v.new in
    let c = at_most v in
    let r = u.rises p h in
    let top : get_or offs (p + 1) 0 ≤ get_or offs (n + 1) 0 = climbs (λ (q : ℕ). get_or offs q 0) n u.rises (n - p) (p + 1) (omega arith) in
    let z = moved_long v.moved in
    let long = v.new.long in
    record {
      inside = omega arith;
      lower = omega arith;
      upper = omega arith;
      behind = u.behind;
      rises = omega arith;
      in_starts = omega arith;
      in_ids = omega arith;
      entries = λ j a b. let f = u.behind in subst (λ (x : ℕ). x < length m) (sym (ids_after v.moved j (omega arith))) (u.entries j (omega arith) (omega arith));
    }

pub going_more : {offs s i m : List ℕ} {base w n p : ℕ} {l s' i' l'' s'' i'' : List ℕ} {at x : ℕ} → Word offs s i m base w n → p ≤ n → Going offs s i m base w n p l s' i' at
    → Moved s' i' m at (kept_to m i' (base + get_or l p 0) (base + get_or l (p + 1) 0)) s'' i'' x → l'' ≡ set l p (at - w) → Going offs s i m base w n (p + 1) l'' s'' i'' x
going_more {offs} {s} {i} {m} {base} {w} {n} {p} {l} {s'} {i'} {l''} {s''} {i''} {at} {x} u h v t e =
    let k = u.many in
    let e0 : get_or l p 0 ≡ get_or offs p 0 = mapped_after p (omega arith) (omega arith) v.new in
    let e1 : get_or l (p + 1) 0 ≡ get_or offs (p + 1) 0 = mapped_after (p + 1) (omega arith) (omega arith) v.new in
    let r = u.rises p h in
    let g = v.moved.count in
    let f = u.behind in
    record {
      new = rw e (mapped_more (at - w) (omega arith) (omega arith) v.new);
      moved = moved_join base (base + get_or offs p 0) (base + get_or offs (p + 1) 0) f (omega arith) (omega arith) v.moved (rw (e0, e1) at t);
    }

pub going_all : {offs s i m : List ℕ} {base w n : ℕ} {l s' i' : List ℕ} {at : ℕ} → Word offs s i m base w n → Going offs s i m base w n (n + 1) l s' i' at → set l (n + 1) (at - w) ≡ map (rank m i base) offs
going_all {offs} {s} {i} {m} {base} {w} {n} {l} {s'} {i'} {at} u v =
    let k = u.many in
    let g = v.moved.count in
    mapped_all {p = n + 1 + 1} (omega arith) (mapped_more (at - w) (omega arith) (omega arith) v.new)
