-- A table: each key stands where its walk finds it, once; and one key more at the empty place where its walk ends.
-- Assumes nothing.
use Rattle.std.proofs.Common.{◌≡◌, ℕ, zero, suc, ◌<◌, ◌⊎◌, List, [], ◌∷◌, length, get_or, set, sym, refl, ap, ◌∙◌, subst, inl, inr, le_of_suc-le-suc, not-suc-le-zero, lt_irrefl, arith, length-set, get_or-set_other, get_or-set_same}
use native.Mathlib.Decide.{dec_lt}
use lib.ListN.{get_or-eq_default}
use Rattle.places.specs.Walk.{home_of}
use Rattle.places.proofs.Seek.{Busy, Other}
use Rattle.places.proofs.Spot.{Along, Spot, Holed}

pub same? : (a b : ℕ) → (a ≡ b) ⊎ (a ≡ b → ⊥)
same? a b = elim (dec_lt a b) [
  | yes x ↦ inr (λ e. lt_irrefl a (omega arith))
  | no x ↦ elim (dec_lt b a) [
    | yes y ↦ inr (λ e. lt_irrefl a (omega arith))
    | no y ↦ inl (omega arith)
  ]
]

pub record Table (keys : List ℕ) : Type 0 where
  pub reach : (p : ℕ) → Busy keys p → Along (length keys) (home_of (get_or keys p 0) (length keys)) p (Busy keys)
  pub once : (p q : ℕ) → Busy keys p → get_or keys p 0 ≡ get_or keys q 0 → p ≡ q

pub busy_in : (keys : List ℕ) (p : ℕ) → Busy keys p → p < length keys
busy_in keys p b = elim (dec_lt p (length keys)) [
  | yes k ↦ k
  | no k ↦ absurd (b (get_or-eq_default keys 0 {n = p} (omega arith)))
]

-- what holds the key is not empty
pub key_busy : (keys : List ℕ) (key p : ℕ) → 0 < key → get_or keys p 0 ≡ key → Busy keys p
key_busy keys key p h e z = lt_irrefl 0 (omega arith)

module _ (keys : List ℕ) (key r : ℕ) (t : Table keys) (s : Spot keys key (home_of key (length keys)) r) (some : 0 < key) (free : get_or keys r 0 ≡ 0) where
  -- a walk that ended at an empty place found no key, because there is none
  pub nowhere : (p : ℕ) → get_or keys p 0 ≡ key → ⊥
  nowhere p e =
      let b = key_busy keys key p some e in
      let l = busy_in keys p b in
      let i = s.inside in
      let h = home_of key (length keys) in
      let a : Along (length keys) (home_of key (length keys)) p (Busy keys) = subst (λ (k : ℕ). Along (length keys) (home_of k (length keys)) p (Busy keys)) e (t.reach p b) in
      let apart : p ≡ r → ⊥ = λ z. b (subst (λ (x : ℕ). get_or keys x 0 ≡ 0) (sym z) free) in
      elim (dec_lt p h) [
        | yes ph ↦ elim (dec_lt r h) [
          | yes rh ↦ elim (dec_lt p r) [
            | yes pr ↦ (s.passed.under rh p pr).1 e
            | no pr ↦ elim (dec_lt r p) [
              | yes rp ↦ a.under ph r rp free
              | no rp ↦ apart (omega arith)
            ]
          ]
          | no rh ↦ a.over ph r (omega arith) i free
        ]
        | no ph ↦ elim (dec_lt r h) [
          | yes rh ↦ (s.passed.over rh p (omega arith) l).1 e
          | no rh ↦ elim (dec_lt p r) [
            | yes pr ↦ (s.passed.near p (omega arith) pr).1 e
            | no pr ↦ elim (dec_lt r p) [
              | yes rp ↦ a.near r (omega arith) rp free
              | no rp ↦ apart (omega arith)
            ]
          ]
        ]
      ]

  pub at_new : get_or (set keys r key) r 0 ≡ key
  at_new = get_or-set_same keys r key 0 s.inside

  pub at_old : (p : ℕ) → (p ≡ r → ⊥) → get_or (set keys r key) p 0 ≡ get_or keys p 0
  at_old p d = get_or-set_other keys r p key 0 d

  -- what was put stays
  pub stays : (p : ℕ) → Busy keys p → get_or (set keys r key) p 0 ≡ get_or keys p 0
  stays p b = at_old p (λ e. b (subst (λ (x : ℕ). get_or keys x 0 ≡ 0) (sym e) free))

  still : (p : ℕ) → Busy keys p → Busy (set keys r key) p
  still p b z = b (sym (stays p b) ∙ z)

  abbrev Reach : ℕ → ℕ → Type 0
  Reach h p = Along (length (set keys r key)) h p (Busy (set keys r key))

  along : {h p : ℕ} (Q : ℕ → Type 0) → ((q : ℕ) → Q q → Busy keys q) → Along (length keys) h p Q → Reach h p
  along {h} {p} Q f a =
      record {
        near = λ q x y. still q (f q (a.near q x y));
        over = λ z q x y. still q (f q (a.over z q x (subst (λ (n : ℕ). q < n) (length-set keys r key) y)));
        under = λ z q y. still q (f q (a.under z q y));
      }

  pub entered : Table (set keys r key)
  entered =
      record {
        reach = λ p b. elim (same? p r) [
          | inl e ↦ subst (λ (x : ℕ). Reach x p) (sym (home_new p e)) (subst (Reach (home_of key (length keys))) (sym e) (along (Other keys key) (λ q o. o.0) s.passed))
          | inr d ↦ subst (λ (x : ℕ). Reach x p) (sym (home_old p d)) (along (Busy keys) (λ q o. o) (t.reach p (λ z. b (at_old p d ∙ z))))
        ];
        once = λ p q b e. elim (same? p r) [
          | inl x ↦ elim (same? q r) [
            | inl y ↦ x ∙ sym y
            | inr y ↦ absurd (nowhere q (sym (at_old q y) ∙ sym e ∙ ap (λ (i : ℕ). get_or (set keys r key) i 0) x ∙ at_new))
          ]
          | inr x ↦ elim (same? q r) [
            | inl y ↦ absurd (nowhere p (sym (at_old p x) ∙ e ∙ ap (λ (i : ℕ). get_or (set keys r key) i 0) y ∙ at_new))
            | inr y ↦ t.once p q (λ z. b (at_old p x ∙ z)) (sym (at_old p x) ∙ e ∙ at_old q y)
          ]
        ];
      }
    where
      home_new : (p : ℕ) → p ≡ r → home_of (get_or (set keys r key) p 0) (length (set keys r key)) ≡ home_of key (length keys)
      home_new p e = ap (λ (i : ℕ). home_of (get_or (set keys r key) i 0) (length (set keys r key))) e ∙ ap (λ (k : ℕ). home_of k (length (set keys r key))) at_new ∙ ap (home_of key) (length-set keys r key)

      home_old : (p : ℕ) → (p ≡ r → ⊥) → home_of (get_or (set keys r key) p 0) (length (set keys r key)) ≡ home_of (get_or keys p 0) (length keys)
      home_old p d = ap (λ (k : ℕ). home_of k (length (set keys r key))) (at_old p d) ∙ ap (home_of (get_or keys p 0)) (length-set keys r key)

-- how many places are not empty
abbrev pub used : List ℕ → ℕ
used [] = 0
used (zero ∷ keys) = used keys
used (suc k ∷ keys) = suc (used keys)

pub used_set : (keys : List ℕ) (r key : ℕ) → r < length keys → get_or keys r 0 ≡ 0 → 0 < key → used (set keys r key) ≡ suc (used keys)
used_set [] r key l z s = absurd (not-suc-le-zero l)
used_set (zero ∷ keys) zero zero l z s = absurd (not-suc-le-zero s)
used_set (zero ∷ keys) zero (suc k) l z s = refl
used_set (suc x ∷ keys) zero key l z s = absurd (lt_irrefl 0 (omega arith))
used_set (zero ∷ keys) (suc r) key l z s = used_set keys r key (le_of_suc-le-suc l) z s
used_set (suc x ∷ keys) (suc r) key l z s = ap suc (used_set keys r key (le_of_suc-le-suc l) z s)

-- where fewer are used than there are, one is empty
pub holed : (keys : List ℕ) → used keys < length keys → Holed keys
holed [] l = absurd (not-suc-le-zero l)
holed (zero ∷ keys) l = record { at = 0; inside = omega arith; empty = refl }
holed (suc x ∷ keys) l = let h = holed keys (le_of_suc-le-suc l) in record { at = suc h.at; inside = omega (arith, h.inside); empty = h.empty }
