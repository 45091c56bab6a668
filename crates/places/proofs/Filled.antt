-- What stands in the places in which entries were put.
-- Assumes nothing.
use Rattle.std.proofs.Common.{◌≡◌, ℕ, zero, suc, ◌+◌, ◌-◌, ◌/◌, ◌<◌, ◌≤◌, Bool, true, false, cond, eqb, List, [], ◌∷◌, length, get_or, set, sym, refl, ap, ◌∙◌, subst, inl, inr, ⊎_elim, arith, length-set, eq-eqb, ne_eqb, eqb-true, Option, Some, None}
use lib.ListN.{length-replicate}
use borrow.Author.Tests.{eqb-false}
use Rattle.laws.proofs.Choices.{cond_cases}
use Rattle.places.specs.Walk.{home_of, stop_of}
use Rattle.places.specs.Map.{found_in}
use Rattle.places.specs.Entries.{zeros, filled, given, node_of, Absent, Once}
use Rattle.places.proofs.Spot.{Spot, Holed, stop_spot}
use Rattle.places.proofs.Table.{same?, Table, busy_in, key_busy, nowhere, at_new, at_old, stays, entered, used, used_set, holed}

pub zeros_at : (n p : ℕ) → get_or (zeros n) p 0 ≡ 0
zeros_at zero p = refl
zeros_at (suc n) zero = refl
zeros_at (suc n) (suc p) = zeros_at n p

zeros_used : (n : ℕ) → used (zeros n) ≡ 0
zeros_used zero = refl
zeros_used (suc n) = zeros_used n

pub filled_length : (n : ℕ) (entries : List ℕ) → length (filled n entries) ≡ n
unfolding filled
filled_length n [] = length-replicate n 0
filled_length n (e ∷ older) = length-set (filled n older) _ e ∙ filled_length n older

-- a key that is no entry has no node
pub absent_nothing : (n : ℕ) (entries : List ℕ) (key : ℕ) → Absent entries key → node_of n entries key ≡ None
unfolding node_of
absent_nothing n [] key a = refl
absent_nothing n (e ∷ older) key a = ap (λ b. cond b (Some (given n older e)) (node_of n older key)) (ne_eqb e key a.0) ∙ absent_nothing n older key a.1

-- and the other way round
pub nothing_absent : (n : ℕ) (entries : List ℕ) (key : ℕ) → node_of n entries key ≡ None → Absent entries key
unfolding node_of
nothing_absent n [] key e = tt
nothing_absent n (x ∷ older) key e = go (eqb x key) refl e (nothing_absent n older key)
  where
    go : (b : Bool) → eqb x key ≡ b → cond b (Some (given n older x)) (node_of n older key) ≡ None
        → (node_of n older key ≡ None → Absent older key) → Absent (x ∷ older) key
    go true t p ih = let z : ◌≡◌ {A = ℕ} 0 1 = cc in absurd (omega arith)
    go false t p ih = (eqb-false x key t, ih p)

-- what an answer says of the places: the key stands below its node, or nowhere
abbrev pub Right : List ℕ → ℕ → Option ℕ → Type 0
Right keys key (Some m) = (0 < m) × (get_or keys (m - 1) 0 ≡ key)
Right keys key None = (p : ℕ) → get_or keys p 0 ≡ key → ⊥

-- the places in which entries were put
pub record Sound (n : ℕ) (entries : List ℕ) : Type 0 where
  pub table : Table (filled n entries)
  pub count : used (filled n entries) ≡ length entries
  pub right : (key : ℕ) → 0 < key → Right (filled n entries) key (node_of n entries key)

sound_none : (n : ℕ) → Sound n []
unfolding filled node_of
sound_none n =
    record {
      table = record { reach = λ p b. absurd (b (zeros_at n p)); once = λ p q b. absurd (b (zeros_at n p)) };
      count = zeros_used n;
      right = λ key h p e. key_busy (zeros n) key p h e (zeros_at n p);
    }

pub sound_hole : (n : ℕ) (entries : List ℕ) → Sound n entries → length entries ≤ n / 2 → 0 < n → Holed (filled n entries)
sound_hole n entries s h l = holed (filled n entries) (omega (arith, s.count, filled_length n entries))

module _ (n : ℕ) (older : List ℕ) (e : ℕ) (s : Sound n older) (some : 0 < e) (none : node_of n older e ≡ None) (h : length older + 1 ≤ n / 2) where
  abbrev before : List ℕ
  before = filled n older

  abbrev at : ℕ
  at = stop_of (filled n older) e

  spot : Spot (filled n older) e (home_of e (length (filled n older))) (stop_of (filled n older) e)
  spot = stop_spot (filled n older) e (sound_hole n older s (omega arith) (omega arith))

  pub free : get_or (filled n older) (stop_of (filled n older) e) 0 ≡ 0
  free = ⊎_elim (λ x. absurd (subst (Right (filled n older) e) none (s.right e some) (stop_of (filled n older) e) x)) (λ x. x) spot.here

  right_more : (key : ℕ) → 0 < key → (e ≡ key → ⊥) → (f : Option ℕ) → Right (filled n older) key f → Right (set (filled n older) (stop_of (filled n older) e) e) key f
  right_more key k d (Some m) r = (r.0, stays (filled n older) e at s.table spot some free (m - 1) (key_busy (filled n older) key (m - 1) k r.1) ∙ r.1)
  right_more key k d None r = λ p x. elim (same? p at) [
    | inl y ↦ d (sym (at_new (filled n older) e at s.table spot some free) ∙ ap (λ (i : ℕ). get_or (set (filled n older) at e) i 0) (sym y) ∙ x)
    | inr y ↦ r p (sym (at_old (filled n older) e at s.table spot some free p y) ∙ x)
  ]

  pub sound_more : Sound n (e ∷ older)
  unfolding filled node_of
  sound_more =
      record {
        table = entered (filled n older) e at s.table spot some free;
        count = used_set (filled n older) at e spot.inside free some ∙ ap suc s.count;
        right = λ key k. cond_cases (Right (set (filled n older) at e) key) (eqb e key) _ _
            (λ t. let z : at + 1 - 1 ≡ at = omega arith in (omega arith, ap (λ (i : ℕ). get_or (set (filled n older) at e) i 0) z ∙ at_new (filled n older) e at s.table spot some free ∙ eqb-true e key t))
            (λ t. right_more key k (eqb-false e key t) (node_of n older key) (s.right key k));
      }

pub sound : (n : ℕ) (entries : List ℕ) → Once entries → length entries ≤ n / 2 → Sound n entries
sound n [] o h = sound_none n
sound n (e ∷ older) o h =
    sound_more n older e (sound n older o.2 (omega arith)) o.0 (absent_nothing n older e o.1) (omega arith)

-- a search answers what is right of a table with an empty place
pub search_right : (keys : List ℕ) (key : ℕ) → Table keys → (0 < length keys → Holed keys) → 0 < key → (f : Option ℕ) → Right keys key f → found_in keys key ≡ f
unfolding found_in
search_right keys key t o k (Some m) r =
    let b = key_busy keys key (m - 1) k r.1 in
    let l = busy_in keys (m - 1) b in
    let s = stop_spot keys key (o (omega arith)) in
    ⊎_elim
    (λ x. let y : m - 1 ≡ stop_of keys key = t.once (m - 1) (stop_of keys key) b (r.1 ∙ sym x) in
    let p = r.0 in
    let z : stop_of keys key + 1 ≡ m = omega arith in
    ap (λ c. cond c (Some (stop_of keys key + 1)) None) (eq-eqb (get_or keys (stop_of keys key) 0) key x) ∙ ap (λ (i : ℕ). Some i) z)
    (λ x. absurd (nowhere keys key (stop_of keys key) t s k x (m - 1) r.1))
    s.here
search_right keys key t o k None r =
    ap (λ c. cond c (Some (stop_of keys key + 1)) None) (ne_eqb (get_or keys (stop_of keys key) 0) key (r (stop_of keys key)))
