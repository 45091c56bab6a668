-- Values that are stored one after the other, from a slot on. Assumes nothing.
use mathlib.Core.Path.{◌≡◌, refl, sym, ap, ap₂, ◌∙◌}
use mathlib.Core.List.{List, ◌++◌}
use Prim.Native.Nat.{ℕ, ◌+◌, ◌≤◌}
use native.Mathlib.Nat.{zero-add}
use native.Mathlib.Omega.{arith}
use borrow.Rule.Slice.PartMut.{put_mid}
use Rattle.std.proofs.lemmas.Slice.{put_mid-paste}
use lib.ListN.{length, take, drop, replicate, length-replicate}
use lib.Seq.{length-take-le, sets, sets-eq, take_all}

-- ---- values that are copied into a part of a slice are stored from its first slot on
pub part_stored : {A : Type 0} (before values part : List A) (at n : ℕ) → part ≡ values → n ≡ length values → at + length values ≤ length before → put_mid at n before part ≡ sets before at values
part_stored {A} before values part at n e l h =
    put_mid-paste at n before part values (length values) e (sym l) refl
    ∙ ap (λ (x : List A). take at before ++ x ++ drop (at + length values) before) (take_all (length values) values (omega arith))
    ∙ sym (sets-eq values before at h)

-- ---- stores from slot 0 on are written over the front
pub sets_over : {A : Type 0} (values l : List A) → length values ≤ length l → sets l 0 values ≡ values ++ drop (length values) l
sets_over {A} values l h = sets-eq values l 0 (omega arith) ∙ ap (λ (n : ℕ). values ++ drop n l) (zero-add (length values))

-- a front that is filled is stored
pub front_stored : {A : Type 0} (v : A) (before part : List A) (n : ℕ) → part ≡ replicate (length (take n before)) v → n ≤ length before → part ++ drop n before ≡ sets before 0 (replicate n v)
front_stored {A} v before part n e h =
    let l = length-take-le n before h in
    let m : n ≡ length (replicate n v) = sym (length-replicate n v) in
    ap₂ (λ (x : List A) (j : ℕ). x ++ drop j before) (e ∙ ap (λ (j : ℕ). replicate j v) l) m ∙ sym (sets_over (replicate n v) before (omega arith))
