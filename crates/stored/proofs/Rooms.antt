-- What it says that there is room for a text, or for a word. Assumes nothing.
use mathlib.Core.Path.{◌≡◌, refl}
use mathlib.Core.Bool.{Bool, true, false, not, ◌&&◌}
use mathlib.Core.List.{List}
use Prim.Native.Nat.{ℕ, ◌+◌, ◌/◌, ◌≤◌, ◌<◌}
use native.Mathlib.Omega.{arith}
use lib.Dec.{leb, ltb}
use lib.ListN.{length, drop, length-drop}
use lib.Seq.{length-take-le}
use borrow.Author.Tests.{leb-true, ltb-true}
use Rattle.stored.specs.Stored.{Texts, part, fits, has_room}

-- ---- both of two
both : (a b : Bool) → a && b ≡ true → (a ≡ true) × (b ≡ true)
both true b e = (refl, e)
both false b e = let z : ◌≡◌ {A = ℕ} 0 1 = cc in absurd (omega arith)

not_true : (b : Bool) → not b ≡ true → b ≡ false
not_true true e = let z : ◌≡◌ {A = ℕ} 0 1 = cc in absurd (omega arith)
not_true false e = refl

pub record Fits (t : Texts) (bytes : List ℕ) (from long : ℕ) : Type 0 where
  pub inside : from + long ≤ length bytes
  pub byte_room : t.run.bytes + long ≤ length t.bytes
  pub narrow : t.run.bytes + long ≤ 4294967295
  pub slot_room : t.run.count < length t.spans / 2

module _ (t : Texts) (bytes : List ℕ) (from long : ℕ) (e : fits t bytes from long ≡ true) where
  pub fitting : Fits t bytes from long
  fitting =
      let (a, p) = both (leb (from + long) (length bytes)) _ e in
      let (b, q) = both (leb (t.run.bytes + long) (length t.bytes)) _ p in
      let (c, d) = both (leb (t.run.bytes + long) 4294967295) _ q in
      record {
        inside = leb-true (from + long) (length bytes) a;
        byte_room = leb-true (t.run.bytes + long) (length t.bytes) b;
        narrow = leb-true (t.run.bytes + long) 4294967295 c;
        slot_room = ltb-true t.run.count (length t.spans / 2) d;
      }

  -- the part has as many bytes as are told
  pub part_long : length (part bytes from long) ≡ long
  part_long = let i = fitting.inside in length-take-le long (drop from bytes) (omega (arith, length-drop from bytes))

pub room_fits : (bytes : List ℕ) (from long : ℕ) (short : Bool) (words : Texts) (frequencies : List ℕ) → has_room words frequencies short bytes from long ≡ true
    → (words.run.count < length frequencies) × (fits words bytes from long ≡ true)
room_fits bytes from long short words frequencies e =
    let (_, r) = both (not short) _ e in
    let (c, f) = both (ltb words.run.count (length frequencies)) _ r in
    (ltb-true words.run.count (length frequencies) c, f)

-- and none before it lacked room
pub room_whole : (bytes : List ℕ) (from long : ℕ) (short : Bool) (words : Texts) (frequencies : List ℕ) → has_room words frequencies short bytes from long ≡ true → short ≡ false
room_whole bytes from long short words frequencies e = let (s, _) = both (not short) _ e in not_true short s
