-- The loop that puts the spans of a list, one after the other. Assumes nothing.
use mathlib.Core.Path.{◌≡◌, refl, sym, ap, ◌∙◌, subst}
use mathlib.Core.List.{List}
use Prim.Native.Nat.{ℕ, ◌+◌, ◌*◌, ◌≤◌, ◌<◌}
use native.Mathlib.Numerals.{add-one}
use native.Mathlib.Omega.{arith}
use lib.ListN.{length}
use lib.Seq.{length-sets}
use Rattle.spans.specs.Spans.{many, bytes, octets, first}
use Rattle.positions.specs.Gathered.{bytes_before}
use Rattle.positions.proofs.Rows.{bytes_before_lem}
use Rattle.lattice.specs.Layout.{joined}
use Rattle.copied.specs.Put.{spans_from, Puts, PutsAll, Putting as Store}
use Rattle.copied.proofs.Puts.{puts_more}
use Rattle.tokens.specs.Steps.{Putting, PuttingAll}
use Rattle.tokens.proofs.Lists.{octets_long, first_long, joined_long}

-- ---- one token
module _ {text spans out tokens : List ℕ} {k slot at : ℕ} (p : Putting text spans k out tokens slot at) {token : List ℕ} (is : token ≡ octets text spans k) where
  pub put_asked : Store token out tokens slot at
  put_asked =
      let long : length token ≡ bytes spans k = ap length is ∙ octets_long p.good in
      record { byte_room = omega (arith, p.byte_room); slot_room = omega (arith, p.slot_room); narrow = omega (arith, p.narrow) }

-- ---- how far the loop has come
pub record Placed (text spans out₀ tokens₀ : List ℕ) (slot at : ℕ) (out tokens : List ℕ) (next k : ℕ) : Type 0 where
  pub near : k ≤ many spans
  pub puts : PutsAll (first (octets text spans) k) out₀ tokens₀ slot at out tokens next

pub placed_none : (text spans out tokens : List ℕ) (slot at : ℕ) → Placed text spans out tokens slot at out tokens at 0
placed_none text spans out tokens slot at = record { near = omega arith; puts = record { bytes_are = refl; spans_are = refl; next = omega arith } }

module _ {text spans out₀ tokens₀ : List ℕ} {slot at : ℕ} (asked : PuttingAll text spans out₀ tokens₀ slot at)
    {out tokens : List ℕ} {next k : ℕ} (p : Placed text spans out₀ tokens₀ slot at out tokens next k) where
  out_long : length out ≡ length out₀
  out_long = ap length p.puts.bytes_are ∙ length-sets out₀ at (joined (first (octets text spans) k))

  tokens_long : length tokens ≡ length tokens₀
  tokens_long = ap length p.puts.spans_are ∙ length-sets tokens₀ (2 * slot) (spans_from at (first (octets text spans) k))

  next_is : next ≡ at + bytes_before spans k
  next_is =
      let b = p.near in
      p.puts.next ∙ ap (λ (m : ℕ). at + m) (joined_long text spans k (λ j l. asked.good j (omega arith)))

  pub placed_turn : k < many spans → Putting text spans k out tokens (slot + k) next
  placed_turn h =
      let b = bytes_before_lem text spans k (many spans) h in
      let c = next_is in
      let o = out_long in
      let t = tokens_long in
      let room = asked.byte_room in
      let slots = asked.slot_room in
      let small = asked.narrow in
      record {
        within = h;
        good = asked.good k h;
        byte_room = omega arith;
        slot_room = omega arith;
        narrow = omega arith;
      }

  pub placed_more : {out' tokens' : List ℕ} {r : ℕ} → k < many spans → Puts (octets text spans k) out tokens (slot + k) next out' tokens' r
      → Placed text spans out₀ tokens₀ slot at out' tokens' r (k + 1)
  placed_more {out'} {tokens'} {r} l q =
      let f = octets text spans in
      record {
        near = omega arith;
        puts = subst (λ (j : ℕ). PutsAll (first f j) out₀ tokens₀ slot at out' tokens' r) (sym (add-one k))
            (puts_more p.puts (f k) k (sym (first_long f k)) q);
      }

  pub placed_all : many spans ≤ k → PutsAll (first (octets text spans) (many spans)) out₀ tokens₀ slot at out tokens next
  placed_all h =
      let b = p.near in
      let e : k ≡ many spans = omega arith in
      subst (λ (j : ℕ). PutsAll (first (octets text spans) j) out₀ tokens₀ slot at out tokens next) e p.puts
