-- Specials and pieces together: how much room they need, and what is left when both are put. Assumes nothing.
use mathlib.Core.Path.{◌≡◌, sym, ap, ap₂, ◌∙◌}
use mathlib.Core.Bool.{false}
use mathlib.Core.List.{List, ◌++◌}
use Prim.Native.Nat.{ℕ, ◌+◌, ◌*◌, ◌≤◌}
use native.Mathlib.Nat.{le_refl}
use native.Mathlib.Omega.{arith}
use lib.ListN.{length, replicate, length-append, length-replicate}
use lib.IntN.{pos}
use lib.Ieee.{Float, fin}
use lib.Seq.{sets}
use Rattle.spans.specs.Spans.{many, octets}
use Rattle.positions.specs.Gathered.{bytes_before}
use Rattle.lattice.specs.Layout.{joined}
use Rattle.lattice.proofs.Joined.{joined_append}
use Rattle.lattice.proofs.Fronts.{sets_append}
use Rattle.copied.specs.Put.{spans_from, PutsAll}
use Rattle.copied.proofs.Stores.{sets_over}
use Rattle.copied.proofs.Puts.{spans_long, spans_append}
use Rattle.tokens.specs.Tokens.{Given, texts_of, tokens_of, scores_of, Room, Filled}
use Rattle.tokens.specs.Steps.{Fits, PuttingAll}
use Rattle.tokens.proofs.Sums.{bytes_few}
use Rattle.tokens.proofs.Lists.{first_long, joined_long}

-- ---- one list put after the other, from the slots' front on
both_put : (a b : List (List ℕ)) (bytes tokens : List ℕ) {bytes₁ tokens₁ bytes₂ tokens₂ : List ℕ} {next slot last : ℕ} → slot ≡ length a
    → PutsAll a bytes tokens 0 0 bytes₁ tokens₁ next → PutsAll b bytes₁ tokens₁ slot next bytes₂ tokens₂ last
    → (bytes₂ ≡ sets bytes 0 (joined (a ++ b))) × (tokens₂ ≡ sets tokens 0 (spans_from 0 (a ++ b)))
both_put a b bytes tokens {bytes₁} {tokens₁} {bytes₂} {tokens₂} {next} {slot} {last} s p q =
    let here : 2 * slot ≡ 0 + length (spans_from 0 a) = omega (arith, spans_long 0 a) in (
      q.bytes_are
          ∙ ap₂ (λ (x : List ℕ) (n : ℕ). sets x n (joined b)) p.bytes_are p.next
          ∙ sym (sets_append bytes 0 (joined a) (joined b))
          ∙ ap (sets bytes 0) (sym (joined_append a b)),
      q.spans_are
          ∙ ap₂ (λ (x : List ℕ) (n : ℕ). sets x n (spans_from next b)) p.spans_are here
          ∙ ap (λ (n : ℕ). sets (sets tokens 0 (spans_from 0 a)) (0 + length (spans_from 0 a)) (spans_from n b)) p.next
          ∙ sym (sets_append tokens 0 (spans_from 0 a) (spans_from (0 + length (joined a)) b))
          ∙ ap (sets tokens 0) (sym (spans_append 0 a b)),
    )

module _ {texts specials text pieces : List ℕ} {scores : List Float} (g : Given texts specials text pieces scores) where
  -- ---- how many tokens there are, of how many bytes
  pub counted : many specials + many pieces ≡ length (tokens_of texts specials text pieces)
  counted =
      let a = first_long (octets texts specials) (many specials) in
      let b = first_long (octets text pieces) (many pieces) in
      let c = length-append (texts_of texts specials) (texts_of text pieces) in
      omega arith

  pub measured : bytes_before specials (many specials) + bytes_before pieces (many pieces) ≡ length (joined (tokens_of texts specials text pieces))
  measured =
      let a = joined_long texts specials (many specials) g.specials_good in
      let b = joined_long text pieces (many pieces) g.pieces_good in
      let c = ap length (joined_append (texts_of texts specials) (texts_of text pieces)) in
      let d = length-append (joined (texts_of texts specials)) (joined (texts_of text pieces)) in
      omega arith

  pub small : bytes_before specials (many specials) + bytes_before pieces (many pieces) ≤ 267452160
  small =
      let a = bytes_few specials (λ k l. (g.specials_good k l).short) (many specials) (le_refl (many specials)) in
      let b = bytes_few pieces (λ k l. (g.pieces_good k l).short) (many pieces) (le_refl (many pieces)) in
      let f = g.few_specials in
      let h = g.few_pieces in
      omega arith

  module _ {count long : ℕ} (n : count ≡ many specials + many pieces) (l : long ≡ bytes_before specials (many specials) + bytes_before pieces (many pieces))
      {bytes tokens : List ℕ} {slots : List Float} where
    pub roomy : Fits count long bytes tokens slots → Room (tokens_of texts specials text pieces) bytes tokens slots
    roomy f =
        let c = counted in
        let m = measured in
        let x = f.spans_fit in
        let y = f.scores_fit in
        let z = f.bytes_fit in
        record { spans_fit = omega arith; scores_fit = omega arith; bytes_fit = omega arith }

    pub fitting : Room (tokens_of texts specials text pieces) bytes tokens slots → Fits count long bytes tokens slots
    fitting r =
        let c = counted in
        let m = measured in
        let x = r.spans_fit in
        let y = r.scores_fit in
        let z = r.bytes_fit in
        record { spans_fit = omega arith; scores_fit = omega arith; bytes_fit = omega arith }

    module _ (f : Fits count long bytes tokens slots) where
      -- ---- what the two lists ask
      pub ask_specials : PuttingAll texts specials bytes tokens 0 0
      ask_specials =
          let x = f.spans_fit in
          let z = f.bytes_fit in
          let s = small in
          record { good = g.specials_good; byte_room = omega arith; slot_room = omega arith; narrow = omega arith }

      pub ask_pieces : {bytes₁ tokens₁ : List ℕ} {first next : ℕ} → length bytes₁ ≡ length bytes → length tokens₁ ≡ length tokens → first ≡ many specials
          → PutsAll (texts_of texts specials) bytes tokens 0 0 bytes₁ tokens₁ next → PuttingAll text pieces bytes₁ tokens₁ first next
      ask_pieces {bytes₁} {tokens₁} {first} {next} a b e p =
          let x = f.spans_fit in
          let z = f.bytes_fit in
          let s = small in
          let q = p.next in
          let j = joined_long texts specials (many specials) g.specials_good in
          record { good = g.pieces_good; byte_room = omega arith; slot_room = omega arith; narrow = omega arith }

      -- ---- and what the slices hold then
      pub written : {bytes₁ tokens₁ bytes₂ tokens₂ : List ℕ} {slots₁ slots₂ : List Float} (first next last : ℕ) → first ≡ many specials
          → PutsAll (texts_of texts specials) bytes tokens 0 0 bytes₁ tokens₁ next → PutsAll (texts_of text pieces) bytes₁ tokens₁ first next bytes₂ tokens₂ last
          → slots₁ ≡ sets slots 0 (replicate first (fin false 0 (pos 0))) → slots₂ ≡ sets slots₁ first scores
          → Filled (tokens_of texts specials text pieces) (scores_of specials scores) bytes tokens slots bytes₂ tokens₂ slots₂ count
      written {bytes₁} {tokens₁} {bytes₂} {tokens₂} {slots₁} {slots₂} first next last e p q s t =
          let list = tokens_of texts specials text pieces in
          let room = roomy f in
          let a : first ≡ length (texts_of texts specials) = e ∙ sym (first_long (octets texts specials) (many specials)) in
          let both = both_put (texts_of texts specials) (texts_of text pieces) bytes tokens a p q in
          let zeros = replicate (many specials) (fin false 0 (pos 0)) in
          let z : many specials ≡ length zeros = sym (length-replicate (many specials) (fin false 0 (pos 0))) in
          let here : first ≡ 0 + length zeros = omega arith in
          record {
            room = room;
            count = n ∙ counted;
            bytes_are = both.0 ∙ sets_over (joined list) bytes room.bytes_fit;
            spans_are = both.1 ∙ sets_over (spans_from 0 list) tokens (let l = spans_long 0 list in let r = room.spans_fit in omega arith);
            scores_are = t
                ∙ ap₂ (λ (x : List Float) (i : ℕ). sets x i scores) (s ∙ ap (λ (i : ℕ). sets slots 0 (replicate i (fin false 0 (pos 0)))) e) here
                ∙ sym (sets_append slots 0 zeros scores)
                ∙ sets_over (scores_of specials scores) slots
                (let r = f.scores_fit in let m = g.scored in let k = length-append zeros scores in omega arith);
          }
