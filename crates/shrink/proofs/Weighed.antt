-- From pieces, scores and lattices to the losses: the trie, the uses, and what each call is given. Assumes nothing.
use mathlib.Core.Path.{◌≡◌, refl, sym, ap, ◌∙◌, subst}
use mathlib.Core.List.{List}
use Prim.Native.Nat.{ℕ, ◌+◌, ◌*◌, ◌/◌, ◌≤◌}
use native.Mathlib.Nat.{le_refl}
use native.Mathlib.Omega.{arith}
use lib.ListN.{length, take, length-take}
use lib.Seq.{take_all}
use lib.Ieee.{Float}
use Rattle.spans.specs.Spans.{many, chars_at, listed}
use Rattle.spans.specs.Check.{AllGood}
use Rattle.lattice.specs.Lattice.{Edge}
use Rattle.cached.specs.Held.{Held}
use Rattle.trie.specs.Prefixes.{prefixes_of}
use Rattle.trie.specs.Listed.{newest}
use Rattle.std.specs.Prelude.{Option, Some, None}
use Rattle.trie.proofs.Indexing.{indexing_good}
use Rattle.trie.proofs.Same.{length_first}
use Rattle.rows.specs.Word.{Holds}
use Rattle.fresh.specs.Build.{smaller}
use Rattle.fresh.specs.Steps.{Front, Fronted}
use Rattle.fresh.proofs.Building.{smaller_is}
use Rattle.uses.specs.Uses.{uses_of}
use Rattle.uses.specs.Steps.{Given as UsesGiven}
use Rattle.losses.specs.Losses.{losses_of, bits_of}
use Rattle.losses.specs.Steps.{Given as LossesGiven}
use Rattle.model.specs.Model.{Model, Task, lattices, loss_bits}
use Rattle.model.specs.Nodes.{nodes}
use Rattle.model.proofs.Nodes.{nodes_listed}
use Rattle.model.proofs.Small.{all_small}
use Rattle.shrink.specs.At.{Slices, Fixed}
use Rattle.shrink.specs.Steps.{Exact, AtExactly, Weighing}
use Rattle.shrink.proofs.Fronts.{held}

-- half of twice as many
half : (n k : ℕ) → n ≡ 2 * k → n / 2 ≡ k
half n k e = omega arith

-- ---- slices that are cut to what they hold
module _ {t : Task} {text : List ℕ} {m : Model} {s : Slices} (exact : Exact s) (at : AtExactly t text m s) where
  pub many_are : many s.pieces ≡ length s.scores
  many_are = half (length s.pieces) (length s.scores) exact.two_a_piece

  whole_pieces : take (2 * length s.scores) s.pieces ≡ s.pieces
  whole_pieces = take_all (2 * length s.scores) s.pieces (let e = exact.two_a_piece in omega arith)

  pub listed_are : listed text s.pieces ≡ m.pieces
  listed_are = ap (listed text) (sym whole_pieces) ∙ at.pieces_are

  pub scores_same : s.scores ≡ m.scores
  scores_same = sym (take_all (length s.scores) s.scores (le_refl (length s.scores))) ∙ at.scores_are

  pub pieces_many : length m.pieces ≡ length s.scores
  pieces_many = ap length (sym listed_are) ∙ length_first (chars_at text s.pieces) (many s.pieces) ∙ many_are

  pub all_good : AllGood text s.pieces 255 (many s.pieces)
  all_good = subst (λ (k : ℕ). AllGood text s.pieces 255 k) (sym many_are)
      (subst (λ (l : List ℕ). AllGood text l 255 (length s.scores)) whole_pieces at.good)

  pub held_all : (words : ℕ) → length t.words ≡ words → Held s.starts s.ids s.offsets s.spans (length s.scores) words (lattices t m)
  held_all words e =
      held t.setting m.pieces t.words s.offsets s.starts s.ids s.spans at.begins words (length s.scores) pieces_many e

-- ---- the trie, in the first places of both slices
module _ (setting : ℕ) (text : List ℕ) (words : ℕ) (frequencies : List ℕ) (s : Slices) (used bits : ℕ) (keys ends : List ℕ) (w : Weighing setting text words frequencies s used bits (length keys) (length ends))
    {places : ℕ} (p : places ≡ smaller (smaller (length keys) (length ends)) 4294967295) where
  low : (places ≤ length keys) × (places ≤ length ends) × (places ≤ 4294967295)
  low =
      let a = smaller_is (smaller (length keys) (length ends)) 4294967295 p in
      let b = smaller_is (length keys) (length ends) refl in
      (omega (arith, a.left, b.left), omega (arith, a.left, b.right), a.right)

  long_of : (l : List ℕ) → places ≤ length l → length (take places l) ≡ places
  long_of l h = omega (arith, length-take places l)

  pub fronts : Front keys ends places text s.pieces
  fronts =
      record {
        in_keys = low.0;
        in_ends = low.1;
        indexing = indexing_good 255 (omega (arith, long_of keys low.0, low.2)) (long_of ends low.1 ∙ sym (long_of keys low.0))
            (let a = many_are w.exact w.at in let b = w.few in omega arith) (all_good w.exact w.at);
      }

  module _ (keys' ends' : List ℕ) (k : length keys' ≡ length keys) (e : length ends' ≡ length ends) where
    pub in_keys : places ≤ length keys'
    in_keys = omega (arith, low.0)

    pub in_ends : places ≤ length ends'
    in_ends = omega (arith, low.1)

    pub cut_keys : places ≡ length (take places keys')
    cut_keys = sym (long_of keys' in_keys)

    pub cut_ends : places ≡ length (take places ends')
    cut_ends = sym (long_of ends' in_ends)

    -- there is room for every prefix
    nodes_fit : length (prefixes_of (newest text s.pieces)) + 1 ≤ length (take places keys) / 2
    nodes_fit =
        let a = sym (ap nodes (listed_are w.exact w.at)) ∙ nodes_listed text s.pieces in
        let b = ap (λ (n : ℕ). n / 2) (long_of keys low.0 ∙ p) in
        let c = w.trie_room in
        omega arith

    trie_of : (r : Option ℕ) → Fronted keys places text s.pieces keys' ends' r → Holds (take places keys') (take places ends') (chars_at text s.pieces) (many s.pieces)
    trie_of (Some n) i = i.trie
    trie_of None i = absurd (omega (arith, nodes_fit))

    -- ---- the losses
    module _ (r : Option ℕ) (i : Fronted keys places text s.pieces keys' ends' r) (uses' : List Float) (bits' : List ℕ) (u : length uses' ≡ used) (b : length bits' ≡ bits) where
      pub losses_given : LossesGiven text s.pieces setting (take places keys') (take places ends') s.scores uses' bits'
      losses_given =
          let n = many_are w.exact w.at in
          record {
            lent =
                record {
                  good = all_good w.exact w.at;
                  few_pieces = let f = w.few in omega arith;
                  narrow = w.fixed.narrow;
                  few = omega (arith, cut_keys, low.2);
                  holds = trie_of r i;
                  scored = sym n;
                };
            used = u ∙ w.in_used ∙ sym n;
            slots = b ∙ w.in_bits ∙ sym n;
          }

-- ---- the uses
pub uses_given : (setting : ℕ) (text : List ℕ) (words : ℕ) (frequencies : List ℕ) (s : Slices) (used bits keys ends : ℕ) → Weighing setting text words frequencies s used bits keys ends
    → UsesGiven s.offsets s.starts s.ids s.spans frequencies words s.scores
uses_given setting text words frequencies s used bits keys ends w =
    record {
      lattices = lattices w.t w.m;
      held = held_all w.exact w.at words w.fixed.words_are;
      equally_many = w.exact.equally_many;
      short = λ word h.
          (all_small w.t.setting (let a = w.fixed.setting_is in let b = w.fixed.narrow in omega arith) w.m.pieces w.t.words w.fixed.short word
          (let a = w.fixed.words_are in omega arith)).chars;
      frequent = w.fixed.frequent;
    }

-- ---- what they come to
module _ (setting : ℕ) (text : List ℕ) (words : ℕ) (frequencies : List ℕ) (s : Slices) (exact : Exact s) (uses' : List Float) (bits' : List ℕ)
    (u : (lattices : List (List (List Edge))) → Held s.starts s.ids s.offsets s.spans (length s.scores) words lattices → uses' ≡ uses_of lattices frequencies s.scores)
    (b : bits' ≡ bits_of (losses_of setting (listed text s.pieces) s.scores uses')) where
  pub weighed : (t : Task) (m : Model) → Fixed t setting words frequencies → AtExactly t text m s → bits' ≡ loss_bits t m
  weighed t m fixed at =
      let v : uses' ≡ uses_of (lattices t m) t.frequencies m.scores =
      u (lattices t m) (held_all exact at words fixed.words_are)
      ∙ ap (λ (f : List ℕ). uses_of (lattices t m) f s.scores) (sym fixed.frequencies_are)
      ∙ ap (λ (x : List Float). uses_of (lattices t m) t.frequencies x) (scores_same exact at) in
      b
      ∙ ap (λ (x : List Float). bits_of (losses_of setting (listed text s.pieces) s.scores x)) v
      ∙ ap (λ (x : List Float). bits_of (losses_of setting (listed text s.pieces) x (uses_of (lattices t m) t.frequencies m.scores))) (scores_same exact at)
      ∙ ap (λ (l : List (List ℕ)). bits_of (losses_of setting l m.scores (uses_of (lattices t m) t.frequencies m.scores))) (listed_are exact at)
      ∙ ap (λ (k : ℕ). bits_of (losses_of k m.pieces m.scores (uses_of (lattices t m) t.frequencies m.scores))) (sym fixed.setting_is)
