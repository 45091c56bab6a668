-- Each way out of `add`.
-- Assumes nothing.
use Rattle.std.specs.Prelude.{Some, None}
use mathlib.Core.Path.{◌≡◌, refl, sym, ap, ◌∙◌, subst}
use mathlib.Core.List.{List, ◌∷◌}
use Prim.Native.Nat.{ℕ, zero, suc, ◌+◌, ◌-◌, ◌<◌}
use native.Mathlib.Nat.{lt_irrefl}
use native.Mathlib.Omega.{arith}
use lib.ListN.{length, get_or, set}
use Rattle.utf8.specs.Chars.{chars_of}
use Rattle.utf8.proofs.Reading.{chars_none, chars_some}
use Rattle.trie.specs.Prefixes.{back, whole, joined, id_of, Small}
use Rattle.trie.specs.Trie.{node_at, Trie}
use Rattle.trie.specs.Promised.{Reaches, Reached, Adding, More, Adds}
use Rattle.trie.specs.declared.Added.TheVariants.{New, Again}
use Rattle.trie.proofs.Equal.{back_small}
use Rattle.trie.proofs.Spelling.{chars_small}
use Rattle.trie.proofs.Growing.{trie_named, trie_empty}

pub adds_full : (keys ends chars : List ℕ) (id count : ℕ) (after : List ℕ) → Reaches keys chars count after None → Adds keys ends chars id count after ends None
adds_full keys ends chars id count after s = λ prefixes pieces t n i. (s ends prefixes pieces t n, refl)

empty : (keys ends chars : List ℕ) (id count : ℕ) → length chars ≡ 0 → Adds keys ends chars id count keys ends (Some (New count))
empty keys ends chars id count e = λ prefixes pieces t n i.
    record {
      long = refl;
      trie = subst (λ (k : ℕ). Trie keys ends (joined prefixes chars k) (chars ∷ pieces)) (sym e) (trie_empty t chars (ap (back chars) e));
      counted = n ∙ ap (λ (k : ℕ). length (joined prefixes chars k)) (sym e);
      told = λ l. absurd (lt_irrefl 0 (omega arith));
    }

pub adds_empty : (keys ends piece : List ℕ) (id count : ℕ) → length piece ≡ 0 → Adds keys ends (chars_of piece) id count keys ends (Some (New count))
adds_empty keys ends piece id count e = empty keys ends (chars_of piece) id count (ap length (chars_none piece e))

long : (n : ℕ) → (n ≡ 0 → ⊥) → 0 < n
long zero h = absurd (h refl)
long (suc n) h = omega arith

-- a piece that is not empty
module _ (keys ends piece : List ℕ) (id count : ℕ) (x : Adding keys ends piece id) (nonempty : length piece ≡ 0 → ⊥) (after : List ℕ) (node made : ℕ) (r : Reached keys (chars_of piece) count after node made) where
  some : 0 < length (chars_of piece)
  some = chars_some x.spelling.utf8 (long (length piece) nonempty)

  pub node_low : 0 < node
  node_low = r.low some

  pub node_in : node - 1 < length ends
  node_in = let l = node_low in omega (arith, r.high, x.level)

  last : whole (chars_of piece) ≡ get_or (chars_of piece) (length (chars_of piece) - 1) 0 ∷ back (chars_of piece) (length (chars_of piece) - 1)
  last = let l = some in let e : length (chars_of piece) ≡ suc (length (chars_of piece) - 1) = omega arith in ap (back (chars_of piece)) e

  small : Small (get_or (chars_of piece) (length (chars_of piece) - 1) 0 ∷ back (chars_of piece) (length (chars_of piece) - 1))
  small = subst Small last (back_small (chars_of piece) (length (chars_of piece)) (chars_small x.spelling.utf8) (omega arith))

  more : (prefixes pieces : List (List ℕ)) → Trie keys ends prefixes pieces → count ≡ length prefixes → id ≡ length pieces → More keys (chars_of piece) after (set ends (node - 1) (id + 1)) (get_or ends (node - 1) 0) made prefixes pieces
  more prefixes pieces t n i =
      let p = r.path ends prefixes pieces t n in
      let l = node_low in
      let z : node ≡ suc (node - 1) = omega arith in
      let lead : node_at after (get_or (chars_of piece) (length (chars_of piece) - 1) 0 ∷ back (chars_of piece) (length (chars_of piece) - 1)) ≡ Some (suc (node - 1))
      = ap (node_at after) (sym last) ∙ p.leads ∙ ap (λ (k : ℕ). Some k) z in
      record {
        long = r.long;
        trie = subst (λ (k : ℕ). Trie after (set ends (node - 1) (k + 1)) (joined prefixes (chars_of piece) (length (chars_of piece))) ((chars_of piece) ∷ pieces)) (sym i)
            (trie_named p.trie (chars_of piece) (get_or (chars_of piece) (length (chars_of piece) - 1) 0) (back (chars_of piece) (length (chars_of piece) - 1)) (node - 1) last small lead);
        counted = p.counted;
        told = λ _. p.trie.names (get_or (chars_of piece) (length (chars_of piece) - 1) 0) (node - 1) (back (chars_of piece) (length (chars_of piece) - 1)) small lead ∙ ap (id_of pieces) (sym last);
      }

  pub adds_new : get_or ends (node - 1) 0 ≡ 0 → Adds keys ends (chars_of piece) id count after (set ends (node - 1) (id + 1)) (Some (New made))
  adds_new e = λ prefixes pieces t n i. subst (λ (k : ℕ). More keys (chars_of piece) after (set ends (node - 1) (id + 1)) k made prefixes pieces) e (more prefixes pieces t n i)

  pub adds_again : (get_or ends (node - 1) 0 ≡ 0 → ⊥) → Adds keys ends (chars_of piece) id count after (set ends (node - 1) (id + 1)) (Some (Again (get_or ends (node - 1) 0 - 1) made))
  adds_again d =
      let l = long (get_or ends (node - 1) 0) d in
      let z : get_or ends (node - 1) 0 ≡ get_or ends (node - 1) 0 - 1 + 1 = omega arith in
      λ prefixes pieces t n i. subst (λ (k : ℕ). More keys (chars_of piece) after (set ends (node - 1) (id + 1)) k made prefixes pieces) z (more prefixes pieces t n i)
