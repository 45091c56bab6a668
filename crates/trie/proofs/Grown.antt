-- Each way out of `grow`, and the turns of the loop of `spell`, character by character.
-- Assumes nothing.
use Rattle.std.specs.Prelude.{Some, None}
use mathlib.Core.Path.{◌≡◌, refl, sym, ap, ◌∙◌, subst}
use mathlib.Core.Bool.{cond}
use mathlib.Core.List.{List, ◌∷◌}
use Prim.Native.Nat.{ℕ, suc, ◌+◌, ◌-◌, ◌/◌, ◌≤◌, ◌<◌}
use native.Mathlib.Omega.{arith}
use native.Mathlib.Numerals.{add-one}
use lib.ListN.{length, get_or, length-set}
use Rattle.places.specs.Walk.{key_of}
use Rattle.places.specs.Map.{inserted_in, put_in}
use Rattle.places.specs.declared.Inserted.TheVariants.{Old, New}
use Rattle.places.proofs.Theorems.{key_some, room_none}
use Rattle.places.proofs.Answers.{Made, answered, found_range, made_range}
use Rattle.trie.specs.Prefixes.{back, joined}
use Rattle.trie.specs.Trie.{is_node, Trie}
use Rattle.trie.specs.Promised.{Next, Grew, Stuck, Path, Full, Reached}
use Rattle.trie.proofs.Equal.{back_small, joined_longer}
use Rattle.trie.proofs.Nodes.{child_of}
use Rattle.trie.proofs.Growing.{old_has, none_has, trie_old, trie_new, node_new}

module _ (keys : List ℕ) (node c count : ℕ) (small : c < 4294967295) (after : List ℕ) (put : after ≡ put_in keys (key_of node c) count) where
  pub grew_old : (m : ℕ) → Some (Old m) ≡ inserted_in keys (key_of node c) count → Grew keys node c count after m count
  grew_old m e =
      let (f, g) = answered keys (key_of node c) count (Some (Old m)) e in
      let r = found_range keys (key_of node c) (key_some node c) f in
      let a : keys ≡ after = sym (put ∙ g) in
      record {
        long = ap length (sym a);
        low = r.0;
        high = r.1;
        next = λ q ends prefixes pieces t n s l. subst (λ (k : List ℕ). Next k c count m q ends prefixes pieces) a (record {
          trie = trie_old t q c node s small l f;
          counted = n ∙ ap length (sym (ap (λ b. cond b prefixes ((c ∷ q) ∷ prefixes)) (old_has t q c node s small l f)));
          leads = child_of keys c q l ∙ f;
        });
      }

  module _ (m : ℕ) (e : Some (New m) ≡ inserted_in keys (key_of node c) count) where
    made : Made keys (key_of node c) count m
    made = answered keys (key_of node c) count (Some (New m)) e

    pub grew_fits : count + 2 ≤ length keys / 2
    grew_fits = made.room

    pub grew_new : Grew keys node c count after m (count + 1)
    grew_new =
        let r = made_range keys (key_of node c) (key_some node c) made in
        record {
          long = ap length put ∙ ap length made.after ∙ length-set keys _ _;
          low = r.0;
          high = r.1;
          next = λ q ends prefixes pieces t n s l.
              let u : count ≡ length t.entries = n ∙ sym t.count in
              let a : put_in keys (key_of node c) (length t.entries) ≡ after = ap (put_in keys (key_of node c)) (sym u) ∙ sym put in
              let w : Made keys (key_of node c) (length t.entries) m = subst (λ (k : ℕ). Made keys (key_of node c) k m) u made in
              let z : count + 1 ≡ suc (length prefixes) = omega arith in
              subst (λ (k : List ℕ). Next k c (count + 1) m q ends prefixes pieces) a (record {
                trie = trie_new t q c node s small l m w;
                counted = z ∙ ap length (sym (none_has t q c node s small l made.none));
                leads = node_new keys t.entries t.holds q c node m s small l w t.live;
              });
        }

  pub grew_none : None ≡ inserted_in keys (key_of node c) count → Stuck keys node c count after
  grew_none e =
      let (f, g) = answered keys (key_of node c) count None e in
      record {
        same = put ∙ g;
        new = λ q ends prefixes pieces t n s l.
            let u : count ≡ length t.entries = n ∙ sym t.count in
            let x = room_none keys t.entries t.holds (key_of node c) (key_some node c) (ap (inserted_in keys (key_of node c)) (sym u) ∙ sym e) in
            (sym (t.known c q (small, s)) ∙ ap is_node (child_of keys c q l ∙ f), omega (arith, x.1, t.count));
      }

-- How far the loop of `spell` has come.
pub record Spelt (keys chars : List ℕ) (count : ℕ) (after : List ℕ) (k made node : ℕ) : Type 0 where
  pub long : length after ≡ length keys
  pub near : k ≤ length chars
  pub low : 0 < k → 0 < node
  pub high : node ≤ length keys
  pub path : (ends : List ℕ) (prefixes pieces : List (List ℕ)) → Trie keys ends prefixes pieces → count ≡ length prefixes → Path after chars k made node ends prefixes pieces

pub spelt_none : (keys chars : List ℕ) (count : ℕ) → Spelt keys chars count keys 0 count 0
spelt_none keys chars count = record { long = refl; near = omega arith; low = λ l. l; high = omega arith; path = λ ends prefixes pieces t n. record { trie = t; counted = n; leads = refl } }

module _ {keys chars : List ℕ} {count : ℕ} {after : List ℕ} {k made node : ℕ} (small : (i : ℕ) → i < length chars → get_or chars i 0 < 4294967295) (s : Spelt keys chars count after k made node) where
  pub spelt_all : length chars ≤ k → Reached keys chars count after node made
  spelt_all l =
      let e : k ≡ length chars = omega (arith, s.near) in
      record {
        long = s.long;
        low = λ y. s.low (omega arith);
        high = s.high;
        path = λ ends prefixes pieces t n. subst (λ (i : ℕ). Path after chars i made node ends prefixes pieces) e (s.path ends prefixes pieces t n);
      }

  module _ (l : k < length chars) where
    pub spelt_more : (after' : List ℕ) (node' made' : ℕ) → Grew after node (get_or chars k 0) made after' node' made' → Spelt keys chars count after' (k + 1) made' node'
    spelt_more after' node' made' g =
        record {
          long = g.long ∙ s.long;
          near = omega arith;
          low = λ _. g.low;
          high = omega (arith, g.high, s.long);
          path = λ ends prefixes pieces t n.
              let p = s.path ends prefixes pieces t n in
              let w = g.next (back chars k) ends (joined prefixes chars k) pieces p.trie p.counted (back_small chars k small s.near) p.leads in
              subst (λ (i : ℕ). Path after' chars i made' node' ends prefixes pieces) (sym (add-one k)) (record { trie = w.trie; counted = w.counted; leads = w.leads });
        }

    pub spelt_full : (after' : List ℕ) → Stuck after node (get_or chars k 0) made after' → (ends : List ℕ) (prefixes pieces : List (List ℕ)) → Trie keys ends prefixes pieces → count ≡ length prefixes → Full keys chars after' ends prefixes pieces
    spelt_full after' g ends prefixes pieces t n =
        let p = s.path ends prefixes pieces t n in
        let (a, b) = g.new (back chars k) ends (joined prefixes chars k) pieces p.trie p.counted (back_small chars k small s.near) p.leads in
        let y : length (joined prefixes chars (suc k)) ≡ suc (length (joined prefixes chars k)) = ap (λ b. length (cond b (joined prefixes chars k) (back chars (suc k) ∷ joined prefixes chars k))) a in
        let z = joined_longer prefixes chars (suc k) (length chars - suc k) in
        let e : length chars - suc k + suc k ≡ length chars = omega arith in
        let v : length (joined prefixes chars (length chars - suc k + suc k)) ≡ length (joined prefixes chars (length chars)) = ap (λ (i : ℕ). length (joined prefixes chars i)) e in
        record {
          upto = k;
          inside = l;
          trie = subst (λ (m : List ℕ). Trie m ends (joined prefixes chars k) pieces) (sym g.same) p.trie;
          over = omega (arith, s.long);
        }
