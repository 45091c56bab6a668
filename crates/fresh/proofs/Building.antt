-- The steps of a build: the room, the trie, the cache. Assumes nothing.
use Rattle.std.specs.Prelude.{Option, Some, None, Result, Ok, Err, ok_or}
use mathlib.Core.Path.{◌≡◌, refl, sym, ap, ◌∙◌, subst}
use mathlib.Core.Bool.{Bool, true, false}
use mathlib.Core.List.{List, ◌++◌}
use Prim.Native.Nat.{ℕ, ◌+◌, ◌*◌, ◌/◌, ◌≤◌, ◌<◌}
use native.Mathlib.Nat.{le_trans}
use native.Mathlib.Omega.{arith}
use lib.ListN.{length, take, drop, length-map}
use lib.Seq.{length-take-le, take_at}
use Rattle.laws.specs.Tests.{Says}
use Rattle.laws.proofs.Tests.{said_yes, said_no}
use Rattle.refusal.specs.declared.Refusal.{Refusal}
use Rattle.refusal.specs.declared.Refusal.TheVariants.{NoRoom}
use Rattle.spans.specs.Spans.{many, chars_at, first}
use Rattle.spans.specs.Check.{AllGood}
use Rattle.lattice.specs.Lattice.{Edge, lattice, cache}
use Rattle.lattice.specs.Layout.{flat}
use Rattle.lattice.proofs.Flat.{spans_long}
use Rattle.retain.proofs.Held.{same_many}
use Rattle.trie.specs.Prefixes.{prefixes_of}
use Rattle.trie.specs.Listed.{newest}
use Rattle.trie.specs.Index.{Index, Indexes}
use Rattle.trie.proofs.Indexing.{indexing_good}
use Rattle.trie.proofs.Same.{length_first}
use Rattle.trie.proofs.Theorems.{index_room}
use Rattle.rows.specs.Word.{Room as WalkRoom}
use Rattle.builder.specs.declared.Sizes.{Sizes}
use Rattle.builder.specs.Lay.{words_of, Listed, Wants, Fits, Building, Counts, Builds}
use Rattle.builder.proofs.Words.{many_edges}
use Rattle.fresh.specs.Slots.{Room, Cleared}
use Rattle.fresh.specs.Build.{Lent, Results, smaller, TrieRoom, afresh, CacheRoom, Ordered, Why, no_trie, no_cache, Unchanged, Answers}
use Rattle.fresh.specs.Steps.{Short, bytes_of, Ample, Laying, Enough, LaysTo, Lays, Front, Fronted, Follows}
use Rattle.fresh.proofs.Most.{edges_few, ends_few}
use Rattle.fresh.proofs.Filled.{written_room, written_holds}

-- ---- the smaller of two numbers
pub record Smaller (a b m : ℕ) : Type 0 where
  pub left : m ≤ a
  pub right : m ≤ b

pub smaller_is : (a b : ℕ) {m : ℕ} → m ≡ smaller a b → Smaller a b m
smaller_is a b e = record { left = omega arith; right = omega arith }

pub unchanged : (y : Results) → Unchanged y y
unchanged y = record { offsets_kept = refl; starts_kept = refl; ids_kept = refl; spans_kept = refl }

-- ---- the slots that a cache wants
module _ (setting : ℕ) (pieces : List (List ℕ)) (text words : List ℕ) where
  abbrev all : List (List (List Edge))
  all = cache setting pieces (words_of text words (many words))

  spans_many : 4 * many words ≡ length (flat all).spans
  spans_many = let a = spans_long 0 0 all in let b = length-map (words_of text words (many words)) (lattice setting pieces) in let c = length_first (chars_at text words) (many words) in omega arith

  module _ {so : Sizes} (w : Wants setting pieces (words_of text words (many words)) so) (y : Results) where
    room_fits : CacheRoom all y → Fits y.offsets y.starts y.ids y.spans (many words) so
    room_fits r =
        let a = w.edges_are in
        let b = w.ends_are in
        let c = same_many all in
        let d = spans_many in
        let o = r.in_offsets in
        let s = r.in_starts in
        let i = r.in_ids in
        let p = r.in_spans in
        record { in_offsets = omega arith; in_starts = omega arith; in_ids = omega arith; in_spans = omega arith }

    fits_room : Fits y.offsets y.starts y.ids y.spans (many words) so → CacheRoom all y
    fits_room f =
        let a = w.edges_are in
        let b = w.ends_are in
        let c = same_many all in
        let d = spans_many in
        let o = f.in_offsets in
        let s = f.in_starts in
        let i = f.in_ids in
        let p = f.in_spans in
        record { in_offsets = omega arith; in_starts = omega arith; in_ids = omega arith; in_spans = omega arith }

  -- as many edges and offsets as there can be
  pub ample_room : AllGood text words 255 (many words) → (y : Results) → Ample words setting y → CacheRoom all y
  ample_room good y f =
      let a = edges_few setting pieces text words (many words) good in
      let b = ends_few setting pieces text words (many words) good in
      let c = many_edges setting pieces text words (many words) in
      let e = same_many all in
      let d = spans_many in
      record {
        in_offsets = le_trans b f.in_offsets;
        in_starts = within (sym e ∙ c) a f.in_starts;
        in_ids = within c a f.in_ids;
        in_spans = let p = f.in_spans in omega arith;
      }
    where
      within : {a b c d : ℕ} → a ≡ b → b ≤ c → c ≤ d → a ≤ d
      within e h l = omega arith

-- ---- `ample`
pub ample_said : (words : List ℕ) (setting : ℕ) (y : Results) (r : Bool) {n b : ℕ} → n ≡ many words → b ≡ bytes_of words (many words) → Says r (Fits y.offsets y.starts y.ids y.spans n (record { edges = setting * b; ends = b + 2 * n })) → Says r (Ample words setting y)
ample_said words setting y r {n} {b} e d s =
    subst (λ (m : ℕ). Says r (Fits y.offsets y.starts y.ids y.spans m (record { edges = setting * bytes_of words (many words); ends = bytes_of words (many words) + 2 * m }))) e
    (subst (λ (m : ℕ). Says r (Fits y.offsets y.starts y.ids y.spans n (record { edges = setting * m; ends = m + 2 * n }))) d s)

-- ---- `enough`
pub listed_short : {text words : List ℕ} → Listed text words → Short words
listed_short l = record { few = l.few; short = λ k h. (l.good k h).short }

module _ (keys ends text words : List ℕ) (setting : ℕ) (y : Results) where
  pub enough_ample : Listed text words → Ample words setting y → Enough keys ends text words setting y true
  enough_ample l a f count t = ample_room setting (first f count) text words l.good y a

  pub enough_counted : {so : Sizes} {n : ℕ} → Counts keys ends text words setting so → n ≡ many words → (r : Bool) → Says r (Fits y.offsets y.starts y.ids y.spans n so) → Enough keys ends text words setting y r
  enough_counted {so} c e r s f count t = go r (subst (λ (m : ℕ). Says r (Fits y.offsets y.starts y.ids y.spans m so)) e s)
    where
      go : (r : Bool) → Says r (Fits y.offsets y.starts y.ids y.spans (many words) so) → Says r (CacheRoom (all setting (first f count) text words) y)
      go true q = fits_room setting (first f count) text words (c f count t) y q
      go false q = λ h. q (room_fits setting (first f count) text words (c f count t) y h)

-- ---- `lay`
module _ {keys ends text words : List ℕ} {setting : ℕ} (l : Laying keys ends text words setting) where
  pub walk_room : {chars grid : List ℕ} → 255 ≤ length chars → 8160 ≤ length grid → WalkRoom keys ends setting chars grid
  walk_room a b = record { few = l.few; level = l.level; narrow = l.narrow; room = a; wide = b }

  module _ (y : Results) (r : Bool) (enough : Enough keys ends text words setting y r) where
    pub lay_refused : {refusal : Refusal} → refusal ≡ NoRoom 3 → r ≡ false → Lays keys ends text words setting y y (Err refusal)
    lay_refused e n f count t = (e, said_no r n (enough f count t), unchanged y)

    module _ (yes : r ≡ true) where
      pub lay_building : Building keys ends text words setting y.offsets y.starts y.ids y.spans
      lay_building =
          let pieces = first l.f l.count in
          let so : Sizes = record { edges = length (flat (all setting pieces text words)).ids; ends = length (flat (all setting pieces text words)).ends } in
          let w : Wants setting pieces (words_of text words (many words)) so = record { edges_are = refl; ends_are = refl } in
          let room = said_yes r yes (enough l.f l.count l.holds) in
          record { listed = l.listed; f = l.f; count = l.count; holds = l.holds; so = so; wants = w; fits = room_fits setting pieces text words w y room }

      module _ {o s i p : List ℕ} {end : Sizes} (builds : Builds keys ends text words setting y.offsets y.starts y.ids y.spans o s i p end) where
        pub lay_room : Room o s i p end.ends end.edges (many words)
        lay_room =
            let b = builds l.f l.count l.holds in
            written_room (all setting (first l.f l.count) text words) y.offsets y.starts y.ids y.spans (many words) b.0 b.1.ends_are (spans_many setting (first l.f l.count) text words)

        pub lay_laid : (y' : Results) → length o ≡ length y.offsets → length s ≡ length y.starts → length i ≡ length y.ids → length p ≡ length y.spans
            → Cleared o s i p end.ends end.edges (many words) y'.offsets y'.starts y'.ids y'.spans → Lays keys ends text words setting y y' (Ok end.edges)
        lay_laid y' lo ls li lp clear f count t =
            let b = builds f count t in
            (said_yes r yes (enough f count t), written_holds (all setting (first f count) text words) y.offsets y.starts y.ids y.spans (many words) b.0 b.1.ends_are (spans_many setting (first f count) text words) lo ls li lp clear)

-- ---- the trie, in the first places of both slices
front_taken : (places : ℕ) (l front : List ℕ) → places ≤ length l → length front ≡ length (take places l) → take places (front ++ drop places l) ≡ front
front_taken places l front h e = take_at front (drop places l) places (e ∙ length-take-le places l h)

pub fronted : {keys ends spellings pieces : List ℕ} {places : ℕ} → Front keys ends places spellings pieces → (keys' ends' : List ℕ) (r : Option ℕ)
    → length keys' ≡ length (take places keys) → length ends' ≡ length (take places ends) → Indexes spellings pieces (take places keys) keys' ends' r
    → Fronted keys places spellings pieces (keys' ++ drop places keys) (ends' ++ drop places ends) r
fronted {keys} {ends} {spellings} {pieces} {places} f keys' ends' r a b i =
    subst (λ (k : List ℕ). Indexes spellings pieces (take places keys) k (take places (ends' ++ drop places ends)) r) (sym (front_taken places keys keys' f.in_keys a))
    (subst (λ (e : List ℕ). Indexes spellings pieces (take places keys) keys' e r) (sym (front_taken places ends ends' f.in_ends b)) i)

-- ---- `index_and_lay`
-- what the trie answered, by what became of it
pub placed : (o : Option ℕ) (n : ℕ) → ◌≡◌ {A = Result ℕ Refusal} (Ok n) (ok_or o (NoRoom 2)) → o ≡ Some n
placed (Some m) n e = cc
placed None n e = let z : ◌≡◌ {A = ℕ} 0 1 = cc in absurd (omega arith)

pub unplaced : (o : Option ℕ) (refusal : Refusal) → ◌≡◌ {A = Result ℕ Refusal} (Err refusal) (ok_or o (NoRoom 2)) → (o ≡ None) × (refusal ≡ NoRoom 2)
unplaced (Some m) refusal e = let z : ◌≡◌ {A = ℕ} 0 1 = cc in absurd (omega arith)
unplaced None refusal e = (refl, cc)

module _ (x : Lent) (y : Results) (keys ends : List ℕ) {places : ℕ} (e : places ≡ smaller (smaller (length keys) (length ends)) 4294967295) where
  in_both : (places ≤ length keys) × (places ≤ length ends) × (places ≤ 4294967295)
  in_both =
      let a = smaller_is (smaller (length keys) (length ends)) 4294967295 e in
      let b = smaller_is (length keys) (length ends) refl in
      let p = a.left in
      let q = a.right in
      let r = b.left in
      let s = b.right in
      (omega arith, omega arith, q)

  long_keys : length (take places keys) ≡ places
  long_keys = length-take-le places keys in_both.0

  long_ends : length (take places ends) ≡ places
  long_ends = length-take-le places ends in_both.1

  module _ {table : List ℕ} (o : Ordered x (record { keys = keys; ends = ends; table = table })) where
    pub front : Front keys ends places x.spellings x.pieces
    front =
        let b = in_both in
        let k = long_keys in
        let n = long_ends in
        let f = o.bounded.few_pieces in
        record { in_keys = b.0; in_ends = b.1; indexing = indexing_good 1048576 (omega arith) (n ∙ sym k) (omega arith) o.pieces_good }

  module _ (keys' ends' : List ℕ) (a : length keys' ≡ length keys) (b : length ends' ≡ length ends) where
    pub places_in : (places ≤ length keys') × (places ≤ length ends')
    places_in = let i = in_both in (omega arith, omega arith)

    pub places_long : (places ≡ length (take places keys')) × (places ≡ length (take places ends'))
    places_long = (sym (length-take-le places keys' places_in.0), sym (length-take-le places ends' places_in.1))

    pub laying : {table : List ℕ} {n : ℕ} → Ordered x (record { keys = keys; ends = ends; table = table }) → Index x.spellings x.pieces (take places keys) (take places keys') (take places ends') n
        → Laying (take places keys') (take places ends') x.text x.words x.setting
    laying o i =
        let p = places_long in
        let q = in_both in
        record { few = omega arith; level = sym p.1 ∙ p.0; narrow = o.short; listed = record { good = o.words_good; few = o.bounded.few_words }; f = chars_at x.spellings x.pieces; count = many x.pieces; holds = i.trie }

    room_of : {n : ℕ} → Index x.spellings x.pieces (take places keys) (take places keys') (take places ends') n → (table : List ℕ) → TrieRoom x (record { keys = keys; ends = ends; table = table })
    room_of i table = subst (λ (m : ℕ). length (prefixes_of (newest x.spellings x.pieces)) + 1 ≤ m / 2) (long_keys ∙ e) (index_room i)

    pub follows : {n : ℕ} (y' : Results) (r : Result ℕ Refusal) → Index x.spellings x.pieces (take places keys) (take places keys') (take places ends') n
        → Lays (take places keys') (take places ends') x.text x.words x.setting y y' r → Follows x y keys ends y' r
    follows y' r i lays table o = go r (lays (chars_at x.spellings x.pieces) (many x.pieces) i.trie)
      where
        go : (r : Result ℕ Refusal) → LaysTo (afresh x) y y' r → Answers x y (record { keys = keys; ends = ends; table = table }) y' r
        go (Ok count) (room, fresh) = record { in_order = o; trie_room = room_of i table; cache_room = room; fresh = fresh }
        go (Err refusal) (p, n, kept) = (subst (Why x y (record { keys = keys; ends = ends; table = table })) (sym p) (no_cache o (room_of i table) n), kept)

  pub no_places : {refusal : Refusal} (keys' ends' : List ℕ) {r : Option ℕ} → refusal ≡ NoRoom 2 → r ≡ None → Fronted keys places x.spellings x.pieces keys' ends' r
      → Follows x y keys ends y (Err refusal)
  no_places keys' ends' p q i table o =
      let h = subst (Fronted keys places x.spellings x.pieces keys' ends') q i in
      let k = long_keys ∙ e in
      (subst (Why x y (record { keys = keys; ends = ends; table = table })) (sym p) (no_trie o (λ t. over (length (prefixes_of (newest x.spellings x.pieces))) h k t)), unchanged y)
    where
      over : {a c : ℕ} (b : ℕ) → a / 2 < b + 1 → a ≡ c → b + 1 ≤ c / 2 → ⊥
      over b h k t = let z = ap (λ (n : ℕ). n / 2) k in omega arith
