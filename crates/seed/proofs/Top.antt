-- The phases put together. Assumes nothing.
use mathlib.Core.Path.{◌≡◌, refl, sym, ap, ap₂, ◌∙◌, subst}
use mathlib.Core.List.{List, [], ◌∷◌, ◌++◌, map, append_assoc}
use mathlib.Core.Logic.{◌⊎◌, inl, inr, ⊎_elim}
use Prim.Native.Nat.{ℕ, zero, suc, ◌+◌, ◌-◌, ◌*◌, ◌≤◌, ◌<◌, ◌^◌, min, max}
use native.Mathlib.Omega.{arith}
use native.Mathlib.Nat.{mul-le-mul_left}
use lib.ListN.{length, take, drop, length-append, length-map, length-take}
use lib.Seq.{length-take-le, take-append-add, take_at, drop_at}
use lib.Ieee.{Float}
use Rattle.spans.specs.Spans.{many, listed}
use Rattle.spans.specs.Check.{AllGood}
use Rattle.positions.specs.Positions.{left, text_at}
use Rattle.positions.specs.Gathered as gathered
use Rattle.positions.proofs.Theorems as positions
use Rattle.order.specs.Sort.{In}
use Rattle.ranking.specs.Corpus.{Corpus}
use Rattle.ranking.specs.Seed.{Uncut, Seeded}
use Rattle.ranking.specs.Seed as seed
use Rattle.ranking.specs.Positions.{Positioned}
use Rattle.ranking.specs.Counting.{Entry, listed_in_order, commons, entry_at, ranks, ranked, spelt, texts, tallies, found_characters, found_strings, seed_entries}
use Rattle.ranking.specs.Slots.{packed, Put}
use Rattle.ranking.proofs.Lists.{of_map, map_join}
use Rattle.ranking.proofs.Bounds.{total, total_weight, few_places}
use Rattle.ranking.proofs.Ranks.{length_in_order, ranked_length}
use Rattle.ranking.proofs.Slots.{length_packed, put_fits, packed_size, tallied}
use Rattle.ranking.proofs.Theorems.{found_seeded, found_tallies, found_uncut}
use Rattle.ranks.specs.Ranks.{entries_of}
use Rattle.ranks.proofs.Moves.{ranks_inside}
use Rattle.ranks.proofs.Theorems.{entries_packed}
use Rattle.candidates.specs.Columns.{frequency_of, Ordered}
use Rattle.listed.specs.Spelled.{Spelling, Spelled}
use Rattle.listed.proofs.Ends.{known}
use Rattle.listed.proofs.Theorems.{Within, spelling_asked, spelled_good, spelled_listed}
use Rattle.seeding.specs.Phases as phases
use Rattle.seed.specs.Seed.{corpus_of, slots_of, Asked, Lists, Exceeds}
use Rattle.seed.specs.Steps as steps
use Rattle.seed.proofs.Slices.{cut_long, packed_join}
use Rattle.seed.proofs.Corpora.{corpus_positioned, Entered, found_entered}

-- ---- items of lists
in_join : {A : Type 0} (e : A) (xs ys : List A) → In e (xs ++ ys) → In e xs ⊎ In e ys
in_join e [] ys i = inr i
in_join e (x ∷ xs) ys (inl d) = inl (inl d)
in_join e (x ∷ xs) ys (inr i) = ⊎_elim (λ j. inl (inr j)) (λ j. inr j) (in_join e xs ys i)

in_take : {A : Type 0} (e : A) (k : ℕ) (xs : List A) → In e (take k xs) → In e xs
in_take e zero xs i = absurd i
in_take e (suc k) [] i = absurd i
in_take e (suc k) (x ∷ xs) (inl d) = inl d
in_take e (suc k) (x ∷ xs) (inr i) = inr (in_take e k xs i)

entry_in : (es : List Entry) (i : ℕ) → i < length es → In (entry_at es i) es
entry_in [] i h = absurd (omega arith)
entry_in (e ∷ es) zero h = inl refl
entry_in (e ∷ es) (suc i) h = inr (entry_in es i (omega arith))

to_left : {A : Type 0} (e : A) (xs ys : List A) → In e xs → In e (xs ++ ys)
to_left e [] ys i = absurd i
to_left e (x ∷ xs) ys (inl d) = inl d
to_left e (x ∷ xs) ys (inr i) = inr (to_left e xs ys i)

to_right : {A : Type 0} (e : A) (xs ys : List A) → In e ys → In e (xs ++ ys)
to_right e [] ys i = i
to_right e (x ∷ xs) ys i = inr (to_right e xs ys i)

of_ranked : (e : Entry) (es : List Entry) → In e (ranked es) → In e es
of_ranked e es i =
    let h = of_map (entry_at es) e (ranks es) i in
    subst (λ (x : Entry). In x es) (sym h.1.1) (entry_in es h.0 (ranks_inside es h.0 h.1.0))

take_least : {A : Type 0} (k : ℕ) (xs : List A) → take (min (length xs) k) xs ≡ take k xs
take_least {A} zero xs = let d : min (length xs) 0 ≡ 0 = omega arith in ap (λ (n : ℕ). take n xs) d
take_least {A} (suc k) [] = let d : min 0 (suc k) ≡ 0 = omega arith in ap (λ (n : ℕ). take {A = A} n []) d
take_least {A} (suc k) (x ∷ xs) =
    let d : min (suc (length xs)) (suc k) ≡ suc (min (length xs) k) = omega arith in
    ap (λ (n : ℕ). take n (x ∷ xs)) d ∙ ap (λ (l : List A). x ∷ l) (take_least k xs)

bytes_few : (text words : List ℕ) (k : ℕ) → AllGood text words 255 k → gathered.bytes_before words k ≤ 255 * k
bytes_few text words zero g = omega arith
bytes_few text words (suc k) g = let a = (g k (omega arith)).short in omega (arith, bytes_few text words k (λ j h. g j (omega arith)))

left_le : (r size pool : ℕ) → r ≤ size → steps.left r size pool ≤ size
left_le r size pool h = omega arith

-- ---- the entries in both parts of the slots
module _ (es fs : List Entry) (r : ℕ) (e : r ≡ length es) where
  front_is : entries_of (take (2 * r) (packed (es ++ fs))) (take r (tallies (es ++ fs))) ≡ es
  front_is =
      ap₂ entries_of
      (ap (take (2 * r)) (packed_join es fs) ∙ take_at (packed es) (packed fs) (2 * r) (omega (arith, length_packed es)))
      (ap (take r) (map_join (λ (x : Entry). x.1.1) es fs)
      ∙ take_at (tallies es) (tallies fs) r (length-map es (λ (x : Entry). x.1.1) ∙ sym e))
      ∙ entries_packed es

  back_is : entries_of (drop (2 * r) (packed (es ++ fs))) (drop r (tallies (es ++ fs))) ≡ fs
  back_is =
      ap₂ entries_of
      (ap (drop (2 * r)) (packed_join es fs) ∙ drop_at (packed es) (packed fs) (2 * r) (omega (arith, length_packed es)))
      (ap (drop r) (map_join (λ (x : Entry). x.1.1) es fs)
      ∙ drop_at (tallies es) (tallies fs) r (length-map es (λ (x : Entry). x.1.1) ∙ sym e))
      ∙ entries_packed fs

  -- what the cut leaves
  cut_is : (size pool : ℕ) → size ≡ length (es ++ fs)
      → take (steps.left r size pool) (ranked es ++ ranked fs) ≡ ranked es ++ take (pool - length es) (ranked fs)
  cut_is size pool s =
      let m : steps.left r size pool ≡ length (ranked es) + min (length (ranked fs)) (pool - length es) =
      omega (arith, length-append es fs, ranked_length es, ranked_length fs) in
      ap (λ (k : ℕ). take k (ranked es ++ ranked fs)) m
      ∙ take-append-add (ranked es) (ranked fs) (min (length (ranked fs)) (pool - length es))
      ∙ ap (λ (l : List Entry). ranked es ++ l) (take_least (pool - length es) (ranked fs))

module _ {text words frequencies : List ℕ} {setting : ℕ} {chars places order work keys : List ℕ}
    (a : Asked text words frequencies setting chars places order work keys) where
  pub gathering : (reach : ℕ) → reach ≡ max 1 setting → phases.Gathering text words reach chars places order work
  gathering reach e = record {
    words_good = subst (λ (r : ℕ). gathered.Gathering text words r chars places) (sym e) a.words_good;
    order_room = a.order_room;
    work_room = a.work_room;
  }

  abbrev corpus : Corpus
  corpus = corpus_of text words frequencies

  module _ {reach : ℕ} (e : reach ≡ max 1 setting) {chars' places' order' : List ℕ} {n : ℕ}
      (o : phases.InOrder text words reach chars' places' order' n) (lo : length order' ≡ length order) where
    abbrev txt : ℕ → List ℕ
    txt = text_at chars' places'

    abbrev frequency : ℕ → ℕ
    frequency = frequency_of places' frequencies

    g : gathered.Gathered text words (max 1 setting) (many words) chars' places' n
    g = subst (λ (r : ℕ). gathered.Gathered text words r (many words) chars' places' n) e o.positions

    z : Positioned (corpus_of text words frequencies) (max 1 setting) (text_at chars' places') (frequency_of places' frequencies) n
    z = corpus_positioned text words frequencies g

    few : n ≤ 4177920
    few = omega (arith, o.fits, bytes_few text words (many words) a.words_good.good, a.words_good.few)

    pub order_cut : n ≡ length (take n order')
    order_cut = cut_long n order' (omega (arith, o.fits, a.order_room))

    abbrev fc : List Entry
    fc = found_characters (text_at chars' places') (frequency_of places' frequencies) n

    module _ (pieces counts : List ℕ) (scores : List Float) {room : ℕ} (s : room ≡ slots_of pieces counts scores order work keys) where
      pub pieces_slots : 2 * room ≤ length pieces
      pieces_slots = omega (arith, s)

      pub counts_slots : room ≤ length counts
      counts_slots = omega (arith, s)

      pub finding_all : {work' : List ℕ} → length work' ≡ length work
          → phases.FindingAll chars' places' frequencies (take n order') work' keys (take (2 * room) pieces) (take room counts) setting
      finding_all {work'} lw = record {
        ordered = subst (Ordered chars' places' frequencies (take n order')) order_cut
            (record { laid = positions.laid g; known = λ p h. omega (arith, known g p h, a.frequent); order_is = o.order_is });
        common_room = omega (arith, order_cut, o.fits, a.work_room);
        weights_room = omega (arith, order_cut, o.fits, a.keys_room);
        light = subst (λ (l : List ℕ). total (map (frequency_of places' frequencies) l) ≤ 2 ^ 48) (sym o.order_is)
            (subst (λ (w : ℕ). w ≤ 2 ^ 48) (sym (total_weight z)) a.light);
        short = a.short;
        slots = omega (arith, cut_long (2 * room) pieces pieces_slots, cut_long room counts counts_slots);
        few = omega (arith, order_cut, few);
      }

      module _ {least : ℕ} {p c : List ℕ} {required size : ℕ}
          (f : phases.FoundAll chars' places' frequencies (length (take n order')) setting least (take (2 * room) pieces) (take room counts) p c required size) where
        abbrev fs : List Entry
        fs = found_strings (text_at chars' places') (frequency_of places' frequencies) n setting least

        required_is : required ≡ length fc
        required_is = f.required_is ∙ ap (λ (k : ℕ). length (found_characters (text_at chars' places') (frequency_of places' frequencies) k)) (sym order_cut)

        put : Put (take (2 * room) pieces) (take room counts) 0 (fc ++ fs) p c size
        put =
            subst
            (λ (k : ℕ). Put (take (2 * room) pieces) (take room counts) 0
            (found_characters (text_at chars' places') (frequency_of places' frequencies) k
            ++ found_strings (text_at chars' places') (frequency_of places' frequencies) k setting least) p c size)
            (sym order_cut) f.put

        size_is : size ≡ length fc + length fs
        size_is = omega (arith, put.next_is, length-append fc fs)

        uncut : Uncut (corpus_of text words frequencies) setting least size
        uncut = subst (Uncut (corpus_of text words frequencies) setting least) (sym size_is) (found_uncut setting least z)

        pub exceeds : room < size → Exceeds (corpus_of text words frequencies) setting least (slots_of pieces counts scores order work keys)
        exceeds h = record { size = size; uncut = uncut; over = omega (arith, s) }

        strings_few : length fs ≤ 32 * n
        strings_few =
            let ord = listed_in_order (text_at chars' places') n in
            omega (
              arith,
              few_places (commons (text_at chars' places') [] ord) (map (frequency_of places' frequencies) ord) (text_at chars' places') ord 2 setting least (length ord),
              length_in_order (text_at chars' places') n,
              mul-le-mul_left n a.short,
              ap (λ (k : ℕ). k * setting) (length_in_order (text_at chars' places') n),
            )

        characters_few : length fc ≤ n
        characters_few =
            let ord = listed_in_order (text_at chars' places') n in
            omega (
              arith,
              few_places (commons (text_at chars' places') [] ord) (map (frequency_of places' frequencies) ord) (text_at chars' places') ord 1 1 0 (length ord),
              length_in_order (text_at chars' places') n,
            )

        module _ (h : size ≤ room) where
          fits : (p ≡ take 0 (take (2 * room) pieces) ++ packed (fc ++ fs) ++ drop (2 * size) (take (2 * room) pieces))
              × (c ≡ take 0 (take room counts) ++ tallies (fc ++ fs) ++ drop size (take room counts))
          fits =
              put_fits put (omega (arith, cut_long (2 * room) pieces pieces_slots)) (omega (arith, cut_long room counts counts_slots))

          all_long : length (fc ++ fs) ≡ size
          all_long = length-append fc fs ∙ sym size_is

          packed_long : length (packed (fc ++ fs)) ≡ 2 * size
          packed_long = omega (arith, length_packed (fc ++ fs), all_long)

          tallies_long : length (tallies (fc ++ fs)) ≡ size
          tallies_long = length-map (fc ++ fs) (λ (x : Entry). x.1.1) ∙ all_long

          pieces_front : take (2 * size) (p ++ drop (2 * room) pieces) ≡ packed (fc ++ fs)
          pieces_front =
              ap (λ (x : List ℕ). take (2 * size) (x ++ drop (2 * room) pieces)) fits.0
              ∙ ap (take (2 * size)) (append_assoc (packed (fc ++ fs)) (drop (2 * size) (take (2 * room) pieces)) (drop (2 * room) pieces))
              ∙ take_at (packed (fc ++ fs)) (drop (2 * size) (take (2 * room) pieces) ++ drop (2 * room) pieces) (2 * size) packed_long

          counts_front : take size (c ++ drop room counts) ≡ tallies (fc ++ fs)
          counts_front =
              ap (λ (x : List ℕ). take size (x ++ drop room counts)) fits.1
              ∙ ap (take size) (append_assoc (tallies (fc ++ fs)) (drop size (take room counts)) (drop room counts))
              ∙ take_at (tallies (fc ++ fs)) (drop size (take room counts) ++ drop room counts) size tallies_long

          -- what each entry is
          abbrev Fine : Entry → Type 0
          Fine x = Entered (text_at chars' places') n 32 (2 ^ 48) x

          fine : (x : Entry) → In x (fc ++ fs) → Fine x
          fine x i =
              ⊎_elim
              (λ j. let t = found_entered z 1 1 0 (omega arith) x j in
              record { position = t.position; short = omega (arith, t.short); inside = t.inside; small = omega (arith, t.small, a.light) })
              (λ j. let t = found_entered z 2 setting least (omega arith) x j in
              record { position = t.position; short = omega (arith, t.short, a.short); inside = t.inside; small = omega (arith, t.small, a.light) })
              (in_join x fc fs i)

          fine_at : (i : ℕ) → i < size → Fine (entry_at (fc ++ fs) i)
          fine_at i l = fine (entry_at (fc ++ fs) i) (entry_in (fc ++ fs) i (omega (arith, all_long)))

          part : {order'' work'' keys'' : List ℕ} → length order'' ≡ length order → length work'' ≡ length work → length keys'' ≡ length keys
              → phases.Part (packed (fc ++ fs)) (tallies (fc ++ fs)) order'' work'' keys''
          part lo'' lw lk = record {
            paired = omega (arith, packed_long, tallies_long);
            few = omega (arith, tallies_long, size_is, strings_few, characters_few, few);
            counts_small = λ i l.
                subst (λ (v : ℕ). v ≤ 281474976710656) (sym (tallied (fc ++ fs) i (omega (arith, tallies_long, all_long))))
                (fine_at i (omega (arith, tallies_long))).small;
            short = λ i l.
                subst (λ (v : ℕ). v ≤ 32) (sym (packed_size (fc ++ fs) i (omega (arith, tallies_long, all_long))))
                (fine_at i (omega (arith, tallies_long))).short;
            order_room = omega (arith, tallies_long, s);
            work_room = omega (arith, tallies_long, s);
            keys_room = omega (arith, tallies_long, s);
          }

          ordered_is : steps.ordered (p ++ drop (2 * room) pieces) (c ++ drop room counts) required size ≡ ranked fc ++ ranked fs
          ordered_is =
              ap₂
              (λ (x y : List ℕ). ranked (entries_of (take (2 * required) x) (take required y)) ++ ranked (entries_of (drop (2 * required) x) (drop required y)))
              pieces_front counts_front
              ∙ ap₂ (λ (x y : List Entry). ranked x ++ ranked y) (front_is fc fs required required_is) (back_is fc fs required required_is)

          module _ (pool : ℕ) where
            abbrev S : List Entry
            S = seed_entries (text_at chars' places') (frequency_of places' frequencies) n setting least pool

            left_is : take (steps.left required size pool) (steps.ordered (p ++ drop (2 * room) pieces) (c ++ drop room counts) required size)
                ≡ seed_entries (text_at chars' places') (frequency_of places' frequencies) n setting least pool
            left_is =
                ap (take (steps.left required size pool)) ordered_is ∙ cut_is fc fs required required_is size pool (sym all_long)

            seed_in : (x : Entry) → In x (seed_entries (text_at chars' places') (frequency_of places' frequencies) n setting least pool) → Fine x
            seed_in x i =
                ⊎_elim (λ j. fine x (to_left x fc fs (of_ranked x fc j)))
                (λ j. fine x (to_right x fc fs (of_ranked x fs (in_take x (pool - length fc) (ranked fs) j))))
                (in_join x (ranked fc) (take (pool - length fc) (ranked fs)) i)

            within : (i : ℕ) → i < length S → Within places' n (entry_at S i)
            within i l =
                let t = seed_in (entry_at S i) (entry_in S i l) in
                record {
                  position = t.position;
                  length = omega (arith, t.inside, length-take (left places' (entry_at S i).0) (drop (entry_at S i).0 chars'));
                }

            pub listing : {order'' work'' keys'' : List ℕ} → length order'' ≡ length order → length work'' ≡ length work → length keys'' ≡ length keys
                → steps.Listing words places' n required size pool order'' work'' keys'' (p ++ drop (2 * room) pieces) (c ++ drop room counts) scores
            listing {order''} {work''} {keys''} lo'' lw lk = record {
              both = subst (λ (x : List ℕ). phases.Both x (take size (c ++ drop room counts)) order'' work'' keys'' required) (sym pieces_front)
                  (subst (λ (y : List ℕ). phases.Both (packed (fc ++ fs)) y order'' work'' keys'' required) (sym counts_front)
                  (record { part = part lo'' lw lk; within = omega (arith, tallies_long, required_is, size_is) }));
              spelling = subst (λ (x : List Entry). Spelling words places' n (packed x)) (sym left_is)
                  (spelling_asked g a.words_good.good a.words_good.small a.words_good.far (omega (arith, few)) S within refl);
              pieces_room = omega (arith, ap length pieces_front, packed_long, length-take (2 * size) (p ++ drop (2 * room) pieces));
              counts_room = omega (arith, ap length counts_front, tallies_long, length-take size (c ++ drop room counts));
              scores_room = omega (arith, s);
            }

            pub lists : {pieces' counts' : List ℕ} {scores' : List Float} {m : ℕ} → length pieces' ≡ length pieces
                → steps.ListedNow words places' n required size pool (p ++ drop (2 * room) pieces) (c ++ drop room counts) pieces' counts' scores' m
                → Lists text (corpus_of text words frequencies) setting least pool (slots_of pieces counts scores order work keys) pieces' counts' scores' required m
            lists {pieces'} {counts'} {scores'} {m} lp l =
                let same : take m (steps.ordered (p ++ drop (2 * room) pieces) (c ++ drop room counts) required size) ≡ S =
                ap (λ (k : ℕ). take k (steps.ordered (p ++ drop (2 * room) pieces) (c ++ drop room counts) required size)) l.many_is ∙ left_is in
                let small : m ≤ size = rw l.many_is (left_le required size pool (omega (arith, required_is, size_is))) in
                let long : m ≡ length S =
                sym (length-take-le m (ranked fc ++ ranked fs)
                (omega (arith, small, size_is, length-append (ranked fc) (ranked fs), ranked_length fc, ranked_length fs)))
                ∙ ap length (ap (λ (k : ℕ). take k (ranked fc ++ ranked fs)) l.many_is ∙ cut_is fc fs required required_is size pool (sym all_long)) in
                let spelled : Spelled words places' n (packed S) (take (2 * m) pieces') =
                subst (λ (x : List Entry). Spelled words places' n (packed x) (take (2 * m) pieces')) same l.spelled in
                let texts_are : listed text (take (2 * m) pieces') ≡ texts (text_at chars' places') S =
                spelled_listed g a.words_good.good a.words_good.small a.words_good.far (omega (arith, few)) S within refl spelled
                (omega (arith, cut_long (2 * m) pieces' (omega (arith, lp, small, h, pieces_slots)), length_packed S, long)) in
                record {
                  seeded = subst (λ (k : ℕ). Seeded (corpus_of text words frequencies) setting least pool (listed text (take (2 * m) pieces')) k) (sym required_is)
                      (subst (λ (x : List (List ℕ)). Seeded (corpus_of text words frequencies) setting least pool x (length fc)) (sym texts_are) (found_seeded setting least z pool));
                  many_is = long ∙ sym (ap length texts_are ∙ length-map S (spelt (text_at chars' places')));
                  good = λ i i<m.
                      spelled_good g a.words_good.good a.words_good.small a.words_good.far (omega (arith, few)) S within refl spelled i (omega (arith, long));
                  counts_are = l.counts_are ∙ ap tallies same ∙ sym (found_tallies setting least z pool) ∙ ap (λ (x : List (List ℕ)). seed.counts (corpus_of text words frequencies) x) (sym texts_are);
                  scores_are = l.scores_are;
                  size = size;
                  uncut = uncut;
                  fits = omega (arith, s);
                }
