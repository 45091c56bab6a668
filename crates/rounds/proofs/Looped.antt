-- The loop of rounds: at its head EM has been run, and what is left to do leads to the rounds' outcome. Assumes nothing.
use mathlib.Core.Path.{◌≡◌, refl, sym, ap, ◌∙◌, subst}
use mathlib.Core.Bool.{false}
use mathlib.Core.List.{List}
use Prim.Native.Nat.{ℕ, ◌/◌, ◌≤◌, ◌<◌}
use native.Mathlib.Nat.{le_refl}
use native.Mathlib.Omega.{arith}
use lib.ListN.{length}
use lib.Ieee.{Float}
use Rattle.keep.specs.Keep.{keep_of}
use Rattle.fresh.specs.Build.{smaller}
use Rattle.model.specs.Model.{Model, Task, improved, pruned_to, keep_next, stops, rounds}
use Rattle.model.specs.Nodes.{nodes}
use Rattle.model.specs.Loop.{Sound, Going, next}
use Rattle.model.proofs.Kept.{stops_true, stops_false, improved_pieces}
use Rattle.model.proofs.Loop.{next_fewer, next_nodes, begun, again, finished}
use Rattle.model.proofs.Theorems.{rounds_fewer}
use Rattle.shrink.specs.declared.Shrunk.{Shrunk}
use Rattle.shrink.specs.At.{Slices, At, Fixed, Room}
use Rattle.shrink.specs.declared.Work.{Work}
use Rattle.shrink.specs.Lent.{with_scores, SameWork}
use Rattle.shrink.proofs.Lent.{same_work, same_work_on}
use Rattle.shrink.specs.Steps.{Shrinking}
use Rattle.turn.specs.Steps.{Improving, Improves, Turns}
use Rattle.rounds.specs.Steps.{Settled, Pruning, Prunes, Rounding, Rounds}
use Rattle.turn.proofs.Improved.{at_count, improving, improved_at, improved_last}

abbrev RoomIn : Model → ℕ → Work → Type 0
RoomIn m count l = Room m.pieces count (length l.expected.now) (length l.bits.now) (length l.ranked.now) (length l.remap.now) (length l.keys.now) (length l.ends.now)

-- the same slots have the same room
places_by : {l l' : Work} → SameWork l l' → smaller (smaller (length l'.keys.now) (length l'.ends.now)) 4294967295 / 2 ≡ smaller (smaller (length l.keys.now) (length l.ends.now)) 4294967295 / 2
places_by {l} {l'} same =
    ap (λ (n : ℕ). smaller (smaller n (length l'.ends.now)) 4294967295 / 2) same.keys_long
    ∙ ap (λ (n : ℕ). smaller (smaller (length l.keys.now) n) 4294967295 / 2) same.ends_long

room_by : {l l' : Work} (m : Model) (count : ℕ) → SameWork l l' → RoomIn m count l → RoomIn m count l'
room_by m count same room =
    record {
      in_used = let a = room.in_used in let b = same.expected_long in omega arith;
      in_bits = let a = room.in_bits in let b = same.bits_long in omega arith;
      in_ranked = let a = room.in_ranked in let b = same.ranked_long in omega arith;
      in_remap = let a = room.in_remap in let b = same.remap_long in omega arith;
      few = room.few;
      trie_room = let a = room.trie_room in let b = places_by same in omega arith;
    }

module _ (setting : ℕ) (text : List ℕ) (words : ℕ) (frequencies : List ℕ) (iterations : ℕ) (factor : Float) (target required count edges : ℕ) (s : Slices) (l : Work) where
  -- a model that the rounds reach from m, which the slices hold
  pub record Reached (t : Task) (begin : Model) (room : ℕ) (s' : Slices) (so : Shrunk) : Type 0 where
    pub m : Model
    pub going : Going t begin m
    pub at : At t text m s' so.pieces so.edges
    pub fewer : so.pieces ≤ count
    pub narrower : nodes m.pieces ≤ room

  -- whatever the task and the model are
  pub record Head (s' : Slices) (so : Shrunk) (keep : ℕ) (l' : Work) : Type 0 where
    pub same : SameWork l l'
    pub keep_is : keep ≡ keep_of so.pieces factor target
    pub reached : (t : Task) (begin m : Model) → Fixed t setting words frequencies → Settled t iterations factor target required → Going t begin m → At t text m s count edges
        → Reached t begin (nodes m.pieces) s' so

  pub head_first : (keep : ℕ) → keep ≡ keep_of count factor target → Head s (record { pieces = count; edges = edges }) keep l
  head_first keep e =
      record {
        same = same_work l;
        keep_is = e;
        reached = λ t begin m fixed settled going at. record { m = m; going = going; at = at; fewer = le_refl count; narrower = le_refl (nodes m.pieces) };
      }

  keep_of_lem : (t : Task) → Settled t iterations factor target required → (n : ℕ) → keep_of n factor target ≡ keep_next t n
  keep_of_lem t settled n = ap (λ (f : Float). keep_of n f target) (sym settled.factor_is) ∙ ap (keep_of n t.factor) (sym settled.target_is)

  module _ (w : Pruning setting text words frequencies iterations factor target required count edges s (length l.expected.now) (length l.bits.now) (length l.ranked.now) (length l.remap.now) (length l.keys.now) (length l.ends.now))
      (s' : Slices) (so : Shrunk) (keep : ℕ) (l' : Work) (head : Head s' so keep l') where
    reached_own : Reached w.t w.begin (nodes w.m.pieces) s' so
    reached_own = head.reached w.t w.begin w.m w.fixed w.settled w.going w.at

    room_now : RoomIn reached_own.m so.pieces l'
    room_now =
        let a = reached_own.fewer in
        let b = reached_own.narrower in
        let r = room_by w.m count head.same w.room in
        record {
          in_used = let c = r.in_used in omega arith;
          in_bits = let c = r.in_bits in omega arith;
          in_ranked = let c = r.in_ranked in omega arith;
          in_remap = let c = r.in_remap in omega arith;
          few = let c = r.few in omega arith;
          trie_room = let c = r.trie_room in omega arith;
        }

    pub shrinking : Shrinking setting text words frequencies required so.pieces so.edges s' (length l'.expected.now) (length l'.bits.now) (length l'.ranked.now) (length l'.remap.now) (length l'.keys.now) (length l'.ends.now)
    shrinking =
        record {
          t = w.t;
          m = reached_own.m;
          fixed = w.fixed;
          required_are = w.settled.required_are;
          at = reached_own.at;
          room = room_now;
          there =
              let a = reached_own.going.sound.there in
              let b = w.settled.required_are in
              let c = at_count reached_own.at in
              omega arith;
        }

    module _ (goes : keep < so.pieces) (s'' : Slices) (r : Shrunk) (turn : Turns setting text words frequencies iterations required keep so.pieces so.edges s' s'' r) where
      not_stopped : (t : Task) → Settled t iterations factor target required → (m : Model) → length m.pieces ≡ so.pieces → stops t (length m.pieces) ≡ false
      not_stopped t settled m c =
          stops_false t (length m.pieces)
          (let a = keep_of_lem t settled (length m.pieces) in let b = head.keep_is in let d = ap (λ (n : ℕ). keep_of n factor target) c in omega arith)

      one_on : (t : Task) (begin : Model) (room : ℕ) → Fixed t setting words frequencies → Settled t iterations factor target required → Reached t begin room s' so → Reached t begin room s'' r
      one_on t begin room fixed settled x =
          let c = at_count x.at in
          let go = not_stopped t settled x.m c in
          let k : keep ≡ keep_next t (length x.m.pieces) = head.keep_is ∙ ap (λ (n : ℕ). keep_of n factor target) (sym c) ∙ keep_of_lem t settled (length x.m.pieces) in
          let after : At t text (next t x.m) s'' r.pieces r.edges =
          subst (λ (n : ℕ). At t text (improved t (pruned_to t n x.m)) s'' r.pieces r.edges) k
          (turn t x.m fixed settled.iterations_are settled.required_are x.at) in
          record {
            m = next t x.m;
            going = again t begin x.m x.going go;
            at = after;
            fewer =
                let d = at_count after in
                let e = next_fewer t x.m x.going.sound go in
                let f = x.fewer in
                omega arith;
            narrower = let e = next_nodes t x.m in let f = x.narrower in omega arith;
          }

      pub head_next : (keep' : ℕ) (l'' : Work) → keep' ≡ keep_of r.pieces factor target → SameWork l' l'' → Head s'' r keep' l''
      head_next keep' l'' e same =
          record {
            same = same_work_on head.same same;
            keep_is = e;
            reached = λ t begin m fixed settled going at. one_on t begin (nodes m.pieces) fixed settled (head.reached t begin m fixed settled going at);
          }

      -- a piece goes at least
      pub less : r.pieces < so.pieces
      less =
          let x = reached_own in
          let c = at_count x.at in
          let go = not_stopped w.t w.settled x.m c in
          let k : keep ≡ keep_next w.t (length x.m.pieces) = head.keep_is ∙ ap (λ (n : ℕ). keep_of n factor target) (sym c) ∙ keep_of_lem w.t w.settled (length x.m.pieces) in
          let after : At w.t text (next w.t x.m) s'' r.pieces r.edges =
          subst (λ (n : ℕ). At w.t text (improved w.t (pruned_to w.t n x.m)) s'' r.pieces r.edges) k
          (turn w.t x.m w.fixed w.settled.iterations_are w.settled.required_are x.at) in
          let d = at_count after in
          let e = next_fewer w.t x.m x.going.sound go in
          omega arith

    -- no more are to go
    pub ended : so.pieces ≤ keep → Prunes setting text words frequencies iterations factor target required count edges s s' so
    ended h t begin m fixed settled going at =
        let x = head.reached t begin m fixed settled going at in
        let c = at_count x.at in
        subst (λ (n : Model). At t text n s' so.pieces so.edges)
        (finished t begin x.m x.going
        (stops_true t (length x.m.pieces)
        (let a = keep_of_lem t settled (length x.m.pieces) in let b = head.keep_is in let d = ap (λ (n : ℕ). keep_of n factor target) c in omega arith)))
        x.at

  -- ---- EM, the loop, and EM once more
  module _ (w : Rounding setting text words frequencies iterations factor target required count edges s (length l.expected.now) (length l.bits.now) (length l.ranked.now) (length l.remap.now) (length l.keys.now) (length l.ends.now)) where
    pub improving_first : Improving words frequencies count edges s.scores (length l.expected.now) s.offsets s.starts s.ids s.spans
    improving_first = improving w.fixed w.at (length l.expected.now) w.room.in_used

    module _ (scores' : List Float) (i : Improves words frequencies iterations count edges s.scores s.offsets s.starts s.ids s.spans scores') where
      abbrev s₁ : Slices
      s₁ = with_scores s scores'

      improved_room : RoomIn (improved w.t w.begin) count l
      improved_room = subst (λ (p : List (List ℕ)). Room p count (length l.expected.now) (length l.bits.now) (length l.ranked.now) (length l.remap.now) (length l.keys.now) (length l.ends.now)) (sym (improved_pieces w.t w.begin)) w.room

      pub pruning : (l₁ : Work) → SameWork l l₁ → Pruning setting text words frequencies iterations factor target required count edges s₁ (length l₁.expected.now) (length l₁.bits.now) (length l₁.ranked.now) (length l₁.remap.now) (length l₁.keys.now) (length l₁.ends.now)
      pruning l₁ same =
          record {
            t = w.t;
            begin = w.begin;
            m = improved w.t w.begin;
            fixed = w.fixed;
            settled = w.settled;
            going = begun w.t w.begin w.sound;
            at = improved_at w.fixed w.at iterations i w.settled.iterations_are;
            room = room_by (improved w.t w.begin) count same improved_room;
          }

      module _ (s₂ : Slices) (so : Shrunk) (p : Prunes setting text words frequencies iterations factor target required count edges s₁ s₂ so) where
        rounded : (t : Task) (begin : Model) → Fixed t setting words frequencies → Settled t iterations factor target required → Sound t begin → At t text begin s count edges
            → At t text (rounds t (length begin.pieces) begin) s₂ so.pieces so.edges
        rounded t begin fixed settled sound at =
            p t begin (improved t begin) fixed settled (begun t begin sound) (improved_at fixed at iterations i settled.iterations_are)

        pub improving_last : (expected : ℕ) → expected ≡ (length l.expected.now) → Improving words frequencies so.pieces so.edges s₂.scores expected s₂.offsets s₂.starts s₂.ids s₂.spans
        improving_last expected e =
            let after = rounded w.t w.begin w.fixed w.settled w.sound w.at in
            let a = w.room.in_used in
            let b = at_count after in
            let c = at_count w.at in
            let d = rounds_fewer w.t (length w.begin.pieces) w.begin w.sound in
            improving w.fixed after expected (omega arith)

        pub all_rounds : (scores'' : List Float) → Improves words frequencies 1 so.pieces so.edges s₂.scores s₂.offsets s₂.starts s₂.ids s₂.spans scores''
            → Rounds setting text words frequencies iterations factor target required count edges s s₂.pieces scores'' so.pieces
        all_rounds scores'' j t begin fixed settled sound at =
            let x = improved_last fixed (rounded t begin fixed settled sound at) 1 j refl in
            record { pieces_are = x.pieces_are; scores_are = x.scores_are; in_pieces = x.in_pieces; in_scores = x.in_scores; good = x.good }
