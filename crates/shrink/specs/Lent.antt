-- The lists that the lent slices are, and that a call hands back the very slices that it was lent, as long as they were. Definitions only.
use Rattle.std.specs.Prelude.{◌≡◌, false, ℕ, List, Float, length, replicate, pos}
use Rattle.std.specs.Float.{fin}
use Rattle.shrink.specs.declared.State.{State}
use Rattle.shrink.specs.declared.Work.{Work}
use Rattle.fresh.specs.Build as fresh
use Rattle.shrink.specs.At.{Slices}

abbrev pub slices_of : State → Slices
slices_of s =
    record { pieces = s.pieces.now; scores = s.scores.now; offsets = s.offsets.now; starts = s.starts.now; ids = s.ids.now; spans = s.spans.now }

-- the lattices' slices among them
abbrev pub cache_of : State → fresh.Results
cache_of s =
    record { offsets = s.offsets.now; starts = s.starts.now; ids = s.ids.now; spans = s.spans.now }

abbrev pub with_scores : Slices → List Float → Slices
with_scores s scores =
    record { pieces = s.pieces; scores = scores; offsets = s.offsets; starts = s.starts; ids = s.ids; spans = s.spans }

-- the work slices but EM's own
pub record Others : Type 0 where
  pub bits : List ℕ
  pub ranked : List ℕ
  pub remap : List ℕ
  pub keys : List ℕ
  pub ends : List ℕ

abbrev pub others_of : Work → Others
others_of w =
    record { bits = w.bits.now; ranked = w.ranked.now; remap = w.remap.now; keys = w.keys.now; ends = w.ends.now }

-- the same slice: the same loan of as many items
pub record SameState (s s' : State) : Type 0 where
  pub pieces_lent : s'.pieces.ghost_name ≡ s.pieces.ghost_name
  pub scores_lent : s'.scores.ghost_name ≡ s.scores.ghost_name
  pub offsets_lent : s'.offsets.ghost_name ≡ s.offsets.ghost_name
  pub starts_lent : s'.starts.ghost_name ≡ s.starts.ghost_name
  pub ids_lent : s'.ids.ghost_name ≡ s.ids.ghost_name
  pub spans_lent : s'.spans.ghost_name ≡ s.spans.ghost_name
  pub pieces_long : length s'.pieces.now ≡ length s.pieces.now
  pub scores_long : length s'.scores.now ≡ length s.scores.now
  pub offsets_long : length s'.offsets.now ≡ length s.offsets.now
  pub starts_long : length s'.starts.now ≡ length s.starts.now
  pub ids_long : length s'.ids.now ≡ length s.ids.now
  pub spans_long : length s'.spans.now ≡ length s.spans.now

pub record SameWork (w w' : Work) : Type 0 where
  pub expected_lent : w'.expected.ghost_name ≡ w.expected.ghost_name
  pub bits_lent : w'.bits.ghost_name ≡ w.bits.ghost_name
  pub ranked_lent : w'.ranked.ghost_name ≡ w.ranked.ghost_name
  pub remap_lent : w'.remap.ghost_name ≡ w.remap.ghost_name
  pub keys_lent : w'.keys.ghost_name ≡ w.keys.ghost_name
  pub ends_lent : w'.ends.ghost_name ≡ w.ends.ghost_name
  pub expected_long : length w'.expected.now ≡ length w.expected.now
  pub bits_long : length w'.bits.now ≡ length w.bits.now
  pub ranked_long : length w'.ranked.now ≡ length w.ranked.now
  pub remap_long : length w'.remap.now ≡ length w.remap.now
  pub keys_long : length w'.keys.now ≡ length w.keys.now
  pub ends_long : length w'.ends.now ≡ length w.ends.now

-- and all of them hold zeros
pub record ClearedState (s s' : State) : Type 0 where
  pub same : SameState s s'
  pub pieces_zero : s'.pieces.now ≡ replicate (length s.pieces.now) 0
  pub scores_zero : s'.scores.now ≡ replicate (length s.scores.now) (fin false 0 (pos 0))
  pub offsets_zero : s'.offsets.now ≡ replicate (length s.offsets.now) 0
  pub starts_zero : s'.starts.now ≡ replicate (length s.starts.now) 0
  pub ids_zero : s'.ids.now ≡ replicate (length s.ids.now) 0
  pub spans_zero : s'.spans.now ≡ replicate (length s.spans.now) 0

pub record ClearedWork (w w' : Work) : Type 0 where
  pub same : SameWork w w'
  pub expected_zero : w'.expected.now ≡ replicate (length w.expected.now) (fin false 0 (pos 0))
  pub bits_zero : w'.bits.now ≡ replicate (length w.bits.now) 0
  pub ranked_zero : w'.ranked.now ≡ replicate (length w.ranked.now) 0
  pub remap_zero : w'.remap.now ≡ replicate (length w.remap.now) 0
  pub keys_zero : w'.keys.now ≡ replicate (length w.keys.now) 0
  pub ends_zero : w'.ends.now ≡ replicate (length w.ends.now) 0
