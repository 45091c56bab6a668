-- The same slices stay the same, call after call. Assumes nothing.
use mathlib.Core.Path.{refl, ◌∙◌}
use Rattle.shrink.specs.declared.State.{State}
use Rattle.shrink.specs.declared.Work.{Work}
use Rattle.shrink.specs.Lent.{SameState, SameWork}

pub same_state : (s : State) → SameState s s
same_state s =
    record { pieces_lent = refl; scores_lent = refl; offsets_lent = refl; starts_lent = refl; ids_lent = refl; spans_lent = refl; pieces_long = refl; scores_long = refl; offsets_long = refl; starts_long = refl; ids_long = refl; spans_long = refl }

pub same_state_on : {s s' s'' : State} → SameState s s' → SameState s' s'' → SameState s s''
same_state_on a b =
    record {
      pieces_lent = b.pieces_lent ∙ a.pieces_lent;
      scores_lent = b.scores_lent ∙ a.scores_lent;
      offsets_lent = b.offsets_lent ∙ a.offsets_lent;
      starts_lent = b.starts_lent ∙ a.starts_lent;
      ids_lent = b.ids_lent ∙ a.ids_lent;
      spans_lent = b.spans_lent ∙ a.spans_lent;
      pieces_long = b.pieces_long ∙ a.pieces_long;
      scores_long = b.scores_long ∙ a.scores_long;
      offsets_long = b.offsets_long ∙ a.offsets_long;
      starts_long = b.starts_long ∙ a.starts_long;
      ids_long = b.ids_long ∙ a.ids_long;
      spans_long = b.spans_long ∙ a.spans_long;
    }

pub same_work : (w : Work) → SameWork w w
same_work w =
    record { expected_lent = refl; bits_lent = refl; ranked_lent = refl; remap_lent = refl; keys_lent = refl; ends_lent = refl; expected_long = refl; bits_long = refl; ranked_long = refl; remap_long = refl; keys_long = refl; ends_long = refl }

pub same_work_on : {w w' w'' : Work} → SameWork w w' → SameWork w' w'' → SameWork w w''
same_work_on a b =
    record {
      expected_lent = b.expected_lent ∙ a.expected_lent;
      bits_lent = b.bits_lent ∙ a.bits_lent;
      ranked_lent = b.ranked_lent ∙ a.ranked_lent;
      remap_lent = b.remap_lent ∙ a.remap_lent;
      keys_lent = b.keys_lent ∙ a.keys_lent;
      ends_lent = b.ends_lent ∙ a.ends_lent;
      expected_long = b.expected_long ∙ a.expected_long;
      bits_long = b.bits_long ∙ a.bits_long;
      ranked_long = b.ranked_long ∙ a.ranked_long;
      remap_long = b.remap_long ∙ a.remap_long;
      keys_long = b.keys_long ∙ a.keys_long;
      ends_long = b.ends_long ∙ a.ends_long;
    }
