use Rattle.training.proofs.Whole.{going_on, answers}
use Rattle.training.specs.Train.{seeding_work, Answers, Zeros}
use Rattle.listing.specs.Start.{count_of}
use Rattle.finish.specs.Steps.{nought}
use lib.ListN.{take, replicate}
use Prim.Native.Nat.{ℕ, ◌*◌}
use mathlib.Core.Path.{ap, ◌∙◌}
use Rattle.training.proofs.train.Goals as goal
use Rattle.training.proofs.train.Goals.{After-clear_words, After-finish-answer}

pub finish-answer-requires : goal.finish-answer-requires
finish-answer-requires c = going_on (record { settings = c.args.settings; texts = c.args.texts.now; specials = c.args.specials.now; text = c.args.text.now; words = take (2 * count_of c.args.words.now c.args.frequencies.now) c.args.words.now; frequencies = take (count_of c.args.words.now c.args.frequencies.now) c.args.frequencies.now }) (record { kept = c.args.kept.now; counts = c.args.counts.now; table = c.args.table.now; chars = c.args.chars.now; places = c.args.places.now; order = c.args.order.now; work = c.args.work.now; ranks = c.args.ranks.now; pieces = c.args.pieces.now; tallies = c.args.tallies.now; scores = c.args.scores.now; expected = c.args.expected.now; keys = c.args.keys.now; ends = c.args.ends.now; offsets = c.args.offsets.now; starts = c.args.starts.now; ids = c.args.ids.now; spans = c.args.spans.now }) c.begin-started.new.kept c.begin-started.new.counts c.begin-started.new.pieces c.begin-started.new.scores c.begin-started.result c.begin-started.ensures.begun _ _ _ c.begin-started.auto.order c.begin-started.auto.work c.begin-started.auto.ranks

gone : (c : After-finish-answer) → Answers (record { settings = c.args.settings; texts = c.args.texts.now; specials = c.args.specials.now; text = c.args.text.now; words = take (2 * count_of c.args.words.now c.args.frequencies.now) c.args.words.now; frequencies = take (count_of c.args.words.now c.args.frequencies.now) c.args.frequencies.now }) (record { kept = c.args.kept.now; counts = c.args.counts.now; table = c.args.table.now; chars = c.args.chars.now; places = c.args.places.now; order = c.args.order.now; work = c.args.work.now; ranks = c.args.ranks.now; pieces = c.args.pieces.now; tallies = c.args.tallies.now; scores = c.args.scores.now; expected = c.args.expected.now; keys = c.args.keys.now; ends = c.args.ends.now; offsets = c.args.offsets.now; starts = c.args.starts.now; ids = c.args.ids.now; spans = c.args.spans.now }) (record { bytes = c.args.bytes.now; tokens = c.args.tokens.now; scores = c.args.token_scores.now }) (record { bytes = c.finish-answer.new.bytes; tokens = c.finish-answer.new.tokens; scores = c.finish-answer.new.token_scores }) c.finish-answer.result
gone c = answers (record { settings = c.args.settings; texts = c.args.texts.now; specials = c.args.specials.now; text = c.args.text.now; words = take (2 * count_of c.args.words.now c.args.frequencies.now) c.args.words.now; frequencies = take (count_of c.args.words.now c.args.frequencies.now) c.args.frequencies.now }) (record { kept = c.args.kept.now; counts = c.args.counts.now; table = c.args.table.now; chars = c.args.chars.now; places = c.args.places.now; order = c.args.order.now; work = c.args.work.now; ranks = c.args.ranks.now; pieces = c.args.pieces.now; tallies = c.args.tallies.now; scores = c.args.scores.now; expected = c.args.expected.now; keys = c.args.keys.now; ends = c.args.ends.now; offsets = c.args.offsets.now; starts = c.args.starts.now; ids = c.args.ids.now; spans = c.args.spans.now }) c.begin-started.new.kept c.begin-started.new.counts c.begin-started.new.pieces c.begin-started.new.scores c.begin-started.result c.begin-started.ensures.begun (record { bytes = c.args.bytes.now; tokens = c.args.tokens.now; scores = c.args.token_scores.now }) (record { bytes = c.finish-answer.new.bytes; tokens = c.finish-answer.new.tokens; scores = c.finish-answer.new.token_scores }) c.finish-answer.result (c.finish-answer.ensures.goes_on (take (2 * count_of c.args.words.now c.args.frequencies.now) c.args.words.now) (take (count_of c.args.words.now c.args.frequencies.now) c.args.frequencies.now) (seeding_work (record { kept = c.args.kept.now; counts = c.args.counts.now; table = c.args.table.now; chars = c.args.chars.now; places = c.args.places.now; order = c.args.order.now; work = c.args.work.now; ranks = c.args.ranks.now; pieces = c.args.pieces.now; tallies = c.args.tallies.now; scores = c.args.scores.now; expected = c.args.expected.now; keys = c.args.keys.now; ends = c.args.ends.now; offsets = c.args.offsets.now; starts = c.args.starts.now; ids = c.args.ids.now; spans = c.args.spans.now })) c.begin-started.ensures.begun)

-- apart from the rest, so that what is left of the slices is compared once, not once for each slice
zeros : (c : After-clear_words) → Zeros (record { kept = c.args.kept.now; counts = c.args.counts.now; table = c.args.table.now; chars = c.args.chars.now; places = c.args.places.now; order = c.args.order.now; work = c.args.work.now; ranks = c.args.ranks.now; pieces = c.args.pieces.now; tallies = c.args.tallies.now; scores = c.args.scores.now; expected = c.args.expected.now; keys = c.args.keys.now; ends = c.args.ends.now; offsets = c.args.offsets.now; starts = c.args.starts.now; ids = c.args.ids.now; spans = c.args.spans.now }) (record { kept = c.clear_words.new.kept; counts = c.clear_words.new.counts; table = c.begin-started.new.table; chars = c.begin-started.new.chars; places = c.begin-started.new.places; order = c.finish-answer.new.order; work = c.finish-answer.new.work; ranks = c.finish-answer.new.ranks; pieces = c.finish-answer.new.pieces; tallies = c.begin-started.new.tallies; scores = c.finish-answer.new.scores; expected = c.finish-answer.new.expected; keys = c.finish-answer.new.keys; ends = c.finish-answer.new.ends; offsets = c.finish-answer.new.offsets; starts = c.finish-answer.new.starts; ids = c.finish-answer.new.ids; spans = c.finish-answer.new.spans })
zeros c = record { kept_zero = c.clear_words.ensures.0 ∙ ap (λ (k : ℕ). replicate k 0) c.begin-started.auto.kept; counts_zero = c.clear_words.ensures.1 ∙ ap (λ (k : ℕ). replicate k 0) c.begin-started.auto.counts; table_zero = c.begin-started.ensures.table_after.0; chars_zero = c.begin-started.ensures.table_after.1; places_zero = c.begin-started.ensures.places_after.0; order_zero = c.finish-answer.ensures.order_after.0 ∙ ap (λ (k : ℕ). replicate k 0) c.begin-started.auto.order; work_zero = c.finish-answer.ensures.order_after.1 ∙ ap (λ (k : ℕ). replicate k 0) c.begin-started.auto.work; ranks_zero = c.finish-answer.ensures.order_after.2 ∙ ap (λ (k : ℕ). replicate k 0) c.begin-started.auto.ranks; pieces_zero = c.finish-answer.ensures.order_after.3 ∙ ap (λ (k : ℕ). replicate k 0) c.begin-started.auto.pieces; tallies_zero = c.begin-started.ensures.places_after.1; scores_zero = c.finish-answer.ensures.order_after.4 ∙ ap (λ (k : ℕ). replicate k nought) c.begin-started.auto.scores; expected_zero = c.finish-answer.ensures.order_after.5; keys_zero = c.finish-answer.ensures.keys_after.0; ends_zero = c.finish-answer.ensures.keys_after.1; offsets_zero = c.finish-answer.ensures.keys_after.2; starts_zero = c.finish-answer.ensures.keys_after.3; ids_zero = c.finish-answer.ensures.keys_after.4; spans_zero = c.finish-answer.ensures.keys_after.5 }

pub returns : goal.returns
returns c = record { answers = gone (goal.at.returns c).After-finish-answer; zeros = zeros (goal.at.returns c).After-clear_words }
