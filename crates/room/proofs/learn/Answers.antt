-- `room::learn` meets its contract: what it lends is the filled part of each slice.
-- Assumes nothing.
use Prim.Native.Nat.{◌*◌}
use Rattle.listing.specs.Start.{Lent}
use Rattle.training.specs.Train.{Answers}
use Rattle.room.specs.Room.{rooms}
use Rattle.room.proofs.Parts.{part, lent_same}
use Rattle.room.proofs.learn.Goals as goal

pub returns : goal.returns
returns c = lent_same (λ (x : Lent). Answers x rooms (record { bytes = c.args.bytes.now; tokens = c.args.tokens.now; scores = c.args.token_scores.now }) (record { bytes = c.train.new.bytes; tokens = c.train.new.tokens; scores = c.train.new.token_scores }) c.train.result) c.args.stored.settings (part c.args.stored.specials.bytes c.min-a.result c.args.texts.now c.min-a.ensures) (part (2 * c.args.stored.specials.count) c.pairs-b.result c.args.specials.now c.pairs-b.ensures) (part c.args.stored.words.bytes c.min-c.result c.args.text.now c.min-c.ensures) (part (2 * c.args.stored.words.count) c.pairs-d.result c.args.words.now c.pairs-d.ensures) (part c.args.stored.words.count c.min-e.result c.args.frequencies.now c.min-e.ensures) c.train.ensures
