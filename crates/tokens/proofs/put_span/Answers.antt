-- `tokens::put_span` meets its contract: a token's bytes are as many as its span says.
-- Assumes nothing.
use Rattle.tokens.proofs.Turns.{put_asked}
use Rattle.tokens.proofs.put_span.Goals as goal

pub put-requires : goal.put-requires
put-requires c = put_asked c.requires c.octets.ensures
