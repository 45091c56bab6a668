-- `corpus::is_utf8` meets its contract.
-- Assumes nothing.
use Rattle.corpus.proofs.Measures.{says_utf8}
use Rattle.corpus.proofs.is_utf8.Goals as goal

pub returns : goal.returns
returns c = rw c.is_ok.ensures.value (says_utf8 _ c.characters.ensures)
