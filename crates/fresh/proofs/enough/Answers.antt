use Rattle.fresh.proofs.Building.{enough_ample, enough_counted}
use Rattle.laws.proofs.Tests.{said_yes}
use Rattle.fresh.proofs.enough.Goals as goal

pub returns-then-ample : goal.returns-then-ample
returns-then-ample c = enough_ample c.args.keys.now c.args.ends.now c.args.text.now c.args.words.now c.args.setting (record { offsets = c.args.offsets.now; starts = c.args.starts.now; ids = c.args.ids.now; spans = c.args.spans.now }) c.requires.1 (said_yes c.ample.result c.if-ample.true c.ample.ensures)

pub returns : goal.returns
returns c = enough_counted c.args.keys.now c.args.ends.now c.args.text.now c.args.words.now c.args.setting (record { offsets = c.args.offsets.now; starts = c.args.starts.now; ids = c.args.ids.now; spans = c.args.spans.now }) c.count_words-so.ensures c.count.ensures c.fits.result c.fits.ensures
