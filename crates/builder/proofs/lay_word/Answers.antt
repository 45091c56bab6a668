use Rattle.builder.proofs.Laying.{word_numbers}
use Rattle.builder.proofs.lay_word.Goals as goal

pub put_span-requires : goal.put_span-requires
put_span-requires c = word_numbers c.requires c.put_part-to.ensures
