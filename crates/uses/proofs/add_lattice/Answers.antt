use Rattle.uses.proofs.Paths.{path_named}
use Rattle.uses.proofs.add_lattice.Goals as goal

pub add_path-requires : goal.add_path-requires
add_path-requires c = path_named c.requires.cuttable.well_formed c.args.work.now.path c.path_core-count.new.out c.path_core-count.result c.path_core-count.ensures.value c.path_core-count.ensures.out_after c.args.uses.now c.requires.as_many
