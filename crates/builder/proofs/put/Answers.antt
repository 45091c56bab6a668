use Rattle.builder.proofs.Puts.{put_none, piece_none, piece_some, some_start, some_id}
use native.Mathlib.Omega.{arith}
use mathlib.Core.Path.{refl}
use Rattle.builder.proofs.put.Goals as goal

pub returns-then-found-eq0 : goal.returns-then-found-eq0
returns-then-found-eq0 c = rw (piece_none c.args.found c.if-found-eq0.true) (put_none _ _ _)

pub bounds-starts-write : goal.bounds-starts-write
bounds-starts-write c = some_start c.requires c.if-found-eq0.false

pub bounds-ids-write : goal.bounds-ids-write
bounds-ids-write c = some_id c.requires c.if-found-eq0.false

pub returns : goal.returns
returns c = rw (piece_some c.args.found c.if-found-eq0.false) (record { count = omega arith; starts_are = refl; ids_are = refl })
