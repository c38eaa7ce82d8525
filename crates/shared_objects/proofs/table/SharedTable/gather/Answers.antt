use Rattle.std.proofs.Common.{arith}
use Rattle.shared_objects.proofs.Joining.{joins_ok}
use Rattle.shared_objects.proofs.table.SharedTable.gather.Goals as goal

pub join_seat-requires : goal.join_seat-requires
join_seat-requires c = let d = c.args.mover.now.makes in let a = c.args.actor.rests in (
  c.requires.mover.0,
  c.requires.actor.0.0,
  a.0,
  omega (arith, c.args.self.now.words, c.args.self.now.few.0),
  joins_ok _ _ _ _ _ _ d.0 d.1 a.2 a.3 a.1 c.requires.actor.1 a.4 a.5 a.6,
)
