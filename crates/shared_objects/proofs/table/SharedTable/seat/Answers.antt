use Rattle.std.proofs.Common.{rules, arith}
use Rattle.shared_objects.proofs.Keeps.{deals_ok}
use Rattle.shared_objects.proofs.table.SharedTable.seat.Goals as goal

pub split_seat-seat-requires : goal.split_seat-seat-requires
split_seat-seat-requires c = (
  search rules,
  omega (arith, c.args.self.now.words, c.args.self.now.few.0),
  deals_ok _ _ _ _ c.args.mover.now.makes.0 c.requires.room c.args.mover.now.makes.1,
)
