use Rattle.std.proofs.Common.{arith}
use Rattle.shared_objects.proofs.Keeps.{closes_ok}
use Rattle.shared_objects.proofs.table.SharedTable.close_scope.Goals as goal

pub fetch_sub-requires : goal.fetch_sub-requires
fetch_sub-requires c = let t = c.args.self.now in let lt = c.requires.object in (
  c.requires.seat,
  omega (arith, t.words),
  closes_ok _ _ _ _ _ c.args.n (omega (arith, t.slots)) c.requires.open c.requires.live.0 c.requires.live.1 c.requires.free,
)
