use Rattle.std.proofs.Common.{arith}
use Rattle.shared_objects.proofs.Keeps.{opens_ok}
use Rattle.shared_objects.proofs.table.SharedTable.open_scope.Goals as goal

pub fetch_add-found-requires : goal.fetch_add-found-requires
fetch_add-found-requires c = let t = c.args.self.now in let lt = c.requires.object in (
  c.requires.seat,
  omega (arith, t.words),
  opens_ok _ _ _ _ _ c.args.n (omega (arith, t.slots)) c.requires.shut c.requires.live.0 c.requires.live.1 c.requires.free,
)
