use Rattle.std.proofs.Common.{arith}
use Rattle.shared_objects.proofs.Keeps.{leaves_ok}
use Rattle.shared_objects.proofs.table.SharedTable.leave_pass.Goals as goal

pub fetch_sub-requires : goal.fetch_sub-requires
fetch_sub-requires c = let t = c.args.self.now in let lt = c.requires.object in
    (c.requires.seat, omega (arith, t.words), leaves_ok _ _ _ _ _ c.args.n (omega (arith, t.slots)) c.requires.counted c.requires.live.0 c.requires.live.1)
