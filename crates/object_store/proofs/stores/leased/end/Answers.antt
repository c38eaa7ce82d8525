use Rattle.std.proofs.Common.{arith}
use Rattle.object_store.proofs.Leasing.{out_of}
use Rattle.object_store.proofs.stores.leased.end.Goals as goal

pub fill-requires : goal.fill-requires
fill-requires g c = rw c.replace-taken.ensures.value (out_of _ _ _ _ c.requires (omega (arith, c.if-len-gt0.true, c.len.ensures))).out
