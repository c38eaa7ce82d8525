use Rattle.std.proofs.Common.{◌≡◌, length}
use Rattle.workers.proofs.Placing.{NoParcels}
use Rattle.workers.proofs.movers.Mover.new.Given as goal

abbrev pub invariant-loop : goal.invariant-loop
invariant-loop g l = (length l.parcels.items ≡ l.counter) × NoParcels g.F.FarStore.bytes_in l.parcels.items
