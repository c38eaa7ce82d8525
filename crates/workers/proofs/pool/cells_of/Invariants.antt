use Rattle.std.proofs.Common.{◌≡◌, ◌+◌, length, drop}
use Rattle.std.specs.Vec.Iter.{into_iter_items}
use Rattle.workers.specs.Pools.{AreSeats, machines_of}
use Rattle.workers.proofs.pool.cells_of.Given as goal

abbrev pub invariant-cells : goal.invariant-cells
invariant-cells g l = AreSeats g.K.TableName.table g.K.TableName.opening (length l.cells.items + 1) (into_iter_items l.seats_left)
    × (machines_of (into_iter_items l.machines_left) ≡ drop (length l.cells.items) g.K.TableName.starts)
    × (length l.cells.items + length (into_iter_items l.seats_left) ≡ length l.fn.seats.items)

abbrev pub decreases-cells : goal.decreases-cells
decreases-cells g l = length (into_iter_items l.seats_left)
