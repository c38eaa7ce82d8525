use Rattle.std.proofs.Common.{◌≤◌}
use Rattle.workers.specs.Cells.{IsSeatOf, seat_state}
use Rattle.ship_service.specs.Ranges.{PutsOnce, FoundBusy, retry_limit}
use Rattle.ship_service.proofs.ranges.put.Given as goal

abbrev pub invariant-loop-retry : goal.invariant-loop-retry
invariant-loop-retry g l = IsSeatOf g.K.TableName.table g.K.TableName.opening l.seat × (l.retry ≤ retry_limit)
    × FoundBusy (PutsOnce l.fn.object l.fn.offset l.fn.bytes) l.fn.object l.retry (seat_state l.fn.seat) (seat_state l.seat)
