use Rattle.std.proofs.Common.{◌≡◌, ◌++◌, map, All}
use Rattle.workers.specs.Cells.{IsSeatOf}
use Rattle.ship_service.proofs.closing.hand_back.Given as goal

abbrev pub invariant-loop-connection : goal.invariant-loop-connection
invariant-loop-connection g l = All (IsSeatOf g.K.TableName.table g.K.TableName.opening) l.seats.items
    × (l.seats.items ≡ l.fn.seats.items ++ map (λ c. c.session.seat) l.yielded)
