use Rattle.std.proofs.Common.{◌≡◌, ◌++◌, map, All}
use Rattle.std.specs.Vec.Iter.{into_iter_items}
use Rattle.console.specs.Held.{nothing_held}
use Rattle.workers.specs.Cells.{IsSeatOf}
use Rattle.ship_service.proofs.opened.connections_of.Given as goal

abbrev pub invariant-loop-seat : goal.invariant-loop-seat
invariant-loop-seat g l = (map (λ c. c.session.seat) l.connections.items ++ into_iter_items l.seat-iterator ≡ l.fn.seats.items)
    × All (IsSeatOf g.K.TableName.table g.K.TableName.opening) (into_iter_items l.seat-iterator)
    × All (λ c. c.console ≡ nothing_held) l.connections.items
