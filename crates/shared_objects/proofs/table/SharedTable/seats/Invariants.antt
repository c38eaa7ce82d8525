use Rattle.std.proofs.Common.{◌≡◌, ◌-◌, ◌≤◌, length}
use Rattle.std.specs.Prelude.{All}
use Rattle.shared_objects.specs.Opened.{AreFresh, seated}
use Rattle.shared_objects.specs.Tables.{IsActorOf, IsMoverOf}
use Rattle.shared_objects.proofs.table.SharedTable.seats.Given as goal

abbrev pub invariant-loop-actors : goal.invariant-loop-actors
invariant-loop-actors l = IsMoverOf l.self l.mover × (l.mover.seat.me.0 ≡ seated (length l.actors.items) l.fn.mover.seat.me.0)
    × AreFresh l.fn.mover.seat.me.0 l.actors.items × All (IsActorOf l.self) l.actors.items × (length l.actors.items ≤ l.count)

abbrev pub decreases-loop-actors : goal.decreases-loop-actors
decreases-loop-actors l = l.count - length l.actors.items
