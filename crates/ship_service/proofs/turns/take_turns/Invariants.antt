use Rattle.std.proofs.Common.{◌≡◌, ◌≤◌}
use Rattle.workers.specs.Cells.{seat_state}
use Rattle.ship_service.specs.Served.{TakesTurns, own_turns}
use Rattle.ship_service.proofs.turns.take_turns.Given as goal

abbrev pub invariant-loop-taken : goal.invariant-loop-taken
invariant-loop-taken g l = (l.taken ≤ own_turns)
    × TakesTurns g.K.TableName.opening g.K.TableName.starts g.K.TableName.passed l.fn.machine l.taken (seat_state l.fn.seat) (seat_state l.seat)
    × (l.seat.seat ≡ l.fn.seat.seat)
