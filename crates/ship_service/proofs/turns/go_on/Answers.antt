use Rattle.workers.specs.Cells.{seat_state}
use Rattle.ship_service.proofs.turns.go_on.Goals as goal

pub returns-then-not-on-clause-goes : goal.returns-then-not-on-clause-goes
returns-then-not-on-clause-goes g c = c.take_turns-on.ensures.off c.if-not-on.true

pub returns-clause-goes : goal.returns-clause-goes
returns-clause-goes g c = let k = c.take_turns-on.ensures.on c.if-not-on.false in (
  c.hold.ensures.takes.0,
  record { turns = k.0; few = k.1; mid = seat_state c.take_turns-on.new.seat; taken = k.2; last = c.hold.ensures.takes.1 },
)
