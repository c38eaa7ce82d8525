use Rattle.std.specs.Prelude.{◌≡◌}
use Rattle.shared_objects.specs.Tables.{IsMoverOf}
use Rattle.shared_objects_tests.proofs.threads.move_all.Given as goal

abbrev pub invariant-loop-round : goal.invariant-loop-round
invariant-loop-round l = IsMoverOf l.table l.mover × (l.mover.seat.me.0.gathered ≡ l.fn.mover.seat.me.0.gathered)
    × (l.mover.seat.me.0.alive ≡ l.fn.mover.seat.me.0.alive)
