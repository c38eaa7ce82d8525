use Rattle.std.proofs.Common.{◌≡◌}
use Rattle.ship_service.proofs.cells.lend_empty.Given as goal

abbrev pub invariant-loop-lesser : goal.invariant-loop-lesser
invariant-loop-lesser g l = l.occupied ≡ l.lesser
