use Rattle.workers.specs.Pools.{named}
use Rattle.ship_service.specs.Opening.{seat_count}
use Rattle.ship_service_tests.proofs.debugging.kept_after.Given as goal

abbrev pub ghosts-left_unused : goal.ghosts-left_unused
ghosts-left_unused g a = named a.opened.shared.table a.opened.machines.items seat_count
