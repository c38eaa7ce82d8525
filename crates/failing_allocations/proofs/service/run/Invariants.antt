use Rattle.ship_service.specs.Opening.{seat_count}
use Rattle.workers.specs.Pools.{named}
use Rattle.failing_allocations.proofs.service.run.Given as goal

abbrev pub ghosts-served : goal.ghosts-served
ghosts-served g a = named a.opened.shared.table a.opened.machines.items seat_count
