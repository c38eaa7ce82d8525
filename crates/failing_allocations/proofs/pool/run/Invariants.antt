use Rattle.std.proofs.Common.{length}
use Rattle.workers.specs.Pools.{named}
use Rattle.failing_allocations.proofs.pool.run.Given as goal

abbrev pub ghosts-moved : goal.ghosts-moved
ghosts-moved g a = named a.shared.table a.machines.items (length a.seats.items)
