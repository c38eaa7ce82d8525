use Rattle.std.proofs.Common.{length}
use Rattle.workers.specs.Pools.{named}
use Rattle.bench_threads.proofs.turns.done.Given as goal

abbrev pub ghosts-run : goal.ghosts-run
ghosts-run g a = named a.shared.table a.machines.items (length a.seats.items)
