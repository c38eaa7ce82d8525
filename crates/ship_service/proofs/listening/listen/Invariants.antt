use Rattle.ship_service.specs.Opening.{seat_count}
use Rattle.workers.specs.Pools.{named}
use Rattle.ship_service.proofs.listening.listen.Given as goal

abbrev pub ghosts-listen_opened : goal.ghosts-listen_opened
ghosts-listen_opened g a = named a.opened.shared.table a.opened.machines.items seat_count
