use denote.Param.Send.{sendable}
use Rattle.std.proofs.Crossing.{crosses}
use Rattle.loader.proofs.Crossing.{program_send}
use Rattle.workers.proofs.Crossing.{pool_sync}
use Rattle.workers_tests.proofs.moving.fn.run_moves.scope.Goals as goal

pub spawn-requires-send-F : goal.spawn-requires-send-F
spawn-requires-send-F g c κs within = let r = c.requires in search (pool_sync, program_send, sendable, crosses) depth 60 fits 20000
