use denote.Param.Send.{sendable}
use Rattle.std.proofs.Crossing.{crosses}
use Rattle.workers.proofs.Crossing.{mover_send}
use Rattle.ship_service.proofs.Crossing.{agent_sync, connection_send}
use Rattle.ship_service_tests.proofs.closing_two.fn.run.scope.Goals as goal

pub spawn-requires-send-F : goal.spawn-requires-send-F
spawn-requires-send-F g c κs within =
    let f = c.requires.0 in let p = c.requires.2 in let r = c.requires.3 in
    search (agent_sync, connection_send, mover_send, sendable, crosses) depth 60 fits 20000
