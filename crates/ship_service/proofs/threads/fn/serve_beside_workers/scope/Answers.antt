use denote.Param.Send.{sendable}
use Rattle.std.proofs.Crossing.{crosses}
use Rattle.ship_service.proofs.Crossing.{agent_sync}
use Rattle.ship_service.proofs.threads.fn.serve_beside_workers.scope.Goals as goal

pub spawn-requires-send-F : goal.spawn-requires-send-F
spawn-requires-send-F g c κs within =
    let r = c.requires.send.3 in let j = c.requires.send.4 in search (agent_sync, sendable, crosses) depth 60 fits 20000
