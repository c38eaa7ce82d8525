use denote.Param.Send.{sendable}
use Rattle.std.proofs.Crossing.{crosses}
use Rattle.workers.proofs.Crossing.{mover_send}
use Rattle.ship_service.proofs.Crossing.{agent_sync}
use Rattle.ship_service.proofs.threads.fn.serve_beside_mover.scope.Goals as goal

pub spawn_with-requires-send-F : goal.spawn_with-requires-send-F
spawn_with-requires-send-F g c κs within =
    let f = c.requires.send.0 in let p = c.requires.send.2 in let r = c.requires.send.3 in let j = c.requires.send.4 in
    search (agent_sync, mover_send, sendable, crosses) depth 60 fits 20000

pub spawn_with-requires-send-T : goal.spawn_with-requires-send-T
spawn_with-requires-send-T g c κs within =
    let f = c.requires.send.0 in let p = c.requires.send.2 in
    search (mover_send, sendable, crosses) depth 60 fits 20000
