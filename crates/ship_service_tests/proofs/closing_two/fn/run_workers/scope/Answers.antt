use denote.Param.Send.{sendable}
use Rattle.std.proofs.Crossing.{crosses}
use Rattle.ship_service.proofs.Crossing.{agent_sync, connection_send}
use Rattle.ship_service_tests.proofs.closing_two.fn.run_workers.scope.Goals as goal

pub spawn-requires-send-F : goal.spawn-requires-send-F
spawn-requires-send-F g c κs within = let r = c.requires in search (agent_sync, connection_send, sendable, crosses) depth 60 fits 20000
