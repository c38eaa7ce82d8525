use denote.Param.Send.{sendable}
use Rattle.std.proofs.Common.{length, ap, arith}
use Rattle.std.proofs.Crossing.{crosses}
use Rattle.std.proofs.lemmas.List.Elements.{All-same}
use Rattle.std.specs.Vec.Iter.{into_iter_items}
use Rattle.ship_service.specs.Conversed.{IsUnused}
use Rattle.ship_service.proofs.Crossing.{agent_sync, connection_send}
use Rattle.ship_service.proofs.threads.fn.serve_clients.scope.Goals as goal

pub spawn_with-begun-requires-send-F : goal.spawn_with-begun-requires-send-F
spawn_with-begun-requires-send-F g c κs within =
    let r = c.requires.send.1 in let j = c.requires.send.2 in search (agent_sync, connection_send, sendable, crosses) depth 60 fits 20000

pub spawn_with-begun-requires-send-T : goal.spawn_with-begun-requires-send-T
spawn_with-begun-requires-send-T g c κs within = search (connection_send, sendable, crosses) depth 60 fits 20000

pub clients-init : goal.clients-init
clients-init g c = (
  All-same (λ c'. IsUnused g.K.TableName.table g.F.FarStore.RETURNS g.K.TableName.opening c'.session.seat) (into_iter_items c.into_iter-left.result)
      c.captures.connections.items c.into_iter-left.ensures.rest c.requires.unused,
  omega (arith, ap length c.in_ok-conversations.ensures.items, ap length c.into_iter-left.ensures.rest, c.len-count.ensures, c.captures.connections.ok.0),
)
