-- Threads may share an agent, and a connection may go to another thread.
use denote.RattleType.{RattleType}
use denote.Param.Send.{IsSend, IsSync, sendable}
use denote.Param.SendFields.{declared_send, declared_sync}
use Rattle.std.proofs.Crossing.{crosses}
use Rattle.far_store.specs.declared.store.FarStore as FarStores
use Rattle.console.specs.contracts.console.Console as Console
use Rattle.workers.specs.declared.table_name.TableName as TableNames
use Rattle.workers.proofs.Crossing.{pool_sync, seat_send}
use Rattle.ship_service.specs.contracts.connection.Connection as Connection
use Rattle.ship_service.specs.contracts.connection.Session as Session
use Rattle.ship_service.specs.contracts.serving.Conversations as Conversations
use Rattle.ship_service.specs.contracts.shared_agent.Agent as Agent

console_send : IsSend Console.the_row
console_send = search (sendable, crosses) depth 20

module _ (K : RattleType) (gK : TableNames.Ghosts K.Denot) where
  session_send : IsSend (Session.the_row K gK)
  session_send = declared_send (Session.the_type K gK) (search (sendable, crosses) depth 20, (seat_send, (search sendable, tt)))

  conversations_sync : IsSync (Conversations.the_row K gK)
  conversations_sync = search (sendable, crosses) depth 60 fits 20000

  pub connection_send : IsSend (Connection.the_row K gK)
  connection_send = declared_send (Connection.the_type K gK) (session_send, (console_send, tt))

module _ (F K P : RattleType) (gF : FarStores.Ghosts F.Denot P.Denot) (gK : TableNames.Ghosts K.Denot) where
  pub agent_sync : IsSync (Agent.the_row F K P gF gK)
  agent_sync = declared_sync (Agent.the_type F K P gF gK) (pool_sync F K P gF gK, (conversations_sync K gK, tt))
