use contract.Lifetimes.{Lfts}
use denote.Param.{param}
use denote.Param.Send.{IsSend, IsSync, sendable}
use Rattle.std.proofs.Crossing.{crosses}
use Rattle.workers.proofs.Crossing.{pool_sync, mover_send}
use Rattle.workers.proofs.threads.fn.run_tools.scope.Given as given
use Rattle.workers.proofs.threads.fn.run_tools.scope.Lts as lts
use Rattle.workers.proofs.threads.fn.run_tools.scope.Goals as goal

closure : (g : given.Over) (κs : Lfts 8) → IsSend (param 0 g.row.F) → IsSend (param 4 g.row.F-Parcel) → IsSync (param 2 g.row.R) → IsSync (param 3 g.row.G)
    → IsSend (param 1 (lts.arg-0-1 g.row.F g.row.K g.row.R g.row.G g.row.F-Parcel g.F.laws g.K.laws g.R.laws g.G.laws g.F.Parcel.laws g.F.FarStore
    g.F.FarStore-dict g.K.TableName g.K.TableName-dict g.R.Threads g.R.Threads-dict g.R.Wait g.R.Wait-dict g.G.Gate g.G.Gate-dict g.F.Parcel.Destruct-dict κs))
closure g κs f p r s = search (pool_sync, mover_send, sendable, crosses) depth 60 fits 20000

pub spawn-requires-send-F : goal.spawn-requires-send-F
spawn-requires-send-F g c κs within = closure g κs c.requires.0 c.requires.2 c.requires.3 c.requires.4
