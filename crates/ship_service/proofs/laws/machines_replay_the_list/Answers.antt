use Rattle.ship_service.proofs.Settled.{machines_replay}
use Rattle.ship_service.proofs.laws.machines_replay_the_list.Goals as goal

pub returns : goal.returns
returns g c = machines_replay g.row.F.Denot g.F.FarStore.RETURNS g.K.TableName.table g.K.TableName.opening g.K.TableName.starts
