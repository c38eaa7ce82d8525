use Rattle.ship_service.proofs.Granted.{unwritten_stay}
use Rattle.ship_service.proofs.laws.unwritten_objects_stay.Goals as goal

pub returns : goal.returns
returns g c = unwritten_stay g.row.F.Denot g.F.FarStore.RETURNS g.K.TableName.table g.K.TableName.opening g.K.TableName.starts
