use Rattle.ship_service.proofs.Told.{replies_are_entries}
use Rattle.ship_service.proofs.laws.replies_are_entries.Goals as goal

pub returns : goal.returns
returns g c = replies_are_entries g.K.TableName.opening g.K.TableName.starts g.K.TableName.passed
