use Rattle.ship_service.proofs.Told.{reply_is_entry}
use Rattle.ship_service.proofs.laws.reply_is_entry.Goals as goal

pub returns : goal.returns
returns g c = reply_is_entry g.K.TableName.opening g.K.TableName.starts g.K.TableName.passed
