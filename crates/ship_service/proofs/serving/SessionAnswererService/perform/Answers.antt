use Rattle.workers.specs.Cells.{seat_state}
use Rattle.console.proofs.CommandReading.{asks_short}
use Rattle.ship_service.proofs.Short.{serves_short}
use Rattle.ship_service.proofs.serving.SessionAnswererService.perform.Goals as goal

pub print_service_reply-requires : goal.print_service_reply-requires
print_service_reply-requires g c = serves_short g.K.TableName.opening g.K.TableName.starts g.K.TableName.passed _ (seat_state c.answer-answered.new.seat) _ _
    c.answer-answered.ensures.serves (asks_short c.requires.0 c.args.event c.requires.1)
