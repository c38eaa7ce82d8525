use Rattle.ship_service_tests.proofs.Seats.{seats_left}
use Rattle.ship_service_tests.proofs.stage.last_seat.Goals as goal

pub returns-clause-left : goal.returns-clause-left
returns-clause-left g c = (seats_left g.F.FarStore.RETURNS c.args.shared.now.table c.args.seats.now.items c.pop.new.self.items _
    c.pop.ensures.items c.requires).0
