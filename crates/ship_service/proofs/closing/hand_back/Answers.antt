use Rattle.std.proofs.Common.{All, sym, subst}
use Rattle.std.proofs.lemmas.List.Elements.{All-push}
use Rattle.workers.specs.Cells.{IsSeatOf}
use Rattle.ship_service.proofs.Settled.{mapped_more}
use Rattle.ship_service.proofs.closing.hand_back.Goals as goal

pub loop-connection-preserved : goal.loop-connection-preserved
loop-connection-preserved g c =
    let P = IsSeatOf g.K.TableName.table g.K.TableName.opening in let v = c.loop-connection.invariant in let a = c.in_ok-push.ensures.items in
    let s = c.into_seat.result in (
      subst (λ l. All P l) (sym a) (All-push P c.loop-connection.seats.items s v.0 c.into_seat.ensures.of),
      mapped_more (λ x. x.session.seat) c.args.seats.items c.loop-connection.seats.items c.push.new.self.items c.loop-connection.yielded c.in-Some.connection s
          v.1 a c.into_seat.ensures.same,
    )
