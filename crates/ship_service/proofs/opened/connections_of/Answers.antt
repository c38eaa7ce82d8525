use Rattle.std.proofs.Common.{◌≡◌, ◌∷◌, ◌∙◌, sym, ap}
use Rattle.std.proofs.lemmas.List.Elements.{All-push, All-rest}
use Rattle.std.specs.Vec.Iter.{into_iter_items}
use Rattle.console.specs.Held.{nothing_held}
use Rattle.workers.specs.Cells.{IsSeatOf}
use Rattle.ship_service.proofs.Dealt.{one_more}
use Rattle.ship_service.proofs.opened.connections_of.Goals as goal

pub loop-seat-preserved : goal.loop-seat-preserved
loop-seat-preserved g c =
    let i = c.loop-seat.invariant in let old = c.loop-seat.connections.items in let one = c.in_ok-new.field-0 in let rest = into_iter_items c.next.new.self in
    let came = (rw c.in-Some.is at c.next.ensures.steps).0 in (
      rw c.in_ok-push.ensures.items (one_more (λ c'. c'.session.seat) old one (into_iter_items c.loop-seat.seat-iterator) rest c.args.seats.items i.0 (came
          ∙ ap (λ s. s ∷ rest) (sym c.in_ok-new.ensures.0))),
      All-rest (IsSeatOf g.K.TableName.table g.K.TableName.opening) c.in-Some.seat rest (into_iter_items c.loop-seat.seat-iterator) came i.1,
      rw c.in_ok-push.ensures.items (All-push (λ c'. c'.console ≡ nothing_held) old one i.2 c.in_ok-new.ensures.1),
    )
