use Rattle.std.proofs.Common.{◌∙◌, ap, subst}
use Rattle.std.proofs.lemmas.List.Elements.{All-take}
use Rattle.shared_objects.specs.Kinds.{dealer}
use Rattle.shared_objects.specs.Opened.{AreFresh, seated}
use Rattle.shared_objects.specs.Tables.{IsActorOf}
use Rattle.ship_service.specs.Opening.{seat_count}
use Rattle.ship_service.proofs.Dealt.{first_seats, last_seats, own_seats, mover_begins}
use Rattle.ship_service.proofs.shared_agent.Agent.open.Goals as goal

pub connections_of-requires : goal.connections_of-requires
connections_of-requires g c =
    let shared = c.args.opened.shared.table in let seats = c.args.opened.seats.items in
    rw c.in_ok-posts.ensures.tail (own_seats shared g.K.TableName.table g.K.TableName.opening 48 seats c.requires.0 c.args.opened.fresh.1)

pub new-requires-2-clause-seats : goal.new-requires-2-clause-seats
new-requires-2-clause-seats g c =
    let shared = c.args.opened.shared.table in let seats = c.args.opened.seats.items in let R = g.F.FarStore.RETURNS in
    let fresh : AreFresh (dealer R g.K.TableName.opening) seats = subst (λ o. AreFresh (dealer R o) seats) c.requires.0.1 c.args.opened.fresh.0 in
    rw c.in_ok-posts.ensures.items (first_seats (dealer R g.K.TableName.opening) 48 seats fresh, All-take (IsActorOf shared) 48 seats c.args.opened.fresh.1)

pub returns-clause-seats : goal.returns-clause-seats
returns-clause-seats g c =
    let shared = c.args.opened.shared.table in let seats = c.args.opened.seats.items in let R = g.F.FarStore.RETURNS in
    let fresh : AreFresh (dealer R g.K.TableName.opening) seats = subst (λ o. AreFresh (dealer R o) seats) c.requires.0.1 c.args.opened.fresh.0 in
    rw (
      c.in_ok-connections.ensures.seats,
      c.in_ok-posts.ensures.tail,
    ) (last_seats shared g.K.TableName.table R g.K.TableName.opening 48 seats c.requires.0 fresh c.args.opened.fresh.1)

pub returns-clause-mover : goal.returns-clause-mover
returns-clause-mover g c =
    let R = g.F.FarStore.RETURNS in let m = c.in_ok-mover.ensures in
    mover_begins R g.K.TableName.opening c.args.opened.store c.in_ok-mover.mover (m.0 ∙ c.args.opened.moving.1
    ∙ ap (λ o. seated seat_count (dealer R o)) c.requires.0.1) m.1 m.2 c.fact.ensures.parcels
