use Rattle.std.proofs.Common.{◌≡◌, ℕ, List, ◌++◌, length, map, ◌∙◌, subst}
use Rattle.far_store.specs.Stores.{parcel_bytes}
use Rattle.scopes.specs.Windows.{machine_limit}
use Rattle.shared_objects.specs.Ends.{Closes}
use Rattle.shared_objects.specs.Parts.{part_of}
use Rattle.shared_objects.specs.Tables.{table_opening}
use Rattle.shared_objects.specs.declared.seats.ActorSeat.{ActorSeat}
use Rattle.shared_objects.specs.declared.table.SharedTable.{SharedTable}
use Rattle.shared_objects.specs.declared.view.View.{View}
use Rattle.workers.specs.Moves.{KeepsParcels}
use Rattle.ship_service.specs.Closing.{AreLengths}
use Rattle.ship_service.proofs.Settled.{cell_seats, actors, settles}
use Rattle.ship_service.proofs.shared_agent.Agent.close.Goals as goal

pub hand_back-requires : goal.hand_back-requires
hand_back-requires g c = cell_seats g.K.TableName.table g.K.TableName.opening g.K.TableName.starts c.in_ok-shared.field-0.seats.items
    c.in_ok-shared.field-0.cells.items c.in_ok-shared.ensures.2

pub close-requires-clause-actors : goal.close-requires-clause-actors
close-requires-clause-actors g c =
    actors g.K.TableName.table g.K.TableName.opening c.in_ok-shared.field-0.shared.table c.in_ok-seats.seats.items
    c.in_ok-shared.ensures.1 c.in_ok-seats.ensures.of

pub returns : goal.returns
returns g c =
    let e = c.in_ok-shared.ensures in let m = c.into_parts-seat.ensures in let was : View = c.into_parts-seat.result.0.seat.me.0 in
    let first : List ActorSeat = c.in_ok-shared.field-0.seats.items in let others : List ActorSeat = map (λ x. x.session.seat) c.args.connections.items in
    let before : List (List ℕ) = table_opening c.in_ok-shared.field-0.shared.table in let objects = c.in_ok-objects.objects.items in
    let R = g.F.FarStore.RETURNS in
    let parcels = map (parcel_bytes g.F.FarStore.bytes_in) c.into_parts-seat.result.2.items in
    let pool = c.into_pool.ensures in let whole : length c.into_pool.result.cells.items ≡ machine_limit = rw pool c.args.self.whole in
    settles R g.K.TableName.table g.K.TableName.opening g.K.TableName.starts c.args.mover first others _ (e.3 ∙ whole) e.2
    (subst (λ (o : List (List ℕ)). Closes R o c.args.mover.view (map part_of (first ++ others)) objects) e.1.1
    (subst (λ (v : View). Closes R before v (map part_of (first ++ others)) objects) m.same.0
    (subst (λ (l : List ActorSeat). Closes R before was (map part_of l) objects) c.in_ok-seats.ensures.seats c.in_ok-objects.ensures)))
    (subst (λ (v : View). KeepsParcels v parcels) m.same.0 m.keeps)
    (subst (λ (v : View). v.opening ≡ g.K.TableName.opening) m.same.0 m.of.1.0)
    (subst (λ (o : List (List ℕ)). AreLengths o c.in_ok-lengths.lengths.items) e.1.1
    (subst (λ (t : SharedTable). AreLengths (table_opening t) c.in_ok-lengths.lengths.items) c.table.ensures c.in_ok-lengths.ensures))
    m.same.1
