use Rattle.std.proofs.Common.{ℕ, map, Some, sym, ap, ◌∙◌, subst}
use Rattle.std.specs.Prelude.{slice_set}
use Rattle.far_store.specs.Stores.{parcel_bytes}
use Rattle.placement.specs.declared.places.Moved.TheVariants.{Done}
use Rattle.shared_objects.specs.Phases.{IsObject}
use Rattle.shared_objects.specs.Rule.{place_of}
use Rattle.shared_objects.specs.declared.view.Whereabouts.TheVariants.{Far}
use Rattle.shared_objects.specs.declared.view.View.{View}
use Rattle.workers.specs.Moves.{MoverState, IsMoverView, KeepsParcels, LeavesFor, AsksToLeave}
use Rattle.workers.proofs.Placing.{inside, lacks, kept_far, now_here}
use Rattle.workers.proofs.movers.Mover.leave.Goals as goal

pub invariant_of-self : goal.invariant_of-self
invariant_of-self g c =
    let m = c.self.inside in let v : View = m.seat.seat.me.0 in let n : ℕ = c.args.number in let inv = c.self.invariant in
    let o = subst (λ x. IsObject x n) (sym inv.0.1.0) c.requires.object in
    let f = c.in-Ok.ensures.sent in (
      (
        c.in-Ok.ensures.mover.0 ∙ c.requires.table.0.0,
        subst (λ (u : View). IsMoverView g.K.TableName.opening g.F.FarStore.RETURNS g.K.TableName.seats u) (sym f.0) inv.0.1,
      ),
      subst (λ (u : View). KeepsParcels u (map (parcel_bytes g.F.FarStore.bytes_in) (slice_set m.parcels.items n (Some c.in-Ok.parcel)))) (sym f.0)
          (kept_far g.F.FarStore.bytes_in v n m.parcels.items (inside v n o m.seat.wide) m.seat.wide inv.1 c.in-Ok.parcel f.1),
    )

pub returns-in-Ok-clause-moves : goal.returns-in-Ok-clause-moves
returns-in-Ok-clause-moves g c =
    let m = c.self.inside in let v : View = m.seat.seat.me.0 in let n : ℕ = c.args.number in let inv = c.self.invariant in
    let o = subst (λ x. IsObject x n) (sym inv.0.1.0) c.requires.object in
    let f = c.in-Ok.ensures.sent in
    let here = lacks g.F.FarStore.bytes_in v n m.parcels.items (inside v n o m.seat.wide) m.seat.wide inv.1 c.index.result.now o c.index.ensures c.in-None.is in
    subst (λ (s : MoverState g.row.F.Denot). LeavesFor s.view n Done c.send.new.seat.seat.me.0) c.self.view_is (
      o,
      here,
      (g.F.FarStore.bytes_in c.in-Ok.parcel, f.1, f.0),
    )

pub returns-in-Ok-clause-asks : goal.returns-in-Ok-clause-asks
returns-in-Ok-clause-asks g c =
    let m = c.self.inside in let v : View = m.seat.seat.me.0 in let n : ℕ = c.args.number in let inv = c.self.invariant in
    let o = subst (λ x. IsObject x n) (sym inv.0.1.0) c.requires.object in
    let f = c.in-Ok.ensures.sent in
    subst (λ (s : MoverState g.row.F.Denot).
    AsksToLeave g.F.FarStore.called g.F.FarStore.faults_of s.view s.store n Done c.send.new.seat.seat.me.0 c.send.new.store) c.self.view_is record {
      bytes = g.F.FarStore.bytes_in c.in-Ok.parcel;
      is_far = ap (λ (u : View). place_of u n) f.0 ∙ now_here v n (Far (g.F.FarStore.bytes_in c.in-Ok.parcel)) (inside v n o m.seat.wide);
      calls = f.2;
      no_fault = f.3;
    }
