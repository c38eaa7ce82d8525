use Rattle.std.proofs.Common.{◌≡◌, ◌≤◌, ℕ, map, Some, refl, sym, ap, ◌∙◌, subst}
use Rattle.std.specs.Prelude.{slice_set}
use Rattle.std.proofs.lemmas.List.{set-set, set-get_or}
use Rattle.far_store.specs.Calls.Call.{Forget}
use Rattle.far_store.specs.Stores.{parcel_bytes}
use Rattle.placement.specs.declared.places.Moved.TheVariants.{Done, Fault}
use Rattle.shared_objects.specs.Kinds.{placed}
use Rattle.shared_objects.specs.Phases.{IsObject, phase_of}
use Rattle.shared_objects.specs.declared.view.Whereabouts.TheVariants.{Here}
use Rattle.shared_objects.specs.declared.view.View.{View}
use Rattle.workers.specs.Moves.{MoverState, IsMoverView, KeepsParcels, ReturnsFrom, AsksToReturn}
use Rattle.workers.proofs.Placing.{inside, found_far, kept_here}
use Rattle.workers.proofs.movers.Mover.bring_back.Goals as goal

pub fetch-requires-clause-long : goal.fetch-requires-clause-long
fetch-requires-clause-long g c =
    let m = c.self.inside in let inv = c.self.invariant in
    let far = found_far g.F.FarStore.bytes_in m.seat c.args.number m.parcels.items c.index_mut.result.now c.in-Some.kept inv.0.1.0 c.requires.object inv.1
    c.index_mut.ensures.value c.in-Some.ensures.value in far.2

pub invariant_of-self-in-Ok : goal.invariant_of-self-in-Ok
invariant_of-self-in-Ok g c =
    let m = c.self.inside in let v : View = m.seat.seat.me.0 in let n : ℕ = c.args.number in let inv = c.self.invariant in
    let o = subst (λ x. IsObject x n) (sym inv.0.1.0) c.requires.object in
    let e : c.fetch.new.seat.seat.me.0 ≡ placed n Here v = c.in-Ok.ensures.fetched.0 in (
      (
        c.in-Ok.ensures.mover.0 ∙ c.requires.table.0.0,
        subst (λ (u : View). IsMoverView g.K.TableName.opening g.F.FarStore.RETURNS g.K.TableName.seats u) (sym e) inv.0.1,
      ),
      subst (λ (u : View). KeepsParcels u (map (parcel_bytes g.F.FarStore.bytes_in) (slice_set m.parcels.items n c.take.new.self))) (sym e)
          (subst (λ x. KeepsParcels (placed n Here v) (map (parcel_bytes g.F.FarStore.bytes_in) (slice_set m.parcels.items n x))) (sym c.take.ensures.after)
          (kept_here g.F.FarStore.bytes_in v n m.parcels.items (inside v n o m.seat.wide) m.seat.wide inv.1)),
    )

pub invariant_of-self-in-Err : goal.invariant_of-self-in-Err
invariant_of-self-in-Err g c =
    let m = c.self.inside in let v : View = m.seat.seat.me.0 in let n : ℕ = c.args.number in let inv = c.self.invariant in
    let e : c.fetch.new.seat.seat.me.0 ≡ v = c.in-Err.ensures.fetched.0 in
    let same : slice_set (slice_set m.parcels.items n c.take.new.self) n (Some c.in-Some.kept) ≡ m.parcels.items =
    set-set m.parcels.items n c.take.new.self (Some c.in-Some.kept) ∙ ap (slice_set m.parcels.items n) (c.in-Some.ensures.value ∙ c.index_mut.ensures.value)
    ∙ set-get_or m.parcels.items n c.index_mut.result.now in (
      (
        c.in-Err.ensures.mover.0 ∙ c.requires.table.0.0,
        subst (λ (u : View). IsMoverView g.K.TableName.opening g.F.FarStore.RETURNS g.K.TableName.seats u) (sym e) inv.0.1,
      ),
      subst (λ (u : View). KeepsParcels u (map (parcel_bytes g.F.FarStore.bytes_in)
          (slice_set (slice_set m.parcels.items n c.take.new.self) n (Some c.in-Some.kept)))) (sym e)
          (subst (λ l. KeepsParcels v (map (parcel_bytes g.F.FarStore.bytes_in) l)) (sym same) inv.1),
    )

pub returns-in-Ok-clause-asks : goal.returns-in-Ok-clause-asks
returns-in-Ok-clause-asks g c =
    let m = c.self.inside in let inv = c.self.invariant in
    let far = found_far g.F.FarStore.bytes_in m.seat c.args.number m.parcels.items c.index_mut.result.now c.in-Some.kept inv.0.1.0 c.requires.object inv.1
    c.index_mut.ensures.value c.in-Some.ensures.value in
    let f = c.in-Ok.ensures.fetched in
    subst (λ (s : MoverState g.row.F.Denot).
    AsksToReturn g.F.FarStore.RETURNS g.F.FarStore.called g.F.FarStore.faults_of s.view s.store c.args.number Done c.forget.new.self) c.self.view_is record {
      bytes = g.F.FarStore.bytes_in c.in-Some.kept;
      was_far = far.1;
      came = f.1.0;
      as_many = f.1.1;
      calls = (
        f.1.2.0,
        f.1.2.1,
        (
          c.forget.new.self,
          subst (λ x. g.F.FarStore.called x (Forget (g.F.FarStore.bytes_in c.in-Some.kept)) c.forget.new.self) f.1.2.2 c.forget.ensures.called,
          refl,
        ),
      );
      no_fewer_faults = subst (λ x. x ≤ g.F.FarStore.faults_of c.forget.new.self) f.2 c.forget.ensures.faults;
    }

pub returns-in-Err-clause-moves : goal.returns-in-Err-clause-moves
returns-in-Err-clause-moves g c =
    let m = c.self.inside in let inv = c.self.invariant in
    let far = found_far g.F.FarStore.bytes_in m.seat c.args.number m.parcels.items c.index_mut.result.now c.in-Some.kept inv.0.1.0 c.requires.object inv.1
    c.index_mut.ensures.value c.in-Some.ensures.value in
    subst (λ (s : MoverState g.row.F.Denot). ReturnsFrom s.view c.args.number (Fault c.in-Err.fault) c.fetch.new.seat.seat.me.0) c.self.view_is (
      far.0,
      ap phase_of far.1,
      c.in-Err.ensures.fetched.0,
    )

pub returns-in-Err-clause-asks : goal.returns-in-Err-clause-asks
returns-in-Err-clause-asks g c =
    let m = c.self.inside in let inv = c.self.invariant in
    let far = found_far g.F.FarStore.bytes_in m.seat c.args.number m.parcels.items c.index_mut.result.now c.in-Some.kept inv.0.1.0 c.requires.object inv.1
    c.index_mut.ensures.value c.in-Some.ensures.value in
    subst (λ (s : MoverState g.row.F.Denot).
    AsksToReturn g.F.FarStore.RETURNS g.F.FarStore.called g.F.FarStore.faults_of s.view s.store c.args.number
    (Fault c.in-Err.fault) c.fetch.new.store) c.self.view_is
    record {
      bytes = g.F.FarStore.bytes_in c.in-Some.kept;
      was_far = far.1;
      asked = c.in-Err.ensures.fetched.1;
      faults_are = c.in-Err.ensures.fetched.2;
    }
