use Rattle.std.proofs.Common.{refl, arith}
use Rattle.object_store.proofs.Returning.{returned_as, as_long, comes_back}
use Rattle.object_store.proofs.Found.{found, seen, put_back}
use Rattle.object_store.proofs.stores.ObjectStore.returned.Goals as goal

pub end_return-requires : goal.end_return-requires
end_return-requires g c =
    let there = found c.self.inside.bodies c.index-bodies-index.result c.self.invariant c.self.view_is c.in-Some-Returning.field-0-is c.in-Some-Returning.ensures.some
    c.as_mut_slice-bodies.ensures.value c.as_mut_slice-bodies.ensures.len in
    record { returning = there.place; live = there.live }

pub overflow_add-self : goal.overflow_add-self
overflow_add-self g c = let there = found c.self.inside.bodies c.index-bodies-index.result c.self.invariant c.self.view_is c.in-Some-Returning.field-0-is c.in-Some-Returning.ensures.some
    c.as_mut_slice-bodies.ensures.value c.as_mut_slice-bodies.ensures.len in
    omega (arith, there.size, there.fits, c.length-length.ensures.length, c.self.invariant.0.budget_is)

pub invariant_of-self : goal.invariant_of-self
invariant_of-self g c =
    let there = found c.self.inside.bodies c.index-bodies-index.result c.self.invariant c.self.view_is c.in-Some-Returning.field-0-is c.in-Some-Returning.ensures.some
    c.as_mut_slice-bodies.ensures.value c.as_mut_slice-bodies.ensures.len in
    let long = as_long g.F.FarStore.RETURNS _ _ c.in-Ok.ensures.done in
    put_back c.self.invariant there (returned_as g.F.FarStore.RETURNS _ _ c.in-Ok.ensures.done) refl (rw long there.short) (omega (arith, long))

pub invariant_of-self-in-Err : goal.invariant_of-self-in-Err
invariant_of-self-in-Err g c =
    let there = found c.self.inside.bodies c.index-bodies-index.result c.self.invariant c.self.view_is c.in-Some-Returning.field-0-is c.in-Some-Returning.ensures.some
    c.as_mut_slice-bodies.ensures.value c.as_mut_slice-bodies.ensures.len in
    put_back c.self.invariant there c.in-Err.ensures.failed refl there.short (omega (arith, there.size, c.length-length.ensures.length))

pub returns-in-Ok : goal.returns-in-Ok
returns-in-Ok g c =
    let there = found c.self.inside.bodies c.index-bodies-index.result c.self.invariant c.self.view_is c.in-Some-Returning.field-0-is c.in-Some-Returning.ensures.some
    c.as_mut_slice-bodies.ensures.value c.as_mut_slice-bodies.ensures.len in
    let now = seen there (returned_as g.F.FarStore.RETURNS _ _ c.in-Ok.ensures.done) in
    rw (← c.self.view_is, now.bytes, now.places, now.sent, ← there.parcel, there.again c.end_return.new.self.bytes) (record {
      ends = (
        there.stands,
        comes_back g.F.FarStore.RETURNS _ _ c.args.number _ c.end_return.new.self there.bytes (there.again c.end_return.new.self.bytes) c.in-Ok.ensures.done
            c.in-Ok.ensures.calm,
      );
      asks = (c.in-Ok.ensures.gets, refl);
    })

pub returns-in-Err : goal.returns-in-Err
returns-in-Err g c =
    let there = found c.self.inside.bodies c.index-bodies-index.result c.self.invariant c.self.view_is c.in-Some-Returning.field-0-is c.in-Some-Returning.ensures.some
    c.as_mut_slice-bodies.ensures.value c.as_mut_slice-bodies.ensures.len in
    let now = seen there c.in-Err.ensures.failed in
    rw (← c.self.view_is, now.bytes, now.places, now.sent, there.bytes_stay, there.sent_stays, ← there.parcel, ← there.bytes) (record {
      ends = ((there.live, there.stands.1), c.in-Err.ensures.fault, refl);
      asks = (c.in-Err.ensures.vain, refl);
    })
