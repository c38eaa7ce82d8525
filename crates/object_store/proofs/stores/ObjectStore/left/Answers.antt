use Rattle.std.proofs.Common.{refl, arith}
use Rattle.object_store.proofs.Leaving.{not_clean}
use Rattle.object_store.proofs.Found.{found, seen, put_back}
use Rattle.object_store.proofs.stores.ObjectStore.left.Goals as goal

pub end_leave-requires : goal.end_leave-requires
end_leave-requires g c =
    let there = found c.self.inside.bodies c.index-bodies-index.result c.self.invariant c.self.view_is c.in-Some-Leaving.field-0-is c.in-Some-Leaving.ensures.some
    c.as_mut_slice-bodies.ensures.value c.as_mut_slice-bodies.ensures.len in
    record { leaving = there.place; live = there.live }

pub overflow_add-self : goal.overflow_add-self
overflow_add-self g c = let there = found c.self.inside.bodies c.index-bodies-index.result c.self.invariant c.self.view_is c.in-Some-Leaving.field-0-is c.in-Some-Leaving.ensures.some
    c.as_mut_slice-bodies.ensures.value c.as_mut_slice-bodies.ensures.len in
    omega (arith, there.size, there.fits, c.length-gained.ensures.length, c.self.invariant.0.budget_is)

pub invariant_of-self : goal.invariant_of-self
invariant_of-self g c =
    let there = found c.self.inside.bodies c.index-bodies-index.result c.self.invariant c.self.view_is c.in-Some-Leaving.field-0-is c.in-Some-Leaving.ensures.some
    c.as_mut_slice-bodies.ensures.value c.as_mut_slice-bodies.ensures.len in
    put_back c.self.invariant there c.in-Ok.ensures.done refl there.short (omega (arith, there.size, c.length-gained.ensures.length))

pub invariant_of-self-in-Err : goal.invariant_of-self-in-Err
invariant_of-self-in-Err g c =
    let there = found c.self.inside.bodies c.index-bodies-index.result c.self.invariant c.self.view_is c.in-Some-Leaving.field-0-is c.in-Some-Leaving.ensures.some
    c.as_mut_slice-bodies.ensures.value c.as_mut_slice-bodies.ensures.len in
    put_back c.self.invariant there c.in-Err.ensures.failed refl there.short refl

pub returns-in-Ok : goal.returns-in-Ok
returns-in-Ok g c =
    let there = found c.self.inside.bodies c.index-bodies-index.result c.self.invariant c.self.view_is c.in-Some-Leaving.field-0-is c.in-Some-Leaving.ensures.some
    c.as_mut_slice-bodies.ensures.value c.as_mut_slice-bodies.ensures.len in
    let now = seen there c.in-Ok.ensures.done in
    rw (← c.self.view_is, now.bytes, now.places, now.sent, there.bytes_stay, ← there.parcel, ← there.clean, ← there.bytes) (record {
      ends = ((there.live, there.stands.1), c.in-Ok.ensures.faults, refl);
      asks = (c.in-Ok.ensures.puts, refl);
    })

pub returns-in-Err : goal.returns-in-Err
returns-in-Err g c =
    let there = found c.self.inside.bodies c.index-bodies-index.result c.self.invariant c.self.view_is c.in-Some-Leaving.field-0-is c.in-Some-Leaving.ensures.some
    c.as_mut_slice-bodies.ensures.value c.as_mut_slice-bodies.ensures.len in
    let now = seen there c.in-Err.ensures.failed in
    let unclean = not_clean _ c.in-Err.ensures.clean in
    rw (← c.self.view_is, now.bytes, now.places, now.sent, there.bytes_stay, ← there.parcel, ← there.clean, ← there.bytes, unclean) (record {
      ends = ((there.live, there.stands.1), c.in-Err.ensures.fault, refl);
      asks = (refl, rw unclean at c.in-Err.ensures.tries, refl);
    })
