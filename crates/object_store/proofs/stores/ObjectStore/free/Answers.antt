use Rattle.std.proofs.Common.{refl, arith}
use Rattle.object_store.proofs.Found.{found, seen, put_back}
use Rattle.object_store.proofs.stores.ObjectStore.free.Goals as goal

pub free-requires : goal.free-requires
free-requires g c = record {
  here = (found c.self.inside.bodies c.index-bodies-index.result c.self.invariant c.self.view_is c.in-Some-Here.field-0-is c.in-Some-Here.ensures.some
      c.as_mut_slice-bodies.ensures.value c.as_mut_slice-bodies.ensures.len).place;
}

pub overflow_add-self : goal.overflow_add-self
overflow_add-self g c = let there = found c.self.inside.bodies c.index-bodies-index.result c.self.invariant c.self.view_is c.in-Some-Here.field-0-is c.in-Some-Here.ensures.some
    c.as_mut_slice-bodies.ensures.value c.as_mut_slice-bodies.ensures.len in
    omega (arith, there.size, there.fits, c.length-freed.ensures.length, c.self.invariant.0.budget_is)

pub invariant_of-self : goal.invariant_of-self
invariant_of-self g c =
    let there = found c.self.inside.bodies c.index-bodies-index.result c.self.invariant c.self.view_is c.in-Some-Here.field-0-is c.in-Some-Here.ensures.some
    c.as_mut_slice-bodies.ensures.value c.as_mut_slice-bodies.ensures.len in
    put_back c.self.invariant there c.free.ensures.new refl (omega arith) (rw there.place (omega (arith, there.size, c.length-freed.ensures.length)))

pub returns-else-is_scoped : goal.returns-else-is_scoped
returns-else-is_scoped g c =
    let there = found c.self.inside.bodies c.index-bodies-index.result c.self.invariant c.self.view_is c.in-Some-Here.field-0-is c.in-Some-Here.ensures.some
    c.as_mut_slice-bodies.ensures.value c.as_mut_slice-bodies.ensures.len in
    let now = seen there c.free.ensures.new in
    let free = rw (← c.self.view_is) at (c.is_scoped.ensures.free c.if-is_scoped.false) in
    rw (← c.self.view_is, now.bytes, now.places, now.sent, there.place, there.place_stays, ← there.parcel) (record {
      frees = (there.stands, free, c.free.ensures.faults, refl);
      asks = (c.free.ensures.calls, refl);
    })
