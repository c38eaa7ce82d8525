use Rattle.std.proofs.Common.{refl, arith}
use Rattle.object_store.proofs.Found.{found, seen, put_back}
use Rattle.object_store.proofs.stores.ObjectStore.forget.Goals as goal

pub free_far-requires : goal.free_far-requires
free_far-requires g c = record {
  far = (found c.self.inside.bodies c.index-bodies-index.result c.self.invariant c.self.view_is c.in-Some-Far.field-0-is c.in-Some-Far.ensures.some
      c.as_mut_slice-bodies.ensures.value c.as_mut_slice-bodies.ensures.len).place;
}

pub invariant_of-self : goal.invariant_of-self
invariant_of-self g c =
    let there = found c.self.inside.bodies c.index-bodies-index.result c.self.invariant c.self.view_is c.in-Some-Far.field-0-is c.in-Some-Far.ensures.some
    c.as_mut_slice-bodies.ensures.value c.as_mut_slice-bodies.ensures.len in
    put_back c.self.invariant there c.free_far.ensures.new refl (omega arith) refl

pub returns-in-Some-Far : goal.returns-in-Some-Far
returns-in-Some-Far g c =
    let there = found c.self.inside.bodies c.index-bodies-index.result c.self.invariant c.self.view_is c.in-Some-Far.field-0-is c.in-Some-Far.ensures.some
    c.as_mut_slice-bodies.ensures.value c.as_mut_slice-bodies.ensures.len in
    let now = seen there c.free_far.ensures.new in
    rw (← c.self.view_is, now.bytes, now.places, now.sent, ← there.parcel) (record {
      frees = (there.stands, c.free_far.ensures.faults, refl);
      asks = (c.free_far.ensures.calls, refl);
    })
