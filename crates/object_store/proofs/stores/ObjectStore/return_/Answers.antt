use Rattle.std.proofs.Common.{refl, arith}
use Rattle.object_store.proofs.Found.{found, seen, put_back}
use Rattle.object_store.proofs.stores.ObjectStore.return_.Goals as goal

pub begin_return-requires : goal.begin_return-requires
begin_return-requires g c = record {
  far = (found c.self.inside.bodies c.index-bodies-index.result c.self.invariant c.self.view_is c.in-Some-Far.field-0-is c.in-Some-Far.ensures.some
      c.as_mut_slice-bodies.ensures.value c.as_mut_slice-bodies.ensures.len).place;
}

pub invariant_of-self : goal.invariant_of-self
invariant_of-self g c =
    let there = found c.self.inside.bodies c.index-bodies-index.result c.self.invariant c.self.view_is c.in-Some-Far.field-0-is c.in-Some-Far.ensures.some
    c.as_mut_slice-bodies.ensures.value c.as_mut_slice-bodies.ensures.len in
    put_back c.self.invariant there c.begin_return.ensures refl there.short (omega (arith, there.size, c.length-needed.ensures.length))

pub returns-else-needed-self : goal.returns-else-needed-self
returns-else-needed-self g c =
    let there = found c.self.inside.bodies c.index-bodies-index.result c.self.invariant c.self.view_is c.in-Some-Far.field-0-is c.in-Some-Far.ensures.some
    c.as_mut_slice-bodies.ensures.value c.as_mut_slice-bodies.ensures.len in
    let now = seen there c.begin_return.ensures in
    rw (← c.self.view_is, now.bytes, now.places, now.sent, there.bytes_stay, there.sent_stays, ← there.bytes) (record {
      begins = ((there.live, there.stands.1), omega (arith, there.size, c.length-needed.ensures.length, c.self.invariant.0.budget_is), refl);
      asks = record { far = refl; sent = refl };
    })
