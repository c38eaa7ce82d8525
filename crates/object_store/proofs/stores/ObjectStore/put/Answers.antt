use Rattle.std.proofs.Common.{length, refl, arith}
use Rattle.memory.proofs.Lengths.{length-replaced}
use Rattle.object_store.proofs.Found.{found_in, seen, put_back}
use Rattle.object_store.proofs.stores.ObjectStore.put.Goals as goal

pub write-requires : goal.write-requires
write-requires g c =
    let there = found_in c.self.inside.bodies c.index-bodies-index.result c.args.offset (length c.args.bytes.now) c.self.invariant c.self.view_is
    (rw c.as_slice.ensures.value at c.in_ok-stand_range.ensures.stands) c.as_mut_slice-bodies.ensures.value c.as_mut_slice-bodies.ensures.len in
    record { here = there.1.place; inside = there.0 }

pub invariant_of-self : goal.invariant_of-self
invariant_of-self g c =
    let there = found_in c.self.inside.bodies c.index-bodies-index.result c.args.offset (length c.args.bytes.now) c.self.invariant c.self.view_is
    (rw c.as_slice.ensures.value at c.in_ok-stand_range.ensures.stands) c.as_mut_slice-bodies.ensures.value c.as_mut_slice-bodies.ensures.len in
    let long = length-replaced c.args.offset c.args.bytes.now _ there.0 in
    put_back c.self.invariant there.1 c.write.ensures refl (rw long there.1.short) (rw there.1.place (omega (arith, long)))

pub returns : goal.returns
returns g c =
    let there = found_in c.self.inside.bodies c.index-bodies-index.result c.args.offset (length c.args.bytes.now) c.self.invariant c.self.view_is
    (rw c.as_slice.ensures.value at c.in_ok-stand_range.ensures.stands) c.as_mut_slice-bodies.ensures.value c.as_mut_slice-bodies.ensures.len in
    let now = seen there.1 c.write.ensures in
    rw (← c.self.view_is, now.bytes, now.places, now.sent, there.1.place, there.1.place_stays, ← there.1.parcel, ← there.1.bytes) (record {
      puts = ((there.1.live, there.0), there.1.stands.1, refl);
      far = refl;
      sent = refl;
      same = tt;
    })
