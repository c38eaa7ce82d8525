use Rattle.std.proofs.Common.{refl}
use Rattle.object_store.proofs.Found.{alone, found, seen, put_back}
use Rattle.object_store.proofs.stores.ObjectStore.leave.Goals as goal

pub begin_leave-requires : goal.begin_leave-requires
begin_leave-requires g c =
    let there = found c.self.inside.bodies c.index-bodies-index.result c.self.invariant c.self.view_is c.in-Some-Here.field-0-is c.in-Some-Here.ensures.some
    c.as_mut_slice-bodies.ensures.value c.as_mut_slice-bodies.ensures.len in
    record { here = there.place; alone = alone c.self.invariant c.self.view_is there (c.is_scoped.ensures.free c.if-is_scoped.false) }

pub invariant_of-self : goal.invariant_of-self
invariant_of-self g c =
    let there = found c.self.inside.bodies c.index-bodies-index.result c.self.invariant c.self.view_is c.in-Some-Here.field-0-is c.in-Some-Here.ensures.some
    c.as_mut_slice-bodies.ensures.value c.as_mut_slice-bodies.ensures.len in
    put_back c.self.invariant there c.begin_leave.ensures refl there.short refl

pub returns-else-is_scoped : goal.returns-else-is_scoped
returns-else-is_scoped g c =
    let there = found c.self.inside.bodies c.index-bodies-index.result c.self.invariant c.self.view_is c.in-Some-Here.field-0-is c.in-Some-Here.ensures.some
    c.as_mut_slice-bodies.ensures.value c.as_mut_slice-bodies.ensures.len in
    let now = seen there c.begin_leave.ensures in
    let free = rw (← c.self.view_is) at (c.is_scoped.ensures.free c.if-is_scoped.false) in
    rw (← c.self.view_is, now.bytes, now.places, now.sent, there.bytes_stay, there.sent_stays)
    (record { begins = (there.stands, free, refl); asks = record { far = refl; sent = refl } })
