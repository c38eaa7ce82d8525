use Rattle.std.proofs.Common.{refl, ◌∙◌, arith}
use Rattle.object_store.proofs.Found.{found, seen, put_back}
use Rattle.placement.specs.declared.places.Place.TheVariants.{Far}
use Rattle.object_store.proofs.stores.ObjectStore.left_into.Goals as goal

pub end_leave_into-requires : goal.end_leave_into-requires
end_leave_into-requires g c =
    let there = found c.self.inside.bodies c.index-bodies-index.result c.self.invariant c.self.view_is c.in-Some-Leaving.field-0-is c.in-Some-Leaving.ensures.some
    c.as_mut_slice-bodies.ensures.value c.as_mut_slice-bodies.ensures.len in
    record { leaving = there.place; live = there.live; count = c.requires.count ∙ there.size }

pub overflow_add-self : goal.overflow_add-self
overflow_add-self g c = let there = found c.self.inside.bodies c.index-bodies-index.result c.self.invariant c.self.view_is c.in-Some-Leaving.field-0-is c.in-Some-Leaving.ensures.some
    c.as_mut_slice-bodies.ensures.value c.as_mut_slice-bodies.ensures.len in
    omega (arith, there.size, there.fits, c.length-gained.ensures.length, c.self.invariant.0.budget_is)

pub invariant_of-self : goal.invariant_of-self
invariant_of-self g c =
    let there = found c.self.inside.bodies c.index-bodies-index.result c.self.invariant c.self.view_is c.in-Some-Leaving.field-0-is c.in-Some-Leaving.ensures.some
    c.as_mut_slice-bodies.ensures.value c.as_mut_slice-bodies.ensures.len in
    put_back c.self.invariant there c.end_leave_into.ensures.done refl there.short (omega (arith, there.size, c.length-gained.ensures.length))

pub returns-in-Some-Leaving : goal.returns-in-Some-Leaving
returns-in-Some-Leaving g c =
    let there = found c.self.inside.bodies c.index-bodies-index.result c.self.invariant c.self.view_is c.in-Some-Leaving.field-0-is c.in-Some-Leaving.ensures.some
    c.as_mut_slice-bodies.ensures.value c.as_mut_slice-bodies.ensures.len in
    let now = seen there c.end_leave_into.ensures.done in
    rw (← c.self.view_is, now.bytes, now.places, now.sent, there.bytes_stay, ← there.parcel, ← there.clean, ← there.bytes) (record {
      ends = ((there.live, there.stands.1), c.end_leave_into.ensures.faults, refl);
      asks = (c.end_leave_into.ensures.puts, refl);
      bytes = λ h. c.end_leave_into.ensures.into;
      kept = λ h. absurd (h refl);
      far = λ h. (there.live, there.stands_at Far);
      never = λ f h. cc;
    })
