use Rattle.std.proofs.Common.{◌≡◌, refl, arith}
use Rattle.object_store.proofs.Found.{found, seen, put_back}
use Rattle.object_store.proofs.stores.ObjectStore.returned_from.Goals as goal

pub end_return_from-requires : goal.end_return_from-requires
end_return_from-requires g c =
    let there = found c.self.inside.bodies c.index-bodies-index.result c.self.invariant c.self.view_is c.in-Some-Returning.field-0-is c.in-Some-Returning.ensures.some
    c.as_mut_slice-bodies.ensures.value c.as_mut_slice-bodies.ensures.len in
    record { returning = there.place; live = there.live; premise = rw there.same at c.requires.premise }

pub overflow_add-self : goal.overflow_add-self
overflow_add-self g c = let there = found c.self.inside.bodies c.index-bodies-index.result c.self.invariant c.self.view_is c.in-Some-Returning.field-0-is c.in-Some-Returning.ensures.some
    c.as_mut_slice-bodies.ensures.value c.as_mut_slice-bodies.ensures.len in
    omega (arith, there.size, there.fits, c.length-length.ensures.length, c.self.invariant.0.budget_is)

pub invariant_of-self : goal.invariant_of-self
invariant_of-self g c =
    let there = found c.self.inside.bodies c.index-bodies-index.result c.self.invariant c.self.view_is c.in-Some-Returning.field-0-is c.in-Some-Returning.ensures.some
    c.as_mut_slice-bodies.ensures.value c.as_mut_slice-bodies.ensures.len in
    put_back c.self.invariant there c.in-Ok.ensures.done refl there.short refl

pub invariant_of-self-in-Err : goal.invariant_of-self-in-Err
invariant_of-self-in-Err g c =
    let there = found c.self.inside.bodies c.index-bodies-index.result c.self.invariant c.self.view_is c.in-Some-Returning.field-0-is c.in-Some-Returning.ensures.some
    c.as_mut_slice-bodies.ensures.value c.as_mut_slice-bodies.ensures.len in
    put_back c.self.invariant there c.in-Err.ensures.failed refl there.short (omega (arith, there.size, c.length-length.ensures.length))

pub returns-in-Ok : goal.returns-in-Ok
returns-in-Ok g c =
    let there = found c.self.inside.bodies c.index-bodies-index.result c.self.invariant c.self.view_is c.in-Some-Returning.field-0-is c.in-Some-Returning.ensures.some
    c.as_mut_slice-bodies.ensures.value c.as_mut_slice-bodies.ensures.len in
    let now = seen there c.in-Ok.ensures.done in
    rw (← c.self.view_is, now.bytes, now.places, now.sent, there.bytes_stay, ← there.parcel, ← there.bytes, c.in-Ok.ensures.calm) (record {
      ends = ((there.live, there.stands.1), refl);
      asks = (rw c.in-Ok.ensures.done at c.in-Ok.ensures.gets, refl);
      given = λ h. c.in-Ok.ensures.given;
      damaged = λ h. absurd (cc);
      others = λ f h. absurd (cc);
    })

pub returns-in-Err : goal.returns-in-Err
returns-in-Err g c =
    let there = found c.self.inside.bodies c.index-bodies-index.result c.self.invariant c.self.view_is c.in-Some-Returning.field-0-is c.in-Some-Returning.ensures.some
    c.as_mut_slice-bodies.ensures.value c.as_mut_slice-bodies.ensures.len in
    let now = seen there c.in-Err.ensures.failed in
    rw (← c.self.view_is, now.bytes, now.places, now.sent, there.bytes_stay, there.sent_stays, ← there.parcel, ← there.bytes) (record {
      ends = ((there.live, there.stands.1), c.in-Err.ensures.fault, refl);
      asks = (c.in-Err.ensures.vain, refl);
      given = λ h. absurd (cc);
      damaged = λ h. c.in-Err.ensures.damaged (cc);
      others = λ f h. let is : f ≡ c.in-Err.fault = cc in rw is c.in-Err.ensures.others;
    })
