use Rattle.std.proofs.Common.{◌∙◌, map, ap}
use Rattle.object_store.specs.Bodies.{bytes_in, place_in}
use Rattle.object_store.specs.Parts.{AllHere, bodies_of}
use Rattle.object_store.proofs.Apart.{all_here, few_bodies}
use Rattle.object_store.proofs.stores.ObjectStore.into_parts.Goals as goal

pub returns-clause-bodies : goal.returns-clause-bodies
returns-clause-bodies g c =
    let none : AllHere (map place_in c.as_slice.result.now) = c.first_away.ensures.none c.in_default.is in
    let here : AllHere (map place_in c.self.inside.bodies.items) = rw c.as_slice.ensures.value at none in
    rw (← c.self.view_is) (c.from_one.ensures ∙ ap bodies_of (c.in_ok-taken.ensures.bytes (all_here c.self.inside.bodies.items here)))

pub returns-clause-few : goal.returns-clause-few
returns-clause-few g c =
    let none : AllHere (map place_in c.as_slice.result.now) = c.first_away.ensures.none c.in_default.is in
    let here : AllHere (map place_in c.self.inside.bodies.items) = rw c.as_slice.ensures.value at none in
    let same = c.from_one.ensures ∙ ap bodies_of (c.in_ok-taken.ensures.bytes (all_here c.self.inside.bodies.items here)) in
    few_bodies c.from_one.result.items (map bytes_in c.self.inside.bodies.items) same c.self.invariant.0.objects.limit
