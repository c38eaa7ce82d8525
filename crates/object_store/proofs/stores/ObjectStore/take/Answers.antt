use Rattle.std.proofs.Common.{map, refl, ap, ◌∙◌, arith}
use Rattle.object_store.specs.Stores.{StoreWithin}
use Rattle.object_store.specs.Bodies.{bytes_in, place_in, sent_in}
use Rattle.object_store.proofs.Found.{found, seen, put_back}
use Rattle.object_store.proofs.Leasing.{is_out, seen_again}
use Rattle.object_store.proofs.stores.ObjectStore.take.Goals as goal

pub take-taken-requires : goal.take-taken-requires
take-taken-requires g c =
    let there = found c.self.inside.bodies c.index-bodies-index.result c.self.invariant c.self.view_is refl c.requires c.as_mut_slice-bodies.ensures.value c.as_mut_slice-bodies.ensures.len in
    record { here = there.place }

pub overflow_add-self : goal.overflow_add-self
overflow_add-self g c =
    let there = found c.self.inside.bodies c.index-bodies-index.result c.self.invariant c.self.view_is refl c.requires c.as_mut_slice-bodies.ensures.value c.as_mut_slice-bodies.ensures.len in
    omega (arith, there.size, there.fits, c.length-gained.ensures.length, c.self.invariant.0.budget_is)

pub invariant_of-self : goal.invariant_of-self
invariant_of-self g c =
    let there = found c.self.inside.bodies c.index-bodies-index.result c.self.invariant c.self.view_is refl c.requires c.as_mut_slice-bodies.ensures.value c.as_mut_slice-bodies.ensures.len in
    put_back c.self.invariant there c.take-taken.ensures.left refl (omega arith) (omega (arith, there.size, c.length-gained.ensures.length))

pub returns-clause-without : goal.returns-clause-without
returns-clause-without g c =
    let there = found c.self.inside.bodies c.index-bodies-index.result c.self.invariant c.self.view_is refl c.requires c.as_mut_slice-bodies.ensures.value c.as_mut_slice-bodies.ensures.len in
    let now = seen there c.take-taken.ensures.left in
    rw (← c.self.view_is, now.bytes, now.places, now.sent, there.place_stays) refl

pub returns-clause-seen : goal.returns-clause-seen
returns-clause-seen g c =
    let there = found c.self.inside.bodies c.index-bodies-index.result c.self.invariant c.self.view_is refl c.requires c.as_mut_slice-bodies.ensures.value c.as_mut_slice-bodies.ensures.len in
    let now = seen there c.take-taken.ensures.left in
    let old : StoreWithin _ = record {
      state = record {
        objects = map bytes_in c.self.inside.bodies.items;
        places = map place_in c.self.inside.bodies.items;
        windows = c.self.inside.windows;
        budget = c.self.inside.budget;
        faults = g.F.FarStore.faults_of c.self.inside.store;
      };
      far = c.self.inside.store;
      sent = map sent_in c.self.inside.bodies.items;
    } in
    rw (← c.self.view_is, now.bytes, now.places, now.sent, there.place_stays)
    (seen_again old c.args.number c.take-taken.result (ap bytes_in c.take-taken.ensures.taken ∙ there.bytes) (ap sent_in c.take-taken.ensures.taken ∙ there.sent))

pub returns-clause-out : goal.returns-clause-out
returns-clause-out g c =
    let there = found c.self.inside.bodies c.index-bodies-index.result c.self.invariant c.self.view_is refl c.requires c.as_mut_slice-bodies.ensures.value c.as_mut_slice-bodies.ensures.len in
    let now = seen there c.take-taken.ensures.left in
    rw (now.bytes, now.places, now.sent, there.place_stays)
    (is_out c.self.inside.bodies.items c.self.inside.windows _ _ _ _ c.args.number c.take-taken.result c.self.invariant.0 there.inside there.stands.0
    there.stands.1 (ap bytes_in c.take-taken.ensures.taken ∙ there.bytes) (ap place_in c.take-taken.ensures.taken ∙ there.place))
