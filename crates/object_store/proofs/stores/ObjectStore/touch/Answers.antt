use Rattle.std.proofs.Common.{refl, arith}
use Rattle.memory.proofs.Lengths.{length-after}
use Rattle.object_store.proofs.Found.{found_for, put_there, seen_held, back_held}
use Rattle.object_store.proofs.stores.ObjectStore.touch.Goals as goal

pub note-requires-clause-counts : goal.note-requires-clause-counts
note-requires-clause-counts g c =
    let there = found_for c.self.inside.bodies c.index-bodies-index.result c.args.op.now c.self.invariant c.self.view_is
    (rw c.as_slice.ensures.value at c.in-Ok.ensures.stands) c.as_mut_slice-bodies.ensures.value c.as_mut_slice-bodies.ensures.len in
    let long = length-after c.args.op.now _ there.0 in
    let old = put_there {left = c.self.inside.spare} c.self.invariant there.1 c.act-answer.ensures.new refl (rw long there.1.short)
    (rw there.1.place (omega (arith, long))) in
    old.counts

pub invariant_of-self : goal.invariant_of-self
invariant_of-self g c =
    let there = found_for c.self.inside.bodies c.index-bodies-index.result c.args.op.now c.self.invariant c.self.view_is
    (rw c.as_slice.ensures.value at c.in-Ok.ensures.stands) c.as_mut_slice-bodies.ensures.value c.as_mut_slice-bodies.ensures.len in
    let long = length-after c.args.op.now _ there.0 in
    let old = put_there {left = c.self.inside.spare} c.self.invariant there.1 c.act-answer.ensures.new refl (rw long there.1.short)
    (rw there.1.place (omega (arith, long))) in
    back_held c.self.invariant there.1 (record {
      long = c.note.auto.bodies;
      bytes = c.note.ensures.bytes;
      places = c.note.ensures.places;
      sent = c.note.ensures.sent;
    }) old c.note.ensures.counts (omega (arith, c.note.auto.windows, c.self.invariant.0.windows_are))

pub returns-in-Ok : goal.returns-in-Ok
returns-in-Ok g c =
    let there = found_for c.self.inside.bodies c.index-bodies-index.result c.args.op.now c.self.invariant c.self.view_is
    (rw c.as_slice.ensures.value at c.in-Ok.ensures.stands) c.as_mut_slice-bodies.ensures.value c.as_mut_slice-bodies.ensures.len in
    let now = seen_held there.1 c.act-answer.ensures.new (record {
      long = c.note.auto.bodies;
      bytes = c.note.ensures.bytes;
      places = c.note.ensures.places;
      sent = c.note.ensures.sent;
    }) in
    rw (
      ← c.self.view_is,
      now.bytes,
      now.places,
      now.sent,
      c.note.ensures.windows,
      there.1.place,
      there.1.place_stays,
      ← there.1.parcel,
      ← there.1.clean,
      ← there.1.bytes,
    ) (record {
      touches = (there.0, there.1.stands.1, c.act-answer.ensures.answer, refl);
      far = refl;
      sent = refl;
    })
