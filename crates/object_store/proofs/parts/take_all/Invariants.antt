use Rattle.std.proofs.Common.{◌≡◌, ◌+◌, ◌≤◌, map, vec_len, vec_capacity}
use Rattle.far_store.specs.Calls.{Calls}
use Rattle.object_store.specs.Bodies.{bytes_in, sent_in}
use Rattle.object_store.specs.Parts.{AreHere, forgets_all}
use Rattle.object_store.proofs.parts.take_all.Given as goal

abbrev pub invariant-loop-body : goal.invariant-loop-body
invariant-loop-body g l = record {
  bytes : AreHere l.yielded → map (λ b. b.items) l.taken.items ≡ map bytes_in l.yielded;
  calls : Calls g.F.FarStore.called l.fn.store (forgets_all (map sent_in l.yielded)) l.store;
  faults : g.F.FarStore.faults_of l.fn.store ≤ g.F.FarStore.faults_of l.store;
  room : vec_len l.taken + (goal.iterator-loop-body g).remaining l.body-iterator ≤ vec_capacity l.taken;
}
