use Rattle.std.proofs.Common.{arith}
use Rattle.object_store.proofs.Apart.{front_here, last_here, forgotten_too, bytes_too}
use Rattle.object_store.proofs.parts.take_all.Goals as goal

pub loop-body-preserved : goal.loop-body-preserved
loop-body-preserved g c =
    let i = c.loop-body.invariant in
    let s = rw c.in-Some.is at c.next.ensures.steps in
    record {
      bytes = λ h. rw c.push_reserved.ensures.items
          (bytes_too c.loop-body.taken.items c.loop-body.yielded c.into_bytes.result c.in-Some.body
          (i.bytes (front_here c.loop-body.yielded c.in-Some.body h)) (c.into_bytes.ensures.bytes (last_here c.loop-body.yielded c.in-Some.body h)));
      calls = forgotten_too g.F.FarStore.called c.args.store.now c.loop-body.store c.into_bytes.new.store c.loop-body.yielded c.in-Some.body
          i.calls c.into_bytes.ensures.calls;
      faults = omega (arith, i.faults, c.into_bytes.ensures.faults);
      room = omega (arith, s.1);
    }
