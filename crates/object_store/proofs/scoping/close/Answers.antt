use Rattle.std.proofs.Common.{◌∙◌, [], sym, arith, length-set}
use Rattle.std.proofs.lemmas.List.{get_or_default, get_or-set_same, set-set}
use Rattle.object_store.proofs.Counting.{below_counts, taken_counted, counts_taken}
use Rattle.object_store.proofs.scoping.close.Goals as goal

pub end_scope-requires : goal.end_scope-requires
end_scope-requires g c =
    let i = c.loop-number.invariant in
    let old = sym (get_or_default c.loop-number.windows c.args.who c.index-windows-who.result [] i.machine) ∙ rw c.in-Some.is at c.pop.ensures.some in
    let held = taken_counted _ _ _ _ c.pop.new.self i.counts i.machine old in
    record { object = below_counts c.loop-number.bodies c.in-Some.number held; held = held }

pub loop-number-preserved : goal.loop-number-preserved
loop-number-preserved g c =
    let i = c.loop-number.invariant in
    let some = rw c.in-Some.is at c.pop.ensures.some in
    let old = sym (get_or_default c.loop-number.windows c.args.who c.index-windows-who.result [] i.machine) ∙ some in
    let now = get_or-set_same c.loop-number.windows c.args.who c.pop.new.self [] i.machine in
    let window = rw some at c.pop.ensures.window in
    record {
      machine = omega (arith, length-set c.loop-number.windows c.args.who c.pop.new.self);
      counts = rw c.end_scope.ensures.counts (counts_taken _ _ _ _ _ i.counts i.machine old window.distinct);
      windows = rw now (rw i.windows (set-set c.args.windows.now c.args.who _ c.pop.new.self));
      bytes = c.end_scope.ensures.bytes ∙ i.bytes;
      places = c.end_scope.ensures.places ∙ i.places;
      sent = c.end_scope.ensures.sent ∙ i.sent;
    }
