use Rattle.std.proofs.Common.{◌≡◌, ◌≤◌, nat_eq, not, length, take}
use Rattle.std.specs.List.{filter}
use Rattle.debugger.proofs.debugger.slots_but.Given as goal

abbrev pub invariant-loop-s : goal.invariant-loop-s
invariant-loop-s l = record {
  kept : l.kept.items ≡ filter (λ other. not (nat_eq l.slot other)) (take l.s-index l.slots);
  room : length l.kept.items ≤ l.s-index;
}
