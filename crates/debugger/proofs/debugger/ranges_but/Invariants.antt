use Rattle.std.proofs.Common.{◌≡◌, ◌≤◌, not, length, take}
use Rattle.std.specs.List.{filter}
use Rattle.debugger.specs.DebugState.{is_same_watch}
use Rattle.debugger.proofs.debugger.ranges_but.Given as goal

abbrev pub invariant-loop-w : goal.invariant-loop-w
invariant-loop-w l = record {
  kept : l.kept.items ≡ filter (λ other. not (is_same_watch l.watch other)) (take l.w-index l.watches);
  room : length l.kept.items ≤ l.w-index;
}
