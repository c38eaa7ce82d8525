use Rattle.std.proofs.Common.{◌≤◌, ◌-◌, length}
use Rattle.test_devices.proofs.made.objects.Given as goal

abbrev pub invariant-objects : goal.invariant-objects
invariant-objects l = length l.bodies.items ≤ l.fn.count

abbrev pub decreases-objects : goal.decreases-objects
decreases-objects l = l.fn.count - length l.bodies.items
