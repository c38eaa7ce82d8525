use Rattle.std.proofs.Common.{◌≡◌, ℕ, ◌-◌, ◌<◌, ◌≤◌, false, get_or, take}
use Rattle.std.specs.Prelude.{vec_capacity}
use Rattle.std.specs.Mem.Slots.{slots_items, slots_filled, slots_len}
use Rattle.std.specs.Mem.Slots.Ownership.{Filled}
use Rattle.shared_objects.specs.Ends.{all_shown}
use Rattle.shared_objects.proofs.closing.emptied.Given as goal

abbrev pub invariant-loop-i : goal.invariant-loop-i
invariant-loop-i l = Filled (slots_filled l.closed.slots) l.i (slots_len l.closed.slots)
    × ((k : ℕ) → k < l.i → get_or (slots_filled l.closed.slots) k false ≡ false)
    × (slots_items l.closed.slots ≡ slots_items l.fn.closed.slots) × (slots_len l.closed.slots ≡ slots_len l.fn.closed.slots)
    × (l.ended.items ≡ all_shown (take l.i l.phases) (take l.i (slots_items l.closed.slots))) × (l.i ≤ slots_len l.closed.slots)
    × (slots_len l.closed.slots ≤ vec_capacity l.ended)

abbrev pub decreases-loop-i : goal.decreases-loop-i
decreases-loop-i l = slots_len l.closed.slots - l.i
