use Rattle.std.proofs.Common.{◌≡◌, ℕ, map, length}
use Rattle.std.specs.Prelude.{vec_capacity}
use Rattle.shared_objects.specs.Rule.{times}
use Rattle.shared_objects.specs.Phases.{place_in}
use Rattle.shared_objects.proofs.moving.bring.Given as goal

abbrev pub invariant-loop-seat : goal.invariant-loop-seat
invariant-loop-seat l = (l.order.items ≡ map (λ p. p.0) l.seat.me.1) × ((m : ℕ) → times m l.order.items ≡ times m l.fn.order.items)
    × (l.seat.table_id ≡ l.fn.seat.table_id) × (l.seat.me.0 ≡ l.fn.seat.me.0) × (length l.order.items ≡ length l.fn.order.items)
    × (vec_capacity l.order ≡ vec_capacity l.fn.order)

abbrev pub decreases-loop-seat : goal.decreases-loop-seat
decreases-loop-seat l = place_in l.n l.order.items
