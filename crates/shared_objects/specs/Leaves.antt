-- What a try to take a body does: the mover's view before, the object, the answer, and the view after.
use Rattle.std.specs.Prelude.{◌≡◌, ℕ, length}
use Rattle.memory.specs.Objects.{bytes_of}
use Rattle.shared_objects.specs.Rule.{place_of}
use Rattle.shared_objects.specs.Kinds.{placed}
use Rattle.shared_objects.specs.Phases.{IsObject}
use Rattle.shared_objects.specs.declared.view.View.{View}
use Rattle.shared_objects.specs.declared.view.Whereabouts.TheVariants.{Here, Moving}
use Rattle.shared_objects.specs.declared.moving.Leave.{Leave}
use Rattle.shared_objects.specs.declared.moving.Leave.TheVariants as leave

-- taken: it was here, and is on its way with these bytes, which are as long as the opening ones; else nothing changed
abbrev pub Leaves : View → ℕ → Leave → View → Type 0
Leaves v n (leave.Taken bytes) w = IsObject v.opening n × (place_of v n ≡ Here) × (w ≡ placed n (Moving bytes.items) v)
    × (length bytes.items ≡ length (bytes_of v.opening n))
Leaves v n leave.Held w = IsObject v.opening n × (w ≡ v)
Leaves v n leave.NoObject w = (IsObject v.opening n → ⊥) × (w ≡ v)
