-- Objects that are far, and whose bytes the caller keeps.
use Rattle.std.specs.Prelude.{◌≡◌, ℕ, ◌≤◌, []}
use Rattle.memory.specs.Objects.{with_bytes}
use Rattle.placement.specs.declared.places.Place.TheVariants.{Here, Far}
use Rattle.placement.specs.declared.places.Moved.{Moved}
use Rattle.placement.specs.declared.places.Moved.TheVariants.{Done}
use Rattle.object_store.specs.Stores.{StoreState, StandsAt, with_place}
use Rattle.object_store.specs.Calls.{RefusesMove}

-- Freeing an object that is far: no bytes are left of it, and its place in the list stays. The far store may be told to forget
-- it, and may fail at that.
abbrev pub FreesFar : StoreState → ℕ → Moved → StoreState → Type 0
FreesFar old n Done new = StandsAt Far old n × (old.faults ≤ new.faults)
    × (new ≡ record (with_place old n Here) { objects = with_bytes old.objects n []; faults = new.faults })
FreesFar old n m new = RefusesMove Far old n m new
