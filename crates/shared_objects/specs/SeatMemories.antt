-- A seat of an actor as the memory of a machine.
use Rattle.std.specs.Prelude.{◌≡◌, ℕ, length, map}
use Rattle.memory.specs.declared.deeds.Entry.{Entry as OwnEntry}
use Rattle.memory.specs.Memories.{Memories, OwnEntries}
use Rattle.memory.specs.Objects.{bytes_of}
use Rattle.shared_objects.specs.History.{Has}
use Rattle.shared_objects.specs.Kinds.{shut}
use Rattle.shared_objects.specs.Touches.{Touches}
use Rattle.shared_objects.specs.declared.view.SharedEntry.{SharedEntry}
use Rattle.shared_objects.specs.declared.view.Mark.TheVariants.{Worn}
use Rattle.shared_objects.specs.declared.view.View.{View}

-- an entry as its actor alone knows it: object, deed and what was given
abbrev pub own_entry : SharedEntry → OwnEntry
own_entry e = record { number = e.object; deed = e.deed; given = e.given }

-- What has a seat lent to it, as a memory: what its machine does is done by the seat, and the loan and its table stay. What is
-- known of the objects are the seat's own entries; an object is worn where the seat has that mark.
abbrev pub seat_memory : {M S : Type 0} → (M → View) → (M → ℕ) → (M → ℕ) → (M → S) → Memories M
seat_memory {M} {S} view stamp loan table = record {
  reaches = λ m n op r w. Touches (view m) (stamp m) n op r (view w) (stamp w) × (loan w ≡ loan m) × (table w ≡ table m);
  closes = λ m w. (view w ≡ shut (view m)) × (stamp w ≡ stamp m) × (loan w ≡ loan m) × (table w ≡ table m);
  length_of = λ m n. length (bytes_of (view m).opening n);
  knows = λ m. OwnEntries (map own_entry (view m).entries);
  is_worn = λ m n. (found : ℕ) × Has (view m).marks (Worn n found);
}
