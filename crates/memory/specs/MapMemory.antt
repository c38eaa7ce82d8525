-- The map of objects as a memory.
use Rattle.std.specs.Prelude.{◌≡◌, ℕ, List, length}
use Rattle.memory.specs.declared.access.Op.{Op}
use Rattle.memory.specs.declared.access.Reach.{Reach}
use Rattle.memory.specs.declared.access.Reach.TheVariants.{Done, Outside}
use Rattle.memory.specs.Access.{answer, after}
use Rattle.memory.specs.Objects.{Reaches, bytes_of, with_bytes}
use Rattle.memory.specs.Memories.Known.{AllBytes}
use Rattle.memory.specs.Memories.{Memories}

-- One access to the objects. It is done, or it isn't inside and changes nothing.
abbrev pub map_reaches : List (List ℕ) → ℕ → Op → Reach → List (List ℕ) → Type 0
map_reaches old n op Outside new = (Reaches old n op → ⊥) × (new ≡ old)
map_reaches old n op (Done x) new = Reaches old n op × (x ≡ answer op (bytes_of old n)) × (new ≡ with_bytes old n (after op (bytes_of old n)))
map_reaches old n op _ new = ⊥

-- the objects as a memory: it has no scopes, and nothing is worn
abbrev pub map_memory : Memories (List (List ℕ))
map_memory = record {
  reaches = map_reaches;
  closes = λ old new. new ≡ old;
  length_of = λ objects n. length (bytes_of objects n);
  knows = λ objects. AllBytes objects;
  is_worn = λ objects n. ⊥;
}
