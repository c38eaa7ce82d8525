-- One object as a memory: what an access does to it, by its bytes alone, and that it keeps the promises of memories.
use Rattle.std.proofs.Common.{◌≡◌, ℕ, List, [], ◌∷◌, length, refl, ap, sym, subst}
use Rattle.memory.specs.declared.access.Op.{Op}
use Rattle.memory.specs.declared.access.Reach.{Reach}
use Rattle.memory.specs.declared.access.Reach.TheVariants.{Done, Away, Busy, Outside, Worn}
use Rattle.memory.specs.Access.{IsInside, answer, after}
use Rattle.memory.specs.Objects.{Reaches, DoesAll, bytes_of}
use Rattle.memory.specs.Memories.Known.{AllBytes}
use Rattle.memory.specs.Memories.{Memories, Promises, KeepsPromises, entries_added}
use Rattle.memory.specs.MapMemory.{map_reaches}
use Rattle.memory.proofs.Accesses.{lengths}
use Rattle.memory.proofs.Promised.{map_adds}

-- the objects: that of number 1
abbrev pub objects_of : List ℕ → List (List ℕ)
objects_of bytes = [] ∷ bytes ∷ []

-- One access. It is done to the object, or it isn't inside and changes nothing.
abbrev pub single_reaches : List ℕ → ℕ → Op → Reach → List ℕ → Type 0
single_reaches old n op Outside new = (Reaches (objects_of old) n op → ⊥) × (new ≡ old)
single_reaches old n op (Done x) new = (n ≡ 1) × IsInside op (length old) × (x ≡ answer op old) × (new ≡ after op old)
single_reaches old n op _ new = ⊥

-- the object as a memory, all of whose bytes are known
abbrev pub single_memory : Memories (List ℕ)
single_memory = record {
  reaches = single_reaches;
  closes = λ old new. new ≡ old;
  length_of = λ bytes n. length (bytes_of (objects_of bytes) n);
  knows = λ bytes. AllBytes (objects_of bytes);
  is_worn = λ bytes n. ⊥;
}

-- an access that is done is one to the map of the object
done : (old new : List ℕ) (n : ℕ) (op : Op) (x : ℕ) → single_reaches old n op (Done x) new → map_reaches (objects_of old) n op (Done x) (objects_of new)
done old new n op x h = subst (λ k. map_reaches (objects_of old) k op (Done x) (objects_of new)) (sym h.0) (h.1, h.2, ap objects_of h.3)

-- what holds of each answer of an access
each_reach : (P : Reach → Type 0) → ((x : ℕ) → P (Done x)) → P Outside → P Away → P Busy → P Worn → (r : Reach) → P r
each_reach P d o a b w (Done x) = d x
each_reach P d o a b w Outside = o
each_reach P d o a b w Away = a
each_reach P d o a b w Busy = b
each_reach P d o a b w Worn = w

-- So it keeps all promises: an access that is done is one to the map, and any other does nothing. One declaration, in
-- which a definition that lets an access outside change the object is refused.
pub single_promises : KeepsPromises single_memory
single_promises = record {
  answers = λ old new n op r. each_reach (λ r. single_reaches old n op r new → Promises (single_memory.length_of old n) op r ⊥)
      (λ x h. let k = done old new n op x h in (k.0, (bytes_of (objects_of old) n, refl, k.1)))
      (λ h. h.0) (λ h. absurd h) (λ h. absurd h) (λ h. absurd h) r;
  reaches = λ old new n op r h. record {
    adds = each_reach (λ r. single_reaches old n op r new → DoesAll (objects_of old) (entries_added n op r) (objects_of new))
        (λ x d. map_adds (objects_of old) (objects_of new) n op (Done x) (done old new n op x d))
        (λ o. ap objects_of o.1) (λ a. absurd a) (λ b. absurd b) (λ w. absurd w) r h;
    lengths = λ k. each_reach (λ r. single_reaches old n op r new → single_memory.length_of new k ≡ single_memory.length_of old k)
        (λ x d. lengths (objects_of old) (objects_of new) n k op (Done x) (done old new n op x d))
        (λ o. ap (λ (b : List ℕ). single_memory.length_of b k) o.1) (λ a. absurd a) (λ b. absurd b) (λ w. absurd w) r h;
    worn = λ k w. w;
  };
  closes = λ old new e. record { adds = ap objects_of e; lengths = λ k. ap (λ (b : List ℕ). single_memory.length_of b k) e; worn = λ k w. w };
  lengths = λ m n. refl;
}
