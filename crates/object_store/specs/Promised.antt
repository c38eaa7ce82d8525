-- A store keeps the promises of memories: proofs, which an `impl` has to name.
use Rattle.std.proofs.Common.{◌≡◌, ℕ, List, length, refl, ap}
use Rattle.memory.specs.declared.access.Op.{Op}
use Rattle.memory.specs.declared.access.Reach.{Reach}
use Rattle.memory.specs.declared.access.Reach.TheVariants.{Done, Away, Busy, Outside, Worn}
use Rattle.memory.specs.Objects.{DoesAll, bytes_of}
use Rattle.memory.specs.Memories.{Promises, KeepsPromises, entries_added}
use Rattle.memory.proofs.Accesses.{lengths}
use Rattle.memory.proofs.Promised.{map_adds}
use Rattle.object_store.specs.Stores.{StoreState, StoreWithin, Touches}
use Rattle.object_store.specs.Lending.{lent_memory}

-- what an access is answered is as memories promise
answered : (who : ℕ) (old new : StoreState) (n : ℕ) (op : Op) (r : Reach) → Touches who old n op r new → Promises (length (bytes_of old.objects n)) op r ⊥
answered who old new n op Outside h = h.0
answered who old new n op (Done x) h = (h.0, (bytes_of old.objects n, refl, h.2))
answered who old new n op Away h = h.0
answered who old new n op Busy h = absurd h
answered who old new n op Worn h = absurd h

-- an access that is done is its entry, and any other does nothing to the objects
added : (who : ℕ) (old new : StoreState) (n : ℕ) (op : Op) (r : Reach) → Touches who old n op r new → DoesAll old.objects (entries_added n op r) new.objects
added who old new n op Outside h = ap (λ (s : StoreState). s.objects) h.1
added who old new n op (Done x) h = map_adds old.objects new.objects n op (Done x) (h.0, h.2, ap (λ (s : StoreState). s.objects) h.3)
added who old new n op Away h = ap (λ (s : StoreState). s.objects) h.2
added who old new n op Busy h = absurd h
added who old new n op Worn h = absurd h

-- the same objects have the same lengths
same_length : (old new : StoreState) (k : ℕ) → new.objects ≡ old.objects → length (bytes_of new.objects k) ≡ length (bytes_of old.objects k)
same_length old new k e = ap (λ (o : List (List ℕ)). length (bytes_of o k)) e

-- an access changes no length
kept_lengths : (who : ℕ) (old new : StoreState) (n k : ℕ) (op : Op) (r : Reach) → Touches who old n op r new
    → length (bytes_of new.objects k) ≡ length (bytes_of old.objects k)
kept_lengths who old new n k op Outside h = same_length old new k (ap (λ (s : StoreState). s.objects) h.1)
kept_lengths who old new n k op (Done x) h = lengths old.objects new.objects n k op (Done x) (h.0, h.2, ap (λ (s : StoreState). s.objects) h.3)
kept_lengths who old new n k op Away h = same_length old new k (ap (λ (s : StoreState). s.objects) h.2)
kept_lengths who old new n k op Busy h = absurd h
kept_lengths who old new n k op Worn h = absurd h

-- so a store that is lent keeps all promises of memories
pub lent_promises : {M X : Type 0} (store : M → StoreWithin X) (loan who : M → ℕ) → KeepsPromises (lent_memory store loan who)
lent_promises {M} {X} store loan who = record {
  answers = λ old new n op r h. answered (who old) (store old).state (store new).state n op r h.0.touches;
  reaches = λ old new n op r h. record {
    adds = added (who old) (store old).state (store new).state n op r h.0.touches;
    lengths = λ k. kept_lengths (who old) (store old).state (store new).state n k op r h.0.touches;
    worn = λ k w. w;
  };
  closes = λ old new h. record {
    adds = ap (λ (s : StoreState). s.objects) h.0.closes;
    lengths = λ k. same_length (store old).state (store new).state k (ap (λ (s : StoreState). s.objects) h.0.closes);
    worn = λ k w. w;
  };
  lengths = λ m n. refl;
}
