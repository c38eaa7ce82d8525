-- A store as the memory of a machine, with its far store beside it.
use Rattle.std.specs.Prelude.{◌≡◌, ℕ, [], length}
use Rattle.memory.specs.declared.access.Op.{Op}
use Rattle.memory.specs.declared.access.Reach.{Reach}
use Rattle.memory.specs.Memories.Known.{AllBytes}
use Rattle.memory.specs.Memories.{Memories}
use Rattle.memory.specs.Objects.{bytes_of}
use Rattle.object_store.specs.Asking.{AsksNothing, sent_after}
use Rattle.object_store.specs.Stores.{StoreWithin, Touches, with_window}
pub use Rattle.object_store.specs.Stores.{HasWindow, store_memory}

-- One access by a machine. The far store is asked nothing; an object that is written isn't clean.
pub record TouchesWithin {X : Type 0} (who : ℕ) (old : StoreWithin X) (n : ℕ) (op : Op) (r : Reach) (new : StoreWithin X) : Type 0 where
  pub touches : Touches who old.state n op r new.state
  pub far : new.far ≡ old.far
  pub sent : new.sent ≡ sent_after op r old.sent n

-- All scopes of a machine are closed. The far store is asked nothing.
pub record ClosesWithin {X : Type 0} (who : ℕ) (old new : StoreWithin X) : Type 0 where
  pub closes : new.state ≡ with_window old.state who []
  pub asks : AsksNothing old new

-- a store as the memory of a machine
abbrev pub within_memory : {X : Type 0} → ℕ → Memories (StoreWithin X)
within_memory {X} who = record {
  reaches = TouchesWithin who;
  closes = ClosesWithin who;
  length_of = λ s n. length (bytes_of s.state.objects n);
  knows = λ s. AllBytes s.state.objects;
  is_worn = λ s n. ⊥;
}

-- the same loan, to the same machine
pub record IsLent {M : Type 0} (loan who : M → ℕ) (first m : M) : Type 0 where
  pub loan_is : loan m ≡ loan first
  pub who_is : who m ≡ who first

-- What has a store lent to it, as a memory: what its machine does is done to the store, and the loan stays the same.
abbrev pub lent_memory : {M X : Type 0} → (M → StoreWithin X) → (M → ℕ) → (M → ℕ) → Memories M
lent_memory {M} {X} store loan who = record {
  reaches = λ m n op r w. TouchesWithin (who m) (store m) n op r (store w) × IsLent loan who m w;
  closes = λ m w. ClosesWithin (who m) (store m) (store w) × IsLent loan who m w;
  length_of = λ m n. length (bytes_of (store m).state.objects n);
  knows = λ m. AllBytes (store m).state.objects;
  is_worn = λ m n. ⊥;
}
