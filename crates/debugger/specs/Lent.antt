-- For private functions and proofs alone: a memory that is lent to a machine that runs.
use Rattle.std.specs.Prelude.{◌≡◌, ℕ}
use Rattle.memory.specs.Memories.{Memories, KeepsPromises}

-- What has a memory lent to it, as a memory: what is done is done to that one, and the loan stays.
abbrev pub lent : {M S : Type 0} → Memories S → (M → S) → (M → ℕ) → Memories M
lent {M} {S} memory get loan = record {
  reaches = λ m n op r w. memory.reaches (get m) n op r (get w) × (loan w ≡ loan m);
  closes = λ m w. memory.closes (get m) (get w) × (loan w ≡ loan m);
  length_of = λ m n. memory.length_of (get m) n;
  knows = λ m. memory.knows (get m);
  is_worn = λ m n. memory.is_worn (get m) n;
}

-- It keeps the promises that the lent one keeps.
pub lent_promises : {M S : Type 0} (memory : Memories S) → KeepsPromises memory → (get : M → S) (loan : M → ℕ) → KeepsPromises (lent memory get loan)
lent_promises {M} {S} memory p get loan = record {
  answers = λ old new n op r h. p.answers (get old) (get new) n op r h.0;
  reaches = λ old new n op r h. let d = p.reaches (get old) (get new) n op r h.0 in record { adds = d.adds; lengths = d.lengths; worn = d.worn };
  closes = λ old new h. let d = p.closes (get old) (get new) h.0 in record { adds = d.adds; lengths = d.lengths; worn = d.worn };
  lengths = λ m n. p.lengths (get m) n;
}
