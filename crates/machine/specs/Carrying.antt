-- A memory that is seen as another.
use Rattle.std.specs.Prelude.{◌≡◌, ℕ, Bool, true, false, ◌||◌}
use Rattle.memory.specs.declared.access.Op.{Op}
use Rattle.memory.specs.declared.access.Reach.{Reach}
use Rattle.memory.specs.declared.access.Reach.TheVariants.{Away, Busy}
use Rattle.memory.specs.Memories.{Memories}
use Rattle.machine.specs.declared.state.Stepped.{Stepped}
use Rattle.machine.specs.declared.state.Stepped.TheVariants.{Waiting}
use Rattle.machine.specs.MachineState.{MachineState}
use Rattle.machine.specs.TableStep.{TableStep}

-- an answer on which no machine waits
abbrev pub is_done : Reach → Bool
is_done Away = false
is_done Busy = false
is_done _ = true

-- the machine doesn't wait
abbrev pub goes : Stepped → Bool
goes (Waiting n) = false
goes _ = true

-- What one memory does is what the other does, as it is seen there, and what holds of it stays: for every answer, where
-- `waiting_too` is true; where it is false, for those alone on which no machine waits.
pub record Carries {M N : Type 0} (waiting_too : Bool) (mem : Memories M) (nem : Memories N) (seen : M → N) (Holds : M → Type 0) : Type 0 where
  pub reached : (before after : M) (n : ℕ) (op : Op) (r : Reach) → Holds before → (waiting_too || is_done r) ≡ true → mem.reaches before n op r after
      → nem.reaches (seen before) n op r (seen after) × Holds after
  pub closed : (before after : M) → Holds before → mem.closes before after → nem.closes (seen before) (seen after) × Holds after
  pub measured : (before : M) (n : ℕ) → mem.length_of before n ≡ nem.length_of (seen before) n

-- So is a step.
abbrev pub StepCarries : {M N : Type 0} → Bool → Memories M → Memories N → (M → N) → (M → Type 0) → Type 0
StepCarries {M} waiting_too mem nem seen Holds = (old new : MachineState) (before after : M) (a : Stepped) → Holds before → (waiting_too || goes a) ≡ true
    → TableStep mem old before a new after → TableStep nem old (seen before) a new (seen after) × Holds after

-- It is a law for every view of a memory.
abbrev pub StepsCarry : {M N : Type 0} → Memories M → Memories N → Type 0
StepsCarry {M} {N} mem nem = (waiting_too : Bool) (seen : M → N) → Carries waiting_too mem nem seen (λ (m : M). Unit {0})
    → StepCarries waiting_too mem nem seen (λ (m : M). Unit {0})
