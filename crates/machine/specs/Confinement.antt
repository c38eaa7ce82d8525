-- A machine learns nothing, and writes nothing, but what it was granted.
use Rattle.std.specs.Prelude.{◌≡◌, ℕ, true, false, List, [], ◌∷◌}
use Rattle.memory.specs.Objects.{bytes_of}
use Rattle.memory.specs.MapMemory.{map_memory}
use Rattle.machine.specs.declared.state.Stepped.{Stepped}
use Rattle.machine.specs.MachineState.{MachineState}
use Rattle.machine.specs.Grants.{GrantState, is_granted}
use Rattle.machine.specs.TableStep.{TableStep}

-- The maps have the same bytes for each number that may be read. (No object has a number that needs no grant.)
abbrev pub Agree : GrantState → List (List ℕ) → List (List ℕ) → Type 0
Agree g a b = (n : ℕ) → is_granted g false n ≡ true → bytes_of a n ≡ bytes_of b n

-- Over two such maps a step gives the same machine and the same answer, and again two such maps.
abbrev pub StepIsConfined : Type 0
StepIsConfined = (old new : MachineState) (before other after : List (List ℕ)) (a : Stepped) → Agree old.grants before other
    → TableStep map_memory old before a new after
    → (aside : List (List ℕ)) × TableStep map_memory old other a new aside × Agree old.grants after aside × (new.grants ≡ old.grants)

-- steps one after the other, with these answers
abbrev pub StepsSo : List Stepped → MachineState → List (List ℕ) → MachineState → List (List ℕ) → Type 0
StepsSo [] old before new after = (new ≡ old) × (after ≡ before)
StepsSo (a ∷ answers) old before new after = (next : MachineState) × (mid : List (List ℕ)) × TableStep map_memory old before a next mid
    × StepsSo answers next mid new after

-- So do any number of steps.
abbrev pub StepsAreConfined : Type 0
StepsAreConfined = (answers : List Stepped) (old new : MachineState) (before other after : List (List ℕ)) → Agree old.grants before other
    → StepsSo answers old before new after
    → (aside : List (List ℕ)) × StepsSo answers old other new aside × Agree old.grants after aside

-- They leave an object as it was that isn't granted for writing.
abbrev pub StepsProtect : Type 0
StepsProtect = (answers : List Stepped) (old new : MachineState) (before after : List (List ℕ)) (n : ℕ) → is_granted old.grants true n ≡ false
    → StepsSo answers old before new after → bytes_of after n ≡ bytes_of before n
