-- A machine is its start, done again with the answers that its accesses were given. No memory is needed to say it.
use Rattle.std.specs.Prelude.{◌≡◌, ◌⊎◌, ℕ, zero, suc, ◌+◌, Bool, true, false, List, [], ◌++◌}
use Rattle.memory.specs.declared.access.Op.{Op}
use Rattle.memory.specs.declared.access.Reach.{Reach}
use Rattle.memory.specs.declared.access.Reach.TheVariants.{Done, Outside, Worn}
use Rattle.memory.specs.declared.deeds.Entry.{Entry}
use Rattle.memory.specs.Access.{IsInside}
use Rattle.memory.specs.Memories.Known.{OwnEntries}
use Rattle.memory.specs.Memories.{Memories, Did, entries_added}
use Rattle.machine.specs.declared.state.Stop.{Stop}
use Rattle.machine.specs.declared.state.Stepped.{Stepped}
use Rattle.machine.specs.declared.state.Stepped.TheVariants.{Stopped}
use Rattle.machine.specs.MachineState.{MachineState}
use Rattle.machine.specs.TableStep.{TableStep}
use Rattle.machine.specs.Laws.{is_exit}

-- ---- a history as a memory

-- An access that isn't inside its object is Outside. One that is inside is done, with any answer, and is the next entry; where
-- the object is marked as worn, it may be Worn. `lengths` are those of the objects.
abbrev pub recorded : (ℕ → ℕ) → (ℕ → Bool) → List Entry → ℕ → Op → Reach → List Entry → Type 0
recorded lengths worn es n op Outside fs = (IsInside op (lengths n) → ⊥) × (fs ≡ es)
recorded lengths worn es n op (Done x) fs = IsInside op (lengths n) × (fs ≡ es ++ entries_added n op (Done x))
recorded lengths worn es n op Worn fs = IsInside op (lengths n) × (worn n ≡ true) × (fs ≡ es)
recorded lengths worn es n op _ fs = ⊥

-- the entries so far as a memory
abbrev pub recorded_memory : (ℕ → ℕ) → (ℕ → Bool) → Memories (List Entry)
recorded_memory lengths worn = record {
  reaches = recorded lengths worn;
  closes = λ es fs. fs ≡ es;
  length_of = λ es n. lengths n;
  knows = λ es. OwnEntries es;
  is_worn = λ es n. worn n ≡ true;
}

-- ---- replays

-- One instruction is done: a table step takes one fuel. With it the entries es become fs.
pub record Advances (lengths : ℕ → ℕ) (worn : ℕ → Bool) (old : MachineState) (es : List Entry) (new : MachineState) (fs : List Entry) : Type 0 where
  pub answer : Stepped
  pub step : TableStep (recorded_memory lengths worn) old es answer new fs
  pub paid : new.fuel + 1 ≡ old.fuel

-- So many instructions from the start, one after the other, make this state and these entries, and no others.
abbrev pub Replays : (ℕ → ℕ) → (ℕ → Bool) → ℕ → MachineState → List Entry → MachineState → Type 0
Replays lengths worn zero start es m = (es ≡ []) × (m ≡ start)
Replays lengths worn (suc k) start es m = (mid : MachineState) × (earlier : List Entry) × Replays lengths worn k start earlier mid
    × Advances lengths worn mid earlier m es

-- The stop, other than exit, that a table step names there.
pub record StopsThere (lengths : ℕ → ℕ) (worn : ℕ → Bool) (reached : MachineState) (es : List Entry) (m : MachineState) : Type 0 where
  pub stop : Stop
  pub other : is_exit stop ≡ false
  pub step : TableStep (recorded_memory lengths worn) reached es (Stopped stop) m es

-- The machine is the replay of the entries from its start: as many instructions as fuel is gone use them up and make this
-- state, a stop apart. Its stop is that of the state reached, or the one other than exit that the table names there: worn only
-- where the next instruction is an inside access to an object that is marked so.
pub record IsReplay (lengths : ℕ → ℕ) (worn : ℕ → Bool) (start : MachineState) (es : List Entry) (m : MachineState) : Type 0 where
  pub reached : MachineState
  pub steps : ℕ
  pub fuel : m.fuel + steps ≡ start.fuel
  pub replays : Replays lengths worn steps start es reached
  pub stops : (m ≡ reached) ⊎ StopsThere lengths worn reached es m

-- ---- laws

-- With the same entries a machine goes the same way.
abbrev pub ReplaysOneWay : Type 0
ReplaysOneWay = (lengths : ℕ → ℕ) (worn : ℕ → Bool) (k : ℕ) (start new other : MachineState) (es : List Entry)
    → Replays lengths worn k start es new → Replays lengths worn k start es other → new ≡ other

-- The start is the replay of no entries.
abbrev pub StartsAsReplay : Type 0
StartsAsReplay = (lengths : ℕ → ℕ) (worn : ℕ → Bool) (start : MachineState) → IsReplay lengths worn start [] start

-- what a step over a memory did to the objects, and the machine as the replay of that too
pub record ReplaysOn {M : Type 0} (mem : Memories M) (lengths : ℕ → ℕ) (worn : ℕ
    → Bool) (start : MachineState) (es : List Entry) (before : M) (new : MachineState) (after : M) : Type 0 where
  pub more : List Entry
  pub did : Did mem before more after
  pub replay : IsReplay lengths worn start (es ++ more) new

-- A step over any memory leaves a machine the replay of what it did to the objects, where they have these lengths, and those
-- that the memory found worn are marked.
abbrev pub StaysReplay : {M : Type 0} → Memories M → Type 0
StaysReplay {M} mem = (lengths : ℕ → ℕ) (worn : ℕ → Bool) (start old new : MachineState) (es : List Entry) (before after : M) (a : Stepped)
    → ((n : ℕ) → mem.length_of before n ≡ lengths n) → ((n : ℕ) → mem.is_worn after n → worn n ≡ true)
    → IsReplay lengths worn start es old → TableStep mem old before a new after → ReplaysOn mem lengths worn start es before new after
