-- What a command on one machine leaves as it was, and what debugging does.
use Rattle.std.proofs.Common.{◌≡◌, ◌≢◌, ℕ, List, map, Some, inl, inr, ap, ◌∙◌}
use Rattle.object_store.specs.Stores.{StoreState, store_memory, window_of}
use Rattle.debugger.specs.declared.debuggee.Debuggee.{Debuggee}
use Rattle.debugger.specs.declared.commands.Way.{Way}
use Rattle.debugger.specs.declared.commands.DebugCommand.{DebugCommand}
use Rattle.debugger.specs.declared.commands.MachineCommand.{MachineCommand}
use Rattle.debugger.specs.declared.commands.MachineCommand.TheVariants.{Step, Show, Debug}
use Rattle.world.specs.declared.replies.Reply.{Reply}
use Rattle.world.specs.WorldState.{WorldState, machine_at, with_machine}
use Rattle.world.specs.Machines.{AnswersMachine}
use Rattle.world_laws.specs.Replies.{machine_in, DebuggingChangesDebugStateAlone, OthersStay}
use Rattle.world_laws.proofs.Machines.{with_map, other_machine}
use Rattle.world_laws.proofs.Answered.{StepAnswer, NoMachine, Pause, TableRow, parted}
use Rattle.world_laws.proofs.Stopping.{other_window}

-- the other machines
abbrev Others : List Debuggee → List Debuggee → ℕ → Type 0
Others old new m = (k : ℕ) → k ≢ m → machine_at new k ≡ machine_at old k

equal : (old new : List Debuggee) (m : ℕ) → new ≡ old → Others old new m
equal old new m e k n = ap (λ (ms : List Debuggee). machine_at ms k) e

written : (old new : List Debuggee) (m : ℕ) (d e : Debuggee) → machine_at old m ≡ Some d → new ≡ with_machine old m e → Others old new m
written old new m d e f h k n = ap (λ (ms : List Debuggee). machine_at ms k) h ∙ other_machine old m k d e f n

-- ---- debugging

abbrev Alone : WorldState → WorldState → ℕ → Type 0
Alone old new m = (new.store ≡ old.store) × (map machine_in new.machines ≡ map machine_in old.machines) × Others old.machines new.machines m

alone : (old new : WorldState) (m : ℕ) (c : DebugCommand) (r : Reply)
    → AnswersMachine (store_memory m) old.machines old.store m (Debug c) r new.machines new.store → Alone old new m
alone old new m c r (inl h) = (h.same, ap (map machine_in) h.unchanged, equal old.machines new.machines m h.unchanged)
alone old new m c r (inr h) = (
  h.answers.3,
  ap (map machine_in) h.changed ∙ with_map machine_in old.machines m h.debuggee h.became h.found (ap machine_in h.answers.2.1),
  written old.machines new.machines m h.debuggee h.became h.found h.changed,
)

pub debugging_keeps : DebuggingChangesDebugStateAlone
debugging_keeps old new m c r h = alone old new m c r h

-- ---- any command on a machine

others : (old new : WorldState) (m : ℕ) (c : MachineCommand) (r : Reply)
    → AnswersMachine (store_memory m) old.machines old.store m c r new.machines new.store → Others old.machines new.machines m
others old new m c r (inl h) = equal old.machines new.machines m h.unchanged
others old new m c r (inr h) = written old.machines new.machines m h.debuggee h.became h.found h.changed

-- the windows of the others
abbrev Scopes : WorldState → WorldState → ℕ → Type 0
Scopes old new m = (k : ℕ) → k ≢ m → window_of new.store.windows k ≡ window_of old.store.windows k

abbrev StepsSo : ℕ → Way → WorldState → Reply → WorldState → Type 0
StepsSo m way old r new = StepAnswer (store_memory m) way old.machines old.store m r new.machines new.store

step_scopes : (m : ℕ) (way : Way) (old new : WorldState) (r : Reply) → StepsSo m way old r new → Scopes old new m
step_scopes m way old new r (NoMachine h) k n = ap (λ (s : StoreState). window_of s.windows k) h.same
step_scopes m way old new r (Pause h) k n = ap (λ (s : StoreState). window_of s.windows k) h.same
step_scopes m way old new r (TableRow h) k n = other_window m k h.debuggee.machine h.machine old.store new.store h.answer n h.step

scopes : (old new : WorldState) (m : ℕ) (c : MachineCommand) (r : Reply)
    → AnswersMachine (store_memory m) old.machines old.store m c r new.machines new.store → Scopes old new m
scopes old new m (Step way) r h k n = step_scopes m way old new r (parted (store_memory m) way old.machines old.store m r new.machines new.store h) k n
scopes old new m c r (inl h) k n = ap (λ (s : StoreState). window_of s.windows k) h.same
scopes old new m (Show c) r (inr h) k n = ap (λ (s : StoreState). window_of s.windows k) h.answers.4
scopes old new m (Debug c) r (inr h) k n = ap (λ (s : StoreState). window_of s.windows k) h.answers.3

pub others_stay : OthersStay
others_stay old new m k c r h n = (others old new m c r h k n, scopes old new m c r h k n)
