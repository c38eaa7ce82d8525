-- Steps of machines: when they wait, what they write, and which commute.
use Rattle.std.specs.Prelude.{◌≡◌, ◌≢◌, ◌<◌, ◌≤◌, ℕ, ◌+◌, false, List, [], ◌∷◌, length, get_or, Some}
use Rattle.isa_table.specs.Table.{size_bytes}
use Rattle.isa_table.specs.declared.instr.Instr.{Instr}
use Rattle.memory.specs.declared.access.Op.{Op}
use Rattle.memory.specs.Objects.{Reaches, bytes_of}
use Rattle.placement.specs.declared.places.Place.TheVariants.{Here}
use Rattle.object_store.specs.Stores.{StoreState, store_memory, place_of, window_of}
use Rattle.machine.specs.declared.state.Stop.{Stop}
use Rattle.machine.specs.declared.state.Stepped.{Stepped}
use Rattle.machine.specs.declared.state.Stepped.TheVariants as stepped
use Rattle.machine.specs.Rows.{asks}
use Rattle.machine.specs.Rows.Request.{Touch}
use Rattle.machine.specs.TableStep.{Attempts}
use Rattle.machine.specs.Laws.{AccessesNext}
use Rattle.debugger.specs.declared.debuggee.Debuggee.{Debuggee}
use Rattle.debugger.specs.declared.commands.Way.{Way}
use Rattle.debugger.specs.declared.commands.MachineCommand.TheVariants.{Step}
use Rattle.debugger.specs.declared.replies.StepReply.{StepReply}
use Rattle.debugger.specs.declared.replies.StepReply.TheVariants.{Waiting}
use Rattle.debugger.specs.Debuggees.{Walks, holds_back}
use Rattle.world.specs.declared.replies.Reply.{Reply}
use Rattle.world.specs.declared.replies.Reply.TheVariants as answer
use Rattle.world.specs.Run.{Runs}
use Rattle.world.specs.declared.events.Event.{Event}
use Rattle.world.specs.declared.events.Event.TheVariants.{Machine}
use Rattle.world.specs.WorldState.{WorldState, world_start, machine_at}
use Rattle.world.specs.Answers.{Answers}

-- ---- waiting

-- The command isn't held back, and machine m comes to an instruction that makes an access to object n, within its bytes,
-- and the object isn't here.
pub record Awaits (way : Way) (w : WorldState) (m n : ℕ) : Type 0 where
  pub debuggee : Debuggee
  pub found : machine_at w.machines m ≡ Some debuggee
  pub goes : holds_back way debuggee ≡ false
  pub instr : Instr
  pub attempts : Attempts debuggee.machine instr
  pub op : Op
  pub access : asks instr debuggee.machine ≡ Touch n op
  pub inside : Reaches w.store.objects n op
  pub not_here : place_of w.store.places n ≢ Here

-- A step waits exactly there, and then nothing changes.
abbrev pub WaitsExactly : Type 0
WaitsExactly = (old new : WorldState) (way : Way) (m n : ℕ) (reply : Reply) → Answers old (Machine m (Step way)) reply new
    → ((k : ℕ) → reply ≡ answer.Stepped k (Waiting n) → (k ≡ m) × Awaits way old m n × (new ≡ old)) × (Awaits way old m n → reply ≡ answer.Stepped m (Waiting n))

-- ---- machines that are stopped

-- A machine that is stopped isn't paused, and has no object in scope.
pub record IsCalm (w : WorldState) (m : ℕ) (d : Debuggee) : Type 0 where
  pub unpaused : d.debugger.paused ≡ false
  pub unscoped : window_of w.store.windows m ≡ []

-- So is every machine that is stopped, in each run from the start.
abbrev pub StoppedMachinesAreCalm : Type 0
StoppedMachinesAreCalm = (budget faults : ℕ) (commands : List Event) (replies : List Reply) (new : WorldState)
    → Runs Answers (world_start budget faults) commands replies new
    → (m : ℕ) (d : Debuggee) (s : Stop) → machine_at new.machines m ≡ Some d → d.machine.stop ≡ Some s → IsCalm new m d

-- ---- what is written

-- byte i of object n is one of those that the step tells that it wrote
abbrev pub IsTold : Stepped → ℕ → ℕ → Type 0
IsTold (stepped.Ran (Some w)) n i = (n ≡ w.number) × (w.offset ≤ i) × (i < w.offset + size_bytes w.size)
IsTold _ n i = ⊥

-- no object's length changes, and no byte but those
abbrev pub ChangesTold : Stepped → List (List ℕ) → List (List ℕ) → Type 0
ChangesTold answer before after = (n : ℕ) → (length (bytes_of after n) ≡ length (bytes_of before n))
    × ((i : ℕ) → (IsTold answer n i → ⊥) → get_or (bytes_of after n) i 0 ≡ get_or (bytes_of before n) i 0)

-- A step writes one object at most, and of it the range at most that it tells.
abbrev pub StepsTellWhatTheyWrite : Type 0
StepsTellWhatTheyWrite = (m : ℕ) (way : Way) (old new : Debuggee) (before after : StoreState) (reply : StepReply)
    (s : Walks (store_memory m) way old before reply new after)
    → ChangesTold s.answer before.objects after.objects

-- ---- the order of steps

-- The next step of machine m is an access to object n.
pub record Comes (w : WorldState) (m n : ℕ) : Type 0 where
  pub debuggee : Debuggee
  pub found : machine_at w.machines m ≡ Some debuggee
  pub touches : AccessesNext debuggee.machine n

-- Where two machines come to no common object, their steps commute: the replies are the same, and so is the state after
-- both.
abbrev pub StepsCommute : Type 0
StepsCommute = (old new : WorldState) (v w : Way) (m k : ℕ) (a b : Reply) → m ≢ k → ((n : ℕ) → Comes old m n → Comes old k n → ⊥)
    → Runs Answers old (Machine m (Step v) ∷ Machine k (Step w) ∷ []) (a ∷ b ∷ []) new
    → Runs Answers old (Machine k (Step w) ∷ Machine m (Step v) ∷ []) (b ∷ a ∷ []) new
