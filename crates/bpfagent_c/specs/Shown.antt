-- What an export writes for its caller. Where a reply has nothing of the kind, what was there stays.
use Rattle.std.specs.Prelude.{◌≡◌, ◌≤◌, ℕ, nat_eq, not, min, true, false, List, ◌++◌, map, length, take, drop, Option, Some, None}
use Rattle.std.specs.List.{All}
use Rattle.memory.specs.Objects.{object_limit}
use Rattle.loader.specs.Refusals.{why_number}
use Rattle.machine.specs.declared.grants.Grant.{Grant}
use Rattle.machine.specs.Grants.{GrantState}
use Rattle.machine.specs.declared.state.Stop.{Stop}
use Rattle.machine.specs.declared.state.Stop.TheVariants as stop
use Rattle.machine.specs.Stops.{stop_number}
use Rattle.debugger.specs.declared.commands.Way.{Way}
use Rattle.debugger.specs.declared.commands.MachineCommand.TheVariants.{Step}
use Rattle.debugger.specs.declared.replies.StepReply.{StepReply}
use Rattle.debugger.specs.declared.replies.StepReply.TheVariants as step_reply
use Rattle.debugger.specs.declared.show.ShowReply.TheVariants as show_reply
use Rattle.world.specs.declared.events.Event.TheVariants.{Machine}
use Rattle.world.specs.declared.replies.Reply.{Reply}
use Rattle.world.specs.declared.replies.Reply.TheVariants as reply
use Rattle.debugger.specs.declared.running.MachineRun.{MachineRun}
use Rattle.world.specs.Machines.{reply_of}
use Rattle.world.specs.Answers.{Answers}
use Rattle.world.specs.Running.{RunsMachine}
use Rattle.world.specs.WorldState.{state_of}
use Rattle.bpfagent_c.specs.declared.handle.Agent.{Agent}
use Rattle.bpfagent_c.specs.declared.shown.End.{End}
use Rattle.bpfagent_c.specs.declared.shown.Granted.{Granted}
use Rattle.bpfagent_c.specs.declared.shown.Refusal.{Refusal}
use Rattle.bpfagent_c.specs.declared.shown.Registers.{Registers}
use Rattle.bpfagent_c.specs.declared.numbers.TheConstants.{GOES_ON, NOAGENT, NONE}
use Rattle.bpfagent_c.specs.Codes.{code_of_step, code_of_end, code_of_state, stop_of_state}

-- ---- numbers

-- the number of the object that was made
abbrev pub made_of : Option Reply → ℕ → ℕ
made_of (Some (reply.Made n)) old = n
made_of _ old = old

-- the number of the machine that was shipped
abbrev pub shipped_of : Option Reply → ℕ → ℕ
shipped_of (Some (reply.Shipped m)) old = m
shipped_of _ old = old

-- slot and reason of a refusal
abbrev pub refusal_of : Option Reply → Refusal → Refusal
refusal_of (Some (reply.Refused e)) old = record { slot = e.slot; reason = why_number e.why }
refusal_of _ old = old

-- ---- lists

-- these over the first ones, as many as there is room for
abbrev pub over : List ℕ → List ℕ → List ℕ
over shown old = take (min (length shown) (length old)) shown ++ drop (min (length shown) (length old)) old

-- the bytes that are shown
abbrev pub bytes_of : Option Reply → List ℕ → List ℕ
bytes_of (Some (reply.Bytes shown)) old = over shown old
bytes_of (Some (reply.Shown m (show_reply.Bytes shown))) old = over shown old
bytes_of _ old = old

-- the values that were emitted
abbrev pub values_of : Option Reply → List ℕ → List ℕ
values_of (Some (reply.Shown m (show_reply.Emitted shown))) old = over shown old
values_of _ old = old

-- how many there are
abbrev pub value_count_of : Option Reply → ℕ → ℕ
value_count_of (Some (reply.Shown m (show_reply.Emitted shown))) old = length shown
value_count_of _ old = old

-- the text of an instruction
abbrev pub text_of : Option Reply → List ℕ → List ℕ
text_of (Some (reply.Shown m (show_reply.Disassembled slot text))) old = over text old
text_of _ old = old

-- how many bytes it has
abbrev pub text_count_of : Option Reply → ℕ → ℕ
text_count_of (Some (reply.Shown m (show_reply.Disassembled slot text))) old = length text
text_count_of _ old = old

-- a machine's registers, with slot, fuel and state
abbrev pub registers_of : Option Reply → Registers → Registers
registers_of (Some (reply.Shown m (show_reply.Registers shown))) old =
    record { registers = shown.registers; slot = shown.slot; fuel = shown.fuel; state = code_of_state shown.state; stop = stop_of_state shown.state }
registers_of _ old = old

-- ---- grants

-- a grant as C has it: any number but 0 is for writing too
abbrev pub grant_of : Granted → Grant
grant_of g = record { number = g.object; writes = not (nat_eq g.writes 0) }

-- the number may be that of an object
abbrev pub IsGrant : Granted → Type 0
IsGrant g = (1 ≤ g.object) × (g.object ≤ object_limit)

-- at most sixteen
abbrev pub AreGrants : List Granted → Type 0
AreGrants gs = (length gs ≤ 16) × All IsGrant gs

-- these objects and no others
abbrev pub grants_of : List Granted → GrantState
grants_of gs = record { all = false; listed = map grant_of gs }

-- ---- steps

-- what an exit leaves in R0
abbrev pub value_of_stop : Stop → ℕ
value_of_stop (stop.Exit v) = v
value_of_stop _ = 0

-- what a step was answered: where the machine is, or the object that it waits for, or R0 at an exit
abbrev pub value_of_step : StepReply → ℕ
value_of_step (step_reply.Ran slot) = slot
value_of_step (step_reply.Hit slot) = slot
value_of_step (step_reply.Waiting n) = n
value_of_step (step_reply.Paused slot) = slot
value_of_step (step_reply.Stopped s) = value_of_stop s

-- why the machine is stopped, or that it goes on
abbrev pub stop_of_step : StepReply → ℕ
stop_of_step (step_reply.Stopped s) = stop_number s
stop_of_step _ = GOES_ON

-- how many steps ran, of one
abbrev pub ran_of_step : StepReply → ℕ
ran_of_step (step_reply.Ran slot) = 1
ran_of_step _ = 0

-- how a step ended
abbrev pub end_of_step : Option StepReply → End → End
end_of_step None old = old
end_of_step (Some replied) old = record { ran = ran_of_step replied; value = value_of_step replied; stop = stop_of_step replied }

-- how a run ended, of which so many steps ran
abbrev pub end_after : ℕ → Option StepReply → End
end_after ran None = record { ran = ran; value = 0; stop = GOES_ON }
end_after ran (Some replied) = record { ran = ran; value = value_of_step replied; stop = stop_of_step replied }

-- how a run ended, where there may be no such machine
abbrev pub end_of_run : Option MachineRun → End → End
end_of_run None old = old
end_of_run (Some run) old = end_after run.ran run.end

-- its number
abbrev pub code_of_run : Option MachineRun → ℕ
code_of_run None = NONE
code_of_run (Some run) = code_of_end run.end

-- the agent's machine m makes a step, in this way, and number and end are those of what it was answered
pub record Steps (way : Way) (m : ℕ) (old : Agent) (before : End) (number : ℕ) (new : Agent) (after : End) : Type 0 where
  pub replied : Option StepReply
  pub live : new.live ≡ true
  pub answers : Answers (state_of old.held.state) (Machine m (Step way)) (reply_of m replied) (state_of new.held.state)
  pub number_is : number ≡ code_of_step replied
  pub end_is : after ≡ end_of_step replied before

-- the agent's machine m makes at most n steps
pub record Runs (m n : ℕ) (old : Agent) (before : End) (number : ℕ) (new : Agent) (after : End) : Type 0 where
  pub run : Option MachineRun
  pub live : new.live ≡ true
  pub runs : RunsMachine m n (state_of old.held.state) run (state_of new.held.state)
  pub number_is : number ≡ code_of_run run
  pub end_is : after ≡ end_of_run run before

-- there is no agent, and nothing is written
pub record IsWithout (old : Agent) (before : End) (number : ℕ) (new : Agent) (after : End) : Type 0 where
  pub none : new.live ≡ false
  pub number_is : number ≡ NOAGENT
  pub end_is : after ≡ before
