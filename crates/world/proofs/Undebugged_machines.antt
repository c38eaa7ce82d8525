-- Machines without their debug states.
use Rattle.std.proofs.Common.{◌≡◌, ℕ, zero, suc, ◌-◌, Bool, true, false, not, ◌&&◌, ◌||◌, is_none, cond, List, [], map, Option, Some, None, inl, inr, refl, sym}
use Rattle.std.proofs.Common.{ap, subst, ◌∙◌, arith}
use Rattle.std.specs.Prelude.{option_map}
use Rattle.std.proofs.lemmas.List.{map-set}
use Rattle.std.proofs.lemmas.Option.{slice_get-map}
use Rattle.memory.specs.Memories.{Memories}
use Rattle.machine.specs.MachineState.{MachineState}
use Rattle.machine.specs.declared.state.Stop.{Stop}
use Rattle.machine.specs.declared.state.Written.{Written}
use Rattle.machine.specs.declared.state.Stepped.{Stepped}
use Rattle.machine.specs.declared.state.Stepped.TheVariants as stepped
use Rattle.debugger.specs.DebugState.{DebugState, debug_start, hits}
use Rattle.debugger.specs.Pausing.{is_to_pause, debugged}
use Rattle.debugger.specs.Showing.{Shows, ShowsBytes, ShowsLine, state_of, shown_of}
use Rattle.debugger.specs.Debuggees.{Walks, AnswersStep, reply_after}
use Rattle.debugger.specs.declared.commands.Way.{Way}
use Rattle.debugger.specs.declared.commands.Way.TheVariants as way
use Rattle.debugger.specs.declared.commands.MachineCommand.{MachineCommand}
use Rattle.debugger.specs.declared.commands.MachineCommand.TheVariants.{Step, Show, Debug}
use Rattle.debugger.specs.declared.show.ShowCommand.{ShowCommand}
use Rattle.debugger.specs.declared.show.ShowCommand.TheVariants.{Regs, Out, Stack, Line}
use Rattle.debugger.specs.declared.replies.StepReply.{StepReply}
use Rattle.debugger.specs.declared.replies.StepReply.TheVariants as step_reply
use Rattle.debugger.specs.declared.show.ShowReply.{ShowReply}
use Rattle.debugger.specs.declared.show.ShowReply.TheVariants as show_reply
use Rattle.debugger.specs.declared.shown.State.{State}
use Rattle.debugger.specs.declared.shown.Shown.{Shown}
use Rattle.debugger.specs.declared.debuggee.Debuggee.{Debuggee}
use Rattle.world.specs.declared.replies.Reply.{Reply}
use Rattle.world.specs.declared.replies.Reply.TheVariants as reply
use Rattle.world.specs.declared.events.Event.TheVariants.{Machine}
use Rattle.world.specs.WorldState.{machine_at, with_machine}
use Rattle.world.specs.Machines.{AnswersCommand, AnswersMachine}
use Rattle.world.specs.Undebugged.{undebugged_machine, undebugged_reply, unhit, unshown, unpaused, is_pause, is_undebugged}
use Rattle.world.proofs.Numbered.{with_same}

abbrev debuggee : MachineState → DebugState → Debuggee
debuggee m d = record { machine = m; debugger = d }

-- what a Boolean says that one of two is
pub not_second : (b : Bool) → not (false || b) ≡ true → b ≡ false
not_second true e = absurd (cc)
not_second false e = refl

pub second : (b : Bool) → not (false || b) ≡ false → b ≡ true
second true e = refl
second false e = absurd (cc)

abbrev pub undebugged_machines : List Debuggee → List Debuggee
undebugged_machines machines = map undebugged_machine machines

-- ---- machines by number

at_undebugged : (machines : List Debuggee) (m : ℕ) → machine_at (undebugged_machines machines) m ≡ option_map undebugged_machine (machine_at machines m)
at_undebugged machines zero = refl
at_undebugged machines (suc n) = slice_get-map undebugged_machine machines n

found_undebugged : (machines : List Debuggee) (m : ℕ) (d : Debuggee) → machine_at machines m ≡ Some d
    → machine_at (undebugged_machines machines) m ≡ Some (undebugged_machine d)
found_undebugged machines m d e = at_undebugged machines m ∙ ap (option_map undebugged_machine) e

missing_undebugged : (machines : List Debuggee) (m : ℕ) → machine_at machines m ≡ None → machine_at (undebugged_machines machines) m ≡ None
missing_undebugged machines m e = at_undebugged machines m ∙ ap (option_map undebugged_machine) e

with_undebugged : (machines : List Debuggee) (m : ℕ) (d : Debuggee)
    → undebugged_machines (with_machine machines m d) ≡ with_machine (undebugged_machines machines) m (undebugged_machine d)
with_undebugged machines m d = map-set undebugged_machine machines (m - 1) d

-- a machine of which no more is changed than its debug state
unseen : (old new : List Debuggee) (m : ℕ) (d e : Debuggee) → machine_at old m ≡ Some d
    → undebugged_machine e ≡ undebugged_machine d → new ≡ with_machine old m e
    → undebugged_machines new ≡ undebugged_machines old
unseen old new m d e found same changed =
    ap undebugged_machines changed
    ∙ with_undebugged old m e
    ∙ ap (λ (x : Debuggee). with_machine (undebugged_machines old) m x) same
    ∙ with_same (undebugged_machines old) m (undebugged_machine d) (found_undebugged old m d found)

-- ---- steps

no_hit : (w : Option Written) → hits w debug_start ≡ false
no_hit None = refl
no_hit (Some w) = refl

never_held : (s : Option Stop) (slot : ℕ) → (is_none s && is_to_pause slot debug_start) ≡ false
never_held None slot = refl
never_held (Some s) slot = refl

starts_stay : (a : Stepped) → debugged way.Step a debug_start ≡ debug_start
starts_stay (stepped.Ran w) = ap (λ b. record { breakpoints = []; watches = []; paused = b; pass = false }) (no_hit w)
starts_stay (stepped.Waiting n) = refl
starts_stay (stepped.Stopped s) = refl

hit_ran : (b : Bool) (slot : ℕ) → unhit (cond b (step_reply.Hit slot) (step_reply.Ran slot)) ≡ step_reply.Ran slot
hit_ran true slot = refl
hit_ran false slot = refl

reply_undebugged : (a : Stepped) (slot : ℕ) (d : DebugState) → unhit (reply_after a slot d) ≡ reply_after a slot debug_start
reply_undebugged (stepped.Ran w) slot d = hit_ran (hits w d) slot ∙ sym (ap (λ b. cond b (step_reply.Hit slot) (step_reply.Ran slot)) (no_hit w))
reply_undebugged (stepped.Waiting n) slot d = refl
reply_undebugged (stepped.Stopped s) slot d = refl

-- a step by any way is one by `step`
walk_undebugged : {S : Type 0} (memory : Memories S) (w : Way) (old new : Debuggee) (before after : S) (replied : StepReply)
    → Walks memory w old before replied new after
    → Walks memory way.Step (undebugged_machine old) before (unhit replied) (undebugged_machine new) after
walk_undebugged memory w old new before after replied h = record {
  goes = never_held old.machine.stop old.machine.slot;
  answer = h.answer;
  machine = h.machine;
  step = h.step;
  replied = ap unhit h.replied ∙ reply_undebugged h.answer h.machine.slot old.debugger;
  changed = ap undebugged_machine h.changed ∙ ap (λ (d : DebugState). debuggee h.machine d) (sym (starts_stay h.answer));
}

step_undebugged : {S : Type 0} (memory : Memories S) (w : Way) (m : ℕ) (old new : Debuggee) (before after : S) (replied : StepReply)
    → is_pause (reply.Stepped m replied) ≡ false
    → AnswersStep memory w old before replied new after → AnswersStep memory way.Step (undebugged_machine old) before (unhit replied) (undebugged_machine new) after
step_undebugged memory w m old new before after (step_reply.Paused slot) e h = absurd (cc)
step_undebugged memory w m old new before after (step_reply.Ran slot) e h = walk_undebugged memory w old new before after (step_reply.Ran slot) h
step_undebugged memory w m old new before after (step_reply.Hit slot) e h = walk_undebugged memory w old new before after (step_reply.Hit slot) h
step_undebugged memory w m old new before after (step_reply.Waiting n) e h = walk_undebugged memory w old new before after (step_reply.Waiting n) h
step_undebugged memory w m old new before after (step_reply.Stopped s) e h = walk_undebugged memory w old new before after (step_reply.Stopped s) h

-- a pause is not seen
step_unseen : {S : Type 0} (memory : Memories S) (w : Way) (m : ℕ) (old new : Debuggee) (before after : S) (replied : StepReply)
    → is_pause (reply.Stepped m replied) ≡ true
    → AnswersStep memory w old before replied new after → (undebugged_machine new ≡ undebugged_machine old) × (after ≡ before)
step_unseen memory w m old new before after (step_reply.Paused slot) e h = (ap undebugged_machine h.changed, h.same)
step_unseen memory w m old new before after _ e h = absurd (cc)

-- ---- what is shown

unpaused_state : (s : Option Stop) (paused : Bool) → unpaused (state_of s paused) ≡ state_of s false
unpaused_state (Some s) paused = refl
unpaused_state None true = refl
unpaused_state None false = refl

shown_undebugged : (d : Debuggee)
    → unshown (show_reply.Registers (shown_of d.machine d.debugger)) ≡ show_reply.Registers (shown_of d.machine debug_start)
shown_undebugged d =
    ap (λ (s : State). show_reply.Registers (record (shown_of d.machine debug_start) { state = s }))
    (unpaused_state d.machine.stop d.debugger.paused)

bytes_undebugged : (bytes : List ℕ) (offset size : ℕ) (replied : ShowReply) → ShowsBytes bytes offset size replied → ShowsBytes bytes offset size (unshown replied)
bytes_undebugged bytes offset size replied h = grind arith

line_undebugged : (code : List ℕ) (slot : ℕ) (replied : ShowReply) → ShowsLine code slot replied → ShowsLine code slot (unshown replied)
line_undebugged code slot replied h = grind arith

show_undebugged : (c : ShowCommand) (d : Debuggee) (replied : ShowReply) → Shows c d replied → Shows c (undebugged_machine d) (unshown replied)
show_undebugged Regs d replied h = ap unshown h ∙ shown_undebugged d
show_undebugged (Stack offset size) d replied h = bytes_undebugged d.machine.stack offset size replied h
show_undebugged (Line slot) d replied h = line_undebugged d.machine.code slot replied h
show_undebugged _ d replied h = ap unshown h

-- ---- commands

-- `one` is `step`
abbrev pub undebugged_work : MachineCommand → MachineCommand
undebugged_work (Step w) = Step way.Step
undebugged_work c = c

command_undebugged : {S : Type 0} (memory : Memories S) (m : ℕ) (c : MachineCommand) (old new : Debuggee) (before after : S) (r : Reply)
    → is_undebugged (Machine m c) r ≡ true
    → AnswersCommand memory old before m c r new after
    → AnswersCommand memory (undebugged_machine old) before m (undebugged_work c) (undebugged_reply r) (undebugged_machine new) after
command_undebugged memory m (Step w) old new before after r e h = (
  unhit h.0,
  ap undebugged_reply h.1,
  step_undebugged memory w m old new before after h.0 (subst (λ (x : Reply). is_pause x ≡ false) h.1 (not_second (is_pause r) e)) h.2,
)
command_undebugged memory m (Show c) old new before after r e h =
    (unshown h.0, ap undebugged_reply h.1, show_undebugged c old h.0 h.2, ap undebugged_machine h.3, h.4)
command_undebugged memory m (Debug c) old new before after r e h = absurd (cc)

pub machine_undebugged : {S : Type 0} (memory : Memories S) (m : ℕ) (c : MachineCommand) (old new : List Debuggee) (before after : S) (r : Reply)
    → is_undebugged (Machine m c) r ≡ true
    → AnswersMachine memory old before m c r new after
    → AnswersMachine memory (undebugged_machines old) before m (undebugged_work c) (undebugged_reply r) (undebugged_machines new) after
machine_undebugged memory m c old new before after r e (inl h) =
    inl (record { none = missing_undebugged old m h.none; replied = ap undebugged_reply h.replied; unchanged = ap undebugged_machines h.unchanged; same = h.same })
machine_undebugged memory m c old new before after r e (inr h) = inr (record {
  debuggee = undebugged_machine h.debuggee;
  became = undebugged_machine h.became;
  found = found_undebugged old m h.debuggee h.found;
  answers = command_undebugged memory m c h.debuggee h.became before after r e h.answers;
  changed = ap undebugged_machines h.changed ∙ with_undebugged old m h.became;
})

-- the debugging commands and pauses are not seen
command_unseen : {S : Type 0} (memory : Memories S) (m : ℕ) (c : MachineCommand) (old new : Debuggee) (before after : S) (r : Reply)
    → is_undebugged (Machine m c) r ≡ false
    → AnswersCommand memory old before m c r new after → (undebugged_machine new ≡ undebugged_machine old) × (after ≡ before)
command_unseen memory m (Step w) old new before after r e h =
    step_unseen memory w m old new before after h.0 (subst (λ (x : Reply). is_pause x ≡ true) h.1 (second (is_pause r) e)) h.2
command_unseen memory m (Show c) old new before after r e h =
    let f = subst (λ (x : Reply). is_pause x ≡ true) h.1 (second (is_pause r) e) in absurd (cc)
command_unseen memory m (Debug c) old new before after r e h = (ap undebugged_machine h.2.1, h.3)

pub machine_unseen : {S : Type 0} (memory : Memories S) (m : ℕ) (c : MachineCommand) (old new : List Debuggee) (before after : S) (r : Reply)
    → is_undebugged (Machine m c) r ≡ false
    → AnswersMachine memory old before m c r new after → (undebugged_machines new ≡ undebugged_machines old) × (after ≡ before)
machine_unseen memory m c old new before after r e (inl h) = (ap undebugged_machines h.unchanged, h.same)
machine_unseen memory m c old new before after r e (inr h) =
    let k = command_unseen memory m c h.debuggee h.became before after r e h.answers in (unseen old new m h.debuggee h.became h.found k.0 h.changed, k.1)
