-- The three answers to a step: there is no such machine, it is paused, or it makes a step of the table.
use Rattle.std.proofs.Common.{◌≡◌, ℕ, true, false, List, Some, inl, inr, refl, ap, ◌∙◌}
use Rattle.memory.specs.Memories.{Memories}
use Rattle.machine.specs.MachineState.{MachineState}
use Rattle.machine.specs.TableStep.{TableStep}
use Rattle.machine.specs.declared.state.Stepped.{Stepped}
use Rattle.debugger.specs.DebugState.{DebugState}
use Rattle.debugger.specs.Pausing.{with_pause, debugged}
use Rattle.debugger.specs.Debuggees.{Walks, AnswersStep, holds_back, reply_after}
use Rattle.debugger.specs.declared.commands.Way.{Way}
use Rattle.debugger.specs.declared.commands.MachineCommand.TheVariants.{Step}
use Rattle.debugger.specs.declared.replies.StepReply.{StepReply}
use Rattle.debugger.specs.declared.replies.StepReply.TheVariants as step_reply
use Rattle.debugger.specs.declared.debuggee.Debuggee.{Debuggee}
use Rattle.world.specs.declared.replies.Reply.{Reply}
use Rattle.world.specs.declared.replies.Reply.TheVariants as replies
use Rattle.world.specs.WorldState.{machine_at, with_machine}
use Rattle.world.specs.Machines.{AnswersMachine, Misses}
use Rattle.world_laws.proofs.Replying.{step_replies}

-- the machine makes a step of the table
pub record Steps {S : Type 0} (memory : Memories S) (way : Way) (old : List Debuggee) (before : S) (m : ℕ) (reply : Reply)
    (new : List Debuggee) (after : S) : Type 0 where
  pub debuggee : Debuggee
  pub found : machine_at old m ≡ Some debuggee
  pub goes : holds_back way debuggee ≡ false
  pub answer : Stepped
  pub machine : MachineState
  pub step : TableStep memory debuggee.machine before answer machine after
  pub replied : reply ≡ replies.Stepped m (reply_after answer machine.slot debuggee.debugger)
  pub changed : new ≡ with_machine old m (record { machine = machine; debugger = debugged way answer debuggee.debugger })

-- the machine is paused
pub record Halts {S : Type 0} (way : Way) (old : List Debuggee) (before : S) (m : ℕ) (reply : Reply) (new : List Debuggee) (after : S) : Type 0 where
  pub debuggee : Debuggee
  pub found : machine_at old m ≡ Some debuggee
  pub slot : ℕ
  pub replied : reply ≡ replies.Stepped m (step_reply.Paused slot)
  pub held : holds_back way debuggee ≡ true
  pub slot_is : slot ≡ debuggee.machine.slot
  pub changed : new ≡ with_machine old m (record debuggee { debugger = with_pause slot debuggee.debugger })
  pub same : after ≡ before

-- a step, by the machine's number
abbrev pub StepsAt : {S : Type 0} → Memories S → Way → List Debuggee → S → ℕ → Reply → List Debuggee → S → Type 0
StepsAt memory way old before m reply new after = AnswersMachine memory old before m (Step way) reply new after

pub data StepAnswer {S : Type 0} (memory : Memories S) (way : Way) (old : List Debuggee) (before : S) (m : ℕ) (r : Reply)
    (new : List Debuggee) (after : S) : Type 0 where
  NoMachine : Misses old before m r new after → StepAnswer memory way old before m r new after
  Pause : Halts way old before m r new after → StepAnswer memory way old before m r new after
  TableRow : Steps memory way old before m r new after → StepAnswer memory way old before m r new after

found_step : {S : Type 0} (memory : Memories S) (way : Way) (old : List Debuggee) (before : S) (m : ℕ) (r : Reply) (new : List Debuggee) (after : S)
    (d e : Debuggee) (replied : StepReply)
    → machine_at old m ≡ Some d → new ≡ with_machine old m e → r ≡ replies.Stepped m replied → AnswersStep memory way d before replied e after
    → StepAnswer memory way old before m r new after
found_step memory way old before m r new after d e (step_reply.Paused slot) f c t h = Pause (record {
  debuggee = d;
  found = f;
  slot = slot;
  replied = t;
  held = h.held;
  slot_is = h.slot_is;
  changed = c ∙ ap (λ (x : Debuggee). with_machine old m x) h.changed;
  same = h.same;
})
found_step memory way old before m r new after d e replied f c t h = TableRow (record {
  debuggee = d;
  found = f;
  goes = h.goes;
  answer = h.answer;
  machine = h.machine;
  step = h.step;
  replied = t ∙ ap (replies.Stepped m) h.replied;
  changed = c ∙ ap (λ (x : Debuggee). with_machine old m x) h.changed;
})

pub parted : {S : Type 0} (memory : Memories S) (way : Way) (old : List Debuggee) (before : S) (m : ℕ) (r : Reply) (new : List Debuggee) (after : S)
    → StepsAt memory way old before m r new after → StepAnswer memory way old before m r new after
parted memory way old before m r new after (inl h) = NoMachine h
parted memory way old before m r new after (inr h) =
    found_step memory way old before m r new after h.debuggee h.became h.answers.0 h.found h.changed h.answers.1 h.answers.2

-- ---- and back

never_paused : (slot k : ℕ) (a : Stepped) (d : DebugState) → step_reply.Paused slot ≡ reply_after a k d → ⊥
never_paused slot k a d = step_replies (λ (replied : StepReply). step_reply.Paused slot ≡ replied → ⊥) a k d (λ i e. cc) (λ i e. cc) (λ i e. cc) (λ i e. cc)

-- a step of the table is never answered that the machine is paused
walked : {S : Type 0} (memory : Memories S) (way : Way) (old new : Debuggee) (before after : S) (replied : StepReply)
    → Walks memory way old before replied new after → AnswersStep memory way old before replied new after
walked memory way old new before after (step_reply.Paused slot) h = absurd (never_paused slot h.machine.slot h.answer old.debugger h.replied)
walked memory way old new before after replied h = h

pub stepped_so : {S : Type 0} (memory : Memories S) (way : Way) (old : List Debuggee) (before : S) (m : ℕ) (r : Reply) (new : List Debuggee) (after : S)
    → Steps memory way old before m r new after → StepsAt memory way old before m r new after
stepped_so memory way old before m r new after h =
    let replied = reply_after h.answer h.machine.slot h.debuggee.debugger in
    let became : Debuggee = record { machine = h.machine; debugger = debugged way h.answer h.debuggee.debugger } in
    let walk : Walks memory way h.debuggee before replied became after =
    record { goes = h.goes; answer = h.answer; machine = h.machine; step = h.step; replied = refl; changed = refl } in
    inr (record {
      debuggee = h.debuggee;
      became = became;
      found = h.found;
      answers = (replied, h.replied, walked memory way h.debuggee became before after replied walk);
      changed = h.changed;
    })

pub halting : {S : Type 0} (memory : Memories S) (way : Way) (old : List Debuggee) (before : S) (m : ℕ) (r : Reply) (new : List Debuggee) (after : S)
    → Halts way old before m r new after → StepsAt memory way old before m r new after
halting memory way old before m r new after h = inr (record {
  debuggee = h.debuggee;
  became = record h.debuggee { debugger = with_pause h.slot h.debuggee.debugger };
  found = h.found;
  answers = (step_reply.Paused h.slot, h.replied, record { held = h.held; slot_is = h.slot_is; changed = refl; same = h.same });
  changed = h.changed;
})
