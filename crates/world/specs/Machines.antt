-- Commands on machines, by their numbers, over any memory: the machine is there, and it alone changes.
use Rattle.std.specs.Prelude.{◌≡◌, ◌⊎◌, ℕ, List, Option, Some, None}
use Rattle.memory.specs.Memories.{Memories}
use Rattle.debugger.specs.declared.commands.MachineCommand.{MachineCommand}
use Rattle.debugger.specs.declared.commands.MachineCommand.TheVariants.{Step, Show, Debug}
use Rattle.debugger.specs.declared.replies.StepReply.{StepReply}
use Rattle.debugger.specs.declared.show.ShowReply.{ShowReply}
use Rattle.debugger.specs.declared.show.ShowReply.TheVariants as show_reply
use Rattle.debugger.specs.declared.replies.Debugged.{Debugged}
use Rattle.debugger.specs.declared.debuggee.Debuggee.{Debuggee}
use Rattle.debugger.specs.Showing.{Shows}
use Rattle.debugger.specs.Debuggees.{AnswersStep, DebugsMachine}
use Rattle.world.specs.declared.replies.Reply.{Reply}
use Rattle.world.specs.declared.stack.StackError.{StackError}
use Rattle.world.specs.declared.stack.StackError.TheVariants as stack_error
use Rattle.world.specs.declared.replies.Reply.TheVariants as answer
use Rattle.world.specs.WorldState.{machine_at, with_machine}

-- ---- replies

-- the reply to a step of machine m, if there is one
abbrev pub reply_of : ℕ → Option StepReply → Reply
reply_of m (Some replied) = answer.Stepped m replied
reply_of m None = answer.Missing

-- the reply to a reading of the stack of machine m that was refused
abbrev pub refused_stack : ℕ → StackError → Reply
refused_stack m stack_error.Missing = answer.Missing
refused_stack m stack_error.Outside = answer.Shown m show_reply.Outside

-- ---- commands

-- what machine m, which is there, answers to a command over the memory
abbrev pub AnswersCommand : {S : Type 0} → Memories S → Debuggee → S → ℕ → MachineCommand → Reply → Debuggee → S → Type 0
AnswersCommand memory old before m (Step way) reply new after = (replied : StepReply) × (reply ≡ answer.Stepped m replied)
    × AnswersStep memory way old before replied new after
AnswersCommand memory old before m (Show command) reply new after = (replied : ShowReply) × (reply ≡ answer.Shown m replied) × Shows command old replied
    × (new ≡ old) × (after ≡ before)
AnswersCommand memory old before m (Debug command) reply new after = (replied : Debugged) × (reply ≡ answer.Debugged replied)
    × DebugsMachine command old replied new × (after ≡ before)

-- There is no machine m: nothing changes.
pub record Misses {S : Type 0} (old : List Debuggee) (before : S) (m : ℕ) (reply : Reply) (new : List Debuggee) (after : S) : Type 0 where
  pub none : machine_at old m ≡ None
  pub replied : reply ≡ answer.Missing
  pub unchanged : new ≡ old
  pub same : after ≡ before

-- Machine m is there and answers the command. The other machines stay as they are.
pub record Finds {S : Type 0} (memory : Memories S) (old : List Debuggee) (before : S) (m : ℕ) (command : MachineCommand) (reply : Reply)
    (new : List Debuggee) (after : S) : Type 0 where
  pub debuggee : Debuggee
  pub became : Debuggee
  pub found : machine_at old m ≡ Some debuggee
  pub answers : AnswersCommand memory debuggee before m command reply became after
  pub changed : new ≡ with_machine old m became

-- a command on machine m
abbrev pub AnswersMachine : {S : Type 0} → Memories S → List Debuggee → S → ℕ → MachineCommand → Reply → List Debuggee → S → Type 0
AnswersMachine memory old before m command reply new after = Misses old before m reply new after ⊎ Finds memory old before m command reply new after
