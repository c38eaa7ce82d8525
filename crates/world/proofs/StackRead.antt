-- What is read of a machine's stack is what the command shows.
use Rattle.std.proofs.Common.{◌≡◌, ℕ, suc, List, Some, Result, Ok, Err, OnOk, IfErr, inr, refl, sym, subst}
use Rattle.std.specs.Prelude.{slice_get}
use Rattle.object_store.specs.Stores.{StoreState, store_memory}
use Rattle.debugger.specs.Showing.{ShowsBytes}
use Rattle.debugger.specs.declared.commands.MachineCommand.TheVariants.{Show}
use Rattle.debugger.specs.declared.show.ShowCommand.TheVariants.{Stack}
use Rattle.debugger.specs.declared.debuggee.Debuggee.{Debuggee}
use Rattle.debugger.specs.declared.show.ShowReply.{ShowReply}
use Rattle.debugger.specs.declared.show.ShowReply.TheVariants as show_reply
use Rattle.world.specs.declared.replies.Reply.{Reply}
use Rattle.world.specs.declared.replies.Reply.TheVariants.{Shown}
use Rattle.world.specs.declared.stack.StackError.{StackError}
use Rattle.world.specs.declared.stack.StackError.TheVariants as stack_error
use Rattle.world.specs.Machines.{AnswersMachine, refused_stack}
use Rattle.world.specs.WorldState.{machine_at}
use Rattle.world.proofs.Numbered.{with_same}

-- the command `stack` has this reply
abbrev pub StackAnswers : List Debuggee → ℕ → ℕ → ℕ → Reply → Type 0
StackAnswers machines m offset size reply = (s : StoreState) → AnswersMachine (store_memory m) machines s m (Show (Stack offset size)) reply machines s

shown : (machines : List Debuggee) (m offset size : ℕ) (d : Debuggee) (replied : ShowReply) → machine_at machines m ≡ Some d
    → ShowsBytes d.machine.stack offset size replied
    → StackAnswers machines m offset size (Shown m replied)
shown machines m offset size d replied found shows =
    λ s. inr (record { debuggee = d; became = d; found = found; answers = (replied, refl, shows, refl, refl); changed = sym (with_same machines m d found) })

at : (machines : List Debuggee) (m k : ℕ) (d : Debuggee) → m ≡ suc k → slice_get machines k ≡ Some d → machine_at machines m ≡ Some d
at machines m k d e found = subst (λ (n : ℕ). machine_at machines n ≡ Some d) (sym e) found

pub stack_read : (machines : List Debuggee) (m k offset size : ℕ) (d : Debuggee) (stack into : List ℕ) (result : Result Unit StackError) → m ≡ suc k
    → slice_get machines k ≡ Some d → stack ≡ d.machine.stack
    → OnOk result (ShowsBytes stack offset size (show_reply.Bytes into)) → OnOk result (StackAnswers machines m offset size (Shown m (show_reply.Bytes into)))
stack_read machines m k offset size d stack into (Ok u) e found same h =
    shown machines m offset size d (show_reply.Bytes into) (at machines m k d e found)
    (subst (λ (bytes : List ℕ). ShowsBytes bytes offset size (show_reply.Bytes into)) same h)
stack_read machines m k offset size d stack into (Err x) e found same h = tt

pub stack_refused : (machines : List Debuggee) (m k offset size : ℕ) (d : Debuggee) (stack : List ℕ) (result : Result Unit StackError) → m ≡ suc k
    → slice_get machines k ≡ Some d → stack ≡ d.machine.stack
    → IfErr result (λ x. (x ≡ stack_error.Outside) × ShowsBytes stack offset size show_reply.Outside)
    → IfErr result (λ x. StackAnswers machines m offset size (refused_stack m x))
stack_refused machines m k offset size d stack (Ok u) e found same h = tt
stack_refused machines m k offset size d stack (Err x) e found same h =
    subst (λ (y : StackError). StackAnswers machines m offset size (refused_stack m y)) (sym h.0)
    (shown machines m offset size d show_reply.Outside (at machines m k d e found)
    (subst (λ (bytes : List ℕ). ShowsBytes bytes offset size show_reply.Outside) same h.1))
