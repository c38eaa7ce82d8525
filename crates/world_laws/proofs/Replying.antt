-- What is so of the replies of a machine.
use Rattle.std.proofs.Common.{ℕ, Bool, true, false}
use Rattle.std.specs.Prelude.{cond}
use Rattle.machine.specs.declared.state.Stop.{Stop}
use Rattle.machine.specs.declared.state.Stepped.{Stepped}
use Rattle.machine.specs.declared.state.Stepped.TheVariants as stepped
use Rattle.debugger.specs.DebugState.{DebugState, hits}
use Rattle.debugger.specs.declared.replies.StepReply.{StepReply}
use Rattle.debugger.specs.declared.replies.StepReply.TheVariants.{Ran, Hit, Waiting, Stopped}
use Rattle.debugger.specs.Debuggees.{reply_after}

by_hit : (P : StepReply → Type 0) (b : Bool) (slot : ℕ) → P (Ran slot) → P (Hit slot) → P (cond b (Hit slot) (Ran slot))
by_hit P true slot p q = q
by_hit P false slot p q = p

-- what is so of the four replies that tell of a step
pub step_replies : (P : StepReply → Type 0) (a : Stepped) (slot : ℕ) (d : DebugState) → ((k : ℕ) → P (Ran k)) → ((k : ℕ) → P (Hit k))
    → ((n : ℕ) → P (Waiting n)) → ((s : Stop) → P (Stopped s)) → P (reply_after a slot d)
step_replies P (stepped.Ran w) slot d p q r s = by_hit P (hits w d) slot (p slot) (q slot)
step_replies P (stepped.Waiting n) slot d p q r s = r n
step_replies P (stepped.Stopped t) slot d p q r s = s t
