-- A seat that is lent to a machine, seen as what the seat knows.
use Rattle.std.proofs.Common.{◌≡◌, ℕ, zero, suc, true, Option, Some, None, refl, ap, ◌∙◌}
use Rattle.shared_objects.specs.SeatMemories.{seat_memory}
use Rattle.shared_objects.specs.declared.view.View.{View}
use Rattle.machine.specs.Carrying.{Carries}
use Rattle.machine.proofs.Carried.{step_carries}
use Rattle.debugger.specs.declared.commands.Way.{Way}
use Rattle.debugger.specs.declared.commands.Way.TheVariants as way
use Rattle.debugger.specs.declared.replies.StepReply.{StepReply}
use Rattle.debugger.specs.declared.replies.StepReply.TheVariants as step_reply
use Rattle.debugger.specs.declared.debuggee.Debuggee.{Debuggee}
use Rattle.debugger.specs.Debuggees.{Walks, AnswersStep}
use Rattle.debugger.specs.Running.{StepsRan, RunsUpTo}
use Rattle.workers.specs.Cells.{SeatState, seat_acts}

abbrev pub seen : {M : Type 0} → (M → View) → (M → ℕ) → M → SeatState
seen view stamp m = record { view = view m; stamp = stamp m }

-- the same loan, of a seat of the same table
pub record IsLent {M S : Type 0} (loan : M → ℕ) (table : M → S) (first m : M) : Type 0 where
  pub loan_is : loan m ≡ loan first
  pub table_is : table m ≡ table first

seat_carries : {M S : Type 0} (view : M → View) (stamp loan : M → ℕ) (table : M → S) (first : M)
    → Carries true (seat_memory view stamp loan table) seat_acts (seen view stamp) (IsLent loan table first)
seat_carries {M} {S} view stamp loan table first = record {
  reached = λ before after n op r i _ h. ((h.0, refl, refl), record { loan_is = h.1 ∙ i.loan_is; table_is = h.2 ∙ i.table_is });
  closed = λ before after i h. ((h.0, h.1, refl, refl), record { loan_is = h.2 ∙ i.loan_is; table_is = h.3 ∙ i.table_is });
  measured = λ before n. refl;
}

seat_walk : {M S : Type 0} (view : M → View) (stamp loan : M → ℕ) (table : M → S) (way : Way) (old new : Debuggee) (before after : M) (reply : StepReply)
    → Walks (seat_memory view stamp loan table) way old before reply new after
    → Walks seat_acts way old (seen view stamp before) reply new (seen view stamp after) × IsLent loan table before after
seat_walk {M} {S} view stamp loan table way old new before after reply h =
    let t = step_carries true (seat_memory view stamp loan table) seat_acts (seen view stamp) (IsLent loan table before)
    (seat_carries view stamp loan table before)
    old.machine h.machine before after h.answer (record { loan_is = refl; table_is = refl }) refl h.step in (
      record { goes = h.goes; answer = h.answer; machine = h.machine; step = t.0; replied = h.replied; changed = h.changed },
      t.1,
    )

-- a step over a seat that is lent is one over what the seat knows
pub seat_answer : {M S : Type 0} (view : M → View) (stamp loan : M → ℕ) (table : M → S) (way : Way) (old new : Debuggee) (before after : M) (reply : StepReply)
    → AnswersStep (seat_memory view stamp loan table) way old before reply new after
    → AnswersStep seat_acts way old (seen view stamp before) reply new (seen view stamp after) × IsLent loan table before after
seat_answer view stamp loan table way old new before after (step_reply.Paused slot) h = (
  record { held = h.held; slot_is = h.slot_is; changed = h.changed; same = ap (seen view stamp) h.same },
  record { loan_is = ap loan h.same; table_is = ap table h.same },
)
seat_answer view stamp loan table way old new before after reply h = seat_walk view stamp loan table way old new before after reply h

seat_steps : {M S : Type 0} (view : M → View) (stamp loan : M → ℕ) (table : M → S) (n : ℕ) (old new : Debuggee) (before after : M)
    → StepsRan (seat_memory view stamp loan table) n old before new after
    → StepsRan seat_acts n old (seen view stamp before) new (seen view stamp after) × IsLent loan table before after
seat_steps view stamp loan table zero old new before after h = ((h.0, ap (seen view stamp) h.1), record { loan_is = ap loan h.1; table_is = ap table h.1 })
seat_steps view stamp loan table (suc n) old new before after h =
    let first = seat_answer view stamp loan table way.Step old h.1 before h.2 (step_reply.Ran h.0) h.3 in
    let rest = seat_steps view stamp loan table n h.1 new h.2 after h.4 in (
      (h.0, h.1, seen view stamp h.2, first.0, rest.0),
      record { loan_is = rest.1.loan_is ∙ first.1.loan_is; table_is = rest.1.table_is ∙ first.1.table_is },
    )

-- and so is a run
pub seat_run : {M S : Type 0} (view : M → View) (stamp loan : M → ℕ) (table : M
    → S) (n : ℕ) (old : Debuggee) (before : M) (ran : ℕ) (end : Option StepReply) (new : Debuggee) (after : M)
    → RunsUpTo (seat_memory view stamp loan table) n old before ran end new after
    → RunsUpTo seat_acts n old (seen view stamp before) ran end new (seen view stamp after) × IsLent loan table before after
seat_run view stamp loan table n old before ran None new after h = let k = seat_steps view stamp loan table n old new before after h.1 in ((h.0, k.0), k.1)
seat_run view stamp loan table n old before ran (Some reply) new after h =
    let steps = seat_steps view stamp loan table ran old h.last before h.mid h.steps in
    let last = seat_answer view stamp loan table way.Step h.last new h.mid after reply h.answer in (
      record { fewer = h.fewer; other = h.other; last = h.last; mid = seen view stamp h.mid; steps = steps.0; answer = last.0 },
      record { loan_is = last.1.loan_is ∙ steps.1.loan_is; table_is = last.1.table_is ∙ steps.1.table_is },
    )
