-- A store that is lent to a machine, seen as the store, and as its state alone.
use Rattle.std.proofs.Common.{ℕ, true, refl, ap, ◌∙◌, subst}
use Rattle.object_store.specs.Lending.{ClosesWithin, IsLent, TouchesWithin, lent_memory, within_memory}
use Rattle.object_store.specs.Stores.{StoreWithin, store_memory}
use Rattle.machine.specs.declared.state.Stepped.{Stepped}
use Rattle.machine.specs.MachineState.{MachineState}
use Rattle.machine.specs.TableStep.{TableStep}
use Rattle.machine.specs.Carrying.{Carries}
use Rattle.machine.proofs.Carried.{step_carries}
use Rattle.debugger.specs.declared.commands.Way.{Way}
use Rattle.debugger.specs.declared.replies.StepReply.{StepReply}
use Rattle.debugger.specs.declared.replies.StepReply.TheVariants as step_reply
use Rattle.debugger.specs.declared.debuggee.Debuggee.{Debuggee}
use Rattle.debugger.specs.Debuggees.{Walks, AnswersStep}

lent_carries : {M X : Type 0} (store : M → StoreWithin X) (loan who : M → ℕ) (first : M)
    → Carries true (lent_memory store loan who) (within_memory (who first)) store (IsLent loan who first)
lent_carries store loan who first = record {
  reached = λ before after n op r i _ h. (
    subst (λ w. TouchesWithin w (store before) n op r (store after)) i.who_is h.0,
    record { loan_is = h.1.loan_is ∙ i.loan_is; who_is = h.1.who_is ∙ i.who_is },
  );
  closed = λ before after i h. (
    subst (λ w. ClosesWithin w (store before) (store after)) i.who_is h.0,
    record { loan_is = h.1.loan_is ∙ i.loan_is; who_is = h.1.who_is ∙ i.who_is },
  );
  measured = λ before n. refl;
}

pub lent_step : {M X : Type 0} (store : M → StoreWithin X) (loan who : M → ℕ) (old new : MachineState) (before after : M) (a : Stepped)
    → TableStep (lent_memory store loan who) old before a new after
    → TableStep (within_memory (who before)) old (store before) a new (store after) × IsLent loan who before after
lent_step store loan who old new before after a t =
    step_carries true (lent_memory store loan who) (within_memory (who before)) store (IsLent loan who before) (lent_carries store loan who before)
    old new before after a (record { loan_is = refl; who_is = refl }) refl t

lent_walk : {M X : Type 0} (store : M → StoreWithin X) (loan who : M → ℕ) (way : Way) (old new : Debuggee) (before after : M) (replied : StepReply)
    → Walks (lent_memory store loan who) way old before replied new after
    → Walks (within_memory (who before)) way old (store before) replied new (store after) × IsLent loan who before after
lent_walk store loan who way old new before after replied h =
    let t = lent_step store loan who old.machine h.machine before after h.answer h.step in (
      record { goes = h.goes; answer = h.answer; machine = h.machine; step = t.0; replied = h.replied; changed = h.changed },
      t.1,
    )

-- a step over a store that is lent is one over the store
pub lent_answer : {M X : Type 0} (store : M → StoreWithin X) (loan who : M → ℕ) (way : Way) (old new : Debuggee) (before after : M) (replied : StepReply)
    → AnswersStep (lent_memory store loan who) way old before replied new after
    → AnswersStep (within_memory (who before)) way old (store before) replied new (store after) × IsLent loan who before after
lent_answer store loan who way old new before after (step_reply.Paused slot) h = (
  record { held = h.held; slot_is = h.slot_is; changed = h.changed; same = ap store h.same },
  record { loan_is = ap loan h.same; who_is = ap who h.same },
)
lent_answer store loan who way old new before after replied h = lent_walk store loan who way old new before after replied h

-- ---- without the far store

within_carries : {X : Type 0} (who : ℕ) → Carries true (within_memory {X = X} who) (store_memory who) (λ (s : StoreWithin X). s.state) (λ _. Unit {0})
within_carries who = record {
  reached = λ before after n op r _ _ h. (h.touches, tt);
  closed = λ before after _ h. (h.closes, tt);
  measured = λ before n. refl;
}

within_walk : {X : Type 0} (who : ℕ) (way : Way) (old new : Debuggee) (before after : StoreWithin X) (replied : StepReply)
    → Walks (within_memory who) way old before replied new after → Walks (store_memory who) way old before.state replied new after.state
within_walk {X} who way old new before after replied h =
    let t = step_carries true (within_memory who) (store_memory who) (λ (s : StoreWithin X). s.state) (λ _. Unit {0}) (within_carries who) old.machine
    h.machine before after h.answer tt refl h.step in
    record { goes = h.goes; answer = h.answer; machine = h.machine; step = t.0; replied = h.replied; changed = h.changed }

-- a step over a store is one over its state
pub within_answer : {X : Type 0} (who : ℕ) (way : Way) (old new : Debuggee) (before after : StoreWithin X) (replied : StepReply)
    → AnswersStep (within_memory who) way old before replied new after → AnswersStep (store_memory who) way old before.state replied new after.state
within_answer {X} who way old new before after (step_reply.Paused slot) h =
    record { held = h.held; slot_is = h.slot_is; changed = h.changed; same = ap (λ (s : StoreWithin X). s.state) h.same }
within_answer who way old new before after replied h = within_walk who way old new before after replied h
