-- A step does the row at its slot whole, or stops.
use Rattle.std.proofs.Common.{◌⊎◌, ◌≡◌, Option, Some, None, inl, inr, refl}
use Rattle.memory.specs.Memories.{Memories}
use Rattle.machine.specs.declared.state.Stop.{Stop}
use Rattle.machine.specs.MachineState.{MachineState}
use Rattle.machine.specs.Rows.{Outcome}
use Rattle.machine.proofs.StepCases.{StepCase, step_case}
use Rattle.agent.specs.Theorems.{DoesItsRow, OnlyStops, StepsAreRows}

both : {A : Type 0} (s : Stop) (u : Option Stop) → u ≡ None → u ≡ Some s → A
both s u e f = absurd (cc)

row_or_stop : {M : Type 0} (mem : Memories M) (old : MachineState) (before : M) (o : Outcome) (mid : M) → old.stop ≡ None → StepCase mem old before o mid
    → DoesItsRow mem old before o mid ⊎ OnlyStops old before o mid
row_or_stop mem old before o mid e (inl s) = both s.stop old.stop e s.stopped
row_or_stop mem old before o mid e (inr (inl h)) = inr (record { stop = h.stop; cause = h.cause; becomes = h.becomes; same = h.same })
row_or_stop mem old before o mid e (inr (inr t)) =
    inl (record { instr = t.instr; attempts = t.attempts; said = t.said; answers = t.answers; becomes = t.becomes })

pub steps_are_rows : {M : Type 0} (mem : Memories M) → StepsAreRows mem
steps_are_rows mem old new before after answer e step = record {
  closes = step.closes;
  mid = step.mid;
  does = row_or_stop mem old before (record {
    machine = new;
    answer = answer;
    closes = step.closes;
  }) step.mid e (step_case mem old.stop old before _ step.mid refl step.steps);
  closed = step.closed;
}
