-- A step keeps the machine's code.
use Rattle.std.proofs.Common.{◌≡◌, ℕ, Bool, true, false, List, [], ◌∷◌, Option, Some, None, refl, ap, ◌∙◌, inl, inr, arith}
use Rattle.memory.specs.Memories.{Memories}
use Rattle.memory.specs.declared.access.Reach.{Reach}
use Rattle.helpers.specs.declared.helper.Helper.{Helper}
use Rattle.helpers.specs.Helpers.{helper_of}
use Rattle.isa_table.specs.declared.instr.Instr.{Instr}
use Rattle.isa_table.specs.declared.instr.Instr.TheVariants.{CallHelper, CallLocal, Exit}
use Rattle.machine.specs.declared.state.Stepped.{Stepped}
use Rattle.machine.specs.declared.state.Accessing.{Accessing}
use Rattle.machine.specs.declared.state.Frame.{Frame}
use Rattle.machine.specs.Rows.{Work}
use Rattle.machine.specs.Rows.Work.{Computes, AccessesStack, Accesses, Measures}
use Rattle.machine.specs.MachineState.{MachineState}
use Rattle.machine.specs.Rows.{Answer, Outcome, asks_for, work_outcome, object_outcome, stack_outcome, call_outcome, computed, exits, work_of}
use Rattle.machine.specs.TableStep.{TableStep}
use Rattle.machine.proofs.StepCases.{StepCase, step_case}

abbrev KeepsCode : MachineState → Outcome → Type 0
KeepsCode old o = o.machine.code ≡ old.code

exits_keep : (frames : List Frame) (m : MachineState) → KeepsCode m (exits frames m)
exits_keep [] m = refl
exits_keep (f ∷ frames) m = refl

call_keeps : (i : Instr) (h : Option Helper) (bytes : ℕ) (m : MachineState) → KeepsCode m (call_outcome i h bytes m)
call_keeps i (Some h) bytes m = refl
call_keeps i None bytes m = refl

computed_keeps : (i : Instr) (m : MachineState) → KeepsCode m (computed i m)
computed_keeps Exit m = exits_keep m.frames m
computed_keeps (CallLocal o) m = refl
computed_keeps (CallHelper id) m = call_keeps (CallHelper id) (helper_of id) 0 m
computed_keeps _ m = refl

own_keeps : (b : Bool) (i : Instr) (x : Accessing) (m : MachineState) → KeepsCode m (stack_outcome b i x m)
own_keeps true i x m = refl
own_keeps false i x m = refl

access_keeps : (i : Instr) (x : Accessing) (m : MachineState) (r : Reach) → KeepsCode m (object_outcome i x m r)
access_keeps i x m r = grind arith

outcome_keeps : (w : Work) (i : Instr) (m : MachineState) (a : Answer (asks_for w)) → KeepsCode m (work_outcome w i m a)
outcome_keeps Computes i m a = computed_keeps i m
outcome_keeps (AccessesStack x) i m a = own_keeps _ i x m
outcome_keeps (Accesses x) i m a = access_keeps i x m a
outcome_keeps (Measures n) i m k = refl

case_keeps : {M : Type 0} (mem : Memories M) (old : MachineState) (before mid : M) (o : Outcome) → StepCase mem old before o mid → KeepsCode old o
case_keeps mem old before mid o (inl d) = ap (λ (x : Outcome). x.machine.code) d.becomes
case_keeps mem old before mid o (inr (inl d)) = ap (λ (x : Outcome). x.machine.code) d.becomes
case_keeps mem old before mid o (inr (inr d)) = ap (λ (x : Outcome). x.machine.code) d.becomes ∙ outcome_keeps (work_of d.instr old) d.instr old d.said

pub step_keeps_code : {M : Type 0} (mem : Memories M) (old new : MachineState) (before after : M) (a : Stepped)
    → TableStep mem old before a new after → new.code ≡ old.code
step_keeps_code mem old new before after a t = case_keeps mem old before t.mid _ (step_case mem old.stop old before _ t.mid refl t.steps)
