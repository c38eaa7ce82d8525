-- A step tells what it writes.
use Rattle.std.proofs.Common.{◌≡◌, ◌≢◌, ℕ, nat_eq, Bool, true, false, cond, List, length, get_or, Some, None, IsTrue, refl, ap, sym, ◌∙◌, subst, inl, inr}
use Rattle.std.proofs.Common.{arith}
use Rattle.std.proofs.lemmas.Bool.Decides.{nat_tests}
use Rattle.isa_table.specs.declared.instr.Instr.{Instr}
use Rattle.memory.specs.declared.access.Reach.{Reach}
use Rattle.memory.specs.declared.access.Reach.TheVariants as reach
use Rattle.memory.specs.Access.{WritesAt, writes}
use Rattle.memory.specs.Objects.{bytes_of}
use Rattle.memory.specs.MapMemory.{map_reaches}
use Rattle.memory.proofs.Accesses.{bytes_stay, others, lengths}
use Rattle.object_store.specs.Stores.{StoreState, store_memory, Touches}
use Rattle.machine.specs.declared.state.Accessing.{Accessing}
use Rattle.machine.specs.Rows.{Work}
use Rattle.machine.specs.Rows.Work.{Computes, AccessesStack, Accesses, Measures}
use Rattle.machine.specs.declared.state.Written.{Written}
use Rattle.machine.specs.declared.state.Stepped.{Stepped}
use Rattle.machine.specs.declared.state.Stepped.TheVariants.{Ran}
use Rattle.machine.specs.MachineState.{MachineState}
use Rattle.machine.specs.Rows.{Answer, Outcome, asks_for, work_outcome, object_outcome, range, work_of}
use Rattle.machine.specs.TableStep.{AnswersRequest, Closes}
use Rattle.machine.proofs.StepCases.{StepCase, step_case}
use Rattle.world_laws.specs.Stepping.{IsTold, ChangesTold, StepsTellWhatTheyWrite}

abbrev Objects : Type 0
Objects = List (List ℕ)

-- closing scopes changes no object
pub closed_objects : (who : ℕ) (b : Bool) (mid after : StoreState) → Closes b (store_memory who) mid after → after.objects ≡ mid.objects
closed_objects who true mid after h = ap (λ (s : StoreState). s.objects) h
closed_objects who false mid after h = ap (λ (s : StoreState). s.objects) h

same_told : (a : Stepped) (before after : Objects) → after ≡ before → ChangesTold a before after
same_told a before after e n = (ap (λ (o : Objects). length (bytes_of o n)) e, λ i _. ap (λ (o : Objects). get_or (bytes_of o n) i 0) e)

range_told : (b : Bool) (w : Written) → IsTrue b → cond b (Some w) None ≡ Some w
range_told true w h = refl
range_told false w h = absurd (cc)

byte_told : (b : Bool) (x : Accessing) (v n i : ℕ) (a : Stepped) (before mid : Objects) → nat_eq n x.number ≡ b
    → map_reaches before x.number x.op (reach.Done v) mid → a ≡ Ran (range x v)
    → (IsTold a n i → ⊥) → get_or (bytes_of mid n) i 0 ≡ get_or (bytes_of before n) i 0
byte_told true x v n i a before mid e h s d =
    let same : n ≡ x.number = grind (arith, nat_tests) in
    let untold : WritesAt x.op v i → ⊥ = λ w. d
    (subst (λ (z : Stepped). IsTold z n i) (sym (s ∙ ap Ran (range_told (writes x.op.action v) _ w.wrote))) (same, w.from, w.to)) in
    subst (λ k. get_or (bytes_of mid k) i 0 ≡ get_or (bytes_of before k) i 0) (sym same) (bytes_stay before mid x.number x.op v i h untold)
byte_told false x v n i a before mid e h s d =
    let other : n ≢ x.number = grind (arith, nat_tests) in
    ap (λ (b : List ℕ). get_or b i 0) (others before mid x.number n x.op (reach.Done v) h other)

reach_told : (who : ℕ) (x : Accessing) (i : Instr) (m : MachineState) (r : Reach) (a : Stepped) (before mid : StoreState)
    → Touches who before x.number x.op r mid
    → a ≡ (object_outcome i x m r).answer → ChangesTold a before.objects mid.objects
reach_told who x i m (reach.Done v) a before mid h s =
    let done : map_reaches before.objects x.number x.op (reach.Done v) mid.objects = (h.0, h.2, ap (λ (s : StoreState). s.objects) h.3) in
    λ n. (
      lengths before.objects mid.objects x.number n x.op (reach.Done v) done,
      λ k d. byte_told (nat_eq n x.number) x v n k a before.objects mid.objects refl done s d,
    )
reach_told who x i m reach.Outside a before mid h s = same_told a before.objects mid.objects (ap (λ (s : StoreState). s.objects) h.1)
reach_told who x i m reach.Away a before mid h s = same_told a before.objects mid.objects (ap (λ (s : StoreState). s.objects) h.2)
reach_told who x i m _ a before mid h s = absurd h

same_store : (a : Stepped) (before mid : StoreState) → mid ≡ before → ChangesTold a before.objects mid.objects
same_store a before mid e = same_told a before.objects mid.objects (ap (λ (s : StoreState). s.objects) e)

work_told : (who : ℕ) (w : Work) (i : Instr) (m : MachineState) (said : Answer (asks_for w)) (a : Stepped) (before mid : StoreState)
    → AnswersRequest (store_memory who) (asks_for w) before said mid → a ≡ (work_outcome w i m said).answer → ChangesTold a before.objects mid.objects
work_told who Computes i m said a before mid h s = same_store a before mid h
work_told who (Measures n) i m k a before mid h s = same_store a before mid h.1
work_told who (AccessesStack x) i m said a before mid h s = same_store a before mid h
work_told who (Accesses x) i m r a before mid h s = reach_told who x i m r a before mid h s

case_told : (who : ℕ) (m : MachineState) (before mid : StoreState) (o : Outcome) → StepCase (store_memory who) m before o mid
    → ChangesTold o.answer before.objects mid.objects
case_told who m before mid o (inl d) = same_store o.answer before mid d.same
case_told who m before mid o (inr (inl d)) = same_store o.answer before mid d.same
case_told who m before mid o (inr (inr d)) =
    work_told who (work_of d.instr m) d.instr m d.said o.answer before mid d.answers (ap (λ (x : Outcome). x.answer) d.becomes)

pub steps_tell_what_they_write : StepsTellWhatTheyWrite
steps_tell_what_they_write m way old new before after r s =
    let t = s.step in
    subst (λ (o : Objects). ChangesTold s.answer before.objects o) (sym (closed_objects m t.closes t.mid after t.closed))
    (case_told m old.machine before t.mid _ (step_case (store_memory m) old.machine.stop old.machine before _ t.mid refl t.steps))
