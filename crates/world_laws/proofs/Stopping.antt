-- A machine that comes to a stop has an empty window, and other machines keep theirs.
use Rattle.std.proofs.Common.{◌≡◌, ◌≢◌, ℕ, zero, suc, Bool, true, false, List, [], ◌∷◌, set, Option, Some, None, refl, sym, ap, ◌∙◌, subst, ◌⊎◌, inl, inr}
use Rattle.std.proofs.lemmas.List.{get_or-set_other}
use Rattle.isa_table.specs.declared.instr.Instr.{Instr}
use Rattle.isa_table.specs.declared.instr.Instr.TheVariants.{CallHelper, CallLocal, Exit}
use Rattle.memory.specs.declared.access.Op.{Op}
use Rattle.memory.specs.declared.access.Reach.{Reach}
use Rattle.memory.specs.declared.access.Reach.TheVariants as reach
use Rattle.memory.specs.Access.{is_inside}
use Rattle.helpers.specs.declared.helper.Helper.{Helper}
use Rattle.helpers.specs.Helpers.{helper_of}
use Rattle.object_store.specs.Stores.{StoreState, store_memory, Touches, window_of}
use Rattle.machine.specs.declared.state.Frame.{Frame}
use Rattle.machine.specs.declared.state.Stop.{Stop}
use Rattle.machine.specs.declared.state.Stepped.{Stepped}
use Rattle.machine.specs.declared.state.Stepped.TheVariants.{Stopped}
use Rattle.machine.specs.declared.state.Accessing.{Accessing}
use Rattle.machine.specs.Rows.{Work}
use Rattle.machine.specs.Rows.Work.{Computes, AccessesStack, Accesses, Measures}
use Rattle.machine.specs.MachineState.{MachineState, stack_size}
use Rattle.machine.specs.Rows.{Answer, Outcome, asks_for, work_outcome, stack_outcome, call_outcome, exits, work_of}
use Rattle.machine.specs.TableStep.{TableStep, Closes}
use Rattle.machine.proofs.StepCases.{StepCase, step_case}
use Rattle.world_laws.proofs.Placed.{Kept, step_keeps}

-- ---- outcomes that stop

record Stops (o : Outcome) : Type 0 where
  stop : Stop
  answer : o.answer ≡ Stopped stop
  closes : o.closes ≡ true

-- it stops and closes all scopes, or it leaves the stop as it was
abbrev MayStop : MachineState → Outcome → Type 0
MayStop old o = Stops o ⊎ (o.machine.stop ≡ old.stop)

own_stops : (b : Bool) (i : Instr) (x : Accessing) (old : MachineState) → MayStop old (stack_outcome b i x old)
own_stops true i x old = inr refl
own_stops false i x old = inl (record { stop = _; answer = refl; closes = refl })

exits_stop : (frames : List Frame) (old : MachineState) → MayStop old (exits frames old)
exits_stop [] old = inl (record { stop = _; answer = refl; closes = refl })
exits_stop (f ∷ frames) old = inr refl

call_stops : (o : Option Helper) (i : Instr) (old : MachineState) → MayStop old (call_outcome i o 0 old)
call_stops (Some h) i old = inr refl
call_stops None i old = inr refl

outcome_stops : (w : Work) (i : Instr) (old : MachineState) (a : Answer (asks_for w)) → MayStop old (work_outcome w i old a)
outcome_stops (Accesses x) i old reach.Away = inr refl
outcome_stops (Accesses x) i old reach.Busy = inr refl
outcome_stops (Accesses x) i old (reach.Done v) = inr refl
outcome_stops (Accesses x) i old reach.Outside = inl (record { stop = _; answer = refl; closes = refl })
outcome_stops (Accesses x) i old reach.Worn = inl (record { stop = _; answer = refl; closes = refl })
outcome_stops (AccessesStack x) i old a = own_stops (is_inside x.op stack_size) i x old
outcome_stops (Measures k) i old l = inr refl
outcome_stops Computes Exit old a = exits_stop old.frames old
outcome_stops Computes (CallLocal o) old a = inr refl
outcome_stops Computes (CallHelper id) old a = call_stops (helper_of id) (CallHelper id) old
outcome_stops Computes _ old a = inr refl

-- ---- a step that ends in a stop

pub record EndsStopped (who : ℕ) (a : Stepped) (after : StoreState) : Type 0 where
  pub stop : Stop
  pub answer : a ≡ Stopped stop
  pub window : window_of after.windows who ≡ []

emptied : (windows : List (List ℕ)) (who : ℕ) → window_of (set windows who []) who ≡ []
emptied [] who = refl
emptied (w ∷ ws) zero = refl
emptied (w ∷ ws) (suc who) = emptied ws who

closed_empty : (who : ℕ) (b : Bool) (mid after : StoreState) → b ≡ true → Closes b (store_memory who) mid after → window_of after.windows who ≡ []
closed_empty who true mid after e h = ap (λ (s : StoreState). window_of s.windows who) h ∙ emptied mid.windows who
closed_empty who false mid after e h = absurd (cc)

closed_none : (who : ℕ) (b : Bool) (mid after : StoreState) → b ≡ false → Closes b (store_memory who) mid after → after ≡ mid
closed_none who true mid after e h = absurd (cc)
closed_none who false mid after e h = h

none_some : {P : Type 0} (o p : Option Stop) (s : Stop) → o ≡ None → p ≡ o → p ≡ Some s → P
none_some o p s e f g = absurd (cc)

outcome_ends : (who : ℕ) (old : MachineState) (o : Outcome) (mid after : StoreState) (s : Stop) → old.stop ≡ None → o.machine.stop ≡ Some s → MayStop old o
    → Closes o.closes (store_memory who) mid after → EndsStopped who o.answer after
outcome_ends who old o mid after s r e (inl d) c = record { stop = d.stop; answer = d.answer; window = closed_empty who o.closes mid after d.closes c }
outcome_ends who old o mid after s r e (inr d) c = none_some old.stop o.machine.stop s r d e

case_ends : (who : ℕ) (old : MachineState) (before mid after : StoreState) (o : Outcome) (s : Stop) → o.machine.stop ≡ Some s
    → ((t : Stop) → old.stop ≡ Some t → window_of before.windows who ≡ []) → StepCase (store_memory who) old before o mid
    → Closes o.closes (store_memory who) mid after → EndsStopped who o.answer after
case_ends who old before mid after o s e w (inl d) c =
    let same = closed_none who o.closes mid after (ap (λ (x : Outcome). x.closes) d.becomes) c ∙ d.same in
    record {
      stop = d.stop;
      answer = ap (λ (x : Outcome). x.answer) d.becomes;
      window = ap (λ (x : StoreState). window_of x.windows who) same ∙ w d.stop d.stopped;
    }
case_ends who old before mid after o s e w (inr (inl d)) c =
    record {
      stop = d.stop;
      answer = ap (λ (x : Outcome). x.answer) d.becomes;
      window = closed_empty who o.closes mid after (ap (λ (x : Outcome). x.closes) d.becomes) c;
    }
case_ends who old before mid after o s e w (inr (inr d)) c =
    outcome_ends who old o mid after s d.attempts.runs e (subst (MayStop old) (sym d.becomes) (outcome_stops (work_of d.instr old) d.instr old d.said)) c

pub ends_stopped : (who : ℕ) (old new : MachineState) (before after : StoreState) (a : Stepped) (s : Stop)
    → TableStep (store_memory who) old before a new after → new.stop ≡ Some s
    → ((t : Stop) → old.stop ≡ Some t → window_of before.windows who ≡ []) → EndsStopped who a after
ends_stopped who old new before after a s t e w =
    case_ends who old before t.mid after (record {
      machine = new;
      answer = a;
      closes = t.closes;
    }) s e w (step_case (store_memory who) old.stop old before _ t.mid refl t.steps) t.closed

-- ---- the windows of the others

abbrev HasWindow : ℕ → List ℕ → StoreState → Type 0
HasWindow k w s = window_of s.windows k ≡ w

touch_window : (who k : ℕ) (w : List ℕ) (before after : StoreState) (n : ℕ) (op : Op) (r : Reach) → k ≢ who → HasWindow k w before
    → Touches who before n op r after → HasWindow k w after
touch_window who k w before after n op (reach.Done v) d h t =
    ap (λ (s : StoreState). window_of s.windows k) t.3 ∙ (get_or-set_other before.windows who k _ [] d ∙ h)
touch_window who k w before after n op reach.Away d h t = ap (λ (s : StoreState). window_of s.windows k) t.2 ∙ h
touch_window who k w before after n op reach.Outside d h t = ap (λ (s : StoreState). window_of s.windows k) t.1 ∙ h
touch_window who k w before after n op _ d h t = absurd t

window_kept : (who k : ℕ) (w : List ℕ) → k ≢ who → Kept who (HasWindow k w)
window_kept who k w d = record {
  touched = λ x y n op r h t. touch_window who k w x y n op r d h t;
  closed = λ x h. get_or-set_other x.windows who k [] [] d ∙ h;
}

pub other_window : (who k : ℕ) (old new : MachineState) (before after : StoreState) (a : Stepped) → k ≢ who
    → TableStep (store_memory who) old before a new after
    → window_of after.windows k ≡ window_of before.windows k
other_window who k old new before after a d t =
    step_keeps (HasWindow k (window_of before.windows k)) who (window_kept who k (window_of before.windows k) d) old new before after a refl t
