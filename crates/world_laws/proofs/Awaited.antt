-- A step waits exactly where its object isn't here.
use Rattle.std.proofs.Common.{◌≡◌, ◌≢◌, ℕ, Bool, true, false, cond, List, refl, sym, ap, ◌∙◌, subst}
use Rattle.isa_table.specs.declared.instr.Instr.{Instr}
use Rattle.memory.specs.declared.access.Op.{Op}
use Rattle.memory.specs.declared.access.Reach.{Reach}
use Rattle.memory.specs.declared.access.Reach.TheVariants as reach
use Rattle.memory.specs.Objects.{Reaches}
use Rattle.placement.specs.declared.places.Place.TheVariants.{Here}
use Rattle.object_store.specs.Stores.{StoreState, store_memory, Touches, place_of}
use Rattle.machine.specs.declared.state.Stepped.{Stepped}
use Rattle.machine.specs.declared.state.Stepped.TheVariants as stepped
use Rattle.machine.specs.Rows.{Work}
use Rattle.machine.specs.Rows.Work.{Computes, AccessesStack, Accesses, Measures}
use Rattle.machine.specs.MachineState.{MachineState}
use Rattle.machine.specs.Rows.{Answer, Outcome, asks, asks_for, work_outcome, waits, work_of}
use Rattle.machine.specs.Rows.Request.{Touch}
use Rattle.machine.specs.TableStep as table
use Rattle.machine.specs.TableStep.{TableStep, StepsFrom, Attempts}
use Rattle.machine.specs.Laws.{IsDetermined, IsWaiting}
use Rattle.machine.proofs.StepCases.{steps_answered}
use Rattle.machine.proofs.OneWay.{steps_one_way}
use Rattle.machine.proofs.Stopping.{waits_in_place}
use Rattle.debugger.specs.DebugState.{DebugState, hits}
use Rattle.debugger.specs.Pausing.{debugged}
use Rattle.debugger.specs.Debuggees.{holds_back, reply_after}
use Rattle.debugger.specs.declared.commands.Way.{Way}
use Rattle.debugger.specs.declared.replies.StepReply.TheVariants as step_reply
use Rattle.debugger.specs.declared.debuggee.Debuggee.{Debuggee}
use Rattle.world.specs.declared.replies.Reply.{Reply}
use Rattle.world.specs.declared.replies.Reply.TheVariants as reply
use Rattle.world.specs.WorldState.{WorldState, machine_at, with_machine}
use Rattle.world_laws.specs.Stepping.{Awaits, WaitsExactly}
use Rattle.world.proofs.Numbered.{with_same}
use Rattle.world_laws.proofs.Machines.{found_once, found_none}
use Rattle.world_laws.proofs.Answered.{Steps, StepsAt, StepAnswer, NoMachine, Pause, TableRow, parted}

-- ---- a store is determined

touched_once : (who : ℕ) (before a b : StoreState) (n : ℕ) (op : Op) (r s : Reach) → Touches who before n op r a
    → Touches who before n op s b → (r ≡ s) × (a ≡ b)
touched_once who before a b n op (reach.Done v) (reach.Done w) g h = (ap reach.Done (g.2 ∙ sym h.2), g.3 ∙ sym h.3)
touched_once who before a b n op (reach.Done v) reach.Away g h = absurd (h.1 g.1)
touched_once who before a b n op (reach.Done v) reach.Outside g h = absurd (h.0 g.0)
touched_once who before a b n op (reach.Done v) _ g h = absurd h
touched_once who before a b n op reach.Away (reach.Done w) g h = absurd (g.1 h.1)
touched_once who before a b n op reach.Away reach.Away g h = (refl, g.2 ∙ sym h.2)
touched_once who before a b n op reach.Away reach.Outside g h = absurd (h.0 g.0)
touched_once who before a b n op reach.Away _ g h = absurd h
touched_once who before a b n op reach.Outside (reach.Done w) g h = absurd (g.0 h.0)
touched_once who before a b n op reach.Outside reach.Away g h = absurd (g.0 h.0)
touched_once who before a b n op reach.Outside reach.Outside g h = (refl, g.1 ∙ sym h.1)
touched_once who before a b n op reach.Outside _ g h = absurd h
touched_once who before a b n op _ _ g h = absurd g

pub store_determined : (who : ℕ) → IsDetermined (store_memory who)
store_determined who = record { reached = λ x a b n op r s g h. touched_once who x a b n op r s g h; closed = λ x a b g h. g ∙ sym h }

-- ---- a step that waits

touch_is : (a b : ℕ) (p q : Op) → Touch a p ≡ Touch b q → a ≡ b
touch_is a b p q e = cc

op_is : (a b : ℕ) (p q : Op) → Touch a p ≡ Touch b q → p ≡ q
op_is a b p q e = cc

-- memory answers that the object is away, and then the machine waits for it
record Away (who : ℕ) (w : Work) (i : Instr) (old : MachineState) (n : ℕ) (before : StoreState) : Type 0 where
  said : Answer (asks_for w)
  answers : table.AnswersRequest (store_memory who) (asks_for w) before said before
  waits : work_outcome w i old said ≡ waits n old

away : (who : ℕ) (w : Work) (i : Instr) (old : MachineState) (n : ℕ) (op : Op) (before : StoreState) → asks_for w ≡ Touch n op
    → Reaches before.objects n op → place_of before.places n ≢ Here → Away who w i old n before
away who Computes i old n op before e g p = absurd (cc)
away who (Measures k) i old n op before e g p = absurd (cc)
away who (AccessesStack x) i old n op before e g p = absurd (cc)
away who (Accesses x) i old n op before e g p = record {
  said = reach.Away;
  answers = subst (λ (q : Op). (store_memory who).reaches before x.number q reach.Away before) (sym (op_is x.number n x.op op e))
      (subst (λ k. (store_memory who).reaches before k op reach.Away before) (sym (touch_is x.number n x.op op e)) (g, p, refl));
  waits = ap (λ k. waits k old) (touch_is x.number n x.op op e);
}

waiting_step : (who n : ℕ) (old : MachineState) (before : StoreState) (i : Instr) (op : Op) → Attempts old i → asks i old ≡ Touch n op
    → Reaches before.objects n op → place_of before.places n ≢ Here
    → TableStep (store_memory who) old before (stepped.Waiting n) old before
waiting_step who n old before i op t e g p =
    let a = away who (work_of i old) i old n op before e g p in
    record {
      closes = false;
      mid = before;
      steps = subst (λ (o : Outcome). StepsFrom old.stop (store_memory who) old before o before) a.waits
          (steps_answered (store_memory who) i old before before a.said t a.answers);
      closed = refl;
    }

-- ---- the two directions

-- machine m waits for object n
abbrev waiting : ℕ → ℕ → Reply
waiting m n = reply.Stepped m (step_reply.Waiting n)

waiting_tells : (m slot n : ℕ) (d : DebugState) (a : Stepped) (r : Reply) → a ≡ stepped.Waiting n → r ≡ reply.Stepped m (reply_after a slot d) → r ≡ waiting m n
waiting_tells m slot n d a r e f = rw e at f

abbrev StepsStore : Way → WorldState → ℕ → Reply → WorldState → Type 0
StepsStore way old m r new = StepsAt (store_memory m) way old.machines old.store m r new.machines new.store

held_goes : {P : Type 0} (way : Way) (d e : Debuggee) → d ≡ e → holds_back way d ≡ true → holds_back way e ≡ false → P
held_goes way d e s p q = let g = rw s at p in absurd (cc)

back : (way : Way) (old new : WorldState) (m n : ℕ) (r : Reply) → Awaits way old m n
    → StepAnswer (store_memory m) way old.machines old.store m r new.machines new.store → r ≡ waiting m n
back way old new m n r w (NoMachine h) = found_none (machine_at old.machines m) w.debuggee h.none w.found
back way old new m n r w (Pause h) =
    held_goes way h.debuggee w.debuggee (found_once (machine_at old.machines m) h.debuggee w.debuggee h.found w.found) h.held w.goes
back way old new m n r w (TableRow h) =
    let same = found_once (machine_at old.machines m) h.debuggee w.debuggee h.found w.found in
    let step = subst (λ (x : Debuggee). TableStep (store_memory m) x.machine old.store h.answer h.machine new.store) same h.step in
    let wait = waiting_step m n w.debuggee.machine old.store w.instr w.op w.attempts w.access w.inside w.not_here in
    let once = steps_one_way (store_memory m) (store_determined m) w.debuggee.machine h.machine w.debuggee.machine old.store new.store old.store h.answer
    (stepped.Waiting n) step wait in
    waiting_tells m h.machine.slot n h.debuggee.debugger h.answer r once.0 h.replied

-- the answer that is told as waiting
record IsWait (m k n : ℕ) (a : Stepped) : Type 0 where
  number : k ≡ m
  answer : a ≡ stepped.Waiting n

ran_waits : (b : Bool) (k n m slot : ℕ) → waiting k n ≡ reply.Stepped m (cond b (step_reply.Hit slot) (step_reply.Ran slot)) → ⊥
ran_waits true k n m slot e = cc
ran_waits false k n m slot e = cc

waiting_is : (k n m i : ℕ) → waiting k n ≡ waiting m i → (k ≡ m) × (i ≡ n)
waiting_is k n m i e = (cc, cc)

reply_waits : (m k n slot : ℕ) (a : Stepped) (d : DebugState) → waiting k n ≡ reply.Stepped m (reply_after a slot d) → IsWait m k n a
reply_waits m k n slot (stepped.Ran w) d e = absurd (ran_waits (hits w d) k n m slot e)
reply_waits m k n slot (stepped.Stopped s) d e = absurd (cc)
reply_waits m k n slot (stepped.Waiting i) d e = let g = waiting_is k n m i e in record { number = g.0; answer = ap stepped.Waiting g.1 }

record Barred (who : ℕ) (before after : StoreState) (n : ℕ) (op : Op) : Type 0 where
  inside : Reaches before.objects n op
  away : place_of before.places n ≢ Here
  same : after ≡ before

barred : (who : ℕ) (before after : StoreState) (n : ℕ) (op : Op) (r : Reach) → IsWaiting r → Touches who before n op r after → Barred who before after n op
barred who before after n op reach.Away w h = record { inside = h.0; away = h.1; same = h.2 }
barred who before after n op reach.Busy w h = absurd h
barred who before after n op _ w h = absurd w

there : (way : Way) (old new : WorldState) (m k n : ℕ) → Steps (store_memory m) way old.machines old.store m (waiting k n) new.machines new.store
    → (k ≡ m) × Awaits way old m n × (new ≡ old)
there way old new m k n h =
    let t = reply_waits m k n h.machine.slot h.answer h.debuggee.debugger h.replied in
    let step = subst (λ (a : Stepped). TableStep (store_memory m) h.debuggee.machine old.store a h.machine new.store) t.answer h.step in
    let w = waits_in_place (store_memory m) h.debuggee.machine h.machine old.store new.store n step in
    let b = barred m old.store new.store n w.1.1 w.1.2 w.1.6 w.1.5 in
    let debugger : debugged way h.answer h.debuggee.debugger ≡ h.debuggee.debugger = ap (λ (a : Stepped). debugged way a h.debuggee.debugger) t.answer in
    let machines : new.machines ≡ old.machines =
    h.changed ∙ ap (λ (x : MachineState). with_machine old.machines m (record { machine = x; debugger = debugged way h.answer h.debuggee.debugger })) w.0
    ∙ ap (λ (x : DebugState). with_machine old.machines m (record { machine = h.debuggee.machine; debugger = x })) debugger
    ∙ with_same old.machines m h.debuggee h.found in (
      t.number,
      record {
        debuggee = h.debuggee;
        found = h.found;
        goes = h.goes;
        instr = w.1.0;
        attempts = w.1.3;
        op = w.1.1;
        access = w.1.4;
        inside = b.inside;
        not_here = b.away;
      },
      ap (λ (x : List Debuggee). record { machines = x; store = new.store }) machines
          ∙ ap (λ (x : StoreState). record { machines = old.machines; store = x }) b.same,
    )

table_row : (way : Way) (old new : WorldState) (m k n : ℕ) → StepAnswer (store_memory m) way old.machines old.store m (waiting k n) new.machines new.store
    → Steps (store_memory m) way old.machines old.store m (waiting k n) new.machines new.store
table_row way old new m k n (NoMachine h) = let e = h.replied in absurd (cc)
table_row way old new m k n (Pause h) = let e = h.replied in absurd (cc)
table_row way old new m k n (TableRow h) = h

exactly : (way : Way) (old new : WorldState) (m n : ℕ) (r : Reply) → StepsStore way old m r new
    → ((k : ℕ) → r ≡ waiting k n → (k ≡ m) × Awaits way old m n × (new ≡ old)) × (Awaits way old m n → r ≡ waiting m n)
exactly way old new m n r h = (
  λ k e. there way old new m k n (table_row way old new m k n
      (subst (λ (x : Reply). StepAnswer (store_memory m) way old.machines old.store m x new.machines new.store) e
      (parted (store_memory m) way old.machines old.store m r new.machines new.store h))),
  λ w. back way old new m n r w (parted (store_memory m) way old.machines old.store m r new.machines new.store h),
)

pub waits_exactly : WaitsExactly
waits_exactly old new way m n r h = exactly way old new m n r h
