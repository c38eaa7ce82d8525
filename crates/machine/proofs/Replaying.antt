-- A machine as the replay of its accesses.
use Rattle.std.proofs.Common.{◌≡◌, ℕ, suc, Bool, true, false, List, [], ◌++◌, Option, Some, None, refl, ap, sym, ◌∙◌, subst, append-nil, arith, inl, inr, ◌⊎◌}
use Rattle.isa_table.specs.declared.instr.Instr.{Instr}
use Rattle.memory.specs.declared.access.Op.{Op}
use Rattle.memory.specs.declared.access.Reach.{Reach}
use Rattle.memory.specs.declared.access.Reach.TheVariants as reach
use Rattle.memory.specs.declared.deeds.Entry.{Entry}
use Rattle.memory.specs.Access.{IsInside}
use Rattle.memory.specs.Memories.{Memories, Did, KeepsPromises, entries_added}
use Rattle.memory.proofs.Promised.{did_nothing, did_then}
use Rattle.machine.specs.declared.state.Accessing.{Accessing}
use Rattle.machine.specs.declared.state.Written.{Written}
use Rattle.machine.specs.Rows.{Work}
use Rattle.machine.specs.Rows.Work.{Computes, AccessesStack, Accesses, Measures}
use Rattle.machine.specs.declared.state.Stop.{Stop}
use Rattle.machine.specs.declared.state.Stop.TheVariants as stop
use Rattle.machine.specs.declared.state.Stepped.{Stepped}
use Rattle.machine.specs.declared.state.Stepped.TheVariants.{Ran, Waiting, Stopped}
use Rattle.machine.specs.MachineState.{MachineState}
use Rattle.machine.specs.Rows.{Request, Answer, Outcome, asks_for, row_outcome, work_outcome, object_outcome, work_of}
use Rattle.machine.specs.Rows.Request.{Nothing, Touch}
use Rattle.machine.specs.TableStep.{TableStep, AnswersRequest, Closes, StepsFrom}
use Rattle.machine.specs.Carrying.{goes}
use Rattle.machine.specs.Laws.{IsWaiting, FuelPaid}
use Rattle.machine.specs.Replay.{recorded_memory, Replays, StopsThere, IsReplay, StartsAsReplay, ReplaysOn, StaysReplay}
use Rattle.machine.proofs.StepCases.{StepCase, step_case, steps_answered, steps_stopped}
use Rattle.machine.proofs.Stopping.{stopped_stays, stops_in_place, waits_in_place}
use Rattle.machine.proofs.Fuel.{fuel_counts}

pub starts_as_replay : StartsAsReplay
starts_as_replay lengths worn start = record { reached = start; steps = 0; fuel = omega arith; replays = (refl, refl); stops = inl refl }

-- ---- what a memory was asked for, as entries

-- A request that was answered so did this to the memory, and is answered so by the entries too, which these are added to. A
-- stop adds none.
record Recorded {M : Type 0} (mem : Memories M) (lengths : ℕ → ℕ) (worn : ℕ
    → Bool) (q : Request) (answer : Stepped) (es : List Entry) (before : M) (said : Answer q) (mid : M) : Type 0 where
  more : List Entry
  did : Did mem before more mid
  answers : AnswersRequest (recorded_memory lengths worn) q es said (es ++ more)
  none : (s : Stop) → answer ≡ Stopped s → more ≡ []

abbrev HasLengths : {M : Type 0} → Memories M → M → (ℕ → ℕ) → Type 0
HasLengths mem before lengths = (n : ℕ) → mem.length_of before n ≡ lengths n

abbrev IsMarked : {M : Type 0} → Memories M → M → (ℕ → Bool) → Type 0
IsMarked mem mid worn = (n : ℕ) → mem.is_worn mid n → worn n ≡ true

did_same : {M : Type 0} (mem : Memories M) (before mid : M) → mid ≡ before → Did mem before [] mid
did_same {M} mem before mid e = subst (λ (x : M). Did mem before [] x) (sym e) (did_nothing mem before)

ran_on : {P : Type 0} (w : Option Written) (s : Stop) → Ran w ≡ Stopped s → P
ran_on w s e = absurd (cc)

record_nothing : {M : Type 0} (mem : Memories M) (lengths : ℕ → ℕ) (worn : ℕ → Bool) (answer : Stepped) (es : List Entry) (before mid : M) → mid ≡ before
    → Recorded mem lengths worn Nothing answer es before tt mid
record_nothing mem lengths worn answer es before mid h = record { more = []; did = did_same mem before mid h; answers = append-nil es; none = λ s e. refl }

record_reach : {M : Type 0} (mem : Memories M) (lengths : ℕ → ℕ) (worn : ℕ
    → Bool) (i : Instr) (x : Accessing) (old : MachineState) (es : List Entry) (before mid : M) (r : Reach)
    → KeepsPromises mem → HasLengths mem before lengths → IsMarked mem mid worn → goes (object_outcome i x old r).answer ≡ true
    → mem.reaches before x.number x.op r mid
    → Recorded mem lengths worn (Touch x.number x.op) (object_outcome i x old r).answer es before r mid
record_reach mem lengths worn i x old es before mid (reach.Done v) p l k g h = record {
  more = entries_added x.number x.op (reach.Done v);
  did = p.reaches before mid x.number x.op (reach.Done v) h;
  answers = (subst (λ n. IsInside x.op n) (l x.number) (p.answers before mid x.number x.op (reach.Done v) h).0, refl);
  none = λ s e. ran_on _ s e;
}
record_reach mem lengths worn i x old es before mid reach.Outside p l k g h = record {
  more = [];
  did = p.reaches before mid x.number x.op reach.Outside h;
  answers = (λ j. p.answers before mid x.number x.op reach.Outside h (subst (λ n. IsInside x.op n) (sym (l x.number)) j), append-nil es);
  none = λ s e. refl;
}
record_reach mem lengths worn i x old es before mid reach.Worn p l k g h = record {
  more = [];
  did = p.reaches before mid x.number x.op reach.Worn h;
  answers = let a = p.answers before mid x.number x.op reach.Worn h in (subst (λ n. IsInside x.op n) (l x.number) a.0, k x.number a.1, append-nil es);
  none = λ s e. refl;
}
record_reach mem lengths worn i x old es before mid reach.Away p l k g h = absurd (cc)
record_reach mem lengths worn i x old es before mid reach.Busy p l k g h = absurd (cc)

record_request : {M : Type 0} (mem : Memories M) (lengths : ℕ → ℕ) (worn : ℕ
    → Bool) (w : Work) (i : Instr) (old : MachineState) (es : List Entry) (before mid : M) (said : Answer (asks_for w))
    → KeepsPromises mem → HasLengths mem before lengths → IsMarked mem mid worn → goes (work_outcome w i old said).answer ≡ true
    → AnswersRequest mem (asks_for w) before said mid
    → Recorded mem lengths worn (asks_for w) (work_outcome w i old said).answer es before said mid
record_request mem lengths worn Computes i old es before mid said p l k g h = record_nothing mem lengths worn _ es before mid h
record_request mem lengths worn (Measures n) i old es before mid c p l k g h = record {
  more = [];
  did = did_same mem before mid h.1;
  answers = (h.0 ∙ l n, append-nil es);
  none = λ s e. refl;
}
record_request mem lengths worn (AccessesStack x) i old es before mid said p l k g h = record_nothing mem lengths worn _ es before mid h
record_request mem lengths worn (Accesses x) i old es before mid r p l k g h = record_reach mem lengths worn i x old es before mid r p l k g h

-- ---- the replay after a step

closed_recorded : (b : Bool) (lengths : ℕ → ℕ) (worn : ℕ → Bool) (es : List Entry) → Closes b (recorded_memory lengths worn) es es
closed_recorded true lengths worn es = refl
closed_recorded false lengths worn es = refl

-- a machine that isn't stopped is the state that was reached
some_none : {P : Type 0} (s : Stop) (u : Option Stop) → u ≡ Some s → u ≡ None → P
some_none s u e f = let k : Some s ≡ None = sym e ∙ f in absurd (cc)

running : (lengths : ℕ → ℕ) (worn : ℕ → Bool) (start : MachineState) (es : List Entry) (m : MachineState) (r : IsReplay lengths worn start es m)
    → m.stop ≡ None → Replays lengths worn r.steps start es m
running lengths worn start es m r e = from r.stops
  where
    from : (m ≡ r.reached) ⊎ StopsThere lengths worn r.reached es m → Replays lengths worn r.steps start es m
    from (inl h) = subst (λ (x : MachineState). Replays lengths worn r.steps start es x) (sym h) r.replays
    from (inr h) = some_none h.stop m.stop (ap (λ (x : MachineState). x.stop)
        (stops_in_place (recorded_memory lengths worn) r.reached m es es h.stop h.other h.step)) e

-- by a step of the same instruction over the entries
on_step : (lengths : ℕ → ℕ) (worn : ℕ → Bool) (start old new : MachineState) (es more : List Entry) (a : Stepped) → goes a ≡ true
    → ((s : Stop) → a ≡ Stopped s → more ≡ [])
    → old.stop ≡ None → IsReplay lengths worn start es old → FuelPaid a old new → TableStep (recorded_memory lengths worn) old es a new (es ++ more)
    → IsReplay lengths worn start (es ++ more) new
on_step lengths worn start old new es more (Waiting n) g none e r f t = absurd (cc)
on_step lengths worn start old new es more (Ran w) g none e r f t = record {
  reached = new;
  steps = suc r.steps;
  fuel = omega (arith, r.fuel, f);
  replays = (old, es, running lengths worn start es old r e, record { answer = Ran w; step = t; paid = f });
  stops = inl refl;
}
on_step lengths worn start old new es more (Stopped (stop.Exit v)) g none e r f t = record {
  reached = new;
  steps = suc r.steps;
  fuel = omega (arith, r.fuel, f);
  replays = (old, es, running lengths worn start es old r e, record { answer = Stopped (stop.Exit v); step = t; paid = f });
  stops = inl refl;
}
on_step lengths worn start old new es more (Stopped s) g none e r f t = on_stop (none s refl) (ap (λ (m : MachineState). m.fuel) f)
  where
    on_stop : more ≡ [] → new.fuel ≡ old.fuel → IsReplay lengths worn start (es ++ more) new
    on_stop n k =
        let same : es ++ more ≡ es = ap (λ (l : List Entry). es ++ l) n ∙ append-nil es in
        subst (λ (l : List Entry). IsReplay lengths worn start l new) (sym same) (record {
          reached = old;
          steps = r.steps;
          fuel = omega (arith, r.fuel, k);
          replays = running lengths worn start es old r e;
          stops = inr (record {
            stop = s;
            other = refl;
            step = subst (λ (l : List Entry). TableStep (recorded_memory lengths worn) old es (Stopped s) new l) same t;
          });
        })

did_closed : {M : Type 0} (mem : Memories M) (b : Bool) (mid after : M) → KeepsPromises mem → Closes b mem mid after → Did mem mid [] after
did_closed mem true mid after p h = p.closes mid after h
did_closed mem false mid after p h = did_same mem mid after h

unmoved : {M : Type 0} (mem : Memories M) (lengths : ℕ → ℕ) (worn : ℕ → Bool) (start old new : MachineState) (es : List Entry) (before after : M)
    → new ≡ old → Did mem before [] after
    → IsReplay lengths worn start es old → ReplaysOn mem lengths worn start es before new after
unmoved mem lengths worn start old new es before after e d r = record {
  more = [];
  did = d;
  replay = subst (λ (l : List Entry). IsReplay lengths worn start l new) (sym (append-nil es))
      (subst (λ (m : MachineState). IsReplay lengths worn start es m) (sym e) r);
}

joined : {M : Type 0} (mem : Memories M) (before mid after : M) (more : List Entry) → Did mem before more mid → Did mem mid [] after → Did mem before more after
joined mem before mid after more p q = subst (λ (l : List Entry). Did mem before l after) (append-nil more) (did_then mem before mid after more [] p q)

waiting_did : {M : Type 0} (mem : Memories M) (before after : M) (n : ℕ) (op : Op) (r : Reach) → KeepsPromises mem → IsWaiting r
    → mem.reaches before n op r after → Did mem before [] after
waiting_did mem before after n op reach.Away p w h = p.reaches before after n op reach.Away h
waiting_did mem before after n op reach.Busy p w h = p.reaches before after n op reach.Busy h
waiting_did mem before after n op _ p w h = absurd w

pub waited_did : {M : Type 0} (mem : Memories M) → KeepsPromises mem → (old new : MachineState) (before after : M) (n : ℕ)
    → TableStep mem old before (Waiting n) new after → Did mem before [] after
waited_did mem p old new before after n t =
    let w = waits_in_place mem old new before after n t in
    waiting_did mem before after n w.1.1 w.1.2 p w.1.6 w.1.5

case_replay : {M : Type 0} (mem : Memories M) (lengths : ℕ → ℕ) (worn : ℕ
    → Bool) (start old new : MachineState) (es : List Entry) (before mid after : M) (a : Stepped) (closes : Bool)
    → KeepsPromises mem → HasLengths mem before lengths → IsMarked mem mid worn → goes a ≡ true → Closes closes mem mid after → old.stop ≡ None
    → IsReplay lengths worn start es old → FuelPaid a old new
    → StepCase mem old before (record { machine = new; answer = a; closes = closes }) mid → ReplaysOn mem lengths worn start es before new after
case_replay mem lengths worn start old new es before mid after a closes p l k g c e r f (inl d) = some_none d.stop old.stop d.stopped e
case_replay mem lengths worn start old new es before mid after a closes p l k g c e r f (inr (inl d)) =
    let o : Outcome = record { machine = new; answer = a; closes = closes } in
    let steps = subst (λ (x : Outcome). StepsFrom old.stop (recorded_memory lengths worn) old es x es) (sym d.becomes)
    (steps_stopped (recorded_memory lengths worn) d.stop old es e d.cause) in
    let t : TableStep (recorded_memory lengths worn) old es a new es =
    record { closes = closes; mid = es; steps = steps; closed = closed_recorded closes lengths worn es } in
    record {
      more = [];
      did = joined mem before mid after [] (did_same mem before mid d.same) (did_closed mem closes mid after p c);
      replay = on_step lengths worn start old new es [] a g (λ s h. refl) e r f
          (subst (λ (x : List Entry). TableStep (recorded_memory lengths worn) old es a new x) (sym (append-nil es)) t);
    }
case_replay mem lengths worn start old new es before mid after a closes p l k g c e r f (inr (inr d)) =
    let o : Outcome = record { machine = new; answer = a; closes = closes } in
    let same : (row_outcome d.instr old d.said).answer ≡ a = sym (ap (λ (x : Outcome). x.answer) d.becomes) in
    let w = record_request mem lengths worn (work_of d.instr old) d.instr old es before mid d.said p l k (ap goes same ∙ g) d.answers in
    let steps = subst (λ (x : Outcome). StepsFrom old.stop (recorded_memory lengths worn) old es x (es ++ w.more)) (sym d.becomes)
    (steps_answered (recorded_memory lengths worn) d.instr old es (es ++ w.more) d.said d.attempts w.answers) in
    record {
      more = w.more;
      did = joined mem before mid after w.more w.did (did_closed mem closes mid after p c);
      replay = on_step lengths worn start old new es w.more a g (λ s h. w.none s (same ∙ h)) e r f (record {
        closes = closes;
        mid = es ++ w.more;
        steps = steps;
        closed = closed_recorded closes lengths worn (es ++ w.more);
      });
    }

stepped : {M : Type 0} (mem : Memories M) (lengths : ℕ → ℕ) (worn : ℕ
    → Bool) (start old new : MachineState) (es : List Entry) (before after : M) (a : Stepped) (u : Option Stop)
    → KeepsPromises mem → HasLengths mem before lengths → IsMarked mem after worn → IsReplay lengths worn start es old → old.stop ≡ u
    → TableStep mem old before a new after → ReplaysOn mem lengths worn start es before new after
stepped mem lengths worn start old new es before after a (Some s) p l k r e t =
    let h = stopped_stays mem old new before after a s e t in
    unmoved mem lengths worn start old new es before after h.1 (did_same mem before after h.2) r
stepped mem lengths worn start old new es before after (Waiting n) None p l k r e t =
    unmoved mem lengths worn start old new es before after (waits_in_place mem old new before after n t).0 (waited_did mem p old new before after n t) r
stepped mem lengths worn start old new es before after (Ran w) None p l k r e t =
    case_replay mem lengths worn start old new es before t.mid after (Ran w) t.closes p l
    (λ n m. k n ((did_closed mem t.closes t.mid after p t.closed).worn n m)) refl t.closed e r
    (fuel_counts mem old new before after (Ran w) e t) (step_case mem old.stop old before _ t.mid refl t.steps)
stepped mem lengths worn start old new es before after (Stopped s) None p l k r e t =
    case_replay mem lengths worn start old new es before t.mid after (Stopped s) t.closes p l
    (λ n m. k n ((did_closed mem t.closes t.mid after p t.closed).worn n m)) refl t.closed e r
    (fuel_counts mem old new before after (Stopped s) e t) (step_case mem old.stop old before _ t.mid refl t.steps)

pub stays_replay : {M : Type 0} (mem : Memories M) → KeepsPromises mem → StaysReplay mem
stays_replay {M} mem p lengths worn start old new es before after a l k r t = stepped mem lengths worn start old new es before after a old.stop p l k r refl t
