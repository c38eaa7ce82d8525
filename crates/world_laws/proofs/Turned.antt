-- Steps of two machines that come to no common object commute.
use Rattle.std.proofs.Common.{◌≡◌, ◌≢◌, ℕ, List, Option, Some, None, inl, refl, sym, ap, ◌∙◌, subst}
use Rattle.object_store.specs.Stores.{StoreState, store_memory}
use Rattle.machine.specs.declared.state.Stepped.{Stepped}
use Rattle.machine.specs.MachineState.{MachineState}
use Rattle.machine.specs.TableStep.{TableStep}
use Rattle.machine.specs.Laws.{AccessesNext}
use Rattle.debugger.specs.Pausing.{with_pause, debugged}
use Rattle.debugger.specs.declared.commands.Way.{Way}
use Rattle.debugger.specs.declared.commands.MachineCommand.TheVariants.{Step}
use Rattle.debugger.specs.declared.debuggee.Debuggee.{Debuggee}
use Rattle.world.specs.declared.replies.Reply.{Reply}
use Rattle.world.specs.WorldState.{WorldState, machine_at, with_machine}
use Rattle.world.specs.Answers.{Answers}
use Rattle.world.specs.declared.events.Event.TheVariants.{Machine}
use Rattle.world.specs.Machines.{Misses}
use Rattle.world_laws.specs.Stepping.{Comes, StepsCommute}
use Rattle.world_laws.proofs.Machines.{not_zero, other_number, machines_swap}
use Rattle.world_laws.proofs.Answered.{Steps, Halts, StepsAt, StepAnswer, NoMachine, Pause, TableRow, parted, stepped_so, halting}
use Rattle.world_laws.proofs.StepsOfTwo.{store_steps_commute}

-- ---- what a command does to its machine, and to the store

-- nothing, or a step of the table
data Kind : Type 0 where
  Idle : Kind
  Row : MachineState → Stepped → MachineState → Kind

abbrev Does : ℕ → Kind → StoreState → StoreState → Type 0
Does who Idle x y = y ≡ x
Does who (Row p a q) x y = TableStep (store_memory who) p x a q y

abbrev Reaches : Kind → ℕ → Type 0
Reaches Idle n = ⊥
Reaches (Row p a q) n = AccessesNext p n

abbrev put_in : List Debuggee → ℕ → Option Debuggee → List Debuggee
put_in xs m None = xs
put_in xs m (Some e) = with_machine xs m e

abbrev IfPut : Option Debuggee → Type 0 → Type 0
IfPut None P = Unit {0}
IfPut (Some e) P = P

-- a machine whose next step is an access
record Going (xs : List Debuggee) (m n : ℕ) : Type 0 where
  debuggee : Debuggee
  found : machine_at xs m ≡ Some debuggee
  touches : AccessesNext debuggee.machine n

record Local (way : Way) (m : ℕ) (r : Reply) (old : List Debuggee) (before : StoreState) (new : List Debuggee) (after : StoreState) : Type 0 where
  kind : Kind
  put : Option Debuggee
  does : Does m kind before after
  changed : new ≡ put_in old m put
  number : IfPut put (m ≢ 0)
  goes : (n : ℕ) → Reaches kind n → Going old m n
  -- among any machines, if this one is the same
  again : (xs : List Debuggee) (x y : StoreState) → machine_at xs m ≡ machine_at old m → Does m kind x y
      → StepsAt (store_memory m) way xs x m r (put_in xs m put) y

local_none : (way : Way) (m : ℕ) (r : Reply) (old new : List Debuggee) (before after : StoreState) → Misses old before m r new after
    → Local way m r old before new after
local_none way m r old new before after h = record {
  kind = Idle;
  put = None;
  does = h.same;
  changed = h.unchanged;
  number = tt;
  goes = λ n e. absurd e;
  again = λ xs x y e d. inl (record { none = e ∙ h.none; replied = h.replied; unchanged = refl; same = d });
}

local_pause : (way : Way) (m : ℕ) (r : Reply) (old new : List Debuggee) (before after : StoreState) → Halts way old before m r new after
    → Local way m r old before new after
local_pause way m r old new before after h =
    let e : Debuggee = record h.debuggee { debugger = with_pause h.slot h.debuggee.debugger } in
    record {
      kind = Idle;
      put = Some e;
      does = h.same;
      changed = h.changed;
      number = not_zero old m h.debuggee h.found;
      goes = λ n e. absurd e;
      again = λ xs x y f d. halting (store_memory m) way xs x m r (with_machine xs m e) y (record {
        debuggee = h.debuggee;
        found = f ∙ h.found;
        slot = h.slot;
        replied = h.replied;
        held = h.held;
        slot_is = h.slot_is;
        changed = refl;
        same = d;
      });
    }

local_row : (way : Way) (m : ℕ) (r : Reply) (old new : List Debuggee) (before after : StoreState) → Steps (store_memory m) way old before m r new after
    → Local way m r old before new after
local_row way m r old new before after h = record {
  kind = Row h.debuggee.machine h.answer h.machine;
  put = Some (record { machine = h.machine; debugger = debugged way h.answer h.debuggee.debugger });
  does = h.step;
  changed = h.changed;
  number = not_zero old m h.debuggee h.found;
  goes = λ n t. record { debuggee = h.debuggee; found = h.found; touches = t };
  again = λ xs x y f d. stepped_so (store_memory m) way xs x m r _ y (record {
    debuggee = h.debuggee;
    found = f ∙ h.found;
    goes = h.goes;
    answer = h.answer;
    machine = h.machine;
    step = d;
    replied = h.replied;
    changed = refl;
  });
}

local_case : (way : Way) (m : ℕ) (r : Reply) (old new : List Debuggee) (before after : StoreState)
    → StepAnswer (store_memory m) way old before m r new after → Local way m r old before new after
local_case way m r old new before after (NoMachine h) = local_none way m r old new before after h
local_case way m r old new before after (Pause h) = local_pause way m r old new before after h
local_case way m r old new before after (TableRow h) = local_row way m r old new before after h

-- ---- two of them

put_other : (xs : List Debuggee) (m k : ℕ) (p : Option Debuggee) → IfPut p (m ≢ 0) → k ≢ m → machine_at (put_in xs m p) k ≡ machine_at xs k
put_other xs m k None z d = refl
put_other xs m k (Some e) z d = other_number xs m k e z d

puts_swap : (xs : List Debuggee) (m k : ℕ) (p q : Option Debuggee) → IfPut p (m ≢ 0) → IfPut q (k ≢ 0) → m ≢ k
    → put_in (put_in xs m p) k q ≡ put_in (put_in xs k q) m p
puts_swap xs m k None None y z d = refl
puts_swap xs m k None (Some f) y z d = refl
puts_swap xs m k (Some e) None y z d = refl
puts_swap xs m k (Some e) (Some f) y z d = machines_swap xs m k e f y z d

does_turned : (m k : ℕ) (p q : Kind) (x y z : StoreState) → m ≢ k → ((n : ℕ) → Reaches p n → Reaches q n → ⊥) → Does m p x y → Does k q y z
    → (other : StoreState) × Does k q x other × Does m p other z
does_turned m k Idle q x y z d e g h = (z, subst (λ (s : StoreState). Does k q s z) g h, refl)
does_turned m k (Row p a r) Idle x y z d e g h = (x, refl, subst (λ (s : StoreState). TableStep (store_memory m) p x a r s) (sym h) g)
does_turned m k (Row p a r) (Row q b s) x y z d e g h = store_steps_commute m k p q r s x y z a b d e g h

abbrev StepsStore : Way → WorldState → ℕ → Reply → WorldState → Type 0
StepsStore way old m r new = StepsAt (store_memory m) way old.machines old.store m r new.machines new.store

localled : (way : Way) (old new : WorldState) (m : ℕ) (r : Reply) → StepsStore way old m r new → Local way m r old.machines old.store new.machines new.store
localled way old new m r h = local_case way m r old.machines new.machines old.store new.store
    (parted (store_memory m) way old.machines old.store m r new.machines new.store h)

record Turned (old : WorldState) (v w : Way) (m k : ℕ) (a b : Reply) (new : WorldState) : Type 0 where
  side : WorldState
  second : StepsStore w old k b side
  first : StepsStore v side m a new

turned : (old mid new : WorldState) (v w : Way) (m k : ℕ) (a b : Reply) → m ≢ k → ((n : ℕ) → Comes old m n → Comes old k n → ⊥)
    → Local v m a old.machines old.store mid.machines mid.store → Local w k b mid.machines mid.store new.machines new.store → Turned old v w m k a b new
turned old mid new v w m k a b d apart g h =
    let there : machine_at mid.machines k ≡ machine_at old.machines k =
    ap (λ (xs : List Debuggee). machine_at xs k) g.changed ∙ put_other old.machines m k g.put g.number (λ e. d (sym e)) in
    let o = does_turned m k g.kind h.kind old.store mid.store new.store d (λ n s t.
    let x = g.goes n s in
    let y = h.goes n t in
    apart n (record { debuggee = x.debuggee; found = x.found; touches = x.touches }) (record {
      debuggee = y.debuggee;
      found = sym there ∙ y.found;
      touches = y.touches;
    })) g.does h.does in
    let side : WorldState = record { machines = put_in old.machines k h.put; store = o.0 } in
    let machines : new.machines ≡ put_in side.machines m g.put =
    h.changed ∙ ap (λ (xs : List Debuggee). put_in xs k h.put) g.changed ∙ puts_swap old.machines m k g.put h.put g.number h.number d in
    record {
      side = side;
      second = h.again old.machines old.store o.0 (sym there) o.1;
      first = subst (λ (xs : List Debuggee). StepsAt (store_memory m) v side.machines o.0 m a xs new.store) (sym machines)
          (g.again side.machines o.0 new.store (put_other old.machines k m h.put h.number d) o.2);
    }

pub steps_commute : StepsCommute
steps_commute old new v w m k a b d apart h =
    let last : Answers h.0 (Machine k (Step w)) b new = subst (λ (x : WorldState). Answers h.0 (Machine k (Step w)) b x) (sym h.2.2) h.2.1 in
    let t = turned old h.0 new v w m k a b d apart (localled v old h.0 m a h.1) (localled w h.0 new k b last) in
    (t.side, t.second, (new, t.first, refl))
