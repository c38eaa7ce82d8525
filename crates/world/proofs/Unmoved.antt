-- Moving objects changes nothing.
use Rattle.std.proofs.Common.{◌≡◌, ℕ, Bool, true, false, ◌||◌, cond, List, [], ◌∷◌, inl, inr, refl, sym, ap, ◌∙◌, subst}
use Rattle.memory.specs.declared.access.Op.{Op}
use Rattle.memory.specs.declared.access.Reach.{Reach}
use Rattle.memory.specs.declared.access.Reach.TheVariants as reach
use Rattle.memory.specs.MapMemory.{map_memory, map_reaches}
use Rattle.placement.specs.declared.places.Moved.{Moved}
use Rattle.placement.specs.declared.places.Moved.TheVariants as moved
use Rattle.object_store.specs.Stores.{StoreState, store_memory, Touches}
use Rattle.object_store.specs.Calls.{Frees}
use Rattle.machine.specs.declared.state.Stepped.{Stepped}
use Rattle.machine.specs.declared.state.Stepped.TheVariants as stepped
use Rattle.machine.specs.MachineState.{MachineState}
use Rattle.machine.specs.TableStep.{TableStep}
use Rattle.machine.specs.Laws.{IsWaiting}
use Rattle.machine.specs.Carrying.{Carries, is_done, goes}
use Rattle.machine.proofs.Carried.{step_carries}
use Rattle.machine.proofs.Stopping.{waits_in_place}
use Rattle.debugger.specs.declared.commands.Way.{Way}
use Rattle.debugger.specs.declared.commands.MachineCommand.{MachineCommand}
use Rattle.debugger.specs.declared.commands.MachineCommand.TheVariants.{Step, Show, Debug}
use Rattle.debugger.specs.declared.replies.StepReply.{StepReply}
use Rattle.debugger.specs.declared.replies.StepReply.TheVariants as step_reply
use Rattle.debugger.specs.declared.debuggee.Debuggee.{Debuggee}
use Rattle.debugger.specs.DebugState.{DebugState, hits}
use Rattle.debugger.specs.Pausing as pausing
use Rattle.debugger.specs.Debuggees.{Walks, AnswersStep, reply_after}
use Rattle.world.specs.declared.replies.Reply.{Reply}
use Rattle.world.specs.declared.replies.Reply.TheVariants as reply
use Rattle.world.specs.declared.events.Event.{Event}
use Rattle.world.specs.declared.events.Event.TheVariants.{Make, Ship, Object, Machine}
use Rattle.world.specs.declared.events.ObjectCommand.{ObjectCommand}
use Rattle.world.specs.declared.events.ObjectCommand.TheVariants.{Free, Put, Get, Move}
use Rattle.world.specs.Run.{Runs}
use Rattle.world.specs.WorldState.{WorldState, with_machine}
use Rattle.world.specs.Machines.{AnswersCommand, AnswersMachine}
use Rattle.world.specs.Answers.{AnswersMove, AnswersObject, Answers}
use Rattle.world.specs.Moves.{Moves}
use Rattle.world.specs.Plain.{PlainState, plain_of, FreesPlain, ObjectPlain, PlainAnswers, is_absence, is_unmoved, unmoved_commands, unmoved_replies}
use Rattle.world.specs.Unseen.{MovingChangesNothing}
use Rattle.world.proofs.Joined.{kept_first}
use Rattle.world.proofs.Numbered.{with_same}
use Rattle.world.proofs.Moves.{moves_stay}
use Rattle.world.proofs.Undebugged_machines.{not_second, second}

-- ---- a step over the map

map_reached : (who : ℕ) (before after : StoreState) (n : ℕ) (op : Op) (r : Reach) → (false || is_done r) ≡ true → Touches who before n op r after
    → map_reaches before.objects n op r after.objects
map_reached who before after n op (reach.Done v) l h = (h.0, h.2, ap (λ (s : StoreState). s.objects) h.3)
map_reached who before after n op reach.Outside l h = (h.0, ap (λ (s : StoreState). s.objects) h.1)
map_reached who before after n op reach.Away l h = absurd (cc)
map_reached who before after n op reach.Busy l h = absurd h
map_reached who before after n op reach.Worn l h = absurd h

store_carries : (who : ℕ) → Carries false (store_memory who) map_memory (λ (s : StoreState). s.objects) (λ (s : StoreState). Unit {0})
store_carries who = record {
  reached = λ before after n op r _ l h. (map_reached who before after n op r l h, tt);
  closed = λ before after _ h. (ap (λ (s : StoreState). s.objects) h, tt);
  measured = λ before n. refl;
}

plain_step : (who : ℕ) (old new : MachineState) (before after : StoreState) (a : Stepped) → goes a ≡ true → TableStep (store_memory who) old before a new after
    → TableStep map_memory old before.objects a new after.objects
plain_step who old new before after a l t =
    (step_carries false (store_memory who) map_memory (λ (s : StoreState). s.objects) (λ (s : StoreState). Unit {0}) (store_carries who)
    old new before after a tt l t).0

abbrev debuggee : MachineState → DebugState → Debuggee
debuggee m d = record { machine = m; debugger = d }

-- what is not answered that it waits goes on
reply_goes : (m : ℕ) (a : Stepped) (slot : ℕ) (d : DebugState) → is_absence (reply.Stepped m (reply_after a slot d)) ≡ false → goes a ≡ true
reply_goes m (stepped.Ran w) slot d e = refl
reply_goes m (stepped.Waiting n) slot d e = absurd (cc)
reply_goes m (stepped.Stopped s) slot d e = refl

walk_plain : (m : ℕ) (way : Way) (old new : Debuggee) (before after : StoreState) (replied : StepReply) → is_absence (reply.Stepped m replied) ≡ false
    → Walks (store_memory m) way old before replied new after → Walks map_memory way old before.objects replied new after.objects
walk_plain m way old new before after replied e h = record {
  goes = h.goes;
  answer = h.answer;
  machine = h.machine;
  step = plain_step m old.machine h.machine before after h.answer
      (reply_goes m h.answer h.machine.slot old.debugger (subst (λ (x : StepReply). is_absence (reply.Stepped m x) ≡ false) h.replied e)) h.step;
  replied = h.replied;
  changed = h.changed;
}

-- by any way, where it isn't answered that it waits
step_plain : (m : ℕ) (way : Way) (old new : Debuggee) (before after : StoreState) (replied : StepReply) → is_absence (reply.Stepped m replied) ≡ false
    → AnswersStep (store_memory m) way old before replied new after → AnswersStep map_memory way old before.objects replied new after.objects
step_plain m way old new before after (step_reply.Paused slot) e h =
    record { held = h.held; slot_is = h.slot_is; changed = h.changed; same = ap (λ (s : StoreState). s.objects) h.same }
step_plain m way old new before after replied e h = walk_plain m way old new before after replied e h

command_plain : (m : ℕ) (c : MachineCommand) (old new : Debuggee) (before after : StoreState) (r : Reply) → is_absence r ≡ false
    → AnswersCommand (store_memory m) old before m c r new after → AnswersCommand map_memory old before.objects m c r new after.objects
command_plain m (Step way) old new before after r e h =
    (h.0, h.1, step_plain m way old new before after h.0 (subst (λ (x : Reply). is_absence x ≡ false) h.1 e) h.2)
command_plain m (Show c) old new before after r e h = (h.0, h.1, h.2, h.3, ap (λ (s : StoreState). s.objects) h.4)
command_plain m (Debug c) old new before after r e h = (h.0, h.1, h.2, ap (λ (s : StoreState). s.objects) h.3)

machine_plain : (m : ℕ) (c : MachineCommand) (old new : List Debuggee) (before after : StoreState) (r : Reply) → is_absence r ≡ false
    → AnswersMachine (store_memory m) old before m c r new after → AnswersMachine map_memory old before.objects m c r new after.objects
machine_plain m c old new before after r e (inl h) =
    inl (record { none = h.none; replied = h.replied; unchanged = h.unchanged; same = ap (λ (s : StoreState). s.objects) h.same })
machine_plain m c old new before after r e (inr h) = inr (record {
  debuggee = h.debuggee;
  became = h.became;
  found = h.found;
  answers = command_plain m c h.debuggee h.became before after r e h.answers;
  changed = h.changed;
})

-- ---- what waits leaves all as it was

waited_away : (who : ℕ) (before after : StoreState) (n : ℕ) (op : Op) (r : Reach) → IsWaiting r → Touches who before n op r after → after ≡ before
waited_away who before after n op reach.Away w h = h.2
waited_away who before after n op reach.Busy w h = absurd h
waited_away who before after n op _ w h = absurd w

reply_ran : (b : Bool) (n slot : ℕ) → step_reply.Waiting n ≡ cond b (step_reply.Hit slot) (step_reply.Ran slot) → ⊥
reply_ran true n slot e = cc
reply_ran false n slot e = cc

reply_waits : (n : ℕ) (a : Stepped) (slot : ℕ) (d : DebugState) → step_reply.Waiting n ≡ reply_after a slot d → a ≡ stepped.Waiting n
reply_waits n (stepped.Ran w) slot d e = absurd (reply_ran (hits w d) n slot e)
reply_waits n (stepped.Waiting k) slot d e = cc
reply_waits n (stepped.Stopped s) slot d e = absurd (cc)

waited : (m n : ℕ) (way : Way) (old new : Debuggee) (before after : StoreState) → Walks (store_memory m) way old before (step_reply.Waiting n) new after
    → (new ≡ old) × (after ≡ before)
waited m n way old new before after h =
    let k = reply_waits n h.answer h.machine.slot old.debugger h.replied in
    let w = waits_in_place (store_memory m) old.machine h.machine before after n
    (subst (λ (a : Stepped). TableStep (store_memory m) old.machine before a h.machine after) k h.step) in
    let d : pausing.debugged way h.answer old.debugger ≡ old.debugger = ap (λ (a : Stepped). pausing.debugged way a old.debugger) k in (
      h.changed
          ∙ ap (λ (x : MachineState). debuggee x (pausing.debugged way h.answer old.debugger)) w.0
          ∙ ap (λ (x : DebugState). debuggee old.machine x) d,
      waited_away m before after n w.1.1 w.1.2 w.1.6 w.1.5,
    )

step_erased : (m : ℕ) (way : Way) (old new : Debuggee) (before after : StoreState) (replied : StepReply) → is_absence (reply.Stepped m replied) ≡ true
    → AnswersStep (store_memory m) way old before replied new after → (new ≡ old) × (after ≡ before)
step_erased m way old new before after (step_reply.Waiting n) e h = waited m n way old new before after h
step_erased m way old new before after _ e h = absurd (cc)

command_erased : (m : ℕ) (c : MachineCommand) (old new : Debuggee) (before after : StoreState) (r : Reply) → is_absence r ≡ true
    → AnswersCommand (store_memory m) old before m c r new after → (new ≡ old) × (after ≡ before)
command_erased m (Step way) old new before after r e h = step_erased m way old new before after h.0 (subst (λ (x : Reply). is_absence x ≡ true) h.1 e) h.2
command_erased m (Show c) old new before after r e h = (h.3, h.4)
command_erased m (Debug c) old new before after r e h = let f = subst (λ (x : Reply). is_absence x ≡ true) h.1 e in absurd (cc)

machine_erased : (m : ℕ) (c : MachineCommand) (old new : List Debuggee) (before after : StoreState) (r : Reply) → is_absence r ≡ true
    → AnswersMachine (store_memory m) old before m c r new after → (new ≡ old) × (after ≡ before)
machine_erased m c old new before after r e (inl h) = (h.unchanged, h.same)
machine_erased m c old new before after r e (inr h) =
    let k = command_erased m c h.debuggee h.became before after r e h.answers in
    (h.changed ∙ ap (λ (d : Debuggee). with_machine old m d) k.0 ∙ with_same old m h.debuggee h.found, k.1)

-- ---- moves

move_erased : (moves : StoreState → ℕ → Moved → StoreState → Type 0)
    → ((old new : StoreState) (n : ℕ) (m : Moved) → moves old n m new → new.objects ≡ old.objects)
    → (reply_with : Moved → Reply) (old new : WorldState) (n : ℕ) (r : Reply) → AnswersMove moves reply_with old n r new → plain_of new ≡ plain_of old
move_erased moves stay reply_with old new n r h =
    ap plain_of h.changed ∙ ap (λ (o : List (List ℕ)). record { machines = old.machines; objects = o }) (stay old.store new.store n h.moved h.move)

frees_plain : (old new : StoreState) (n : ℕ) (m : Moved) → Frees old n m new
    → FreesPlain old.objects n (reply.Freed n m) new.objects
frees_plain old new n moved.Scoped h = (refl, h.0.0, ap (λ (s : StoreState). s.objects) h.2)
frees_plain old new n moved.Done h = (refl, h.0.0, ap (λ (s : StoreState). s.objects) h.3)
frees_plain old new n moved.NoObject h = (refl, h.0, ap (λ (s : StoreState). s.objects) h.1)
frees_plain old new n (moved.Misplaced p) h = (refl, h.0.0, ap (λ (s : StoreState). s.objects) h.2)
frees_plain old new n moved.NoRoom h = absurd h
frees_plain old new n (moved.Fault f) h = absurd h

-- ---- one command

abbrev objects_of : WorldState → List (List ℕ)
objects_of w = w.store.objects

abbrev machines_of : WorldState → List Debuggee
machines_of w = w.machines

make_plain : (old new : WorldState) (size : ℕ) (r : Reply) → Answers old (Make size) r new → PlainAnswers (plain_of old) (Make size) r (plain_of new)
make_plain old new size reply.Full h = ((h.0.0, ap (λ (s : StoreState). s.objects) h.0.1), ap machines_of h.1)
make_plain old new size reply.NoRoom h = ((h.0.0, ap (λ (s : StoreState). s.objects) h.0.2), ap machines_of h.1)
make_plain old new size reply.NoMemory h = ((h.0.0, ap (λ (s : StoreState). s.objects) h.0.2), ap machines_of h.1)
make_plain old new size (reply.Made n) h = ((h.0.0, h.0.2, ap (λ (s : StoreState). s.objects) h.0.3), ap machines_of h.1)
make_plain old new size _ h = absurd h

object_plain : (old new : WorldState) (n : ℕ) (c : ObjectCommand) (r : Reply) → is_unmoved (Object n c) r ≡ true → AnswersObject old n c r new
    → ObjectPlain old.store.objects n c r new.store.objects × (new.machines ≡ old.machines)
object_plain old new n Free r e h = (
  subst (λ (x : Reply). FreesPlain old.store.objects n x new.store.objects) (sym h.replied) (frees_plain old.store new.store n h.moved h.move),
  ap machines_of h.changed,
)
object_plain old new n (Put offset bytes) reply.Outside e h = ((h.0.0, ap (λ (s : StoreState). s.objects) h.0.1), ap machines_of h.1)
object_plain old new n (Put offset bytes) reply.Done e h = ((h.0.0, ap (λ (s : StoreState). s.objects) h.0.2), ap machines_of h.1)
object_plain old new n (Put offset bytes) (reply.Away k) e h = absurd (cc)
object_plain old new n (Put offset bytes) _ e h = absurd h
object_plain old new n (Get offset size) reply.Outside e h = ((h.0, ap objects_of h.1), ap machines_of h.1)
object_plain old new n (Get offset size) reply.NoMemory e h = ((h.0.0, ap objects_of h.1), ap machines_of h.1)
object_plain old new n (Get offset size) (reply.Bytes shown) e h = ((h.0.0, h.0.2, ap objects_of h.1), ap machines_of h.1)
object_plain old new n (Get offset size) (reply.Away k) e h = absurd (cc)
object_plain old new n (Get offset size) _ e h = absurd h.0
object_plain old new n (Move m) r e h = absurd (cc)

one_kept : (old new : WorldState) (c : Event) (r : Reply) → is_unmoved c r ≡ true → Answers old c r new → PlainAnswers (plain_of old) c r (plain_of new)
one_kept old new (Make size) r e h = make_plain old new size r h
one_kept old new (Ship start code) r e h = (h.0, ap (λ (s : StoreState). s.objects) h.1)
one_kept old new (Object n c) r e h = object_plain old new n c r e h
one_kept old new (Machine m c) r e h = machine_plain m c old.machines new.machines old.store new.store r (not_second (is_absence r) e) h

object_erased : (old new : WorldState) (n : ℕ) (c : ObjectCommand) (r : Reply) → is_unmoved (Object n c) r ≡ false
    → AnswersObject old n c r new → plain_of new ≡ plain_of old
object_erased old new n (Move m) r e h = move_erased (Moves m) (moves_stay m) (reply.Moved n m) old new n r h
object_erased old new n Free r e h =
    let f = subst (λ (x : Reply). is_absence x ≡ true) h.replied (second (is_absence r) e) in absurd (cc)
object_erased old new n (Put offset bytes) (reply.Away k) e h =
    ap plain_of h.1.1 ∙ ap (λ (s : StoreState). record { machines = old.machines; objects = s.objects }) h.1.0.2
object_erased old new n (Get offset size) (reply.Away k) e h = ap plain_of h.1
object_erased old new n (Put offset bytes) (reply.Stepped k replied) e h = absurd h
object_erased old new n (Get offset size) (reply.Stepped k replied) e h = absurd h.0
object_erased old new n _ _ e h = absurd (cc)

-- what is erased: the moves, what waits, and what is answered that the object is away
one_erased : (old new : WorldState) (c : Event) (r : Reply) → is_unmoved c r ≡ false → Answers old c r new → plain_of new ≡ plain_of old
one_erased old new (Object n c) r e h = object_erased old new n c r e h
one_erased old new (Machine m c) r e h =
    let k = machine_erased m c old.machines new.machines old.store new.store r (second (is_absence r) e) h in
    ap (λ (x : List Debuggee). record { machines = x; objects = new.store.objects }) k.0
    ∙ ap (λ (s : StoreState). record { machines = old.machines; objects = s.objects }) k.1
one_erased old new (Make size) (reply.Stepped k replied) e h = absurd h
one_erased old new (Make size) (reply.Away k) e h = absurd h
one_erased old new (Ship start code) (reply.Stepped k replied) e h = absurd h.0
one_erased old new (Ship start code) (reply.Away k) e h = absurd h.0
one_erased old new _ _ e h = absurd (cc)

-- ---- a run

pub moving_changes_nothing : MovingChangesNothing
moving_changes_nothing old new [] [] h = ap plain_of h
moving_changes_nothing old new (c ∷ cs) (r ∷ rs) h =
    kept_first (λ (s : PlainState) (left : List Event) (replied : List Reply). Runs PlainAnswers s left replied (plain_of new)) (is_unmoved c r) (plain_of old)
    (plain_of h.0) c (unmoved_commands cs rs) r (unmoved_replies cs rs)
    (λ e rest. (plain_of h.0, one_kept old h.0 c r e h.1, rest)) (λ e. one_erased old h.0 c r e h.1) (moving_changes_nothing h.0 new cs rs h.2)
moving_changes_nothing old new [] (r ∷ rs) h = absurd h
moving_changes_nothing old new (c ∷ cs) [] h = absurd h
