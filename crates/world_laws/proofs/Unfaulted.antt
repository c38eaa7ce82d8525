-- The count of faults is never looked at.
use Rattle.std.proofs.Common.{◌≡◌, ℕ, true, List, inl, inr, refl, ap, sym, ◌∙◌, arith}
use Rattle.memory.specs.declared.access.Op.{Op}
use Rattle.memory.specs.declared.access.Reach.{Reach}
use Rattle.memory.specs.declared.access.Reach.TheVariants as reach
use Rattle.object_store.specs.Stores.{StoreState, store_memory, Touches}
use Rattle.object_store.specs.Calls.{Frees}
use Rattle.placement.specs.declared.places.Moved.{Moved}
use Rattle.machine.specs.Carrying.{Carries}
use Rattle.machine.proofs.Carried.{steps_carry}
use Rattle.debugger.specs.Debuggees.{Walks, AnswersStep}
use Rattle.debugger.specs.declared.commands.Way.{Way}
use Rattle.debugger.specs.declared.commands.MachineCommand.{MachineCommand}
use Rattle.debugger.specs.declared.commands.MachineCommand.TheVariants.{Step, Show, Debug}
use Rattle.debugger.specs.declared.replies.StepReply.{StepReply}
use Rattle.debugger.specs.declared.replies.StepReply.TheVariants as step_reply
use Rattle.debugger.specs.declared.debuggee.Debuggee.{Debuggee}
use Rattle.world.specs.declared.replies.Reply.{Reply}
use Rattle.world.specs.declared.replies.Reply.TheVariants.{Made, Done, NoMemory, Full, NoRoom, Outside, Away}
use Rattle.world.specs.declared.replies.Reply.TheVariants as reply
use Rattle.world.specs.declared.events.Event.{Event}
use Rattle.world.specs.declared.events.Event.TheVariants.{Make, Ship, Object, Machine}
use Rattle.world.specs.declared.events.ObjectCommand.{ObjectCommand}
use Rattle.world.specs.declared.events.ObjectCommand.TheVariants.{Free, Put, Get, Move}
use Rattle.world.specs.WorldState.{WorldState}
use Rattle.world.specs.Machines.{AnswersCommand, AnswersMachine}
use Rattle.world.specs.Answers.{Answers, AnswersMake, AnswersObject, AnswersMove, AnswersGet}
use Rattle.world.specs.Moves.{Moves}
use Rattle.world_laws.specs.Replies.{is_settled, without_faults}
use Rattle.world_laws.proofs.EachMove.{Clears, Settles, cleared, clears, freed_settles, frees_clears, moved_settles}

-- ---- steps

reached : (who : ℕ) (old new : StoreState) (n : ℕ) (op : Op) (r : Reach) → Touches who old n op r new → Touches who (cleared old) n op r (cleared new)
reached who old new n op (reach.Done x) h = (h.0, h.1, h.2, ap cleared h.3)
reached who old new n op reach.Away h = (h.0, h.1, ap cleared h.2)
reached who old new n op reach.Outside h = (h.0, ap cleared h.1)
reached who old new n op _ h = absurd h

carries : (who : ℕ) → Carries true (store_memory who) (store_memory who) cleared (λ (s : StoreState). Unit {0})
carries who = record {
  reached = λ old new n op r b l h. (reached who old new n op r h, tt);
  closed = λ old new b h. (ap cleared h, tt);
  measured = λ old n. refl;
}

walk : (who : ℕ) (w : Way) (old new : Debuggee) (s t : StoreState) (replied : StepReply) → Walks (store_memory who) w old s replied new t
    → Walks (store_memory who) w old (cleared s) replied new (cleared t)
walk who w old new s t replied d = record {
  goes = d.goes;
  answer = d.answer;
  machine = d.machine;
  step = (steps_carry (store_memory who) (store_memory who) true cleared (carries who) old.machine d.machine s t d.answer tt refl d.step).0;
  replied = d.replied;
  changed = d.changed;
}

step : (who : ℕ) (w : Way) (old new : Debuggee) (s t : StoreState) (replied : StepReply) → AnswersStep (store_memory who) w old s replied new t
    → AnswersStep (store_memory who) w old (cleared s) replied new (cleared t)
step who w old new s t (step_reply.Paused slot) h = record { held = h.held; slot_is = h.slot_is; changed = h.changed; same = ap cleared h.same }
step who w old new s t replied h = walk who w old new s t replied h

command : (who : ℕ) (c : MachineCommand) (old new : Debuggee) (s t : StoreState) (r : Reply) → AnswersCommand (store_memory who) old s who c r new t
    → AnswersCommand (store_memory who) old (cleared s) who c r new (cleared t)
command who (Step w) old new s t r h = (h.0, h.1, step who w old new s t h.0 h.2)
command who (Show c) old new s t r h = (h.0, h.1, h.2, h.3, ap cleared h.4)
command who (Debug c) old new s t r h = (h.0, h.1, h.2, ap cleared h.3)

machine : (who : ℕ) (c : MachineCommand) (old new : List Debuggee) (s t : StoreState) (r : Reply) → AnswersMachine (store_memory who) old s who c r new t
    → AnswersMachine (store_memory who) old (cleared s) who c r new (cleared t)
machine who c old new s t r (inl h) = inl (record { none = h.none; replied = h.replied; unchanged = h.unchanged; same = ap cleared h.same })
machine who c old new s t r (inr h) =
    inr (record { debuggee = h.debuggee; became = h.became; found = h.found; answers = command who c h.debuggee h.became s t r h.answers; changed = h.changed })

-- ---- moves

moves : (does : StoreState → ℕ → Moved → StoreState → Type 0) (reply_with : Moved → Reply) (old new : WorldState) (n : ℕ) (r : Reply) → Settles reply_with
    → Clears does → AnswersMove does reply_with old n r new
    → is_settled r ≡ true → AnswersMove does reply_with (without_faults old) n r (without_faults new)
moves does reply_with old new n r s c h t = record {
  moved = h.moved;
  move = c old.store new.store n h.moved h.move (s h.moved (sym (ap is_settled h.replied) ∙ t));
  replied = h.replied;
  changed = ap without_faults h.changed;
}

shows : (s : StoreState) (n o z : ℕ) (r : Reply) → AnswersGet s n o z r → AnswersGet (cleared s) n o z r
shows s n o z r h = grind arith

-- ---- all

make : (old new : WorldState) (z : ℕ) (r : Reply) → AnswersMake old z r new → AnswersMake (without_faults old) z r (without_faults new)
make old new z Full h = ((h.0.0, ap cleared h.0.1), ap without_faults h.1)
make old new z NoRoom h = ((h.0.0, h.0.1, ap cleared h.0.2), ap without_faults h.1)
make old new z NoMemory h = ((h.0.0, h.0.1, ap cleared h.0.2), ap without_faults h.1)
make old new z (Made n) h = ((h.0.0, h.0.1, h.0.2, ap cleared h.0.3), ap without_faults h.1)
make old new z _ h = absurd h

object : (old new : WorldState) (n : ℕ) (c : ObjectCommand) (r : Reply) → AnswersObject old n c r new → is_settled r ≡ true
    → AnswersObject (without_faults old) n c r (without_faults new)
object old new n Free r h t = moves Frees (reply.Freed n) old new n r (freed_settles n) frees_clears h t
object old new n (Put o b) Outside h t = ((h.0.0, ap cleared h.0.1), ap without_faults h.1)
object old new n (Put o b) (Away k) h t = (h.0, ((h.1.0.0, h.1.0.1, ap cleared h.1.0.2), ap without_faults h.1.1))
object old new n (Put o b) Done h t = ((h.0.0, h.0.1, ap cleared h.0.2), ap without_faults h.1)
object old new n (Put o b) _ h t = absurd h
object old new n (Get o z) r h t = (shows old.store n o z r h.0, ap without_faults h.1)
object old new n (Move k) r h t = moves (Moves k) (reply.Moved n k) old new n r (moved_settles n k) (clears k) h t

-- What is answered would be answered whatever the count, but for a fault.
pub unfaulted : (old new : WorldState) (c : Event) (r : Reply) → Answers old c r new → is_settled r ≡ true
    → Answers (without_faults old) c r (without_faults new)
unfaulted old new (Make z) r h t = make old new z r h
unfaulted old new (Ship start code) r h t = (h.0, ap cleared h.1)
unfaulted old new (Object n c) r h t = object old new n c r h t
unfaulted old new (Machine m c) r h t = machine m c old.machines new.machines old.store new.store r h
