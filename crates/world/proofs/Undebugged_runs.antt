-- Debugging changes nothing.
use Rattle.std.proofs.Common.{◌≡◌, ◌≤◌, ◌+◌, ℕ, true, false, List, [], ◌∷◌, length, map, refl, sym, ap, ◌∙◌, subst, arith}
use Rattle.std.proofs.lemmas.List.{length-map, map-append}
use Rattle.placement.specs.declared.places.Moved.{Moved}
use Rattle.object_store.specs.Stores.{StoreState, store_memory}
use Rattle.scopes.specs.Windows.{machine_limit}
use Rattle.object_store.specs.Calls.{Frees}
use Rattle.debugger.specs.declared.start.Start.{Start}
use Rattle.debugger.specs.declared.commands.MachineCommand.TheVariants.{Step, Show, Debug}
use Rattle.debugger.specs.declared.debuggee.Debuggee.{Debuggee}
use Rattle.debugger.specs.Debuggees.{debuggee_start}
use Rattle.world.specs.declared.replies.Reply.{Reply}
use Rattle.world.specs.declared.replies.Reply.TheVariants as reply
use Rattle.world.specs.declared.events.Event.{Event}
use Rattle.world.specs.declared.events.Event.TheVariants.{Make, Ship, Object, Machine}
use Rattle.world.specs.declared.events.ObjectCommand.{ObjectCommand}
use Rattle.world.specs.declared.events.ObjectCommand.TheVariants.{Free, Put, Get, Move}
use Rattle.world.specs.Run.{Runs}
use Rattle.world.specs.WorldState.{WorldState, AreAllShipped}
use Rattle.world.specs.Answers.{AnswersMake, AnswersPut, AnswersGet, AnswersMove, AnswersObject, AnswersShip, Answers}
use Rattle.world.specs.Moves.{Moves}
use Rattle.world.specs.Kept.{commands_kept, replies_kept}
use Rattle.world.specs.Undebugged.{undebugged, undebugged_machine, undebugged_command, undebugged_reply, undebugged_commands, undebugged_replies, is_pause}
use Rattle.world.specs.Undebugged.{is_undebugged}
use Rattle.world.specs.Unseen.{DebuggingChangesNothing, NeitherChangesAnything}
use Rattle.world.proofs.Joined.{kept_first}
use Rattle.world.proofs.Undebugged_machines.{undebugged_machines, machine_undebugged, machine_unseen, second}
use Rattle.world.proofs.Unmoved.{moving_changes_nothing}

-- ---- what is done to the store

make_kept : (old new : WorldState) (size : ℕ) (r : Reply) → AnswersMake old size r new → AnswersMake (undebugged old) size (undebugged_reply r) (undebugged new)
make_kept old new size reply.Full h = (h.0, ap undebugged h.1)
make_kept old new size reply.NoRoom h = (h.0, ap undebugged h.1)
make_kept old new size reply.NoMemory h = (h.0, ap undebugged h.1)
make_kept old new size (reply.Made n) h = (h.0, ap undebugged h.1)
make_kept old new size _ h = absurd h

put_kept : (old new : WorldState) (n offset : ℕ) (bytes : List ℕ) (r : Reply) → AnswersPut old n offset bytes r new
    → AnswersPut (undebugged old) n offset bytes (undebugged_reply r) (undebugged new)
put_kept old new n offset bytes reply.Outside h = (h.0, ap undebugged h.1)
put_kept old new n offset bytes (reply.Away k) h = (h.0, (h.1.0, ap undebugged h.1.1))
put_kept old new n offset bytes reply.Done h = (h.0, ap undebugged h.1)
put_kept old new n offset bytes _ h = absurd h

get_kept : (s : StoreState) (n offset size : ℕ) (r : Reply) → AnswersGet s n offset size r → AnswersGet s n offset size (undebugged_reply r)
get_kept s n offset size r h = grind arith

move_kept : (moves : StoreState → ℕ → Moved → StoreState → Type 0) (reply_with : Moved → Reply) (old new : WorldState) (n : ℕ) (r : Reply)
    → ((m : Moved) → undebugged_reply (reply_with m) ≡ reply_with m)
    → AnswersMove moves reply_with old n r new → AnswersMove moves reply_with (undebugged old) n (undebugged_reply r) (undebugged new)
move_kept moves reply_with old new n r e h = record {
  moved = h.moved;
  move = h.move;
  replied = ap undebugged_reply h.replied ∙ e h.moved;
  changed = ap undebugged h.changed;
}

object_kept : (old new : WorldState) (n : ℕ) (c : ObjectCommand) (r : Reply) → AnswersObject old n c r new
    → AnswersObject (undebugged old) n c (undebugged_reply r) (undebugged new)
object_kept old new n Free r h = move_kept Frees (reply.Freed n) old new n r (λ m. refl) h
object_kept old new n (Put offset bytes) r h = put_kept old new n offset bytes r h
object_kept old new n (Get offset size) r h = (get_kept old.store n offset size r h.0, ap undebugged h.1)
object_kept old new n (Move m) r h = move_kept (Moves m) (reply.Moved n m) old new n r (λ d. refl) h

-- ---- what is done to machines

shipped_count : (machines : List Debuggee) → length (undebugged_machines machines) ≡ length machines
shipped_count machines = length-map machines undebugged_machine

not_all : (machines : List Debuggee) → (AreAllShipped machines → ⊥) → AreAllShipped (undebugged_machines machines) → ⊥
not_all machines f a = f (subst (λ n. machine_limit ≤ n) (shipped_count machines) a)

ship_kept : (old new : List Debuggee) (start : Start) (code : List ℕ) (r : Reply) → AnswersShip old start code r new
    → AnswersShip (undebugged_machines old) start code (undebugged_reply r) (undebugged_machines new)
ship_kept old new start code reply.Full h = (subst (λ n. machine_limit ≤ n) (sym (shipped_count old)) h.0, ap undebugged_machines h.1)
ship_kept old new start code (reply.Refused e) h = (not_all old h.0, h.1, h.2, ap undebugged_machines h.3)
ship_kept old new start code reply.NoMemory h = (not_all old h.0, h.1, ap undebugged_machines h.2)
ship_kept old new start code (reply.Shipped m) h = (
  not_all old h.0,
  h.1,
  h.2 ∙ ap (λ n. n + 1) (sym (shipped_count old)),
  ap undebugged_machines h.3 ∙ map-append undebugged_machine old (debuggee_start m code start ∷ []),
)
ship_kept old new start code _ h = absurd h

-- ---- one command

one_kept : (old new : WorldState) (c : Event) (r : Reply) → is_undebugged c r ≡ true → Answers old c r new
    → Answers (undebugged old) (undebugged_command c) (undebugged_reply r) (undebugged new)
one_kept old new (Make size) r e h = make_kept old new size r h
one_kept old new (Ship start code) r e h = (ship_kept old.machines new.machines start code r h.0, h.1)
one_kept old new (Object n c) r e h = object_kept old new n c r h
one_kept old new (Machine m (Step w)) r e h = machine_undebugged (store_memory m) m (Step w) old.machines new.machines old.store new.store r e h
one_kept old new (Machine m (Show c)) r e h = machine_undebugged (store_memory m) m (Show c) old.machines new.machines old.store new.store r e h
one_kept old new (Machine m (Debug c)) r e h = absurd (cc)

-- no command on an object is answered that a machine is paused
object_unpaused : {P : Type 0} (old new : WorldState) (n : ℕ) (c : ObjectCommand) (r : Reply) → AnswersObject old n c r new → is_pause r ≡ true → P
object_unpaused old new n Free r h e = let f = subst (λ (x : Reply). is_pause x ≡ true) h.replied e in absurd (cc)
object_unpaused old new n (Move m) r h e = let f = subst (λ (x : Reply). is_pause x ≡ true) h.replied e in absurd (cc)
object_unpaused old new n (Put offset bytes) (reply.Stepped k replied) h e = absurd h
object_unpaused old new n (Get offset size) (reply.Stepped k replied) h e = absurd h.0
object_unpaused old new n _ _ h e = absurd (cc)

-- what is erased: the debugging commands, and pauses
one_erased : (old new : WorldState) (c : Event) (r : Reply) → is_undebugged c r ≡ false → Answers old c r new → undebugged new ≡ undebugged old
one_erased old new (Object n c) r e h = object_unpaused old new n c r h (second (is_pause r) e)
one_erased old new (Machine m c) r e h =
    let k = machine_unseen (store_memory m) m c old.machines new.machines old.store new.store r e h in
    ap (λ (x : List Debuggee). record { machines = x; store = new.store }) k.0
    ∙ ap (λ (s : StoreState). record { machines = undebugged_machines old.machines; store = s }) k.1
one_erased old new (Make size) (reply.Stepped k replied) e h = absurd h
one_erased old new (Ship start code) (reply.Stepped k replied) e h = absurd h.0
one_erased old new _ _ e h = absurd (cc)

-- ---- a run

pub debugging_changes_nothing : DebuggingChangesNothing
debugging_changes_nothing old new [] [] h = ap undebugged h
debugging_changes_nothing old new (c ∷ cs) (r ∷ rs) h =
    kept_first (λ (s : WorldState) (left : List Event) (replied : List Reply).
    Runs Answers s (map undebugged_command left) (map undebugged_reply replied) (undebugged new)) (is_undebugged c r)
    (undebugged old) (undebugged h.0) c (commands_kept is_undebugged cs rs) r (replies_kept is_undebugged cs rs)
    (λ e rest. (undebugged h.0, one_kept old h.0 c r e h.1, rest)) (λ e. one_erased old h.0 c r e h.1) (debugging_changes_nothing h.0 new cs rs h.2)
debugging_changes_nothing old new [] (r ∷ rs) h = absurd h
debugging_changes_nothing old new (c ∷ cs) [] h = absurd h

pub neither_changes_anything : NeitherChangesAnything
neither_changes_anything old new cs rs h =
    moving_changes_nothing (undebugged old) (undebugged new) (undebugged_commands cs rs) (undebugged_replies cs rs) (debugging_changes_nothing old new cs rs h)
