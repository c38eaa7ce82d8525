-- Machines and objects.
use Rattle.std.proofs.Common.{◌≡◌, ℕ, false, List, inl, inr, ap}
use Rattle.object_store.specs.Stores.{store_memory}
use Rattle.debugger.specs.declared.commands.MachineCommand.{MachineCommand}
use Rattle.debugger.specs.declared.commands.MachineCommand.TheVariants.{Step, Show, Debug}
use Rattle.debugger.specs.declared.debuggee.Debuggee.{Debuggee}
use Rattle.world.specs.declared.replies.Reply.{Reply}
use Rattle.world.specs.declared.replies.Reply.TheVariants as reply
use Rattle.world.specs.declared.events.Event.TheVariants.{Make, Ship, Object, Machine}
use Rattle.world.specs.declared.events.ObjectCommand.{ObjectCommand}
use Rattle.world.specs.declared.events.ObjectCommand.TheVariants.{Free, Put, Get, Move}
use Rattle.world.specs.WorldState.{WorldState}
use Rattle.world.specs.Machines.{AnswersMachine}
use Rattle.world.specs.Answers.{AnswersMake, AnswersObject}
use Rattle.world_laws.specs.Replies.{is_step, MachinesStay, ObjectsStay}

abbrev machines : WorldState → List Debuggee
machines w = w.machines

object_apart : (old new : WorldState) (n : ℕ) (c : ObjectCommand) (r : Reply) → AnswersObject old n c r new → new.machines ≡ old.machines
object_apart old new n Free r h = ap machines h.changed
object_apart old new n (Move m) r h = ap machines h.changed
object_apart old new n (Get offset size) r h = ap machines h.1
object_apart old new n (Put offset bytes) reply.Done h = ap machines h.1
object_apart old new n (Put offset bytes) reply.Outside h = ap machines h.1
object_apart old new n (Put offset bytes) (reply.Away k) h = ap machines h.1.1
object_apart old new n (Put offset bytes) _ h = absurd h

make_apart : (old new : WorldState) (size : ℕ) (r : Reply) → AnswersMake old size r new → new.machines ≡ old.machines
make_apart old new size reply.Full h = ap machines h.1
make_apart old new size reply.NoRoom h = ap machines h.1
make_apart old new size reply.NoMemory h = ap machines h.1
make_apart old new size (reply.Made n) h = ap machines h.1
make_apart old new size _ h = absurd h

pub machines_stay : MachinesStay
machines_stay old new (Make size) r h t = make_apart old new size r h
machines_stay old new (Object n c) r h t = object_apart old new n c r h
machines_stay old new (Ship start code) r h t = absurd (cc)
machines_stay old new (Machine m c) r h t = absurd (cc)

machine_apart : (old new : WorldState) (m : ℕ) (c : MachineCommand) (r : Reply)
    → AnswersMachine (store_memory m) old.machines old.store m c r new.machines new.store → is_step (Machine m c) ≡ false
    → new.store ≡ old.store
machine_apart old new m c r (inl h) t = h.same
machine_apart old new m (Step way) r (inr h) t = absurd (cc)
machine_apart old new m (Show c) r (inr h) t = h.answers.4
machine_apart old new m (Debug c) r (inr h) t = h.answers.3

pub objects_stay : ObjectsStay
objects_stay old new (Make size) r h t u = absurd (cc)
objects_stay old new (Object n c) r h t u = absurd (cc)
objects_stay old new (Ship start code) r h t u = h.1
objects_stay old new (Machine m c) r h t u = machine_apart old new m c r h u
