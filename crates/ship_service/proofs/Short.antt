-- A reply has no more bytes to show than were asked for.
use Rattle.std.proofs.Common.{◌≡◌, Result, Ok, Err, ℕ, ◌≤◌, Bool, List, length, drop, sym, ap, subst, arith, inl, inr}
use Rattle.std.proofs.lemmas.List.{length-take}
use Rattle.memory.specs.declared.deeds.Given.TheVariants.{Bytes}
use Rattle.memory.specs.Access.{part}
use Rattle.shared_objects.specs.Touches.{GetsRange}
use Rattle.shared_objects.specs.declared.errors.Denied.{Denied}
use Rattle.shared_objects.specs.declared.errors.Denied.TheVariants as denied
use Rattle.shared_objects.specs.declared.errors.GetError.{GetError}
use Rattle.shared_objects.specs.declared.errors.GetError.TheVariants as get_error
use Rattle.machine.specs.MachineState.{MachineState}
use Rattle.debugger.specs.declared.commands.MachineCommand.{MachineCommand}
use Rattle.debugger.specs.declared.commands.MachineCommand.TheVariants.{Step, Show, Debug}
use Rattle.workers.specs.Cells.{SeatState, CellState}
use Rattle.workers.specs.TableNames.{Passage}
use Rattle.world.specs.declared.events.Event.{Event}
use Rattle.world.specs.declared.events.Event.TheVariants as event
use Rattle.world.specs.declared.events.ObjectCommand.{ObjectCommand}
use Rattle.world.specs.declared.events.ObjectCommand.TheVariants as object
use Rattle.world.specs.declared.world.moving.Move.TheVariants as move
use Rattle.world.specs.declared.replies.Reply.{Reply}
use Rattle.world.specs.declared.replies.Reply.TheVariants as answer
use Rattle.console.specs.Replies.{IsShort}
use Rattle.console.specs.Commands.{range_limit}
use Rattle.console.proofs.CommandReading.{AsksShort, show_short}
use Rattle.ship_service.specs.declared.replies.ServiceReply.{ServiceReply}
use Rattle.ship_service.specs.declared.replies.ServiceReply.TheVariants.{Plain}
use Rattle.ship_service.specs.Replies.{IsShortReply}
use Rattle.ship_service.specs.Ranges.{reply_to_denied, reply_to_put, reply_to_get, GetsOnce, AsksMover}
use Rattle.ship_service.specs.Lent.{AnswersCell, AnswersLent, ShipsCell, informed}
use Rattle.ship_service.specs.Served.{Serves, ServesObject, ServesMachine, ServesShip}
use Rattle.debugger.specs.declared.start.Start.{Start}

denied_short : (n : ℕ) (why : Denied) → IsShortReply (reply_to_denied n why)
denied_short n denied.Outside = tt
denied_short n denied.Away = tt
denied_short n denied.Busy = tt
denied_short n denied.Worn = tt

put_short : (n : ℕ) (r : Result Unit Denied) → IsShortReply (reply_to_put n r)
put_short n (Ok u) = tt
put_short n (Err why) = denied_short n why

bytes_are : (xs ys : List ℕ) → Bytes xs ≡ Bytes ys → xs ≡ ys
bytes_are xs ys e = cc

get_short : (old new : SeatState) (n offset size : ℕ) (r : Result (List ℕ) GetError) → GetsRange old.view old.stamp n offset size r new.view new.stamp
    → size ≤ range_limit → IsShortReply (reply_to_get n r)
get_short old new n offset size (Ok bytes) h short =
    let e = ap length (bytes_are bytes (part offset size h.bytes) h.given_is) in
    let l = length-take size (drop offset h.bytes) in omega (arith, e, l, short)
get_short old new n offset size (Err (get_error.Denied why)) h short = denied_short n why
get_short old new n offset size (Err get_error.Memory) h short = tt

get_tells_short : (old new : SeatState) (n offset size : ℕ) (reply : ServiceReply) → GetsOnce n offset size old reply new → size ≤ range_limit → IsShortReply reply
get_tells_short old new n offset size reply h short = subst IsShortReply (sym h.reply_is) (get_short old new n offset size h.outcome h.gets short)

asked_short : (opening : List (List ℕ)) (n : ℕ) (reply : ServiceReply) → AsksMover opening n reply → IsShortReply reply
asked_short opening n (Plain (answer.Bytes b)) h = absurd h
asked_short opening n (Plain (answer.Shown k s)) h = absurd h
asked_short opening n _ h = tt

object_short : (old new : SeatState) (n : ℕ) (c : ObjectCommand) (reply : ServiceReply) → ServesObject old n c reply new
    → AsksShort (event.Object n c) → IsShortReply reply
object_short old new n (object.Put offset bytes) reply h short = subst IsShortReply (sym h.last.reply_is) (put_short n h.last.outcome)
object_short old new n (object.Get offset size) reply h short = get_tells_short h.mid new n offset size reply h.last short
object_short old new n object.Free reply h short = subst IsShortReply (sym h.0) tt
object_short old new n (object.Move move.Leave) reply h short = asked_short old.view.opening n reply h.0
object_short old new n (object.Move move.Return) reply h short = asked_short old.view.opening n reply h.0
object_short old new n (object.Move m) reply h short = subst IsShortReply (sym h.0) tt

cell_short : (before after : CellState) (m : ℕ) (c : MachineCommand) (reply : Reply) → AnswersCell c before m reply after
    → AsksShort (event.Machine m c) → IsShort reply
cell_short before after m (Step way) reply h short = subst IsShort (sym h.1) tt
cell_short before after m (Show command) reply h short = subst IsShort (sym h.1) (show_short m command h.2.0.debuggee h.0 h.2.2 short)
cell_short before after m (Debug command) reply h short = subst IsShort (sym h.1) tt

lent_short : (old new : SeatState) (before after : CellState) (m : ℕ) (c : MachineCommand) (reply : Reply) → AnswersLent c old before m reply new after
    → AsksShort (event.Machine m c) → IsShort reply
lent_short old new before after m c reply (inl h) short = subst IsShort (sym h.reply_is) tt
lent_short old new before after m c reply (inr h) short = cell_short (informed c old before) after m c reply h.answers short

machine_short : (opening : List (List ℕ)) (starts : List MachineState) (passed : Passage → Bool) (old new : SeatState) (m : ℕ) (c : MachineCommand)
    (reply : ServiceReply)
    → ServesMachine opening starts passed old m c reply new → AsksShort (event.Machine m c) → IsShortReply reply
machine_short opening starts passed old new m c reply (inl h) short = subst IsShortReply (sym h.1) tt
machine_short opening starts passed old new m c reply (inr h) short =
    subst IsShortReply (sym h.reply_is) (lent_short old h.answered h.before h.left m c h.said h.answers short)

shipped_short : (start : Start) (code : List ℕ) (before after : CellState) (said : Reply) → ShipsCell start code before said after → IsShort said
shipped_short start code before after (answer.Bytes b) h = absurd h
shipped_short start code before after (answer.Shown k s) h = absurd h
shipped_short start code before after _ h = tt

ship_short : (opening : List (List ℕ)) (starts : List MachineState) (passed : Passage → Bool) (start : Start) (code : List ℕ) (reply : ServiceReply)
    → ServesShip opening starts passed start code reply → IsShortReply reply
ship_short opening starts passed start code reply (inl h) = subst IsShortReply (sym h.1) tt
ship_short opening starts passed start code reply (inr h) = subst IsShortReply (sym h.reply_is) (shipped_short start code h.before h.after h.said h.ships)

-- a reply fits its line
pub serves_short : (opening : List (List ℕ)) (starts : List MachineState) (passed : Passage → Bool) (old new : SeatState) (c : Event) (reply : ServiceReply)
    → Serves opening starts passed old c reply new → AsksShort c → IsShortReply reply
serves_short opening starts passed old new (event.Make size) reply h short = subst IsShortReply (sym h.0) tt
serves_short opening starts passed old new (event.Ship start code) reply h short = ship_short opening starts passed start code reply h.0
serves_short opening starts passed old new (event.Object n c) reply h short = object_short old new n c reply h short
serves_short opening starts passed old new (event.Machine m c) reply h short = machine_short opening starts passed old new m c reply h short
