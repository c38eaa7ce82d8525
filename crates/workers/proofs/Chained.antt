-- Many steps of a cell's machine, one after the other.
use Rattle.std.proofs.Common.{◌≡◌, ℕ, zero, suc, true, List, map, Option, Some, None, refl, sym, ap, ◌∙◌, subst}
use Rattle.memory.specs.declared.access.Op.{Op}
use Rattle.memory.specs.declared.access.Reach.{Reach}
use Rattle.memory.specs.declared.access.Reach.TheVariants as reach
use Rattle.shared_objects.specs.SeatMemories.{own_entry}
use Rattle.shared_objects.specs.Touches.{Touches}
use Rattle.shared_objects.specs.declared.view.View.{View}
use Rattle.machine.specs.Carrying.{Carries}
use Rattle.machine.specs.MachineState.{MachineState, IsWholeMachine}
use Rattle.machine.specs.Replay.{IsReplay}
use Rattle.machine.proofs.Carried.{step_carries}
use Rattle.machine.proofs.Wholeness.{stays_whole}
use Rattle.debugger.specs.declared.commands.Way.{Way}
use Rattle.debugger.specs.declared.commands.Way.TheVariants as way
use Rattle.debugger.specs.declared.replies.StepReply.{StepReply}
use Rattle.debugger.specs.declared.replies.StepReply.TheVariants as step_reply
use Rattle.debugger.specs.declared.debuggee.Debuggee.{Debuggee}
use Rattle.debugger.specs.Debuggees.{Walks, AnswersStep}
use Rattle.debugger.specs.Running.{StepsRan, RunsUpTo}
use Rattle.debugger.proofs.Ran.{run_keeps}
use Rattle.workers.specs.declared.running.Shipment.{Shipment}
use Rattle.workers.specs.Cells.{SeatState, seat_acts, RunningState, CellState, StepsCell, RanCell, RunsCell, shipped_as, StartedAs, lengths_of, is_marked_worn}
use Rattle.workers.specs.Cells.{IsReplayed}
use Rattle.workers.proofs.Replayed.{answer_replays, answer_actor, answer_keeps}

-- ---- what each step keeps

touch_opening : (v : View) (before n : ℕ) (op : Op) (r : Reach) (w : View) (stamp : ℕ) → Touches v before n op r w stamp → w.opening ≡ v.opening
touch_opening v before n op (reach.Done x) w stamp h = ap (λ (u : View). u.opening) h.view_is
touch_opening v before n op reach.Away w stamp h = ap (λ (u : View). u.opening) h.2
touch_opening v before n op reach.Busy w stamp h = ap (λ (u : View). u.opening) h.2
touch_opening v before n op reach.Outside w stamp h = ap (λ (u : View). u.opening) h.2
touch_opening v before n op reach.Worn w stamp h = ap (λ (u : View). u.opening) h.2.2

opening_carries : (opening : List (List ℕ)) → Carries true seat_acts seat_acts (λ (s : SeatState). s) (λ (s : SeatState). s.view.opening ≡ opening)
opening_carries opening = record {
  reached = λ before after n op r i _ h. (h, touch_opening before.view before.stamp n op r after.view after.stamp h.0 ∙ i);
  closed = λ before after i h. (h, ap (λ (u : View). u.opening) h.0 ∙ i);
  measured = λ before n. refl;
}

walk_opening : (way : Way) (old new : Debuggee) (before after : SeatState) (reply : StepReply) → Walks seat_acts way old before reply new after
    → after.view.opening ≡ before.view.opening
walk_opening way old new before after reply h =
    (step_carries true seat_acts seat_acts (λ (s : SeatState). s) (λ (s : SeatState). s.view.opening ≡ before.view.opening)
    (opening_carries before.view.opening) old.machine h.machine before after h.answer refl refl h.step).1

answer_opening : (way : Way) (old new : Debuggee) (before after : SeatState) (reply : StepReply) → AnswersStep seat_acts way old before reply new after
    → after.view.opening ≡ before.view.opening
answer_opening way old new before after (step_reply.Paused slot) h = ap (λ (s : SeatState). s.view.opening) h.same
answer_opening way old new before after reply h = walk_opening way old new before after reply h

walk_whole : (way : Way) (old new : Debuggee) (before after : SeatState) (reply : StepReply) → IsWholeMachine old.machine
    → Walks seat_acts way old before reply new after → IsWholeMachine new.machine
walk_whole way old new before after reply whole h =
    subst (λ (d : Debuggee). IsWholeMachine d.machine) (sym h.changed) (stays_whole seat_acts old.machine h.machine before after h.answer whole h.step).2

answer_whole : (way : Way) (old new : Debuggee) (before after : SeatState) (reply : StepReply) → IsWholeMachine old.machine
    → AnswersStep seat_acts way old before reply new after → IsWholeMachine new.machine
answer_whole way old new before after (step_reply.Paused slot) whole h = subst (λ (d : Debuggee). IsWholeMachine d.machine) (sym h.changed) whole
answer_whole way old new before after reply whole h = walk_whole way old new before after reply whole h

-- ---- what a run keeps

-- the machine stays the replay of the seat's entries
run_replays : (opening : List (List ℕ)) (start : MachineState) (n ran : ℕ) (end : Option StepReply) (old new : Debuggee) (before after : SeatState)
    → before.view.opening ≡ opening
    → IsReplay (lengths_of opening) (is_marked_worn before.view.marks) start (map own_entry before.view.entries) old.machine
    → RunsUpTo seat_acts n old before ran end new after
    → IsReplay (lengths_of opening) (is_marked_worn after.view.marks) start (map own_entry after.view.entries) new.machine
run_replays opening start n ran end old new before after same r h =
    (run_keeps seat_acts (λ (d : Debuggee) (s : SeatState). (s.view.opening ≡ opening)
    × IsReplay (lengths_of opening) (is_marked_worn s.view.marks) start (map own_entry s.view.entries) d.machine)
    (λ a b x y reply p q. (answer_opening way.Step a b x y reply q ∙ p.0, answer_replays opening start way.Step a b x y reply p.0 p.1 q))
    n ran end old new before after (same, r) h).1

-- a cell's machine stays the replay, from the same start
pub run_replayed : (opening : List (List ℕ)) (starts : List MachineState) (number n ran : ℕ) (end : Option StepReply) (old new : RunningState)
    (before after : SeatState) → before.view.opening ≡ opening
    → RunsUpTo seat_acts n old.debuggee before ran end new.debuggee after → new.shipped ≡ old.shipped → IsReplayed opening starts number before old
    → IsReplayed opening starts number after new
run_replayed opening starts number n ran end old new before after same h kept r = record {
  start = r.start;
  started = subst (λ (s : Option MachineState). StartedAs starts number s r.start) (sym kept) r.started;
  replay = run_replays opening r.start n ran end old.debuggee new.debuggee before after same r.replay h;
}

-- the actor stays
pub run_actor : (n ran : ℕ) (end : Option StepReply) (old new : Debuggee) (before after : SeatState) → RunsUpTo seat_acts n old before ran end new after
    → after.view.actor ≡ before.view.actor
run_actor n ran end old new before after h =
    run_keeps seat_acts (λ (d : Debuggee) (s : SeatState). s.view.actor ≡ before.view.actor)
    (λ a b x y reply p q. answer_actor way.Step a b x y reply q ∙ p)
    n ran end old new before after refl h

-- and so does what the machine started as
pub run_ships : (n ran : ℕ) (end : Option StepReply) (old new : Debuggee) (before after : SeatState) (b : Option Shipment) → IsWholeMachine old.machine
    → RunsUpTo seat_acts n old before ran end new after
    → shipped_as new.machine b ≡ shipped_as old.machine b
run_ships n ran end old new before after b whole h =
    (run_keeps seat_acts (λ (d : Debuggee) (s : SeatState). IsWholeMachine d.machine × (shipped_as d.machine b ≡ shipped_as old.machine b))
    (λ x y u v reply p q. (answer_whole way.Step x y u v reply p.0 q, answer_keeps way.Step x y u v reply b p.0 q ∙ p.1))
    n ran end old new before after (whole, refl) h).1

-- ---- as steps of the cell

-- the cell with this machine, which was shipped so, and this seat
abbrev with : CellState → Option MachineState → Debuggee → SeatState → CellState
with c b d s = record c { seat = s; running = Some (record { debuggee = d; shipped = b }) }

one_cell : (c : CellState) (b : Option MachineState) (old new : Debuggee) (before after : SeatState) (reply : StepReply)
    → AnswersStep seat_acts way.Step old before reply new after
    → StepsCell way.Step (with c b old before) reply (with c b new after)
one_cell c b old new before after reply h = record {
  before = record { debuggee = old; shipped = b };
  after = record { debuggee = new; shipped = b };
  seat = after;
  had = refl;
  step = h;
  same = refl;
  becomes = refl;
}

ran_cell : (c : CellState) (b : Option MachineState) (n : ℕ) (old new : Debuggee) (before after : SeatState) → StepsRan seat_acts n old before new after
    → RanCell n (with c b old before) (with c b new after)
ran_cell c b zero old new before after h = ap (λ (d : Debuggee). with c b d after) h.0 ∙ ap (λ (s : SeatState). with c b old s) h.1
ran_cell c b (suc n) old new before after h =
    (h.0, with c b h.1 h.2, one_cell c b old h.1 before h.2 (step_reply.Ran h.0) h.3, ran_cell c b n h.1 new h.2 after h.4)

cell_ran : (c : CellState) (b : Option MachineState) (n ran : ℕ) (end : Option StepReply) (old new : Debuggee) (before after : SeatState)
    → RunsUpTo seat_acts n old before ran end new after
    → RunsCell n (with c b old before) ran end (with c b new after)
cell_ran c b n ran None old new before after h = (h.0, ran_cell c b n old new before after h.1)
cell_ran c b n ran (Some reply) old new before after h = record {
  fewer = h.fewer;
  other = h.other;
  mid = with c b h.last h.mid;
  steps = ran_cell c b ran old h.last before h.mid h.steps;
  answer = one_cell c b h.last new h.mid after reply h.answer;
}

-- a run of a machine is one of its cell
pub cell_runs : (c : CellState) (r q : RunningState) (s : SeatState) (n ran : ℕ) (end : Option StepReply) → c.running ≡ Some r → q.shipped ≡ r.shipped
    → RunsUpTo seat_acts n r.debuggee c.seat ran end q.debuggee s → RunsCell n c ran end (record c { seat = s; running = Some q })
cell_runs c r q s n ran end had same h =
    subst (λ (o : Option RunningState). RunsCell n (record c { running = o }) ran end (record c { seat = s; running = Some q })) (sym had)
    (subst (λ (b : Option MachineState). RunsCell n (record c { running = Some (record { debuggee = r.debuggee; shipped = b }) }) ran end
    (record c { seat = s; running = Some q })) same
    (cell_ran c q.shipped n ran end r.debuggee q.debuggee c.seat s h))
