-- What a machine does in a step that a connection asks for stands above all that the connection had seen.
use Rattle.std.proofs.Common.{◌≡◌, ◌⊎◌, Bool, ℕ, ◌≤◌, ◌<◌, ◌+◌, max, true, false, List, [], ◌∷◌, ◌++◌, refl, sym, ap, ◌∙◌, append_assoc, append-nil, subst, inl, inr, arith}
use Rattle.std.proofs.Math.Nat.{le-max_left}
use Rattle.memory.specs.declared.access.Op.{Op}
use Rattle.memory.specs.declared.access.Reach.{Reach}
use Rattle.memory.specs.declared.access.Reach.TheVariants as reach
use Rattle.memory.specs.declared.deeds.Deed.TheVariants.{Accesses}
use Rattle.memory.specs.declared.deeds.Given.TheVariants.{Number}
use Rattle.shared_objects.specs.History.{entry}
use Rattle.shared_objects.specs.Touches.{Touches}
use Rattle.shared_objects.specs.declared.view.SharedEntry.{SharedEntry}
use Rattle.shared_objects.specs.declared.view.View.{View}
use Rattle.machine.specs.MachineState.{MachineState}
use Rattle.machine.specs.Carrying.{Carries}
use Rattle.machine.proofs.Carried.{step_carries}
use Rattle.debugger.specs.declared.commands.Way.{Way}
use Rattle.debugger.specs.declared.commands.MachineCommand.TheVariants.{Step}
use Rattle.debugger.specs.declared.replies.StepReply.{StepReply}
use Rattle.debugger.specs.declared.replies.StepReply.TheVariants as step_reply
use Rattle.debugger.specs.declared.debuggee.Debuggee.{Debuggee}
use Rattle.debugger.specs.Debuggees.{Walks, AnswersStep}
use Rattle.workers.specs.Cells.{SeatState, seat_acts, CellState}
use Rattle.workers.specs.TableNames.{Passage}
use Rattle.world.specs.declared.replies.Reply.{Reply}
use Rattle.ship_service.specs.Lent.{learning, resumes, AnswersLent}
use Rattle.ship_service.specs.Served.{GoesOn}
use Rattle.ship_service.specs.Telling.{RiseTo, StepsAbove, StepsStandAbove}

-- one entry more
rise_add : (actor low mid high : ℕ) (es : List SharedEntry) (e : SharedEntry) → RiseTo actor low es mid → e.actor ≡ actor → mid < e.stamp → e.stamp ≤ high
    → RiseTo actor low (es ++ e ∷ []) high
rise_add actor low mid high [] e r a lt le = (a, omega (arith, r, lt), le)
rise_add actor low mid high (x ∷ es) e r a lt le = (r.0, r.1, rise_add actor x.stamp mid high es e r.2 a lt le)

rise_up : (actor low mid high : ℕ) (es : List SharedEntry) → RiseTo actor low es mid → mid ≤ high → RiseTo actor low es high
rise_up actor low mid high [] r le = omega (arith, r, le)
rise_up actor low mid high (x ∷ es) r le = (r.0, r.1, rise_up actor x.stamp mid high es r.2 le)

-- what a seat has more than at first
record Rose (actor low : ℕ) (first : List SharedEntry) (v : View) (stamp : ℕ) : Type 0 where
  more : List SharedEntry
  entries : v.entries ≡ first ++ more
  stamps : RiseTo actor low more stamp
  actor_is : v.actor ≡ actor

kept : (actor low : ℕ) (first : List SharedEntry) (v w : View) (before stamp : ℕ) → Rose actor low first v before → w.entries ≡ v.entries
    → w.actor ≡ v.actor → stamp ≡ before → Rose actor low first w stamp
kept actor low first v w before stamp r e a s =
    record { more = r.more; entries = e ∙ r.entries; stamps = subst (RiseTo actor low r.more) (sym s) r.stamps; actor_is = a ∙ r.actor_is }

touched : (actor low : ℕ) (first : List SharedEntry) (v : View) (before n : ℕ) (op : Op) (r : Reach) (w : View) (stamp : ℕ)
    → Touches v before n op r w stamp → Rose actor low first v before → Rose actor low first w stamp
touched actor low first v before n op (reach.Done x) w stamp h i =
    let is = h.view_is in let e : SharedEntry = entry v.actor stamp h.found n (Accesses op) (Number x) in
    let s : stamp ≡ max before h.found + 1 = h.stamp_is in let l = le-max_left before h.found in record {
      more = i.more ++ e ∷ [];
      entries = ap (λ (u : View). u.entries) is ∙ ap (λ (es : List SharedEntry). es ++ e ∷ []) i.entries ∙ append_assoc first i.more (e ∷ []);
      stamps = rise_add actor low before stamp i.more e i.stamps i.actor_is (omega (arith, s, l)) (omega arith);
      actor_is = ap (λ (u : View). u.actor) is ∙ i.actor_is;
    }
touched actor low first v before n op reach.Away w stamp h i =
    kept actor low first v w before stamp i (ap (λ (u : View). u.entries) h.2) (ap (λ (u : View). u.actor) h.2) h.1
touched actor low first v before n op reach.Busy w stamp h i =
    kept actor low first v w before stamp i (ap (λ (u : View). u.entries) h.2) (ap (λ (u : View). u.actor) h.2) h.1
touched actor low first v before n op reach.Outside w stamp h i =
    kept actor low first v w before stamp i (ap (λ (u : View). u.entries) h.2) (ap (λ (u : View). u.actor) h.2) h.1
touched actor low first v before n op reach.Worn w stamp h i =
    kept actor low first v w before stamp i (ap (λ (u : View). u.entries) h.2.2) (ap (λ (u : View). u.actor) h.2.2) h.1

carries_rose : (actor low : ℕ) (first : List SharedEntry)
    → Carries true seat_acts seat_acts (λ (s : SeatState). s) (λ (s : SeatState). Rose actor low first s.view s.stamp)
carries_rose actor low first = record {
  reached = λ before after n op r i _ h. (h, touched actor low first before.view before.stamp n op r after.view after.stamp h.0 i);
  closed = λ before after i h. (
    h,
    kept actor low first before.view after.view before.stamp after.stamp i (ap (λ (u : View). u.entries) h.0)
        (ap (λ (u : View). u.actor) h.0) h.1,
  );
  measured = λ before n. refl;
}

walked : (actor low : ℕ) (first : List SharedEntry) (way : Way) (old new : Debuggee) (before after : SeatState) (reply : StepReply)
    → Rose actor low first before.view before.stamp → Walks seat_acts way old before reply new after
    → Rose actor low first after.view after.stamp
walked actor low first way old new before after reply i h =
    (step_carries true seat_acts seat_acts (λ (s : SeatState). s) (λ (s : SeatState). Rose actor low first s.view s.stamp) (carries_rose actor low first)
    old.machine h.machine before after h.answer i refl h.step).1

stepped : (actor low : ℕ) (first : List SharedEntry) (way : Way) (old new : Debuggee) (before after : SeatState) (reply : StepReply)
    → Rose actor low first before.view before.stamp → AnswersStep seat_acts way old before reply new after
    → Rose actor low first after.view after.stamp
stepped actor low first way old new before after (step_reply.Paused slot) i h = subst (λ (s : SeatState). Rose actor low first s.view s.stamp) (sym h.same) i
stepped actor low first way old new before after reply i h = walked actor low first way old new before after reply i h

answered : (old new : SeatState) (m : ℕ) (way : Way) (before after : CellState) (said : Reply) → before.seat.view.actor ≡ m
    → AnswersLent (Step way) old before m said new after → StepsAbove m old before.seat after.seat new
answered old new m way before after said actor (inl h) = record {
  more = [];
  entries = ap (λ (c : CellState). c.seat.view.entries) h.unchanged ∙ sym (append-nil before.seat.view.entries);
  stamps = let k = ap (λ (s : SeatState). s.stamp) h.same in omega (arith, k);
}
answered old new m way before after said actor (inr h) =
    let s = h.answers.2 in
    let from : SeatState = learning old.stamp before.seat in
    let start : Rose m old.stamp before.seat.view.entries from.view from.stamp =
    record { more = []; entries = sym (append-nil before.seat.view.entries); stamps = omega arith; actor_is = actor } in
    let rose : Rose m old.stamp before.seat.view.entries s.seat.view s.seat.stamp =
    stepped m old.stamp before.seat.view.entries way s.before.debuggee s.after.debuggee from s.seat h.answers.0 start s.step in
    let last : Rose m old.stamp before.seat.view.entries after.seat.view after.seat.stamp =
    subst (λ (c : CellState). Rose m old.stamp before.seat.view.entries c.seat.view c.seat.stamp) (sym s.becomes) rose in
    let k : new.stamp ≡ max old.stamp after.seat.stamp = ap (λ (x : SeatState). x.stamp) h.learns in
    record { more = last.more; entries = last.entries; stamps = rise_up m old.stamp after.seat.stamp new.stamp last.more last.stamps (omega (arith, k)) }

no_step_resumes : (way : Way) (said : Reply) → resumes (Step way) said ≡ true → ⊥
no_step_resumes way said e = absurd (cc)

pub steps_above : (opening : List (List ℕ)) (starts : List MachineState) (passed : Passage → Bool) → StepsStandAbove opening starts passed
steps_above opening starts passed old new m way reply c = go c.goes_on where
  go : ((resumes (Step way) c.said ≡ true) × GoesOn opening starts passed m c.answered c.after new)
      ⊎ ((resumes (Step way) c.said ≡ false) × (new ≡ c.answered) × (c.after ≡ c.left))
      → StepsAbove m old c.before.seat c.after.seat new
  go (inl g) = absurd (no_step_resumes way c.said g.0)
  go (inr g) = subst (λ (s : SeatState). StepsAbove m old c.before.seat c.after.seat s) (sym g.1)
      (subst (λ (x : CellState). StepsAbove m old c.before.seat x.seat c.answered) (sym g.2)
      (answered old c.answered m way c.before c.left c.said c.holds.before_is.actor_is c.answers))
