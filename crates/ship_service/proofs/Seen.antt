-- What a connection has seen of a machine that answered it.
use Rattle.std.proofs.Common.{◌≡◌, ◌⊎◌, Bool, true, false, ℕ, ◌≤◌, max, List, Option, Some, None, sym, ap, ◌∙◌, subst, inl, inr, arith}
use Rattle.machine.specs.MachineState.{MachineState}
use Rattle.debugger.specs.declared.commands.MachineCommand.{MachineCommand}
use Rattle.shared_objects.specs.History.{top}
use Rattle.workers.specs.Cells.{SeatState, CellState, RunningState, IsStamped, FitsCell}
use Rattle.workers.specs.TableNames.{Passage}
use Rattle.world.specs.declared.replies.Reply.{Reply}
use Rattle.ship_service.specs.Lent.{learning, resumes, AnswersLent}
use Rattle.ship_service.specs.Served.{IsCell, IsSeen, GoesOn, AnsweredMachinesAreSeen}

-- a seat that learnt the stamp of another has seen its entries
learnt : (old new seat : SeatState) → new ≡ learning seat.stamp old → IsStamped seat → top 0 seat.view.entries ≤ new.stamp
learnt old new seat e s = let k : new.stamp ≡ max old.stamp seat.stamp = ap (λ (x : SeatState). x.stamp) e in omega (arith, k, s)

none_there : (r : Option RunningState) (x : RunningState) → r ≡ None → r ≡ Some x → ⊥
none_there r x e f = let g = sym e ∙ f in absurd (cc)

answered : (opening : List (List ℕ)) (starts : List MachineState) (old new : SeatState) (m : ℕ) (command : MachineCommand) (before after : CellState)
    (said : Reply) (r : RunningState)
    → IsCell opening starts m after → AnswersLent command old before m said new after → after.running ≡ Some r → IsSeen opening starts m new.stamp after.seat r
answered opening starts old new m command before after said r is (inl h) e =
    absurd (none_there after.running r (ap (λ (c : CellState). c.running) h.unchanged ∙ h.none) e)
answered opening starts old new m command before after said r is (inr h) e =
    record { replayed = subst (FitsCell opening starts m after.seat) e is.fits; up_to = learnt old new after.seat h.learns is.stamped }

pub answered_seen : (opening : List (List ℕ)) (starts : List MachineState) (passed : Passage → Bool) → AnsweredMachinesAreSeen opening starts passed
answered_seen opening starts passed old new m command reply c r e = go c.goes_on where
  go : ((resumes command c.said ≡ true) × GoesOn opening starts passed m c.answered c.after new)
      ⊎ ((resumes command c.said ≡ false) × (new ≡ c.answered) × (c.after ≡ c.left))
      → IsSeen opening starts m new.stamp c.after.seat r
  go (inl g) = let t = g.1.last in
      record { replayed = subst (FitsCell opening starts m c.after.seat) e t.holds.after_is.fits; up_to = learnt g.1.mid new c.after.seat t.learns t.holds.after_is.stamped }
  go (inr g) = subst (λ (s : SeatState). IsSeen opening starts m s.stamp c.after.seat r) (sym g.1)
      (subst (λ (x : CellState). IsSeen opening starts m c.answered.stamp x.seat r) (sym g.2)
      (answered opening starts old c.answered m command c.before c.left c.said r c.holds.after_is c.answers
      (ap (λ (x : CellState). x.running) (sym g.2) ∙ e)))
