-- A machine that is there is found.
use Rattle.std.proofs.Common.{◌≡◌, Bool, ℕ, List, sym, ◌∙◌, subst, inl, inr, Some, None}
use Rattle.std.specs.Prelude.{Option}
use Rattle.machine.specs.MachineState.{MachineState}
use Rattle.debugger.specs.declared.commands.MachineCommand.{MachineCommand}
use Rattle.debugger.specs.declared.commands.MachineCommand.TheVariants.{Step, Show, Debug}
use Rattle.workers.specs.Cells.{SeatState, CellState, RunningState, FitsCell, opened_as}
use Rattle.workers.specs.TableNames.{Passage}
use Rattle.world.specs.declared.replies.Reply.{Reply}
use Rattle.world.specs.declared.replies.Reply.TheVariants as answer
use Rattle.ship_service.specs.declared.replies.ServiceReply.TheVariants.{Plain}
use Rattle.ship_service.specs.Lent.{AnswersCell, AnswersLent, informed}
use Rattle.ship_service.specs.Served.{OpenedMachinesStay}

-- a machine that answers is not none
cell_tells : (c : MachineCommand) (before after : CellState) (m : ℕ) → AnswersCell c before m answer.Missing after → ⊥
cell_tells (Step way) before after m h = let e = h.1 in absurd (cc)
cell_tells (Show command) before after m h = let e = h.1 in absurd (cc)
cell_tells (Debug command) before after m h = let e = h.1 in absurd (cc)

-- no cell of such a machine is empty
cell_filled : (opening : List (List ℕ)) (starts : List MachineState) (m : ℕ) (seat : SeatState) (r : Option RunningState) (start : MachineState) → r ≡ None
    → FitsCell opening starts m seat r → opened_as starts m ≡ Some start → ⊥
cell_filled opening starts m seat r start none fits there =
    let h : FitsCell opening starts m seat None = subst (FitsCell opening starts m seat) none fits in let e = sym h.0 ∙ there in absurd (cc)

lent_tells : (opening : List (List ℕ)) (starts : List MachineState) (old new : SeatState) (m : ℕ) (c : MachineCommand)
    (before after : CellState) (start : MachineState)
    → FitsCell opening starts m before.seat before.running → opened_as starts m ≡ Some start → AnswersLent c old before m answer.Missing new after → ⊥
lent_tells opening starts old new m c before after start fits there (inl h) = cell_filled opening starts m before.seat before.running start h.none fits there
lent_tells opening starts old new m c before after start fits there (inr h) = cell_tells c (informed c old before) after m h.answers

plain_is : (a b : Reply) → Plain a ≡ Plain b → b ≡ a
plain_is a b e = cc

pub opened_machines_stay : (opening : List (List ℕ)) (starts : List MachineState) (passed : Passage → Bool) → OpenedMachinesStay opening starts passed
opened_machines_stay opening starts passed old new m c start low high there (inl h) = h.0 (low, high)
opened_machines_stay opening starts passed old new m c start low high there (inr h) =
    lent_tells opening starts old h.answered m c h.before h.left start h.holds.before_is.fits there
    (subst (λ r. AnswersLent c old h.before m r h.answered h.left) (plain_is answer.Missing h.said h.reply_is) h.answers)
