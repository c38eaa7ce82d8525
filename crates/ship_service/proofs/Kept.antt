-- The cell keeps its number.
use Rattle.std.proofs.Common.{◌≡◌, ℕ, zero, suc, List, Option, Some, None, refl, ap, ◌∙◌, subst, inl, inr}
use Rattle.debugger.specs.declared.start.Start.{Start}
use Rattle.debugger.specs.declared.commands.MachineCommand.{MachineCommand}
use Rattle.debugger.specs.declared.commands.MachineCommand.TheVariants.{Step, Show, Debug}
use Rattle.debugger.specs.declared.replies.StepReply.{StepReply}
use Rattle.machine.specs.MachineState.{MachineState}
use Rattle.workers.specs.Cells.{SeatState, CellState, IsStamped, FitsCell, RanCell, RunsCell}
use Rattle.workers.specs.Pools.{TurnsCell}
use Rattle.world.specs.declared.replies.Reply.{Reply}
use Rattle.world.specs.declared.replies.Reply.TheVariants as answer
use Rattle.ship_service.specs.Lent.{informed, AnswersCell, AnswersLent, ShipsCell}
use Rattle.ship_service.specs.Served.{IsCell}

abbrev number_of : CellState → ℕ
number_of c = c.number

-- the type's fact, of a cell of this number
pub cell_now : (opening : List (List ℕ)) (starts : List MachineState) (m : ℕ) (c : CellState) → c.number ≡ m → c.seat.view.actor ≡ c.number
    → c.seat.view.opening ≡ opening → IsStamped c.seat → FitsCell opening starts c.number c.seat c.running
    → IsCell opening starts m c
cell_now opening starts m c number actor opens stamped fits = record {
  number_is = number;
  actor_is = actor ∙ number;
  opening_is = opens;
  stamped = stamped;
  fits = subst (λ n. FitsCell opening starts n c.seat c.running) number fits;
}

cell_number : (command : MachineCommand) (before : CellState) (m : ℕ) (reply : Reply) (after : CellState) → AnswersCell command before m reply after
    → after.number ≡ before.number
cell_number (Step way) before m reply after h = ap number_of h.2.becomes
cell_number (Show command) before m reply after h = ap number_of h.3
cell_number (Debug command) before m reply after h = ap number_of h.2.becomes

informed_number : (command : MachineCommand) (old : SeatState) (before : CellState) → (informed command old before).number ≡ before.number
informed_number (Step way) old before = refl
informed_number (Show command) old before = refl
informed_number (Debug command) old before = refl

-- a command on its machine
pub answered_number : (command : MachineCommand) (old : SeatState) (before : CellState) (m : ℕ) (reply : Reply) (new : SeatState) (after : CellState)
    → AnswersLent command old before m reply new after
    → after.number ≡ before.number
answered_number command old before m reply new after (inl h) = ap number_of h.unchanged
answered_number command old before m reply new after (inr h) =
    cell_number command (informed command old before) m reply after h.answers ∙ informed_number command old before

ran_number : (n : ℕ) (old new : CellState) → RanCell n old new → new.number ≡ old.number
ran_number zero old new h = ap number_of h
ran_number (suc n) old new h = ran_number n h.1 new h.3 ∙ ap number_of h.2.becomes

runs_number : (n : ℕ) (old : CellState) (ran : ℕ) (end : Option StepReply) (new : CellState) → RunsCell n old ran end new → new.number ≡ old.number
runs_number n old ran None new h = ran_number n old new h.1
runs_number n old ran (Some reply) new h = ap number_of h.answer.becomes ∙ ran_number ran old h.mid h.steps

-- a turn
pub turned_number : (limit : ℕ) (old new : CellState) → TurnsCell limit old new → new.number ≡ old.number
turned_number limit old new h = ap number_of h.queues.0.1 ∙ runs_number h.most old h.ran h.end h.mid h.runs

-- a machine that comes
pub shipped_number : (start : Start) (code : List ℕ) (before : CellState) (reply : Reply) (after : CellState) → ShipsCell start code before reply after
    → after.number ≡ before.number
shipped_number start code before (answer.Shipped m) after h = ap number_of h.2.0.1
shipped_number start code before (answer.Refused e) after h = ap number_of h.2
shipped_number start code before answer.NoMemory after h = ap number_of h.1
shipped_number start code before reply after h = absurd h
