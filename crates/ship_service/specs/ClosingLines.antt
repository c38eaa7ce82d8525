-- The lines that tell what a service left when it closed.
use Rattle.std.specs.Prelude.{ℕ, zero, suc, List, [], ◌++◌, codes, length, flat_map, Option, Some, None}
use Rattle.hex.specs.Hex.{encode_lower}
use Rattle.sha2.specs.Sha256.{sha256}
use Rattle.shared_objects.specs.declared.closing.ObjectEnd.{ObjectEnd}
use Rattle.shared_objects.specs.declared.closing.ObjectEnd.TheVariants.{Here, Out}
use Rattle.debugger.specs.Showing.{shown_of}
use Rattle.workers.specs.Cells.{RunningState}
use Rattle.workers.specs.declared.closing.ClosedCell.{ClosedCell}
use Rattle.debugger.specs.declared.show.ShowReply.TheVariants.{Registers}
use Rattle.world.specs.declared.replies.Reply.TheVariants.{Shown}
use Rattle.console.specs.Lines.{ended}
use Rattle.console.specs.Replies.{reply_text, number_text}
use Rattle.ship_service.specs.Closing.{ClosedState, live_object}

-- an object that is here is told by its length and the SHA-256 of its bytes, in lower hex
abbrev pub object_text : ℕ → ObjectEnd → List ℕ
object_text n (Here bytes) = codes "object" ++ number_text n ++ number_text (length bytes.items) ++ codes " " ++ encode_lower (sha256 bytes.items)
object_text n Out = codes "object" ++ number_text n ++ codes " out"

-- the line of an object, if there is one
abbrev pub object_line : ℕ → Option ObjectEnd → List ℕ
object_line n None = []
object_line n (Some e) = ended (object_text n e)

-- the lines of the objects with numbers below this one, in order
abbrev pub object_lines : {X : Type 0} → ClosedState X → ℕ → List ℕ
object_lines state zero = []
object_lines state (suc n) = object_lines state n ++ object_line n (live_object state n)

-- the line of a machine, if there is one: that with which `regs` is answered
abbrev pub machine_line : ℕ → Option RunningState → List ℕ
machine_line number None = []
machine_line number (Some r) = ended (reply_text (Shown number (Registers (shown_of r.debuggee.machine r.debuggee.debugger))))

-- the line of the machine of a cell, if it has one
abbrev pub cell_line : ClosedCell → List ℕ
cell_line c = machine_line c.number c.running

-- the lines of all objects, and then those of all machines
abbrev pub closing_lines : {X : Type 0} → ClosedState X → List ℕ
closing_lines state = object_lines state (length state.lengths) ++ flat_map cell_line state.cells
