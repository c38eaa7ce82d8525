-- The text of each reply, without its line end.
use Rattle.std.specs.Prelude.{ℕ, ◌≤◌, List, ◌++◌, length, codes, decimal, flat_map}
use Rattle.std.specs.Int.{w64, to_be_bytes}
use Rattle.hex.specs.Hex.{encode_lower}
use Rattle.loader.specs.Refusals.{why_name}
use Rattle.machine.specs.declared.state.Stop.{Stop}
use Rattle.machine.specs.declared.state.Stop.TheVariants as stop
use Rattle.machine.specs.Stops.{stop_name}
use Rattle.placement.specs.declared.places.Place.{Place}
use Rattle.placement.specs.declared.places.Place.TheVariants as place
use Rattle.placement.specs.declared.places.Moved.{Moved}
use Rattle.placement.specs.declared.places.Moved.TheVariants as moved
use Rattle.debugger.specs.declared.shown.State.{State}
use Rattle.debugger.specs.declared.shown.State.TheVariants as state
use Rattle.debugger.specs.declared.shown.Shown.{Shown}
use Rattle.debugger.specs.declared.replies.StepReply.{StepReply}
use Rattle.debugger.specs.declared.replies.StepReply.TheVariants as step_reply
use Rattle.debugger.specs.declared.show.ShowReply.{ShowReply}
use Rattle.debugger.specs.declared.show.ShowReply.TheVariants as show_reply
use Rattle.debugger.specs.declared.replies.Debugged.{Debugged}
use Rattle.debugger.specs.declared.replies.Debugged.TheVariants as debugged
use Rattle.world.specs.declared.world.moving.Move.{Move}
use Rattle.world.specs.declared.world.moving.Move.TheVariants as move
use Rattle.world.specs.declared.replies.Reply.{Reply}
use Rattle.world.specs.declared.replies.Reply.TheVariants as reply
use Rattle.world.specs.Moves.{place_before}
use Rattle.console.specs.Lines.{nomem_text}
use Rattle.console.specs.Commands.{range_limit}

-- a space and a number in decimal
abbrev pub number_text : ℕ → List ℕ
number_text n = codes " " ++ decimal n

-- a space and a register's value, as sixteen hex digits
abbrev pub value_text : ℕ → List ℕ
value_text v = codes " " ++ encode_lower (to_be_bytes w64 v)

-- the value of a stop, if it has one
abbrev pub stop_value_text : Stop → List ℕ
stop_value_text (stop.Exit v) = value_text v
stop_value_text _ = codes ""

-- whether a machine runs or is paused, or why it stopped
abbrev pub state_name : State → List ℕ
state_name state.Running = codes "run"
state_name state.Paused = codes "paused"
state_name (state.Stopped s) = stop_name s

-- what is shown of a machine: slot, fuel, state and registers
abbrev pub shown_text : Shown → List ℕ
shown_text shown = number_text shown.slot ++ number_text shown.fuel ++ codes " " ++ state_name shown.state ++ flat_map value_text shown.registers

-- the name of a place
abbrev pub place_name : Place → List ℕ
place_name place.Here = codes "here"
place_name place.Leaving = codes "leaving"
place_name place.Far = codes "far"
place_name place.Returning = codes "returning"

-- the text of what machine m answers to a step
abbrev pub step_text : ℕ → StepReply → List ℕ
step_text m (step_reply.Ran slot) = codes "ran" ++ number_text m ++ number_text slot
step_text m (step_reply.Hit slot) = codes "hit" ++ number_text m ++ number_text slot
step_text m (step_reply.Waiting n) = codes "waiting" ++ number_text m ++ number_text n
step_text m (step_reply.Paused slot) = codes "paused" ++ number_text m ++ number_text slot
step_text m (step_reply.Stopped s) = codes "stopped" ++ number_text m ++ codes " " ++ stop_name s ++ stop_value_text s

-- the text of what is shown of machine m, or why it isn't
abbrev pub show_text : ℕ → ShowReply → List ℕ
show_text m (show_reply.Registers shown) = codes "regs" ++ number_text m ++ shown_text shown
show_text m (show_reply.Emitted values) = codes "out" ++ number_text m ++ flat_map value_text values
show_text m (show_reply.Bytes bytes) = codes "bytes " ++ encode_lower bytes
show_text m (show_reply.Disassembled slot text) = codes "line" ++ number_text m ++ number_text slot ++ codes " " ++ text
show_text m show_reply.Outside = codes "outside"
show_text m show_reply.NoSlot = codes "noslot"
show_text m show_reply.NoMemory = nomem_text

-- the text of what a command of the debugger did
abbrev pub debug_text : Debugged → List ℕ
debug_text debugged.Done = codes "ok"
debug_text debugged.NoSlot = codes "noslot"
debug_text debugged.Outside = codes "outside"
debug_text debugged.Full = codes "full"
debug_text debugged.NoWatch = codes "nowatch"
debug_text debugged.NotPaused = codes "notpaused"

-- the name of a move that is done
abbrev pub move_name : Move → List ℕ
move_name move.Leave = codes "leaving"
move_name move.Left = codes "left"
move_name move.Return = codes "returning"
move_name move.Returned = codes "home"

-- the text of what came of a move of object n, or of its freeing: a name where it is done, and a place where the far store fails
abbrev pub moved_text : List ℕ → Place → ℕ → Moved → List ℕ
moved_text name back n moved.Done = name ++ number_text n
moved_text name back n moved.NoObject = codes "none"
moved_text name back n (moved.Misplaced p) = codes "place" ++ number_text n ++ codes " " ++ place_name p
moved_text name back n moved.Scoped = codes "kept" ++ number_text n ++ codes " scoped"
moved_text name back n moved.NoRoom = codes "noroom"
moved_text name back n (moved.Fault f) = codes "kept" ++ number_text n ++ codes " fault " ++ place_name back

-- the text of a reply, without its line end
abbrev pub reply_text : Reply → List ℕ
reply_text (reply.Made n) = codes "made" ++ number_text n
reply_text (reply.Freed n m) = moved_text (codes "freed") place.Here n m
reply_text (reply.Moved n kind m) = moved_text (move_name kind) (place_before kind) n m
reply_text reply.Done = codes "ok"
reply_text (reply.Bytes bytes) = codes "bytes " ++ encode_lower bytes
reply_text (reply.Shipped m) = codes "shipped" ++ number_text m
reply_text (reply.Stepped m replied) = step_text m replied
reply_text (reply.Shown m replied) = show_text m replied
reply_text (reply.Debugged done) = debug_text done
reply_text reply.NoMemory = nomem_text
reply_text reply.Full = codes "full"
reply_text reply.NoRoom = codes "noroom"
reply_text reply.Outside = codes "outside"
reply_text (reply.Away n) = codes "away" ++ number_text n
reply_text (reply.Refused e) = codes "refused" ++ number_text e.slot ++ codes " " ++ why_name e.why
reply_text reply.Missing = codes "none"

-- a reply has at most so many bytes to show
abbrev pub IsShort : Reply → Type 0
IsShort (reply.Bytes bytes) = length bytes ≤ range_limit
IsShort (reply.Shown m (show_reply.Bytes bytes)) = length bytes ≤ range_limit
IsShort _ = Unit {0}
