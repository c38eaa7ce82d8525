-- Which line spells which command. Names, parameters and limits are this project's choice.
use Rattle.std.specs.Prelude.{◌≡◌, ℕ, ◌≤◌, ◌-◌, ◌/◌, ◌^◌, Bool, true, false, List, [], ◌∷◌, ◌++◌, length, slice_index, codes, decimal, find, flat_map, Option, Some, None, Result, Ok}
use Rattle.std.specs.Prelude.{Err}
use Rattle.std.specs.Str.{bytes_eq}
use Rattle.loader.specs.ValidCode.{code_limit}
use Rattle.memory.specs.Objects.{object_bytes}
use Rattle.scopes.specs.Windows.{machine_limit}
use Rattle.machine.specs.MachineState.{stack_size}
use Rattle.machine.specs.Grants.{GrantState}
use Rattle.debugger.specs.declared.commands.MachineCommand.TheVariants.{Step, Show, Debug}
use Rattle.debugger.specs.declared.commands.Way.TheVariants as way
use Rattle.debugger.specs.declared.show.ShowCommand.TheVariants.{Regs, Out, Stack, Line}
use Rattle.debugger.specs.declared.commands.DebugCommand.TheVariants.{Break, Unbreak, Watch, Unwatch, Resume}
use Rattle.world.specs.declared.events.Event.{Event}
use Rattle.world.specs.declared.events.Event.TheVariants.{Make, Ship, Object, Machine}
use Rattle.world.specs.declared.events.ObjectCommand.TheVariants.{Free, Put, Get, Move}
use Rattle.world.specs.declared.world.moving.Move.TheVariants as move
use Rattle.console.specs.Lines.{ended, line_limit}
use Rattle.console.specs.Tokens.{tokens_of, within, AreNumbers, AreBytes}
use Rattle.console.specs.Granting.{object_number, AreGrants}
use Rattle.console.specs.declared.fault.LineFault.{LineFault}
use Rattle.console.specs.declared.fault.LineFault.TheVariants.{Bad, NoMemory}
use Rattle.console.specs.declared.kind.Kind.{Kind}
use Rattle.console.specs.declared.kind.Kind.TheVariants as kind
use Rattle.console.specs.declared.kind.Limits.{Limits}

-- ---- limits

-- any number of 64 bits
abbrev pub any_number : Limits
any_number = within 0 (2 ^ 64 - 1)

-- the number of a machine that there may be
abbrev pub machine_number : Limits
machine_number = within 1 machine_limit

-- where a range of an object's bytes may begin
abbrev pub object_offset : Limits
object_offset = within 0 (object_bytes - 1)

-- where a range of a stack's bytes may begin
abbrev pub stack_offset : Limits
stack_offset = within 0 (stack_size - 1)

-- a slot of code that there may be
abbrev pub code_slot : Limits
code_slot = within 0 (code_limit / 8 - 1)

-- the most bytes that a line or a reply carries, but for code
abbrev pub range_limit : ℕ
range_limit = 4096

-- how many bytes may be shown at once, or watched as one range
abbrev pub range_length : Limits
range_length = within 1 range_limit

-- fuel, and what R1 to R5 begin with
abbrev pub start_numbers : List Limits
start_numbers = any_number ∷ any_number ∷ any_number ∷ any_number ∷ any_number ∷ any_number ∷ []

-- ---- the table of commands

-- What a line of a command has: its name, the limits of the numbers after it, how many bytes may come then, in hex, where some
-- have to, and whether words that grant objects may come last.
pub record LineForm : Type 0 where
  pub name : List ℕ
  pub numbers : List Limits
  pub bytes : Option ℕ
  pub takes_grants : Bool

-- a line that has numbers alone after its name
abbrev pub numbered : List ℕ → List Limits → LineForm
numbered name numbers = record { name = name; numbers = numbers; bytes = None; takes_grants = false }

-- how a line of each kind is written
abbrev pub form_of : Kind → LineForm
-- how many bytes the object has
form_of kind.Make = numbered (codes "make") (within 1 object_bytes ∷ [])
form_of kind.Free = numbered (codes "free") (object_number ∷ [])
form_of kind.Put = record (numbered (codes "put") (object_number ∷ object_offset ∷ [])) { bytes = Some range_limit }
form_of kind.Get = numbered (codes "get") (object_number ∷ object_offset ∷ range_length ∷ [])
-- code, as much as the line holds
form_of kind.Ship = record (numbered (codes "ship") (start_numbers)) { bytes = Some line_limit }
form_of kind.Ship2 = record (numbered (codes "ship2") (start_numbers)) { bytes = Some line_limit; takes_grants = true }
form_of kind.Leave = numbered (codes "leave") (object_number ∷ [])
form_of kind.Left = numbered (codes "left") (object_number ∷ [])
form_of kind.Return = numbered (codes "return") (object_number ∷ [])
form_of kind.Returned = numbered (codes "returned") (object_number ∷ [])
form_of kind.Step = numbered (codes "step") (machine_number ∷ [])
form_of kind.One = numbered (codes "one") (machine_number ∷ [])
form_of kind.Regs = numbered (codes "regs") (machine_number ∷ [])
form_of kind.Out = numbered (codes "out") (machine_number ∷ [])
form_of kind.Stack = numbered (codes "stack") (machine_number ∷ stack_offset ∷ range_length ∷ [])
form_of kind.Line = numbered (codes "line") (machine_number ∷ code_slot ∷ [])
form_of kind.Break = numbered (codes "break") (machine_number ∷ code_slot ∷ [])
form_of kind.Unbreak = numbered (codes "unbreak") (machine_number ∷ code_slot ∷ [])
-- a range begins at any address
form_of kind.Watch = numbered (codes "watch") (machine_number ∷ any_number ∷ range_length ∷ [])
form_of kind.Unwatch = numbered (codes "unwatch") (machine_number ∷ any_number ∷ range_length ∷ [])
form_of kind.Resume = numbered (codes "resume") (machine_number ∷ [])

-- all kinds
abbrev pub all_kinds : List Kind
all_kinds = kind.Make ∷ kind.Free ∷ kind.Put ∷ kind.Get ∷ kind.Ship ∷ kind.Ship2 ∷ kind.Leave ∷ kind.Left ∷ kind.Return ∷ kind.Returned ∷ kind.Step
    ∷ kind.One ∷ kind.Regs ∷ kind.Out ∷ kind.Stack ∷ kind.Line ∷ kind.Break ∷ kind.Unbreak ∷ kind.Watch ∷ kind.Unwatch ∷ kind.Resume ∷ []

-- the first of these kinds that has this name
abbrev pub first_named : List ℕ → List Kind → Option Kind
first_named name kinds = find (λ kind. bytes_eq name (form_of kind).name) kinds

-- the kind of command that has this name
abbrev pub kind_named : List ℕ → Option Kind
kind_named name = first_named name all_kinds

-- the name
abbrev pub command_name : Kind → List ℕ
command_name kind = (form_of kind).name

-- the limits of the numbers after the name
abbrev pub number_limits : Kind → List Limits
number_limits kind = (form_of kind).numbers

-- how many bytes may come after the numbers, in hex, where some have to
abbrev pub most_bytes : Kind → Option ℕ
most_bytes kind = (form_of kind).bytes

-- whether words that grant objects may come last
abbrev pub takes_grants : Kind → Bool
takes_grants kind = (form_of kind).takes_grants

-- ---- the table as a text

-- a space, and the least and the most that a number may be
abbrev pub limits_text : Limits → List ℕ
limits_text limits = codes " " ++ decimal limits.least ++ codes "-" ++ decimal limits.most

-- how many bytes may come, where some have to
abbrev pub bytes_text : Option ℕ → List ℕ
bytes_text (Some most) = codes " bytes-" ++ decimal most
bytes_text None = []

-- that words that grant objects may come last, where they may
abbrev pub grants_text : Bool → List ℕ
grants_text true = codes " grants"
grants_text false = []

-- the line of a kind of command
abbrev pub command_line : Kind → List ℕ
command_line kind = ended (command_name kind ++ flat_map limits_text (number_limits kind) ++ bytes_text (most_bytes kind) ++ grants_text (takes_grants kind))

-- the lines of all commands
abbrev pub command_lines : List ℕ
command_lines = flat_map command_line all_kinds

-- ---- the commands

-- a machine made of the code
abbrev pub ship_with : List ℕ → List ℕ → GrantState → Event
ship_with numbers bytes grants = Ship record {
  fuel = slice_index numbers 0;
  arguments = slice_index numbers 1 ∷ slice_index numbers 2 ∷ slice_index numbers 3 ∷ slice_index numbers 4 ∷ slice_index numbers 5 ∷ [];
  grants = grants;
} bytes

-- the command of this kind, with these numbers, bytes and grants
abbrev pub event_with : Kind → List ℕ → List ℕ → GrantState → Event
event_with kind.Make numbers bytes grants = Make (slice_index numbers 0)
event_with kind.Free numbers bytes grants = Object (slice_index numbers 0) Free
event_with kind.Put numbers bytes grants = Object (slice_index numbers 0) (Put (slice_index numbers 1) bytes)
event_with kind.Get numbers bytes grants = Object (slice_index numbers 0) (Get (slice_index numbers 1) (slice_index numbers 2))
event_with kind.Ship numbers bytes grants = ship_with numbers bytes grants
event_with kind.Ship2 numbers bytes grants = ship_with numbers bytes grants
event_with kind.Leave numbers bytes grants = Object (slice_index numbers 0) (Move move.Leave)
event_with kind.Left numbers bytes grants = Object (slice_index numbers 0) (Move move.Left)
event_with kind.Return numbers bytes grants = Object (slice_index numbers 0) (Move move.Return)
event_with kind.Returned numbers bytes grants = Object (slice_index numbers 0) (Move move.Returned)
event_with kind.Step numbers bytes grants = Machine (slice_index numbers 0) (Step way.Step)
event_with kind.One numbers bytes grants = Machine (slice_index numbers 0) (Step way.One)
event_with kind.Regs numbers bytes grants = Machine (slice_index numbers 0) (Show Regs)
event_with kind.Out numbers bytes grants = Machine (slice_index numbers 0) (Show Out)
event_with kind.Stack numbers bytes grants = Machine (slice_index numbers 0) (Show (Stack (slice_index numbers 1) (slice_index numbers 2)))
event_with kind.Line numbers bytes grants = Machine (slice_index numbers 0) (Show (Line (slice_index numbers 1)))
event_with kind.Break numbers bytes grants = Machine (slice_index numbers 0) (Debug (Break (slice_index numbers 1)))
event_with kind.Unbreak numbers bytes grants = Machine (slice_index numbers 0) (Debug (Unbreak (slice_index numbers 1)))
event_with kind.Watch numbers bytes grants = Machine (slice_index numbers 0) (Debug (Watch (slice_index numbers 1) (slice_index numbers 2)))
event_with kind.Unwatch numbers bytes grants = Machine (slice_index numbers 0) (Debug (Unwatch (slice_index numbers 1) (slice_index numbers 2)))
event_with kind.Resume numbers bytes grants = Machine (slice_index numbers 0) (Debug Resume)

-- ---- lines

-- The tokens after the name are the numbers, the bytes and the words of this command of that kind.
pub record SaysOfKind (kind : Kind) (tokens : List (List ℕ)) (command : Event) : Type 0 where
  pub numbers : List ℕ
  pub bytes : List ℕ
  pub grants : GrantState
  pub rest : List (List ℕ)
  pub words : List (List ℕ)
  pub numbers_first : AreNumbers (number_limits kind) tokens numbers rest
  pub bytes_next : AreBytes (most_bytes kind) rest bytes words
  pub grants_last : AreGrants (takes_grants kind) words grants
  pub is_command : command ≡ event_with kind numbers bytes grants

-- the tokens say the command
abbrev pub Says : List (List ℕ) → Event → Type 0
Says [] command = ⊥
Says (name ∷ tokens) command = (kind : Kind) × (kind_named name ≡ Some kind) × SaysOfKind kind tokens command

-- The line spells the command.
abbrev pub SpellsCommand : List ℕ → Event → Type 0
SpellsCommand line command = (length line ≤ line_limit) × Says (tokens_of line) command

-- The line spells no command.
abbrev pub SpellsNone : List ℕ → Type 0
SpellsNone line = (command : Event) → SpellsCommand line command → ⊥

-- the commands that carry bytes: reading them may be out of memory
abbrev pub CarriesBytes : Event → Type 0
CarriesBytes (Object n (Put offset bytes)) = Unit {0}
CarriesBytes (Ship start code) = Unit {0}
CarriesBytes _ = ⊥

-- what may be read where these are the commands that are said
abbrev pub Reads : (Event → Type 0) → Result Event LineFault → Type 0
Reads IsSaid (Ok command) = IsSaid command
Reads IsSaid (Err Bad) = (command : Event) → IsSaid command → ⊥
Reads IsSaid (Err NoMemory) = (command : Event) × IsSaid command × CarriesBytes command
