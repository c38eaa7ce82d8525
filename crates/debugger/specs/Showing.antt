-- What is shown of a machine: its state, as it is.
use Rattle.std.specs.Prelude.{◌≡◌, ℕ, ◌+◌, ◌≤◌, Bool, true, false, List, length, take, drop, Option, Some, None}
use Rattle.isa_table.specs.declared.instr.Instr.{Instr}
use Rattle.asm_table.specs.Canonical.{line_text}
use Rattle.loader.specs.ValidCode.{IsAt, IsRowAt}
use Rattle.machine.specs.declared.state.Stop.{Stop}
use Rattle.machine.specs.MachineState.{MachineState}
use Rattle.debugger.specs.declared.shown.State.{State}
use Rattle.debugger.specs.declared.shown.State.TheVariants as state
use Rattle.debugger.specs.declared.shown.Shown.{Shown}
use Rattle.debugger.specs.declared.show.ShowCommand.{ShowCommand}
use Rattle.debugger.specs.declared.show.ShowCommand.TheVariants.{Regs, Out, Stack, Line}
use Rattle.debugger.specs.declared.show.ShowReply.{ShowReply}
use Rattle.debugger.specs.declared.show.ShowReply.TheVariants.{Registers, Emitted, Bytes, Disassembled, Outside, NoSlot, NoMemory}
use Rattle.debugger.specs.declared.debuggee.Debuggee.{Debuggee}
use Rattle.debugger.specs.DebugState.{DebugState}

-- a stop is shown before a pause
abbrev pub state_of : Option Stop → Bool → State
state_of (Some s) paused = state.Stopped s
state_of None true = state.Paused
state_of None false = state.Running

-- slot, fuel, state and registers, as they are
abbrev pub shown_of : MachineState → DebugState → Shown
shown_of m d = record { slot = m.slot; fuel = m.fuel; state = state_of m.stop d.paused; registers = m.registers }

-- so many of these bytes from the offset on
abbrev pub ShowsBytes : List ℕ → ℕ → ℕ → ShowReply → Type 0
ShowsBytes bytes offset count (Bytes shown) = (offset + count ≤ length bytes) × (shown ≡ take count (drop offset bytes))
ShowsBytes bytes offset count Outside = offset + count ≤ length bytes → ⊥
ShowsBytes bytes offset count NoMemory = offset + count ≤ length bytes
ShowsBytes bytes offset count _ = ⊥

-- the instruction that begins at the slot of the code, and its canonical spelling
pub record IsLineAt (code : List ℕ) (slot : ℕ) (text : List ℕ) : Type 0 where
  pub instr : Instr
  pub row : IsRowAt code slot instr
  pub spelled : text ≡ line_text instr

-- the instruction at a slot of the code, as assembly
abbrev pub ShowsLine : List ℕ → ℕ → ShowReply → Type 0
ShowsLine code slot (Disassembled shown text) = (shown ≡ slot) × IsLineAt code slot text
ShowsLine code slot NoSlot = IsAt code slot → ⊥
ShowsLine code slot NoMemory = IsAt code slot
ShowsLine code slot _ = ⊥

-- what a command shows of a machine
abbrev pub Shows : ShowCommand → Debuggee → ShowReply → Type 0
Shows Regs d reply = reply ≡ Registers (shown_of d.machine d.debugger)
-- the values that the machine emitted, the oldest first
Shows Out d reply = reply ≡ Emitted d.machine.emitted
Shows (Stack offset size) d reply = ShowsBytes d.machine.stack offset size reply
Shows (Line slot) d reply = ShowsLine d.machine.code slot reply
