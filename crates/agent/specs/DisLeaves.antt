-- What is shown of raw code, and what `dis` leaves in its streams.
use Rattle.std.specs.Prelude.{◌≢◌, ℕ, Bool, true, false, ⊤, List, Option, Result, Ok, Err}
use Rattle.loader.specs.Refusals.{Refuses}
use Rattle.loader.specs.declared.loading.Why.TheVariants as why
use Rattle.disassembler.specs.TextOf.{IsShownAs}
use Rattle.llvm_text.specs.Listing.{HasLlvmLines}
use Rattle.agent.specs.declared.arguments.Showing.{Showing}
use Rattle.agent.specs.Leaves.{Leaves}
use Rattle.agent.specs.declared.failure.Failure.{Failure}
use Rattle.agent.specs.declared.failure.Failure.TheVariants.{Refused, WrongLine, InputTooLong, Read, Write, NoMemory}

-- the code is shown by this text: as llvm-objdump spells it or as assembly, with slots or without
abbrev pub IsSpelled : Bool → Bool → List ℕ → List ℕ → Type 0
IsSpelled true has_slots code text = HasLlvmLines has_slots code text
IsSpelled false has_slots code text = IsShownAs has_slots code text

-- what is found about this code: its text in the spelling that is asked for, with slots or without, where it is valid, else at which slot it is refused and why
abbrev pub Disassembles : Showing → List ℕ → Result (List ℕ) Failure → Type 0
Disassembles showing code (Ok text) = IsSpelled showing.is_llvm showing.has_slots code text
Disassembles showing code (Err (Refused error)) = Refuses code error.slot error.why × (error.why ≢ why.Memory)
Disassembles showing code (Err NoMemory) = Unit {0}
Disassembles showing code (Err Read) = Unit {0}
Disassembles showing code (Err (WrongLine error)) = ⊥
Disassembles showing code (Err InputTooLong) = ⊥
Disassembles showing code (Err Write) = ⊥

-- What `dis` leaves in the output: the text of the code, in the spelling that is asked for, or nothing where it is refused.
abbrev pub DisLeaves : Showing → List ℕ → Option (List ℕ) → Option (List ℕ) → Result ⊤ Failure → Type 0
DisLeaves showing code before after outcome = Leaves (Disassembles showing code) before after outcome
