-- What is found about the longest text or code and one byte more is found about the whole input.
use Rattle.std.proofs.Common.{◌≡◌, ◌≤◌, ℕ, Bool, true, false, List, length, take, subst, Option, None, Some, IfSome, Result, Ok, Err, IfOk, IfErr}
use Rattle.agent.specs.AsmLeaves.{Assembles}
use Rattle.agent.specs.DisLeaves.{Disassembles, IsSpelled}
use Rattle.agent.specs.declared.arguments.Showing.{Showing}
use Rattle.agent.specs.declared.failure.Failure.{Failure}
use Rattle.agent.specs.declared.failure.Failure.TheVariants.{Refused, WrongLine, InputTooLong, Read, Write, NoMemory}
use Rattle.agent.proofs.CheckedPrefix.{short, longer, refused}

pub assembled_whole : (limit : ℕ) (input : List ℕ) (result : Result (List ℕ) Failure) → limit ≡ 1048577
    → Assembles (take limit input) result → Assembles input result
assembled_whole limit input (Ok code) is h = subst (λ bytes. Assembles bytes (Ok code)) (short 1048576 limit input is h.0) h
assembled_whole limit input (Err (WrongLine error)) is h = subst (λ bytes. Assembles bytes (Err (WrongLine error))) (short 1048576 limit input is h.0) h
assembled_whole limit input (Err InputTooLong) is h = longer 1048576 limit input h
assembled_whole limit input (Err NoMemory) is h = tt
assembled_whole limit input (Err Read) is h = tt
assembled_whole limit input (Err (Refused error)) is h = absurd h
assembled_whole limit input (Err Write) is h = absurd h

shown_short : (is_llvm has_slots : Bool) (code text : List ℕ) → IsSpelled is_llvm has_slots code text → length code ≤ 32768
shown_short true has_slots code text h = h.1.short
shown_short false false code text h = h.1.short
shown_short false true code text h = h.1.short

shown_whole : (showing : Showing) (limit : ℕ) (input : List ℕ) (result : Result (List ℕ) Failure) → limit ≡ 32769
    → Disassembles showing (take limit input) result → Disassembles showing input result
shown_whole showing limit input (Ok text) is h =
    subst (λ bytes. Disassembles showing bytes (Ok text))
    (short 32768 limit input is (shown_short showing.is_llvm showing.has_slots (take limit input) text h)) h
shown_whole showing limit input (Err (Refused error)) is h = (refused limit error.why error.slot input is h.0, h.1)
shown_whole showing limit input (Err NoMemory) is h = tt
shown_whole showing limit input (Err Read) is h = tt
shown_whole showing limit input (Err (WrongLine error)) is h = absurd h
shown_whole showing limit input (Err InputTooLong) is h = absurd h
shown_whole showing limit input (Err Write) is h = absurd h

-- what holds of the bytes that were read holds of the whole input
abbrev Whole : ℕ → (List ℕ → Result (List ℕ) Failure → Type 0) → Type 0
Whole limit P = (input : List ℕ) (result : Result (List ℕ) Failure) → P (take limit input) result → P input result

found_ok : {A : Type 0} (view : A → List ℕ) (P : List ℕ → Result (List ℕ) Failure
    → Type 0) (limit : ℕ) (given : Option (List ℕ)) (read : List ℕ) (result : Result A Failure)
    → Whole limit P → IfSome given (λ input. read ≡ take limit input) → IfOk result (λ x. P read (Ok (view x)))
    → IfSome given (λ input. IfOk result (λ x. P input (Ok (view x))))
found_ok view P limit None read result whole is found = tt
found_ok view P limit (Some input) read (Ok x) whole is found = whole input (Ok (view x)) (subst (λ bytes. P bytes (Ok (view x))) is found)
found_ok view P limit (Some input) read (Err e) whole is found = tt

found_err : {A : Type 0} (P : List ℕ → Result (List ℕ) Failure → Type 0) (limit : ℕ) (given : Option (List ℕ)) (read : List ℕ) (result : Result A Failure)
    → Whole limit P → IfSome given (λ input. read ≡ take limit input) → IfErr result (λ e. P read (Err e))
    → IfSome given (λ input. IfErr result (λ e. P input (Err e)))
found_err P limit None read result whole is found = tt
found_err P limit (Some input) read (Ok x) whole is found = tt
found_err P limit (Some input) read (Err e) whole is found = whole input (Err e) (subst (λ bytes. P bytes (Err e)) is found)

pub text_ok : {A : Type 0} (showing : Showing) (view : A → List ℕ) (limit : ℕ) (given : Option (List ℕ)) (read : List ℕ) (result : Result A Failure)
    → limit ≡ 32769 → IfSome given (λ input. read ≡ take limit input) → IfOk result (λ x. Disassembles showing read (Ok (view x)))
    → IfSome given (λ input. IfOk result (λ x. Disassembles showing input (Ok (view x))))
text_ok showing view limit given read result is =
    found_ok view (Disassembles showing) limit given read result (λ input found. shown_whole showing limit input found is)

pub text_err : {A : Type 0} (showing : Showing) (limit : ℕ) (given : Option (List ℕ)) (read : List ℕ) (result : Result A Failure)
    → limit ≡ 32769 → IfSome given (λ input. read ≡ take limit input) → IfErr result (λ e. Disassembles showing read (Err e))
    → IfSome given (λ input. IfErr result (λ e. Disassembles showing input (Err e)))
text_err showing limit given read result is =
    found_err (Disassembles showing) limit given read result (λ input found. shown_whole showing limit input found is)
