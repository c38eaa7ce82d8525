-- What is left and reported of the bytes that were read is so of the whole input, with explanations or without.
use Rattle.std.proofs.Common.{◌≡◌, ◌⊎◌, ℕ, Bool, true, false, List, take, subst, sym, Option, None, Some, IfSome, Result, Ok, Err, inl, inr}
use Rattle.std.specs.Prelude.{⊤}
use Rattle.std.proofs.lemmas.Option.{IfSome_then}
use Rattle.std.proofs.KnownBytes.{Keeps-refl}
use Rattle.loader.specs.declared.loading.LoadError.{LoadError}
use Rattle.agent.specs.AsmLeaves.{AsmLeaves}
use Rattle.agent.specs.CheckLeaves.{CheckLeaves}
use Rattle.agent.specs.Explained.{ReportsAs, ReportsExplaining}
use Rattle.agent.specs.Reports.{Reports}
use Rattle.agent.specs.declared.failure.Failure.{Failure}
use Rattle.agent.specs.declared.failure.Failure.TheVariants.{Refused, WrongLine, InputTooLong, Read, Write, NoMemory}
use Rattle.agent.specs.declared.failure.ExitStatus.{ExitStatus}
use Rattle.agent.proofs.CheckedPrefix.{found_whole}
use Rattle.agent.proofs.WholeInput.{assembled_whole}

-- ---- what is left

pub code_whole : (limit : ℕ) (input : List ℕ) (before after : Option (List ℕ)) (outcome : Result ⊤ Failure) → limit ≡ 32769
    → CheckLeaves (take limit input) before after outcome → CheckLeaves input before after outcome
code_whole limit input before after (Ok done) is l = (l.0, found_whole limit input (Ok l.0) is l.1, l.2)
code_whole limit input before after (Err (Refused error)) is l = (found_whole limit input (Err (Refused error)) is l.0, l.1)
code_whole limit input before after (Err Write) is l = (l.0, found_whole limit input (Ok l.0) is l.1, l.2)
code_whole limit input before after (Err Read) is l = l
code_whole limit input before after (Err NoMemory) is l = l
code_whole limit input before after (Err (WrongLine error)) is l = absurd l
code_whole limit input before after (Err InputTooLong) is l = absurd l

pub text_whole : (limit : ℕ) (input : List ℕ) (before after : Option (List ℕ)) (outcome : Result ⊤ Failure) → limit ≡ 1048577
    → AsmLeaves (take limit input) before after outcome → AsmLeaves input before after outcome
text_whole limit input before after (Ok done) is l = (l.0, assembled_whole limit input (Ok l.0) is l.1, l.2)
text_whole limit input before after (Err Write) is l = (l.0, assembled_whole limit input (Ok l.0) is l.1, l.2)
text_whole limit input before after (Err (Refused error)) is l = absurd l.0
text_whole limit input before after (Err (WrongLine error)) is l = (assembled_whole limit input (Err (WrongLine error)) is l.0, l.1)
text_whole limit input before after (Err InputTooLong) is l = (assembled_whole limit input (Err InputTooLong) is l.0, l.1)
text_whole limit input before after (Err Read) is l = (tt, l.1)
text_whole limit input before after (Err NoMemory) is l = (tt, l.1)

-- an input that couldn't be had leaves the output as it was
pub code_unread : (input : List ℕ) (out : Option (List ℕ)) (failure : Failure) → (failure ≡ Read) ⊎ (failure ≡ NoMemory)
    → CheckLeaves input out out (Err failure)
code_unread input out failure (inl is) = subst (λ (f : Failure). CheckLeaves input out out (Err f)) (sym is) (Keeps-refl out)
code_unread input out failure (inr is) = subst (λ (f : Failure). CheckLeaves input out out (Err f)) (sym is) (Keeps-refl out)

pub text_unread : (input : List ℕ) (out : Option (List ℕ)) (failure : Failure) → (failure ≡ Read) ⊎ (failure ≡ NoMemory)
    → AsmLeaves input out out (Err failure)
text_unread input out failure (inl is) = subst (λ (f : Failure). AsmLeaves input out out (Err f)) (sym is) (tt, Keeps-refl out)
text_unread input out failure (inr is) = subst (λ (f : Failure). AsmLeaves input out out (Err f)) (sym is) (tt, Keeps-refl out)

-- ---- what is reported

-- what is no refusal is reported in the same way with explanations
pub plainly : (explains : Bool) (before after : Option (List ℕ)) (status : ExitStatus) (failure : Failure) → (failure ≡ Read) ⊎ (failure ≡ NoMemory)
    → Reports before after (Err failure) status → ReportsAs explains before after (Err failure) status
plainly false before after status failure why says = says
plainly true before after status failure (inl is) says =
    subst (λ (f : Failure). ReportsExplaining before after (Err f) status) (sym is) (subst (λ (f : Failure). Reports before after (Err f) status) is says)
plainly true before after status failure (inr is) says =
    subst (λ (f : Failure). ReportsExplaining before after (Err f) status) (sym is) (subst (λ (f : Failure). Reports before after (Err f) status) is says)

module _ (leaves : List ℕ → Result ⊤ Failure → Type 0) (explains : Bool) (before after : Option (List ℕ)) (status : ExitStatus) where
  -- what is left and reported of an input
  abbrev pub IsReported : List ℕ → Type 0
  IsReported input = (outcome : Result ⊤ Failure) × leaves input outcome × ReportsAs explains before after outcome status

  -- the input was read
  pub reported_over : (given : Option (List ℕ)) (outcome : Result ⊤ Failure) (limit : ℕ) (read : List ℕ)
      → ((input : List ℕ) → leaves (take limit input) outcome → leaves input outcome) → IfSome given (λ input. read ≡ take limit input)
      → leaves read outcome → ReportsAs explains before after outcome status → IfSome given IsReported
  reported_over given outcome limit read whole read_is left says = IfSome_then given read_is (λ input same. (
    outcome,
    whole input (subst (λ bytes. leaves bytes outcome) same left),
    says,
  ))

  -- the input couldn't be had
  pub unread_over : (given : Option (List ℕ)) (failure : Failure) → (failure ≡ Read) ⊎ (failure ≡ NoMemory)
      → ((input : List ℕ) → leaves input (Err failure)) → Reports before after (Err failure) status → IfSome given IsReported
  unread_over None failure why left says = tt
  unread_over (Some input) failure why left says = (Err failure, left input, plainly explains before after status failure why says)

-- the code was read, and a refusal was explained if there was memory for that
pub checked_over : (given before after told_before told_after : Option (List ℕ)) (status : ExitStatus) (outcome : Result ⊤ Failure) (limit : ℕ)
    (read : List ℕ) → limit ≡ 32769 → IfSome given (λ input. read ≡ take limit input) → CheckLeaves read before after outcome
    → ReportsExplaining told_before told_after outcome status
    ⊎ ((error : LoadError) × (outcome ≡ Err (Refused error)) × Reports told_before told_after (Err NoMemory) status)
    → IfSome given (IsReported (λ input found. CheckLeaves input before after found) true told_before told_after status)
checked_over given before after told_before told_after status outcome limit read is read_is left (inl says) =
    reported_over (λ input found. CheckLeaves input before after found) true told_before told_after status given outcome limit read
    (λ input. code_whole limit input before after outcome is) read_is left says
checked_over None before after told_before told_after status outcome limit read is read_is left (inr says) = tt
checked_over (Some input) before after told_before told_after status outcome limit read is read_is left (inr says) =
    let l = subst (λ (o : Result ⊤ Failure). CheckLeaves read before after o) says.1 left in (Err NoMemory, l.1, says.2)
