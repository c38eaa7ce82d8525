-- Why bytes are refused as code, and at which slot. The reasons are this project's choice.
use Rattle.std.specs.Prelude.{◌≡◌, ◌<◌, ◌≤◌, ℕ, ◌+◌, ℤ, pos, true, false, List, [], ◌∷◌, ◌++◌, length, codes, Some, ◌⊎◌}
use Rattle.isa_table.specs.declared.instr.Instr.{Instr}
use Rattle.bpf_codec.specs.declared.fault.Fault.{Fault}
use Rattle.isa_table.specs.Slots.{slots}
use Rattle.bpf_codec.specs.Slots.{Fits, Begins}
use Rattle.bpf_codec.specs.Faults.{fault_number, fault_name, IsLeastFault}
use Rattle.loader.specs.declared.loading.Why.{Why}
use Rattle.loader.specs.declared.loading.Why.TheVariants as why
use Rattle.loader.specs.Instructions.{encodings, slot_count, AllFit, StartsIn, target, writes_r10, calls_unknown_helper, ends_code}
use Rattle.loader.specs.ValidCode.{code_limit, IsSound}

-- Reasons are in the order of these numbers.
abbrev pub why_number : Why → ℕ
why_number (why.Decoder f) = fault_number f
why_number why.Empty = 8
why_number why.TooLong = 9
why_number why.JumpOut = 10
why_number why.JumpInside = 11
why_number why.WritesR10 = 12
why_number why.Helper = 13
why_number why.FallsOff = 14
why_number why.Memory = 15

-- reasons by name
abbrev pub why_name : Why → List ℕ
why_name (why.Decoder f) = fault_name f
why_name why.Empty = codes "Empty"
why_name why.TooLong = codes "TooLong"
why_name why.JumpOut = codes "JumpOut"
why_name why.JumpInside = codes "JumpInside"
why_name why.WritesR10 = codes "WritesR10"
why_name why.Helper = codes "Helper"
why_name why.FallsOff = codes "FallsOff"
why_name why.Memory = codes "Memory"

-- one of the code's slots
abbrev pub IsSlot : List Instr → ℤ → Type 0
IsSlot code z = (m : ℕ) × (z ≡ pos m) × (m < slot_count code)

-- What is wrong with the instruction at slot n, after which these others stand: a jump or a local call leads to no
-- slot of the code, or to one at which no instruction begins; it writes R10, the frame pointer; it calls a helper
-- function that isn't there; it is the last, and the slot after it may be reached.
abbrev pub Complains : List Instr → ℕ → Instr → List Instr → Why → Type 0
Complains code n i after why.JumpOut = (z : ℤ) × (target n i ≡ Some z) × (IsSlot code z → ⊥)
Complains code n i after why.JumpInside = (m : ℕ) × (target n i ≡ Some (pos m)) × (m < slot_count code) × (StartsIn code 0 m → ⊥)
Complains code n i after why.WritesR10 = writes_r10 i ≡ true
Complains code n i after why.Helper = calls_unknown_helper i ≡ true
Complains code n i after why.FallsOff = (after ≡ []) × (ends_code i ≡ false)
Complains code n i after _ = ⊥

-- This is wrong with it, and nothing of a lesser number.
abbrev pub IsLeastComplaint : List Instr → ℕ → Instr → List Instr → Why → Type 0
IsLeastComplaint code n i after w = Complains code n i after w × ((v : Why) → why_number v < why_number w → Complains code n i after v → ⊥)

-- Of these instructions of the code, the first of which stands at slot `from`, this is wrong with the one at slot n,
-- and nothing with those before it.
abbrev pub IsFirstWrong : List Instr → List Instr → ℕ → ℕ → Why → Type 0
IsFirstWrong code [] from n w = ⊥
IsFirstWrong code (i ∷ after) from n w =
    ((n ≡ from) × IsLeastComplaint code from i after w) ⊎
    (IsSound code from i after × IsFirstWrong code after (from + slots i) n w)

-- The bytes are these instructions and a rest, which stands at slot n and begins with none, for this fault.
pub record IsUnread (bytes : List ℕ) (n : ℕ) (f : Fault) : Type 0 where
  pub before : List Instr
  pub fits : AllFit before
  pub place : n ≡ slot_count before
  pub rest : List ℕ
  pub encoded : bytes ≡ encodings before ++ rest
  pub more : 0 < length rest
  pub begins_none : (i : Instr) → Fits i → Begins rest i → ⊥
  pub fault : IsLeastFault f rest

-- The bytes are these instructions, and this is wrong at slot n.
pub record IsUnsound (bytes : List ℕ) (n : ℕ) (w : Why) : Type 0 where
  pub code : List Instr
  pub fits : AllFit code
  pub encoded : bytes ≡ encodings code
  pub wrong : IsFirstWrong code code 0 n w

-- neither empty nor too long
abbrev pub HasCodeSize : List ℕ → Type 0
HasCodeSize bytes = (0 < length bytes) × (length bytes ≤ code_limit)

-- The bytes are refused at slot n for this reason. Empty or too long code is refused without asking for memory.
abbrev pub Refuses : List ℕ → ℕ → Why → Type 0
Refuses bytes n (why.Decoder f) = HasCodeSize bytes × IsUnread bytes n f
Refuses bytes n why.Empty = (n ≡ 0) × (bytes ≡ [])
Refuses bytes n why.TooLong = (n ≡ 0) × (code_limit < length bytes)
Refuses bytes n why.JumpOut = HasCodeSize bytes × IsUnsound bytes n why.JumpOut
Refuses bytes n why.JumpInside = HasCodeSize bytes × IsUnsound bytes n why.JumpInside
Refuses bytes n why.WritesR10 = HasCodeSize bytes × IsUnsound bytes n why.WritesR10
Refuses bytes n why.Helper = HasCodeSize bytes × IsUnsound bytes n why.Helper
Refuses bytes n why.FallsOff = HasCodeSize bytes × IsUnsound bytes n why.FallsOff
Refuses bytes n why.Memory = HasCodeSize bytes × (n ≡ 0)
