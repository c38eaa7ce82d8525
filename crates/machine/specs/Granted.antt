-- What a machine did to objects, as its entries tell it: only what it was granted. And it learns nothing of anything else.
use Rattle.std.specs.Prelude.{◌≡◌, ℕ, Bool, true, false, List, ◌∷◌, ◌++◌, All, None}
use Rattle.memory.specs.declared.access.Op.{Op}
use Rattle.memory.specs.declared.deeds.Deed.{Deed}
use Rattle.memory.specs.declared.deeds.Deed.TheVariants.{Accesses, Reads, Writes}
use Rattle.memory.specs.declared.deeds.Entry.{Entry}
use Rattle.memory.specs.Access.{IsInside}
use Rattle.machine.specs.Grants.{GrantState, is_granted, is_writing}
use Rattle.machine.specs.MachineState.{MachineState}
use Rattle.machine.specs.Replay.{IsReplay}

-- ---- what was done was granted

-- what may write: an access that isn't a load, and bytes that are put
abbrev pub may_write : Deed → Bool
may_write (Accesses op) = is_writing op.action
may_write (Reads offset count) = false
may_write (Writes offset bytes) = true

-- The entry is an access inside the object of its number. That object was granted, for writing too if the access may write.
pub record WasGranted (lengths : ℕ → ℕ) (grants : GrantState) (e : Entry) : Type 0 where
  pub op : Op
  pub deed_is : e.deed ≡ Accesses op
  pub inside : IsInside op (lengths e.number)
  pub granted : is_granted grants (is_writing op.action) e.number ≡ true

-- Each entry of a machine was granted, and the machine has the grants with which it started.
abbrev pub EntriesAreGranted : Type 0
EntriesAreGranted = (lengths : ℕ → ℕ) (worn : ℕ → Bool) (start : MachineState) (es : List Entry) (m : MachineState) → IsReplay lengths worn start es m
    → (m.grants ≡ start.grants) × All (WasGranted lengths start.grants) es

-- ---- nothing else is learnt

-- Two machines were answered alike, as far as these grants reach: the objects that may be read have the same lengths, and after
-- the same entries the same access to an object that was granted for it was answered the same.
pub record AnswersAgree (g : GrantState) (lengths others : ℕ → ℕ) (es fs : List Entry) : Type 0 where
  pub long : (n : ℕ) → is_granted g false n ≡ true → lengths n ≡ others n
  pub given : (past later rest : List Entry) (e f : Entry) → es ≡ past ++ e ∷ later → fs ≡ past ++ f ∷ rest → e.number ≡ f.number → e.deed ≡ f.deed
      → is_granted g (may_write e.deed) e.number ≡ true → e.given ≡ f.given

-- Two machines that started alike, were answered alike, and have as much fuel left, have the same entries and are the same, but
-- that one may have met a stop that the other hasn't come to yet.
abbrev pub ReplaysAreConfined : Type 0
ReplaysAreConfined = (lengths others : ℕ → ℕ) (worn marked : ℕ → Bool) (start m n : MachineState) (es fs : List Entry)
    → AnswersAgree start.grants lengths others es fs → IsReplay lengths worn start es m → IsReplay others marked start fs n → m.fuel ≡ n.fuel
    → (es ≡ fs) × (record m { stop = None } ≡ record n { stop = None })
