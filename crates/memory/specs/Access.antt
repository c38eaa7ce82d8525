-- One access to the bytes of an object: when it is inside, what it answers, the bytes after it, and which it writes
-- (RFC 9669, section 5).
use Rattle.std.specs.Prelude.{ℕ, ◌+◌, ◌≤◌, ◌<◌, nat_le, Bool, IsTrue, List, ◌++◌, length, take, drop, Option, Some, None, is_some}
use Rattle.isa_table.specs.declared.instr.Size.{Size}
use Rattle.isa_table.specs.Words.{unsigned, number_of, low_bytes}
use Rattle.isa_table.specs.Table.{size_bytes, size_of_width, width_bits, atomic_row}
use Rattle.memory.specs.declared.access.Action.{Action}
use Rattle.memory.specs.declared.access.Action.TheVariants.{Load, Store, Atomic}
use Rattle.memory.specs.declared.access.Op.{Op}

-- ---- where it is

-- how much an action reads or writes
abbrev pub size_of : Action → Size
size_of (Load size) = size
size_of (Store size value) = size
size_of (Atomic width op src r0) = size_of_width width

-- how many bytes it reaches: 1, 2, 4 or 8
abbrev pub count_of : Op → ℕ
count_of op = size_bytes (size_of op.action)

-- An access is inside where it ends within so many bytes. It reaches a byte at least, so that none is inside where there
-- is no byte.
abbrev pub IsInside : Op → ℕ → Type 0
IsInside op n = op.offset + count_of op ≤ n

-- whether an access is inside so many bytes
abbrev pub is_inside : Op → ℕ → Bool
is_inside op n = nat_le (op.offset + count_of op) n

-- ---- what it does

-- so many of the bytes, from an offset on
abbrev pub part : ℕ → ℕ → List ℕ → List ℕ
part offset count bytes = take count (drop offset bytes)

-- the number at its place, the lowest byte first
abbrev pub old_number : Op → List ℕ → ℕ
old_number op bytes = number_of (part op.offset (count_of op) bytes)

-- The number that is put over an old one, if one is. A load puts none, nor does a compare-exchange whose comparison fails.
abbrev pub number_put : Action → ℕ → Option ℕ
number_put (Load size) old = None
number_put (Store size value) old = Some value
number_put (Atomic width op src r0) old = atomic_row (width_bits width) op old (unsigned (width_bits width) src) (unsigned (width_bits width) r0)

-- what is answered, where the old number is at the place
abbrev pub action_answer : Action → ℕ → ℕ
action_answer (Load size) old = old
action_answer (Store size value) old = 0
action_answer (Atomic width op src r0) old = old

-- what is answered: the number loaded, the old one of an atomic operation, 0 for a store
abbrev pub answer : Op → List ℕ → ℕ
answer op bytes = action_answer op.action (old_number op bytes)

-- the bytes, with others over those from an offset on
abbrev pub replaced : ℕ → List ℕ → List ℕ → List ℕ
replaced offset new bytes = take offset bytes ++ (new ++ drop (offset + length new) bytes)

-- the bytes, with the low bytes of a number over so many of them, if there is a number
abbrev pub with_number : ℕ → ℕ → Option ℕ → List ℕ → List ℕ
with_number offset count None bytes = bytes
with_number offset count (Some x) bytes = replaced offset (low_bytes count x) bytes

-- the bytes after it
abbrev pub after : Op → List ℕ → List ℕ
after op bytes = with_number op.offset (count_of op) (number_put op.action (old_number op bytes)) bytes

-- ---- what it wrote, read off its answer

-- Whether it wrote. The answer of an atomic operation is the old number, so that it decides the comparison.
abbrev pub writes : Action → ℕ → Bool
writes action answer = is_some (number_put action answer)

-- It wrote the byte at i: all bytes of its place, or none.
pub record WritesAt (op : Op) (answer i : ℕ) : Type 0 where
  pub wrote : IsTrue (writes op.action answer)
  pub from : op.offset ≤ i
  pub to : i < op.offset + count_of op
