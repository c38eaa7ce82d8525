-- Why the bytes at a slot encode no instruction (RFC 9669, sections 3 to 5), by the bytes and the rows of the table.
use Rattle.std.specs.Prelude.{ℕ, ◌<◌, ◌==◌, nat_lt, nat_le, ◌&&◌, ◌||◌, not, Bool, true, List, [], ◌∷◌, length, slice_index, IsTrue, IsFalse, All, codes, ◌↔◌}
use Rattle.std.specs.Prelude.{pos, ◌++◌, map}
use Rattle.std.specs.List.{list_any}
use Rattle.isa_table.specs.Rows.{all_rows}
use Rattle.isa_table.specs.declared.instr.Instr.{Instr}
use Rattle.isa_table.specs.declared.instr.Reg.TheVariants.{R0}
use Rattle.bpf_codec.specs.declared.fault.Fault.{Fault}
use Rattle.bpf_codec.specs.declared.fault.Fault.TheVariants as fault
use Rattle.bpf_codec.specs.declared.layout.Field.{Field}
use Rattle.bpf_codec.specs.declared.layout.Field.TheVariants.{Register, Imm, Wide, Only}
use Rattle.bpf_codec.specs.declared.layout.Layout.{Layout}
use Rattle.bpf_codec.specs.declared.slot.Slot.{Slot}
use Rattle.bpf_codec.specs.Slots.{row, unused, layout, fields, Fits, Begins}

-- Faults are in the order of these numbers.
abbrev pub fault_number : Fault → ℕ
fault_number fault.Opcode = 1
fault_number fault.Register = 2
fault_number fault.Field = 3
fault_number fault.HalfWide = 4
fault_number fault.Packet = 5
fault_number fault.Platform = 6
fault_number fault.Short = 7

-- faults by name
abbrev pub fault_name : Fault → List ℕ
fault_name fault.Opcode = codes "Opcode"
fault_name fault.Register = codes "Register"
fault_name fault.Field = codes "Field"
fault_name fault.HalfWide = codes "HalfWide"
fault_name fault.Packet = codes "Packet"
fault_name fault.Platform = codes "Platform"
fault_name fault.Short = codes "Short"

-- ---- what a field may hold

-- a field that is read as a register holds the number of one (section 3.1)
abbrev pub is_register : Field → ℕ → Bool
is_register (Register r) n = nat_lt n 11
is_register _ n = true

-- a field of this kind may hold the number
abbrev pub may_hold : Field → ℕ → Bool
may_hold (Register r) n = nat_lt n 11
may_hold (Only m) n = n == m
may_hold _ n = true

-- the slot has the layout's opcode, and registers where the layout has them
unfoldable pub has_registers_of : Slot → Layout → Bool
has_registers_of f l = (f.opcode == l.opcode) && is_register l.dst f.dst && is_register l.src f.src

-- the slot has the layout's opcode, and each of its fields holds what that of the layout may hold
unfoldable pub is_of : Slot → Layout → Bool
is_of f l = (f.opcode == l.opcode) && may_hold l.dst f.dst && may_hold l.src f.src && may_hold l.offset f.offset && may_hold l.imm f.imm

-- ---- layouts

-- some row of the instruction table has such a layout
unfoldable pub some_row : (Layout → Bool) → Bool
some_row test = list_any (λ i. test (layout i)) all_rows

-- an opcode of the instruction table
abbrev pub is_row : ℕ → Bool
is_row n = some_row (λ l. n == l.opcode)

-- What only a platform defines: wide encodings with source 1 to 6 (section 5.4), and calls with source 2 (section 4.3.1).
-- There is no such platform here.
unfoldable pub platform_layouts : List Layout
platform_layouts =
    map (λ source. row 0x18 (Register R0) (Only source) unused (Wide 0)) (1 ∷ 2 ∷ 3 ∷ 4 ∷ 5 ∷ 6 ∷ []) ++
    row 0x85 unused (Only 2) unused (Imm (pos 0)) ∷ []

-- only a platform defines the slot
abbrev pub is_of_platform : Slot → Bool
is_of_platform f = list_any (is_of f) platform_layouts

-- the opcodes of legacy packet access, which is deprecated (section 5.5)
unfoldable pub is_packet : ℕ → Bool
is_packet n = list_any (λ m. n == m) (0x20 ∷ 0x28 ∷ 0x30 ∷ 0x40 ∷ 0x48 ∷ 0x50 ∷ [])

-- ---- the bytes at a slot

-- the opcode of the bytes at a slot (section 3.1)
abbrev pub opcode : List ℕ → ℕ
opcode xs = (fields xs).opcode

-- the first eight bytes are there
unfoldable pub has_first : List ℕ → Bool
has_first xs = nat_le 8 (length xs)

-- the opcode of the wide encoding, which has a second slot (section 3.2)
unfoldable pub is_wide : List ℕ → Bool
is_wide xs = opcode xs == 0x18

-- the second slot is there whole
unfoldable pub has_second : List ℕ → Bool
has_second xs = nat_le 16 (length xs)

-- one of the second slot's 32 reserved bits is set
unfoldable pub has_reserved_bits : List ℕ → Bool
has_reserved_bits xs = not ((slice_index xs 8 == 0) && (slice_index xs 9 == 0) && (slice_index xs 10 == 0) && (slice_index xs 11 == 0))

-- The bytes at a slot have this fault:
-- Opcode: the opcode is neither in the table nor one of packet access.
-- Register: in no row of the opcode do the register fields hold registers. (The rows of an opcode read the same fields
-- as registers.)
-- Field: the slot is of no row and is none of the platform's, or a second slot that is there has reserved bits set.
-- HalfWide: the opcode is that of the wide encoding, and the second slot is not there whole.
-- Packet: the opcode is one of packet access.
-- Platform: only a platform defines the slot.
-- Short: fewer than eight bytes are left; such bytes have no other fault.
unfoldable pub has_fault : Fault → List ℕ → Bool
has_fault fault.Opcode xs = has_first xs && not (is_row (opcode xs)) && not (is_packet (opcode xs))
has_fault fault.Register xs = has_first xs && is_row (opcode xs) && not (some_row (has_registers_of (fields xs)))
has_fault fault.Field xs = has_first xs && is_row (opcode xs) && (
    (not (some_row (is_of (fields xs))) && not (is_of_platform (fields xs))) ||
    (is_wide xs && has_second xs && has_reserved_bits xs))
has_fault fault.HalfWide xs = has_first xs && is_wide xs && not (has_second xs)
has_fault fault.Packet xs = has_first xs && is_packet (opcode xs)
has_fault fault.Platform xs = has_first xs && is_of_platform (fields xs)
has_fault fault.Short xs = not (has_first xs)

-- The bytes at a slot have the fault, and none of a lesser number.
unfoldable pub IsLeastFault : Fault → List ℕ → Type 0
IsLeastFault f xs = IsTrue (has_fault f xs) × ((g : Fault) → fault_number g < fault_number f → IsFalse (has_fault g xs))

-- The bytes begin with the encoding of an instruction.
abbrev pub BeginsWithSome : List ℕ → Type 0
BeginsWithSome xs = (i : Instr) × Fits i × Begins xs i

-- Bytes have no fault exactly where they begin with the encoding of an instruction.
abbrev pub NoFaultWhereEncoded : Type 0
NoFaultWhereEncoded = (xs : List ℕ) → All (λ b. b < 256) xs → ((f : Fault) → IsFalse (has_fault f xs)) ↔ BeginsWithSome xs
