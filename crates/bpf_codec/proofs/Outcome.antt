-- What is decoded from bytes: an instruction with which they begin, and then they have no fault, or their least fault.
use Rattle.std.proofs.Common.{◌≡◌, ℕ, suc, ◌<◌, ◌≤◌, ◌^◌, Bool, true, false, cond, not, List, [], ◌∷◌, ◌++◌, length, drop, Option, Some, None, Result, Ok, Err}
use Rattle.std.proofs.Common.{◌&&◌, ◌==◌, refl, ap, subst, sym, ◌∙◌, arith, append_assoc, inl, inr, ◌⊎◌}
use Rattle.std.specs.Prelude.{nat_lt}
use Rattle.std.proofs.lemmas.Bool.{cases_lt}
use Rattle.std.proofs.lemmas.Bool.Decides.{nat_tests}
use Rattle.isa_table.specs.declared.instr.Instr.{Instr}
use Rattle.bpf_codec.specs.declared.fault.Fault.{Fault}
use Rattle.bpf_codec.specs.declared.fault.Fault.TheVariants as fault
use Rattle.bpf_codec.specs.declared.slot.Slot.{Slot}
use Rattle.bpf_codec.specs.Slots.{layout, first, fields, slot_bytes, second, Fits, Begins}
use Rattle.bpf_codec.specs.Faults.{fault_number, has_registers_of, is_of, some_row, is_row, is_of_platform, is_packet, opcode, has_first, is_wide, has_second}
use Rattle.bpf_codec.specs.Faults.{has_reserved_bits, has_fault, IsLeastFault}
use Rattle.bpf_codec.specs.Decoding.{◌>>=◌, rows_of, row_for, have_registers, checked_as, checked, reserved_are_zero, next_imm, operands, built, built_as}
use Rattle.bpf_codec.specs.Decoding.{decoded_as, decoded}
use Rattle.bpf_codec.proofs.Lists.{Has}
use Rattle.bpf_codec.proofs.Fields.{is_wide_imm}
use Rattle.bpf_codec.proofs.Rows.{row_placed, no_rows, some_rows, registers_of_table, none_of_table, no_packet, platform_registers, IsRowOf, row_is}
use Rattle.bpf_codec.proofs.Built.{first_built, fits_built, second_built, none_built}
use Rattle.bpf_codec.proofs.Bytes.{IsBytes, bytes_from, bytes_are, in_range, whole_is, second_there, reserved_is, second_bytes}

-- ---- the least fault

-- the faults of lesser numbers are absent
abbrev pub Below : List ℕ → ℕ → Type 0
Below xs n = (g : Fault) → fault_number g < n → has_fault g xs ≡ false

below_first : (xs : List ℕ) → Below xs 1
below_first xs fault.Opcode h = absurd (omega (arith, h))
below_first xs _ h = absurd (omega (arith, h))

pub fault_numbered : ℕ → Fault
fault_numbered n =
    cond (n == 1) fault.Opcode
    (cond (n == 2) fault.Register
    (cond (n == 3) fault.Field
    (cond (n == 4) fault.HalfWide
    (cond (n == 5) fault.Packet
    (cond (n == 6) fault.Platform fault.Short)))))

pub fault_back : (f : Fault) → fault_numbered (fault_number f) ≡ f
unfolding fault_numbered
fault_back fault.Opcode = refl
fault_back _ = refl

-- one more is absent
next : (xs : List ℕ) (f : Fault) → Below xs (fault_number f) → has_fault f xs ≡ false → Below xs (suc (fault_number f))
next xs f b a g h = go (cases_lt (fault_number g) (fault_number f))
  where
    go : (fault_number g < fault_number f) ⊎ (fault_number f ≤ fault_number g) → has_fault g xs ≡ false
    go (inl k) = b g k
    go (inr k) =
        let e : fault_number g ≡ fault_number f = omega (arith, h, k) in
        let s : g ≡ f = sym (fault_back g) ∙ ap fault_numbered e ∙ fault_back f in
        rw s a

least : (xs : List ℕ) (f : Fault) → Below xs (fault_number f) → has_fault f xs ≡ true → IsLeastFault f xs
unfolding IsLeastFault
least xs f b h = (h, b)

-- ---- what is answered

abbrev pub Outcome : List ℕ → Result Instr Fault → Type 0
Outcome xs (Ok i) = ((g : Fault) → has_fault g xs ≡ false) × Fits i × Begins xs i
Outcome xs (Err e) = IsLeastFault e xs

and_false : (a : Bool) → (a && false) ≡ false
and_false true = refl
and_false false = refl

short_outcome : (xs : List ℕ) → has_first xs ≡ false → IsLeastFault fault.Short xs
unfolding IsLeastFault has_fault
short_outcome xs w = (rw w refl, go)
  where
    go : (g : Fault) → fault_number g < 7 → has_fault g xs ≡ false
    go fault.Short h = absurd (omega (arith, h))
    go fault.Opcode h = rw w refl
    go _ h = rw w refl

-- opcode 18 is in the table
wide_row : is_row 0x18 ≡ true
unfolding some_row
wide_row = refl

not_wide : (xs : List ℕ) → is_row (opcode xs) ≡ false → is_wide xs ≡ false
unfolding is_wide
not_wide xs r = go (opcode xs == 0x18) refl
  where
    go : (b : Bool) → (opcode xs == 0x18) ≡ b → (opcode xs == 0x18) ≡ false
    go false e = e
    go true e = absurd (let s : opcode xs ≡ 0x18 = grind (arith, nat_tests, e) in let k : is_row (opcode xs) ≡ true = rw s wide_row in cc)

opcode_outcome : (xs : List ℕ) → has_first xs ≡ true → is_row (opcode xs) ≡ false → is_packet (opcode xs) ≡ false → IsLeastFault fault.Opcode xs
unfolding has_fault
opcode_outcome xs w r p = least xs fault.Opcode (below_first xs) (rw (w, r, p) refl)

packet_outcome : (xs : List ℕ) → has_first xs ≡ true → is_row (opcode xs) ≡ false → is_packet (opcode xs) ≡ true → IsLeastFault fault.Packet xs
unfolding has_fault
packet_outcome xs w r p =
    let o = next xs fault.Opcode (below_first xs) (rw (w, r, p) refl) in
    let s = next xs fault.Register o (rw (w, r) refl) in
    let f = next xs fault.Field s (rw (w, r) refl) in
    let h = next xs fault.HalfWide f (rw (w, not_wide xs r) refl) in
    least xs fault.Packet h (rw (w, p) refl)

-- ---- an opcode of the table

-- the first slot is there, its opcode is in the table
record IsTableSlot (xs : List ℕ) : Type 0 where
  whole : has_first xs ≡ true
  row : is_row (opcode xs) ≡ true
  packet : is_packet (opcode xs) ≡ false

-- and its fields are those of a row, or of the platform
record IsGoodSlot (xs : List ℕ) : Type 0 where
  table : IsTableSlot xs
  registers : some_row (has_registers_of (fields xs)) ≡ true
  field : (not (some_row (is_of (fields xs))) && not (is_of_platform (fields xs))) ≡ false

below_register : (xs : List ℕ) → IsTableSlot xs → Below xs 2
unfolding has_fault
below_register xs t = next xs fault.Opcode (below_first xs) (rw (t.whole, t.row) refl)

below_field : (xs : List ℕ) → IsTableSlot xs → some_row (has_registers_of (fields xs)) ≡ true → Below xs 3
unfolding has_fault
below_field xs t r = next xs fault.Register (below_register xs t) (rw (t.whole, t.row, r) refl)

register_outcome : (xs : List ℕ) → IsTableSlot xs → some_row (has_registers_of (fields xs)) ≡ false → IsLeastFault fault.Register xs
unfolding has_fault
register_outcome xs t r = least xs fault.Register (below_register xs t) (rw (t.whole, t.row, r) refl)

field_outcome : (xs : List ℕ) → IsTableSlot xs → some_row (has_registers_of (fields xs)) ≡ true → some_row (is_of (fields xs)) ≡ false
    → is_of_platform (fields xs) ≡ false → IsLeastFault fault.Field xs
unfolding has_fault
field_outcome xs t r s p = least xs fault.Field (below_field xs t r) (rw (t.whole, t.row, s, p) refl)

-- ---- the second slot

-- no fault up to HalfWide
record IsRead (xs : List ℕ) : Type 0 where
  good : IsGoodSlot xs
  field : has_fault fault.Field xs ≡ false
  half : has_fault fault.HalfWide xs ≡ false

below_platform : (xs : List ℕ) → IsRead xs → Below xs 6
unfolding has_fault
below_platform xs r =
    let t = r.good.table in
    let f = next xs fault.Field (below_field xs t r.good.registers) r.field in
    let h = next xs fault.HalfWide f r.half in
    next xs fault.Packet h (rw (t.whole, t.packet) refl)

platform_outcome : (xs : List ℕ) → IsRead xs → is_of_platform (fields xs) ≡ true → IsLeastFault fault.Platform xs
unfolding has_fault
platform_outcome xs r p = least xs fault.Platform (below_platform xs r) (rw (r.good.table.whole, p) refl)

no_fault : (xs : List ℕ) → IsRead xs → is_of_platform (fields xs) ≡ false → (g : Fault) → has_fault g xs ≡ false
unfolding has_fault
no_fault xs r p fault.Platform = rw (r.good.table.whole, p) refl
no_fault xs r p fault.Short = rw (r.good.table.whole) refl
no_fault xs r p g = below_platform xs r g (omega arith)

half_outcome : (xs : List ℕ) → IsGoodSlot xs → is_wide xs ≡ true → has_second xs ≡ false → IsLeastFault fault.HalfWide xs
unfolding has_fault
half_outcome xs g w s = least xs fault.HalfWide
    (next xs fault.Field (below_field xs g.table g.registers) (rw (g.table.whole, g.table.row, g.field, w, s) refl)) (rw (g.table.whole, w, s) refl)

reserved_outcome : (xs : List ℕ) → IsGoodSlot xs → is_wide xs ≡ true → has_second xs ≡ true → has_reserved_bits xs ≡ true → IsLeastFault fault.Field xs
unfolding has_fault
reserved_outcome xs g w s r = least xs fault.Field (below_field xs g.table g.registers) (rw (g.table.whole, g.table.row, g.field, w, s, r) refl)

read_narrow : (xs : List ℕ) → IsGoodSlot xs → is_wide xs ≡ false → IsRead xs
unfolding has_fault
read_narrow xs g w = record { good = g; field = rw (g.table.whole, g.table.row, g.field, w) refl; half = rw (g.table.whole, w) refl }

read_wide : (xs : List ℕ) → IsGoodSlot xs → has_second xs ≡ true → has_reserved_bits xs ≡ false → IsRead xs
unfolding has_fault
read_wide xs g s r = record { good = g; field = rw (g.table.whole, g.table.row, g.field, r) (and_false _); half = rw (g.table.whole, s) (and_false _) }

-- ---- the instruction

begins_from : (xs : List ℕ) (i : Instr) (rest : List ℕ) → xs ≡ slot_bytes (fields xs) ++ drop 8 xs → first i ≡ fields xs
    → drop 8 xs ≡ second i ++ rest → Begins xs i
begins_from xs i rest h f e = (
  rest,
  h ∙ ap (λ (s : Slot). slot_bytes s ++ drop 8 xs) (sym f) ∙ ap (λ (t : List ℕ). slot_bytes (first i) ++ t) e
      ∙ sym (append_assoc (slot_bytes (first i)) (second i) rest),
)

-- the row that the slot is of, or none where it is the platform's
abbrev AboutRow : Slot → Option Instr → Type 0
AboutRow f (Some i) = IsRowOf f i
AboutRow f None = is_of_platform f ≡ true

-- what stands after the slot, and its imm field
record IsNext (xs : List ℕ) (n : ℕ) : Type 0 where
  small : n < 2 ^ 32
  rest : List ℕ
  second : (i : Instr) → IsRowOf (fields xs) i → drop 8 xs ≡ second (built i (operands (fields xs) n)) ++ rest

finish : (xs : List ℕ) (row : Option Instr) (n : ℕ) → IsBytes xs → 8 ≤ length xs → IsRead xs → AboutRow (fields xs) row → IsNext xs n
    → Outcome xs (built_as row (operands (fields xs) n))
finish xs None n b l r a k = platform_outcome xs r a
finish xs (Some i) n b l r a k =
    let range = in_range xs b in
    let p = row_placed i a.has in (
      no_fault xs r a.platform,
      fits_built i (fields xs) n p range k.small,
      begins_from xs (built i (operands (fields xs) n)) k.rest (bytes_are xs b l) (first_built i (fields xs) n p a.is range) (k.second i a),
    )

wide_imm : (xs : List ℕ) (i : Instr) (b : Bool) → is_wide xs ≡ b → IsRowOf (fields xs) i → is_wide_imm (layout i).imm ≡ b
unfolding is_wide
wide_imm xs i b w a = (row_placed i a.has).wide ∙ ap (λ (n : ℕ). n == 0x18) (sym a.is.opcode) ∙ w

next_narrow : (xs : List ℕ) → is_wide xs ≡ false → IsNext xs 0
next_narrow xs w = record {
  small = omega arith;
  rest = drop 8 xs;
  second = λ i a. ap (λ (t : List ℕ). t ++ drop 8 xs) (sym (none_built i (fields xs) 0 (wide_imm xs i false w a)));
}

next_wide : (xs : List ℕ) → IsBytes xs → is_wide xs ≡ true → nat_lt (length (drop 8 xs)) 8 ≡ false → reserved_are_zero (drop 8 xs) ≡ true
    → IsNext xs (fields (drop 8 xs)).imm
next_wide xs b w l z =
    let more = bytes_from xs 8 b in
    let long : 8 ≤ length (drop 8 xs) = grind (arith, nat_tests, l) in
    record {
      small = (in_range (drop 8 xs) more).imm;
      rest = drop 8 (drop 8 xs);
      second = λ i a. second_bytes (drop 8 xs) more long z
          ∙ ap (λ (t : List ℕ). t ++ drop 8 (drop 8 xs)) (sym (second_built i (fields xs) (fields (drop 8 xs)).imm (in_range xs b) (wide_imm xs i true w a)));
    }

after_first : (xs : List ℕ) (row : Option Instr) → IsBytes xs → 8 ≤ length xs → IsGoodSlot xs → AboutRow (fields xs) row
    → Outcome xs (next_imm (opcode xs) (drop 8 xs) >>= λ n. built_as row (operands (fields xs) n))
unfolding next_imm is_wide
after_first xs row b l g a = wide (opcode xs == 0x18) refl
  where
    bits : (z : Bool) → reserved_are_zero (drop 8 xs) ≡ z → is_wide xs ≡ true → nat_lt (length (drop 8 xs)) 8 ≡ false
        → Outcome xs (cond z (Ok (fields (drop 8 xs)).imm) (Err fault.Field) >>= λ n. built_as row (operands (fields xs) n))
    bits true z w s = finish xs row (fields (drop 8 xs)).imm b l (read_wide xs g (second_there xs ∙ ap not s) (reserved_is xs
        ∙ ap not z)) a (next_wide xs b w s z)
    bits false z w s = reserved_outcome xs g w (second_there xs ∙ ap not s) (reserved_is xs ∙ ap not z)

    there : (h : Bool) → nat_lt (length (drop 8 xs)) 8 ≡ h → is_wide xs ≡ true
        → Outcome xs (cond h (Err fault.HalfWide) (cond (reserved_are_zero (drop 8 xs)) (Ok (fields (drop 8 xs)).imm) (Err fault.Field)) >>= λ n.
        built_as row (operands (fields xs) n))
    there true s w = half_outcome xs g w (second_there xs ∙ ap not s)
    there false s w = bits (reserved_are_zero (drop 8 xs)) refl w s

    wide : (h : Bool) → (opcode xs == 0x18) ≡ h
        → Outcome xs (cond h (cond (nat_lt (length (drop 8 xs)) 8) (Err fault.HalfWide)
        (cond (reserved_are_zero (drop 8 xs)) (Ok (fields (drop 8 xs)).imm) (Err fault.Field))) (Ok 0) >>= λ n. built_as row (operands (fields xs) n))
    wide true w = there (nat_lt (length (drop 8 xs)) 8) refl w
    wide false w = finish xs row 0 b l (read_narrow xs g w) a (next_narrow xs w)

-- ---- all of it

abbrev go_on : List ℕ → Result (Option Instr) Fault → Result Instr Fault
go_on xs r = r >>= λ row. next_imm (opcode xs) (drop 8 xs) >>= λ n. built_as row (operands (fields xs) n)

some_field : (a b : Bool) → a ≡ true → (not a && not b) ≡ false
some_field true b h = refl
some_field false b h = absurd (cc)

platform_field : (a b : Bool) → b ≡ true → (not a && not b) ≡ false
platform_field a true h = and_false (not a)
platform_field a false h = absurd (cc)

by_row : (xs : List ℕ) (r : Option Instr) (p q : Bool) → IsBytes xs → 8 ≤ length xs → IsTableSlot xs → row_for (fields xs) (rows_of (opcode xs)) ≡ r
    → is_of_platform (fields xs) ≡ p → have_registers (fields xs) (rows_of (opcode xs)) ≡ q → Outcome xs (go_on xs (checked_as r p q))
by_row xs (Some i) p q b l t e f h =
    let a = row_is (fields xs) i e in
    after_first xs (Some i) b l (record { table = t; registers = a.registers; field = some_field _ _ a.some }) a
by_row xs None true q b l t e f h = after_first xs None b l (record { table = t; registers = platform_registers (fields xs) f; field = platform_field _ _ f }) f
by_row xs None false true b l t e f h = field_outcome xs t (sym (registers_of_table (fields xs)) ∙ h) (none_of_table (fields xs) e) f
by_row xs None false false b l t e f h = register_outcome xs t (sym (registers_of_table (fields xs)) ∙ h)

by_rows : (xs : List ℕ) (rows : List Instr) → IsBytes xs → has_first xs ≡ true → 8 ≤ length xs → rows_of (opcode xs) ≡ rows → Outcome xs (decoded_as rows xs)
unfolding checked
by_rows xs [] b w l e = go (is_packet (opcode xs)) refl
  where
    go : (p : Bool) → is_packet (opcode xs) ≡ p → Outcome xs (cond p (Err fault.Packet) (Err fault.Opcode))
    go true p = packet_outcome xs w (no_rows (opcode xs) e) p
    go false p = opcode_outcome xs w (no_rows (opcode xs) e) p
by_rows xs (i ∷ is) b w l e =
    let h : Has (rows_of (opcode xs)) i = subst (λ (rows : List Instr). Has rows i) (sym e) (inl refl) in
    let t : IsTableSlot xs = record { whole = w; row = some_rows (opcode xs) i h; packet = no_packet (opcode xs) i h } in
    subst (λ (rows : List Instr). Outcome xs (go_on xs (checked (fields xs) rows))) e (by_row xs _ _ _ b l t refl refl refl)

pub outcome : (xs : List ℕ) → IsBytes xs → Outcome xs (decoded xs)
unfolding decoded
outcome xs b = go (nat_lt (length xs) 8) refl
  where
    go : (s : Bool) → nat_lt (length xs) 8 ≡ s → Outcome xs (cond s (Err fault.Short) (decoded_as (rows_of (opcode xs)) xs))
    go true s = short_outcome xs (whole_is xs ∙ ap not s)
    go false s = by_rows xs (rows_of (opcode xs)) b (whole_is xs ∙ ap not s) (grind (arith, nat_tests, s)) refl
