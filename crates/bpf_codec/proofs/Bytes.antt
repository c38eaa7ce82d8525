-- The fields of a slot and its eight bytes.
use Rattle.std.proofs.Common.{◌≡◌, ℕ, ◌+◌, ◌*◌, ◌/◌, ◌%◌, ◌<◌, ◌≤◌, ◌^◌, true, false, List, ◌∷◌, ◌++◌, length, get_or, drop, ◌==◌, not, refl, ap, ◌∙◌, arith}
use Rattle.std.proofs.Common.{append_assoc}
use Rattle.std.specs.Prelude.{slice_index, nat_lt}
use Rattle.std.proofs.lemmas.Bool.{eqb-true}
use Rattle.std.proofs.lemmas.Bool.Decides.{nat_tests}
use Rattle.std.proofs.lemmas.List.{get_or-drop, length-drop}
use Rattle.isa_table.specs.Words.{low_bytes}
use Rattle.isa_table.specs.declared.instr.Instr.{Instr}
use Rattle.bpf_codec.specs.declared.slot.Slot.{Slot}
use Rattle.bpf_codec.specs.Slots.{layout, first, fields, slot_bytes, second, Begins}
use Rattle.bpf_codec.specs.Faults.{has_first, has_second, has_reserved_bits}
use Rattle.bpf_codec.specs.Decoding.{reserved_are_zero}
use Rattle.isa_table.proofs.Listed.{and_true}
use Rattle.bpf_codec.proofs.Fields.{small_below, offset_below, imm_below}
use Rattle.bpf_codec.proofs.Rows.{IsPlaced}
use Rattle.bpf_codec.proofs.Built.{InRange}

-- ---- from fields to bytes and back

pub record Narrow (f : Slot) : Type 0 where
  pub dst : f.dst < 16
  pub src : f.src < 16
  pub offset : f.offset < 2 ^ 16
  pub imm : f.imm < 2 ^ 32

pub first_narrow : (i : Instr) → IsPlaced (layout i) → Narrow (first i)
first_narrow i p = record {
  dst = small_below (layout i).dst p.dst;
  src = small_below (layout i).src p.src;
  offset = offset_below (layout i).offset p.offset;
  imm = imm_below (layout i).imm p.imm;
}

nibbles_again : (a b : ℕ) → a < 16 → ((a + 16 * b) % 16 ≡ a) × ((a + 16 * b) / 16 ≡ b)
nibbles_again a b h = (omega arith, omega arith)

bytes_again_2 : (n : ℕ) → n < 2 ^ 16 → n % 256 + 256 * (n / 256 % 256) ≡ n
bytes_again_2 n h = omega arith

pub bytes_again_4 : (n : ℕ) → n < 2 ^ 32 → n % 256 + 256 * (n / 256 % 256 + 256 * (n / 65536 % 256 + 256 * (n / 16777216 % 256))) ≡ n
bytes_again_4 n h = omega arith

pub fields_again : (f : Slot) (rest : List ℕ) → Narrow f → fields (slot_bytes f ++ rest) ≡ f
fields_again f rest h =
    let n = nibbles_again f.dst f.src h.dst in
    rw (n.0, n.1, bytes_again_2 f.offset h.offset, bytes_again_4 f.imm h.imm) refl

pub slot_long : (f : Slot) (rest : List ℕ) → nat_lt (length (slot_bytes f ++ rest)) 8 ≡ false
slot_long f rest = grind (arith, nat_tests)

-- ---- from bytes to fields and back

-- each is a byte, and past the end is 0
abbrev pub IsBytes : List ℕ → Type 0
IsBytes xs = (k : ℕ) → get_or xs k 0 < 256

pub bytes_from : (xs : List ℕ) (n : ℕ) → IsBytes xs → IsBytes (drop n xs)
bytes_from xs n bytes = λ k. rw get_or-drop (bytes (n + k))

two_nibbles : (b : ℕ) → b % 16 + 16 * (b / 16) ≡ b
two_nibbles b = omega arith

two_bytes : (c d : ℕ) → c < 256 → d < 256 → ((c + 256 * d) % 256 ≡ c) × ((c + 256 * d) / 256 % 256 ≡ d)
two_bytes c d p q = (omega arith, omega arith)

four_bytes : (e f g h : ℕ) → e < 256 → f < 256 → g < 256 → h < 256
    → ((e + 256 * (f + 256 * (g + 256 * h))) % 256 ≡ e) × ((e + 256 * (f + 256 * (g + 256 * h))) / 256 % 256 ≡ f)
    × ((e + 256 * (f + 256 * (g + 256 * h))) / 65536 % 256 ≡ g) × ((e + 256 * (f + 256 * (g + 256 * h))) / 16777216 % 256 ≡ h)
four_bytes e f g h p q r s = (omega arith, omega arith, omega arith, omega arith)

-- eight bytes and the rest are the bytes of their fields and the rest
pub bytes_are : (xs : List ℕ) → IsBytes xs → 8 ≤ length xs → xs ≡ slot_bytes (fields xs) ++ drop 8 xs
bytes_are (a ∷ b ∷ c ∷ d ∷ e ∷ f ∷ g ∷ h ∷ xs) bytes len =
    let r = two_nibbles b in
    let o = two_bytes c d (bytes 2) (bytes 3) in
    let m = four_bytes e f g h (bytes 4) (bytes 5) (bytes 6) (bytes 7) in
    rw (r, o.0, o.1, m.0, m.1, m.2, m.3) refl
bytes_are _ bytes len = absurd (omega arith)

pub in_range : (xs : List ℕ) → IsBytes xs → InRange (fields xs)
in_range xs bytes = record { opcode = bytes 0; offset = omega (arith, bytes 2, bytes 3); imm = omega (arith, bytes 4, bytes 5, bytes 6, bytes 7) }

-- ---- the second slot

pub whole_is : (xs : List ℕ) → has_first xs ≡ not (nat_lt (length xs) 8)
unfolding has_first
whole_is xs = grind (arith, nat_tests)

pub second_there : (xs : List ℕ) → has_second xs ≡ not (nat_lt (length (drop 8 xs)) 8)
unfolding has_second
second_there xs = grind (arith, nat_tests, length-drop)

-- the reserved bits, read from the second slot's own bytes
pub reserved_is : (xs : List ℕ) → has_reserved_bits xs ≡ not (reserved_are_zero (drop 8 xs))
unfolding has_reserved_bits
reserved_is xs =
    let a : slice_index (drop 8 xs) 0 ≡ slice_index xs 8 = rw get_or-drop refl in
    let b : slice_index (drop 8 xs) 1 ≡ slice_index xs 9 = rw get_or-drop refl in
    let c : slice_index (drop 8 xs) 2 ≡ slice_index xs 10 = rw get_or-drop refl in
    let d : slice_index (drop 8 xs) 3 ≡ slice_index xs 11 = rw get_or-drop refl in
    rw (a, b, c, d) refl

zero_slot : (xs : List ℕ) → slice_index xs 0 ≡ 0 → slice_index xs 1 ≡ 0 → slice_index xs 2 ≡ 0 → slice_index xs 3 ≡ 0
    → slot_bytes (fields xs) ≡ 0 ∷ 0 ∷ 0 ∷ 0 ∷ low_bytes 4 (fields xs).imm
zero_slot xs a b c d = rw (a, b, c, d) refl

-- a second slot whose reserved bits are zero, by its imm field
pub second_bytes : (xs : List ℕ) → IsBytes xs → 8 ≤ length xs → reserved_are_zero xs ≡ true → xs ≡ (0 ∷ 0 ∷ 0 ∷ 0 ∷ low_bytes 4 (fields xs).imm) ++ drop 8 xs
second_bytes xs bytes long zeros =
    let p = and_true _ (slice_index xs 3 == 0) zeros in
    let q = and_true _ (slice_index xs 2 == 0) p.0 in
    let r = and_true (slice_index xs 0 == 0) (slice_index xs 1 == 0) q.0 in
    bytes_are xs bytes long ∙ ap (λ (s : List ℕ). s ++ drop 8 xs) (zero_slot xs (eqb-true _ _ r.0) (eqb-true _ _ r.1) (eqb-true _ _ q.1) (eqb-true _ _ p.1))

-- bytes that begin with an encoding, taken apart
pub parts : (i : Instr) (xs : List ℕ) (b : Begins xs i) → xs ≡ slot_bytes (first i) ++ (second i ++ b.0)
parts i xs b = b.1 ∙ append_assoc (slot_bytes (first i)) (second i) b.0
