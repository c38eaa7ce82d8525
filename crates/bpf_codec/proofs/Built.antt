-- The instruction of a row that is given operands.
use Rattle.std.proofs.Common.{◌≡◌, ℕ, ◌+◌, ◌*◌, ◌/◌, ◌<◌, ◌^◌, true, false, List, [], ◌∷◌, refl, ap, sym, ◌∙◌, arith, ℤ}
use Rattle.isa_table.specs.Words.{low_bytes}
use Rattle.isa_table.specs.Rows.{row_of}
use Rattle.isa_table.specs.declared.instr.Instr.{Instr}
use Rattle.isa_table.specs.declared.instr.Instr.TheVariants.{Alu, Jump, Store, LoadImm64}
use Rattle.isa_table.specs.declared.instr.Operand.TheVariants as operand
use Rattle.isa_table.specs.declared.instr.Reg.TheVariants.{R0}
use Rattle.bpf_codec.specs.declared.layout.Field.{Field}
use Rattle.bpf_codec.specs.declared.layout.Field.TheVariants.{Wide}
use Rattle.bpf_codec.specs.declared.layout.Layout.{Layout}
use Rattle.bpf_codec.specs.declared.slot.Slot.{Slot}
use Rattle.bpf_codec.specs.declared.building.Operands.{Operands}
use Rattle.bpf_codec.specs.Slots.{row, layout, slot, filled, first, second, next_word, Fits}
use Rattle.bpf_codec.specs.Decoding.{operands, built}
use Rattle.bpf_codec.proofs.Fields.{is_wide_imm, with_register, with_offset, with_imm, register_given, offset_given, imm_given, offset_fits, imm_fits}
use Rattle.bpf_codec.proofs.Fields.{register_in, offset_in, imm_in, next_in, value_in, register_is, offset_is, imm_is, value_is}
use Rattle.bpf_codec.proofs.Rows.{IsPlaced, IsOf}

-- ---- by variant

abbrev with_operands : Layout → Operands → Layout
with_operands l o = row l.opcode (with_register l.dst o.dst) (with_register l.src o.src) (with_offset l.offset o.offset) (with_imm l.imm o.imm o.value)

layout_built : (i : Instr) (o : Operands) → layout (built i o) ≡ with_operands (layout i) o
unfolding built
layout_built (Alu width op d (operand.Imm z)) o = refl
layout_built (Alu width op d (operand.Register s)) o = refl
layout_built (Jump width c d (operand.Imm z) y) o = refl
layout_built (Jump width c d (operand.Register s) y) o = refl
layout_built (Store size d (operand.Imm z) y) o = refl
layout_built (Store size d (operand.Register s) y) o = refl
layout_built _ o = refl

abbrev operands_in : Layout → Operands
operands_in l = record { dst = register_in l.dst; src = register_in l.src; offset = offset_in l.offset; imm = imm_in l.imm; value = value_in l.imm }

built_again : (i : Instr) → built (row_of i) (operands_in (layout i)) ≡ i
unfolding built
built_again (Alu width op d (operand.Imm z)) = refl
built_again (Alu width op d (operand.Register s)) = refl
built_again (Jump width c d (operand.Imm z) y) = refl
built_again (Jump width c d (operand.Register s) y) = refl
built_again (Store size d (operand.Imm z) y) = refl
built_again (Store size d (operand.Register s) y) = refl
built_again _ = refl

-- the second slot, by the layout
abbrev pub second_in : Field → List ℕ
second_in (Wide v) = second (LoadImm64 R0 v)
second_in _ = []

pub second_is : (i : Instr) → (second i ≡ second_in (layout i).imm) × (next_word i ≡ next_in (layout i).imm)
second_is (Alu width op d (operand.Imm z)) = (refl, refl)
second_is (Alu width op d (operand.Register s)) = (refl, refl)
second_is (Jump width c d (operand.Imm z) y) = (refl, refl)
second_is (Jump width c d (operand.Register s) y) = (refl, refl)
second_is (Store size d (operand.Imm z) y) = (refl, refl)
second_is (Store size d (operand.Register s) y) = (refl, refl)
second_is _ = (refl, refl)

-- ---- an instruction from its own slot

operands_again : (i : Instr) → Fits i → operands (first i) (next_word i) ≡ operands_in (layout i)
unfolding operands
operands_again i h =
    let l = layout i in
    rw ((second_is i).1, register_is l.dst, register_is l.src, offset_is l.offset h.0, imm_is l.imm h.1, value_is l.imm h.1) refl

pub again : (i : Instr) → Fits i → built (row_of i) (operands (first i) (next_word i)) ≡ i
again i h = ap (built (row_of i)) (operands_again i h) ∙ built_again i

-- ---- an instruction from a slot of its row

pub record InRange (f : Slot) : Type 0 where
  pub opcode : f.opcode < 256
  pub offset : f.offset < 2 ^ 16
  pub imm : f.imm < 2 ^ 32

slot_same : (f : Slot) (a b c d e : ℕ) → a ≡ f.opcode → b ≡ f.dst → c ≡ f.src → d ≡ f.offset → e ≡ f.imm → slot a b c d e ≡ f
slot_same f a b c d e p q r s t = rw (p, q, r, s, t) refl

pub first_built : (i : Instr) (f : Slot) (next : ℕ) → IsPlaced (layout i) → IsOf f (layout i) → InRange f → first (built i (operands f next)) ≡ f
unfolding operands
first_built i f next p o r =
    let l = layout i in
    ap filled (layout_built i (operands f next))
    ∙ slot_same f _ _ _ _ _ (sym o.opcode) (register_given l.dst f.dst p.dst o.dst) (register_given l.src f.src p.src o.src)
    (offset_given l.offset f.offset p.offset o.offset r.offset) (imm_given l.imm f.imm next p.imm o.imm r.imm)

pub fits_built : (i : Instr) (f : Slot) (next : ℕ) → IsPlaced (layout i) → InRange f → next < 2 ^ 32 → Fits (built i (operands f next))
unfolding operands
fits_built i f next p r n = rw (layout_built i (operands f next)) (
  offset_fits (layout i).offset f.offset p.offset r.offset,
  imm_fits (layout i).imm f.imm next p.imm r.imm n,
)

high_half : (n next : ℕ) → n < 2 ^ 32 → (n + 2 ^ 32 * next) / 2 ^ 32 ≡ next
high_half n next h = omega arith

second_given : (x : Field) (z : ℤ) (n next : ℕ) → n < 2 ^ 32 → is_wide_imm x ≡ true
    → second_in (with_imm x z (n + 2 ^ 32 * next)) ≡ 0 ∷ 0 ∷ 0 ∷ 0 ∷ low_bytes 4 next
second_given (Wide v) z n next h w = ap (λ (m : ℕ). 0 ∷ 0 ∷ 0 ∷ 0 ∷ low_bytes 4 m) (high_half n next h)
second_given _ z n next h w = absurd (cc)

none_given : (x : Field) (z : ℤ) (v : ℕ) → is_wide_imm x ≡ false → second_in (with_imm x z v) ≡ []
none_given (Wide w) z v h = absurd (cc)
none_given _ z v h = refl

pub second_built : (i : Instr) (f : Slot) (next : ℕ) → InRange f → is_wide_imm (layout i).imm ≡ true
    → second (built i (operands f next)) ≡ 0 ∷ 0 ∷ 0 ∷ 0 ∷ low_bytes 4 next
unfolding operands
second_built i f next r w = (second_is (built i (operands f next))).0 ∙ ap (λ (l : Layout). second_in l.imm) (layout_built i (operands f next))
    ∙ second_given (layout i).imm _ f.imm next r.imm w

pub none_built : (i : Instr) (f : Slot) (next : ℕ) → is_wide_imm (layout i).imm ≡ false → second (built i (operands f next)) ≡ []
none_built i f next w = (second_is (built i (operands f next))).0 ∙ ap (λ (l : Layout). second_in l.imm) (layout_built i (operands f next))
    ∙ none_given (layout i).imm _ _ w
