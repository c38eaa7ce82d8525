-- What a field of a slot holds, by its kind.
use Rattle.std.proofs.Common.{◌≡◌, ℕ, ◌+◌, ◌*◌, ◌/◌, ◌<◌, ◌^◌, Bool, true, false, ◌==◌, refl, sym, arith, ℤ, pos, negsuc}
use Rattle.std.specs.Prelude.{nat_lt}
use Rattle.std.specs.Int.{w16, w32, cast_signed}
use Rattle.std.specs.Int.RustNames.{FitsSigned}
use Rattle.std.proofs.Math.Facts.{sfits_to_z}
use Rattle.std.proofs.lemmas.Int.{ints}
use Rattle.std.proofs.lemmas.Bool.{eqb-true}
use Rattle.std.proofs.lemmas.Bool.Decides.{nat_tests}
use Rattle.isa_table.specs.Words.{wrapped}
use Rattle.isa_table.specs.Registers.{all_registers, register_number}
use Rattle.isa_table.specs.declared.instr.Reg.{Reg}
use Rattle.isa_table.specs.declared.instr.Reg.TheVariants.{R0}
use Rattle.bpf_codec.specs.declared.layout.Field.{Field}
use Rattle.bpf_codec.specs.declared.layout.Field.TheVariants.{Register, Offset, Imm, Wide, Only}
use Rattle.bpf_codec.specs.Slots.{number_in, FitsField}
use Rattle.bpf_codec.specs.Faults.{is_register, may_hold}
use Rattle.bpf_codec.specs.Decoding.{register}
use Rattle.bpf_codec.proofs.Lists.{at_place}

-- ---- registers and signed numbers

pub register_read : (r : Reg) → register (register_number r) ≡ r
unfolding register
register_read R0 = refl
register_read _ = refl

named : ℕ → Reg → Bool
named n r = register_number r == n

pub register_named : (n : ℕ) → nat_lt n 11 ≡ true → register_number (register n) ≡ n
unfolding register named
register_named n h = let e : 0 + n ≡ n = omega arith in rw e at (eqb-true _ _ (at_place named 0 all_registers refl n R0 (grind (arith, nat_tests, h))))

register_below : (r : Reg) → register_number r < 11
register_below R0 = omega arith
register_below _ = omega arith

pub register_small : (r : Reg) → nat_lt (register_number r) 11 ≡ true
register_small R0 = refl
register_small _ = refl

signed_of_low_32 : (z : ℤ) → FitsSigned w32 z → cast_signed w32 (wrapped 32 z) ≡ z
signed_of_low_32 (pos n) h = grind (arith, ints)
signed_of_low_32 (negsuc n) h = grind (arith, ints)

signed_of_low_16 : (z : ℤ) → FitsSigned w16 z → cast_signed w16 (wrapped 16 z) ≡ z
signed_of_low_16 (pos n) h = grind (arith, ints)
signed_of_low_16 (negsuc n) h = grind (arith, ints)

low_of_signed_32 : (n : ℕ) → n < 2 ^ 32 → wrapped 32 (cast_signed w32 n) ≡ n
low_of_signed_32 n h = grind (arith, ints)

low_of_signed_16 : (n : ℕ) → n < 2 ^ 16 → wrapped 16 (cast_signed w16 n) ≡ n
low_of_signed_16 n h = grind (arith, ints)

low_below_16 : (z : ℤ) → wrapped 16 z < 2 ^ 16
low_below_16 (pos n) = omega arith
low_below_16 (negsuc n) = omega arith

low_below_32 : (z : ℤ) → wrapped 32 z < 2 ^ 32
low_below_32 (pos n) = omega arith
low_below_32 (negsuc n) = omega arith

-- ---- kinds of fields

-- the field without its operand
abbrev pub kind : Field → Field
kind (Register r) = Register R0
kind (Offset z) = Offset (pos 0)
kind (Imm z) = Imm (pos 0)
kind (Wide v) = Wide 0
kind (Only n) = Only n

pub kind_may_hold : (x : Field) (n : ℕ) → may_hold (kind x) n ≡ may_hold x n
kind_may_hold (Register r) n = refl
kind_may_hold _ n = refl

-- a field holds what it may
pub holds_own : (x : Field) → may_hold x (number_in x) ≡ true
holds_own (Register r) = register_small r
holds_own (Only n) = grind (arith, nat_tests)
holds_own (Offset z) = refl
holds_own (Imm z) = refl
holds_own (Wide v) = refl

pub holds_register : (x : Field) (n : ℕ) → may_hold x n ≡ true → is_register x n ≡ true
holds_register (Register r) n h = h
holds_register _ n h = refl

-- the kinds that a field of four bits may have, the offset field, and the imm field
abbrev pub is_small : Field → Bool
is_small (Register r) = true
is_small (Only n) = nat_lt n 16
is_small _ = false

abbrev pub is_offset : Field → Bool
is_offset (Offset z) = true
is_offset (Only n) = nat_lt n 65536
is_offset _ = false

abbrev pub is_imm : Field → Bool
is_imm (Imm z) = true
is_imm (Wide v) = true
is_imm (Only n) = nat_lt n 4294967296
is_imm _ = false

abbrev pub is_wide_imm : Field → Bool
is_wide_imm (Wide v) = true
is_wide_imm _ = false

pub kind_small : (x : Field) → is_small (kind x) ≡ is_small x
kind_small (Register r) = refl
kind_small _ = refl

pub kind_offset : (x : Field) → is_offset (kind x) ≡ is_offset x
kind_offset (Register r) = refl
kind_offset _ = refl

pub kind_imm : (x : Field) → is_imm (kind x) ≡ is_imm x
kind_imm (Register r) = refl
kind_imm _ = refl

pub kind_wide : (x : Field) → is_wide_imm (kind x) ≡ is_wide_imm x
kind_wide (Register r) = refl
kind_wide _ = refl

pub small_below : (x : Field) → is_small x ≡ true → number_in x < 16
small_below (Register r) h = omega (arith, register_below r)
small_below (Only n) h = grind (arith, nat_tests, h)
small_below _ h = absurd (cc)

pub offset_below : (x : Field) → is_offset x ≡ true → number_in x < 2 ^ 16
offset_below (Offset z) h = low_below_16 z
offset_below (Only n) h = grind (arith, nat_tests, h)
offset_below _ h = absurd (cc)

pub imm_below : (x : Field) → is_imm x ≡ true → number_in x < 2 ^ 32
imm_below (Imm z) h = low_below_32 z
imm_below (Wide v) h = omega arith
imm_below (Only n) h = grind (arith, nat_tests, h)
imm_below _ h = absurd (cc)

-- ---- a field that is given an operand

abbrev pub with_register : Field → Reg → Field
with_register (Register r) s = Register s
with_register x s = x

abbrev pub with_offset : Field → ℤ → Field
with_offset (Offset y) z = Offset z
with_offset x z = x

abbrev pub with_imm : Field → ℤ → ℕ → Field
with_imm (Imm y) z v = Imm z
with_imm (Wide y) z v = Wide v
with_imm x z v = x

pub register_given : (x : Field) (n : ℕ) → is_small x ≡ true → may_hold x n ≡ true → number_in (with_register x (register n)) ≡ n
register_given (Register r) n s h = register_named n h
register_given (Only m) n s h = sym (eqb-true _ _ h)
register_given _ n s h = absurd (cc)

pub offset_given : (x : Field) (n : ℕ) → is_offset x ≡ true → may_hold x n ≡ true → n < 2 ^ 16 → number_in (with_offset x (cast_signed w16 n)) ≡ n
offset_given (Offset z) n s h r = low_of_signed_16 n r
offset_given (Only m) n s h r = sym (eqb-true _ _ h)
offset_given _ n s h r = absurd (cc)

pub imm_given : (x : Field) (n next : ℕ) → is_imm x ≡ true → may_hold x n ≡ true → n < 2 ^ 32
    → number_in (with_imm x (cast_signed w32 n) (n + 2 ^ 32 * next)) ≡ n
imm_given (Imm z) n next s h r = low_of_signed_32 n r
imm_given (Wide v) n next s h r = omega arith
imm_given (Only m) n next s h r = sym (eqb-true _ _ h)
imm_given _ n next s h r = absurd (cc)

pub offset_fits : (x : Field) (n : ℕ) → is_offset x ≡ true → n < 2 ^ 16 → FitsField (with_offset x (cast_signed w16 n))
offset_fits (Offset z) n s r = sfits_to_z (record { fits = r })
offset_fits (Only m) n s r = tt
offset_fits _ n s r = absurd (cc)

pub imm_fits : (x : Field) (n next : ℕ) → is_imm x ≡ true → n < 2 ^ 32 → next < 2 ^ 32 → FitsField (with_imm x (cast_signed w32 n) (n + 2 ^ 32 * next))
imm_fits (Imm z) n next s r t = sfits_to_z (record { fits = r })
imm_fits (Wide v) n next s r t = omega arith
imm_fits (Only m) n next s r t = tt
imm_fits _ n next s r t = absurd (cc)

-- ---- the operand in a field

-- a field without an operand gives what its number would be
abbrev pub register_in : Field → Reg
register_in (Register r) = r
register_in x = register (number_in x)

abbrev pub offset_in : Field → ℤ
offset_in (Offset z) = z
offset_in x = cast_signed w16 (number_in x)

abbrev pub imm_in : Field → ℤ
imm_in (Imm z) = z
imm_in x = cast_signed w32 (number_in x)

-- what the second slot's imm field holds
abbrev pub next_in : Field → ℕ
next_in (Wide v) = v / 2 ^ 32
next_in _ = 0

abbrev pub value_in : Field → ℕ
value_in (Wide v) = v
value_in x = number_in x + 2 ^ 32 * 0

pub register_is : (x : Field) → register (number_in x) ≡ register_in x
register_is (Register r) = register_read r
register_is _ = refl

pub offset_is : (x : Field) → FitsField x → cast_signed w16 (number_in x) ≡ offset_in x
offset_is (Offset z) f = signed_of_low_16 z f
offset_is _ f = refl

pub imm_is : (x : Field) → FitsField x → cast_signed w32 (number_in x) ≡ imm_in x
imm_is (Imm z) f = signed_of_low_32 z f
imm_is _ f = refl

pub value_is : (x : Field) → FitsField x → number_in x + 2 ^ 32 * next_in x ≡ value_in x
value_is (Wide v) f = omega arith
value_is _ f = refl
