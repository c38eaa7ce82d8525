-- Valid code has a text of ASCII, and the numbers of its instructions fit their operands.
use Rattle.std.proofs.Common.{◌≡◌, ℕ, ◌+◌, ◌<◌, ◌^◌, nat_lt, ℤ, pos, negsuc, true, List, [], ◌∷◌, All, refl, arith, rules, IsAscii}
use Rattle.std.specs.Int.{w16, w32}
use Rattle.std.specs.Int.RustNames.{FitsSigned}
use Rattle.std.proofs.lemmas.Bool.Decides.{nat_tests}
use Rattle.std.proofs.lemmas.List.Elements.{All-cons, All-nil}
use Rattle.std.proofs.lemmas.Str.{IsAscii-append}
use Rattle.std.proofs.lemmas.Str.Ascii.{IsAscii-from_all}
use Rattle.isa_table.specs.declared.instr.Instr.{Instr}
use Rattle.isa_table.specs.declared.instr.Instr.TheVariants as instr
use Rattle.isa_table.specs.declared.instr.Operand.TheVariants as source
use Rattle.isa_table.specs.Slots.{slots}
use Rattle.bpf_codec.specs.Slots.{Fits}
use Rattle.loader.specs.Instructions.{AllFit, slot_count}
use Rattle.asm_table.specs.Mnemonics.{slots_of}
use Rattle.asm_table.specs.Parts.{mnemonic_of}
use Rattle.asm_table.specs.Canonical.{IsSignedWithin, FitsParts, AllFitParts, parts_slot_count, line_text, text_of}
use Rattle.isa_table.proofs.Listed.{and_true}
use Rattle.asm_table.proofs.Printable.{is_plain, printable, printable_line}

-- ---- numbers

within16 : (z : ℤ) → FitsSigned w16 z → IsSignedWithin (2 ^ 15) z
within16 (pos n) h = omega (arith, h)
within16 (negsuc n) h = omega (arith, h)

within32 : (z : ℤ) → FitsSigned w32 z → IsSignedWithin (2 ^ 31) z
within32 (pos n) h = omega (arith, h)
within32 (negsuc n) h = omega (arith, h)

pub fits_parts : (i : Instr) → Fits i → FitsParts i
fits_parts (instr.Alu w op d (source.Imm z)) f = (tt, (within32 z f.1, tt))
fits_parts (instr.Alu w op d (source.Register r)) f = (tt, (tt, tt))
fits_parts (instr.Jump w c d (source.Imm z) o) f = (tt, (within32 z f.1, (within16 o f.0, tt)))
fits_parts (instr.Jump w c d (source.Register s) o) f = (tt, (tt, (within16 o f.0, tt)))
fits_parts (instr.Store z d (source.Imm k) o) f = (within16 o f.0, (within32 k f.1, tt))
fits_parts (instr.Store z d (source.Register s) o) f = (within16 o f.0, (tt, tt))
fits_parts _ f = search (rules, within16, within32, f)

pub all_fit_parts : (code : List Instr) → AllFit code → AllFitParts code
all_fit_parts [] f = tt
all_fit_parts (i ∷ is) f = (fits_parts i f.0, all_fit_parts is f.1)

-- ---- slots

same_slots : (i : Instr) → slots_of (mnemonic_of i) ≡ slots i
same_slots (instr.Store z d (source.Imm k) o) = refl
same_slots (instr.Store z d (source.Register s) o) = refl
same_slots _ = refl

pub same_count : (code : List Instr) → parts_slot_count code ≡ slot_count code
same_count [] = refl
same_count (i ∷ is) =
    let a = same_slots i in
    let b = same_count is in
    let c : parts_slot_count (i ∷ is) ≡ slots_of (mnemonic_of i) + parts_slot_count is = refl in
    let d : slot_count (i ∷ is) ≡ slots i + slot_count is = refl in
    omega (arith, a, b, c, d)

-- ---- ASCII

plain_ascii : (b : ℕ) → is_plain b ≡ true → b < 128
unfolding is_plain
plain_ascii b h = let l : nat_lt b 127 ≡ true = (and_true (nat_lt 31 b) (nat_lt b 127) h).1 in grind (arith, nat_tests)

pub all_ascii : (bs : List ℕ) → printable bs ≡ true → All (λ b. b < 128) bs
unfolding printable
all_ascii [] h = All-nil (λ b. b < 128)
all_ascii (b ∷ bs) h = let p = and_true (is_plain b) (printable bs) h in All-cons (λ b. b < 128) b bs (plain_ascii b p.0) (all_ascii bs p.1)

ascii_end : IsAscii (10 ∷ [])
ascii_end = IsAscii-from_all (10 ∷ []) (All-cons (λ b. b < 128) 10 [] (omega arith) (All-nil (λ b. b < 128)))

ascii_line : (i : Instr) → FitsParts i → IsAscii (line_text i)
ascii_line i f = IsAscii-from_all (line_text i) (all_ascii (line_text i) (printable_line i f))

pub ascii_text : (code : List Instr) → AllFitParts code → IsAscii (text_of code)
ascii_text [] f = IsAscii-from_all [] (All-nil (λ b. b < 128))
ascii_text (i ∷ is) f = IsAscii-append (line_text i) (10 ∷ text_of is) (ascii_line i f.0) (IsAscii-append (10 ∷ []) (text_of is) ascii_end (ascii_text is f.1))
