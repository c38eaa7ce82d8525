-- Instructions whose operands fit have an encoding, and valid code has a text that the assembler takes.
use Rattle.std.proofs.Common.{◌≡◌, ◌<◌, ◌≤◌, ◌^◌, ℕ, ℤ, pos, negsuc, List, [], ◌∷◌, length, All, refl, sym, ap, ◌∙◌, arith, rules}
use Rattle.std.specs.Int.{w16, w32}
use Rattle.std.specs.Int.RustNames.{FitsSigned}
use Rattle.std.proofs.lemmas.List.Elements.{All-append, All-cons, All-nil}
use Rattle.isa_table.specs.declared.instr.Instr.{Instr}
use Rattle.isa_table.specs.declared.instr.Instr.TheVariants.{Alu, Jump, Store}
use Rattle.isa_table.specs.declared.instr.Operand.TheVariants.{Imm, Register}
use Rattle.bpf_codec.specs.Slots.{Fits}
use Rattle.loader.specs.Instructions.{encodings, AllFit}
use Rattle.loader.specs.ValidCode.{IsCode}
use Rattle.loader.proofs.Positions.{code_same, length_encodings}
use Rattle.asm_table.specs.Canonical.{IsSignedWithin, FitsParts, AllFitParts, parts_slot_count, line_text, text_of}
use Rattle.asm_table.proofs.Lengths.{text_short}
use Rattle.asm_table.proofs.Printable.{printable_line}
use Rattle.assembler.specs.Spelling.{Spells}
use Rattle.assembler.proofs.Ranges.{spelled_fits}
use Rattle.disassembler.specs.TextOf.{IsTextOf}
use Rattle.disassembler.proofs.Fitting.{all_ascii, all_fit_parts, same_count}

-- ---- numbers

fits16 : (z : ℤ) → IsSignedWithin (2 ^ 15) z → FitsSigned w16 z
fits16 (pos n) h = omega (arith, h)
fits16 (negsuc n) h = omega (arith, h)

fits32 : (z : ℤ) → IsSignedWithin (2 ^ 31) z → FitsSigned w32 z
fits32 (pos n) h = omega (arith, h)
fits32 (negsuc n) h = omega (arith, h)

parts_fit : (i : Instr) → FitsParts i → Fits i
parts_fit (Alu w op d (Imm z)) f = (tt, fits32 z f.1.0)
parts_fit (Alu w op d (Register s)) f = (tt, tt)
parts_fit (Jump w c d (Imm z) o) f = (fits16 o f.1.1.0, fits32 z f.1.0)
parts_fit (Jump w c d (Register s) o) f = (fits16 o f.1.1.0, tt)
parts_fit (Store size d (Imm z) o) f = (fits16 o f.0, fits32 z f.1.0)
parts_fit (Store size d (Register s) o) f = (fits16 o f.0, tt)
parts_fit _ f = search (rules, fits16, fits32, f)

all_parts_fit : (code : List Instr) → AllFitParts code → AllFit code
all_parts_fit [] f = tt
all_parts_fit (i ∷ is) f = (parts_fit i f.0, all_parts_fit is f.1)

-- ---- code that is shown

same_code : (bytes : List ℕ) (code : List Instr) → IsCode bytes code → (text shown : List ℕ) (spelled : List Instr) → Spells text spelled
    → bytes ≡ encodings spelled → shown ≡ text_of code → shown ≡ text_of spelled
same_code bytes code k text shown spelled s b e =
    e ∙ ap text_of (code_same code spelled k.fits (all_parts_fit spelled (spelled_fits text spelled s)) (sym k.encoded ∙ b))

pub is_shown : (text shown : List ℕ) (code : List Instr) → Spells text code → IsTextOf (encodings code) shown → shown ≡ text_of code
is_shown text shown code s t = same_code (encodings code) t.0 t.1 text shown code s refl t.2

-- ---- the text of a program

ascii_line : (i : Instr) → FitsParts i → All (λ b. b < 128) (line_text i)
ascii_line i f = all_ascii (line_text i) (printable_line i f)

ascii_lines : (code : List Instr) → AllFitParts code → All (λ b. b < 128) (text_of code)
ascii_lines [] f = All-nil (λ b. b < 128)
ascii_lines (i ∷ is) f = All-append (λ b. b < 128) (line_text i) (10
    ∷ text_of is) (ascii_line i f.0) (All-cons (λ b. b < 128) 10 (text_of is) (omega arith) (ascii_lines is f.1))

-- how many slots valid code takes
pub few_slots : (bytes : List ℕ) (code : List Instr) → IsCode bytes code → parts_slot_count code ≤ 4096
few_slots bytes code k =
    let e = ap length k.encoded ∙ length_encodings code in
    let s = same_count code in
    omega (arith, e, s, k.short)

fits_at : (text : List ℕ) (code : List Instr) → text ≡ text_of code → AllFitParts code → parts_slot_count code ≤ 4096
    → (length text ≤ 2 ^ 20) × All (λ b. b < 128) text
fits_at text code e f s = rw e (text_short code f s, ascii_lines code f)

pub text_fits : (bytes text : List ℕ) → IsTextOf bytes text → (length text ≤ 2 ^ 20) × All (λ b. b < 128) text
text_fits bytes text t = fits_at text t.0 t.2 (all_fit_parts t.0 t.1.fits) (few_slots bytes t.0 t.1)
