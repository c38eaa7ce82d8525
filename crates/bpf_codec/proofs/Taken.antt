-- What is taken of the rows of an opcode is the instruction of the row that the slot is of.
use Rattle.std.proofs.Common.{◌≡◌, ℕ, ◌≤◌, ◌-◌, Bool, true, false, cond, List, [], ◌∷◌, length, take, drop, Option, Some, None, Result, Ok, IfSome, ◌&&◌, ◌==◌}
use Rattle.std.proofs.Common.{refl, ap, sym, subst, ◌∙◌, arith, inl}
use Rattle.std.specs.Prelude.{nat_lt, get_or}
use Rattle.std.proofs.lemmas.Bool.Decides.{nat_tests}
use Rattle.std.proofs.lemmas.List.{take_all, length-drop}
use Rattle.isa_table.specs.declared.instr.Instr.{Instr}
use Rattle.bpf_codec.specs.declared.building.Operands.{Operands}
use Rattle.bpf_codec.specs.declared.layout.Layout.{Layout}
use Rattle.bpf_codec.specs.declared.slot.Slot.{Slot}
use Rattle.bpf_codec.specs.declared.fault.Fault.{Fault}
use Rattle.bpf_codec.specs.Slots.{layout, fields}
use Rattle.bpf_codec.specs.Faults.{may_hold, is_of, is_of_platform}
use Rattle.bpf_codec.specs.Decoding.{◌>>=◌, holds, taken, taken_of, rows_of, row_for, have_registers, checked, checked_as, next_imm, operands, built, built_as}
use Rattle.bpf_codec.specs.Decoding.{decoded, decoded_as}
use Rattle.bpf_codec.proofs.Lists.{Has}
use Rattle.bpf_codec.proofs.Rows.{in_rows}

holding : (f : Slot) (l : Layout) → (f.opcode == l.opcode) ≡ true → is_of f l ≡ holds f l
unfolding is_of holds
holding f l e = rw e (five (may_hold l.dst f.dst) (may_hold l.src f.src) (may_hold l.offset f.offset) (may_hold l.imm f.imm))
  where
    five : (a b c d : Bool) → ((((true && a) && b) && c) && d) ≡ (((a && b) && c) && d)
    five a b c d = refl

-- each of these rows has the opcode
abbrev AllOf : ℕ → List Instr → Type 0
AllOf n rows = (i : Instr) → Has rows i → (n == (layout i).opcode) ≡ true

taken_row : (f : Slot) (rows : List Instr) (o : Operands) (i : Instr) → AllOf f.opcode rows → taken_of f rows o ≡ Some i
    → (r : Instr) × (row_for f rows ≡ Some r) × (built r o ≡ i)
taken_row f [] o i h e = absurd (cc)
taken_row f (r ∷ rs) o i h e = go (holds f (layout r)) (holding f (layout r) (h r (inl refl))) e
  where
    go : (b : Bool) → is_of f (layout r) ≡ b → cond b (Some (built r o)) None ≡ Some i
        → (q : Instr) × (cond (is_of f (layout r)) (Some r) (row_for f rs) ≡ Some q) × (built q o ≡ i)
    go true t k = let s : built r o ≡ i = cc in (r, rw t refl, s)
    go false t k = absurd (cc)

rows_have : (n : ℕ) → AllOf n (rows_of n)
rows_have n i h = (in_rows n i h).1

by_rows : (xs : List ℕ) (rows : List Instr) (r : Instr) (n : ℕ) → row_for (fields xs) rows ≡ Some r → next_imm (fields xs).opcode (drop 8 xs) ≡ Ok n
    → decoded_as rows xs ≡ Ok (built r (operands (fields xs) n))
unfolding checked
by_rows xs [] r n e k = absurd (cc)
by_rows xs (j ∷ js) r n e k =
    ap (λ (q : Option Instr). checked_as q (is_of_platform (fields xs)) (have_registers (fields xs) (j ∷ js)) >>= λ row. next_imm (fields xs).opcode
    (drop 8 xs) >>= λ m. built_as row (operands (fields xs) m)) e
    ∙ ap (λ (m : Result ℕ Fault). m >>= λ m. Ok (built r (operands (fields xs) m))) k

pub taken_decoded : (xs : List ℕ) (n : ℕ) (i : Instr) → nat_lt (length xs) 8 ≡ false → next_imm (fields xs).opcode (drop 8 xs) ≡ Ok n
    → taken_of (fields xs) (rows_of (fields xs).opcode) (operands (fields xs) n) ≡ Some i → decoded xs ≡ Ok i
unfolding decoded
taken_decoded xs n i l k e =
    let t = taken_row (fields xs) (rows_of (fields xs).opcode) (operands (fields xs) n) i (rows_have (fields xs).opcode) e in
    rw l (by_rows xs (rows_of (fields xs).opcode) t.0 n t.1 k ∙ ap Ok t.2)

pub taken_head : (f : Slot) (rows : List Instr) (o : Operands) (d : Instr) → (length rows == 0) ≡ false → taken f (get_or rows 0 d) o ≡ taken_of f rows o
taken_head f [] o d h = absurd (cc)
taken_head f (i ∷ is) o d h = refl

all_after : (xs : List ℕ) → take (length xs - 8) (drop 8 xs) ≡ drop 8 xs
all_after xs = take_all (length xs - 8) (drop 8 xs) (omega (arith, length-drop 8 xs))

pub taken_valid : (xs : List ℕ) (n : ℕ) (f : Slot) (rows : List Instr) (o : Operands) (r : Option Instr) → 8 ≤ length xs → f ≡ fields xs
    → next_imm f.opcode (take (length xs - 8) (drop 8 xs)) ≡ Ok n → rows ≡ rows_of f.opcode → o ≡ operands f n → r ≡ taken_of f rows o
    → IfSome r (λ i. decoded xs ≡ Ok i)
taken_valid xs n f rows o None l a b c d e = tt
taken_valid xs n f rows o (Some i) l a b c d e =
    let rest : next_imm (fields xs).opcode (drop 8 xs) ≡ Ok n =
    subst (λ (g : Slot). next_imm g.opcode (drop 8 xs) ≡ Ok n) a (subst (λ (more : List ℕ). next_imm f.opcode more ≡ Ok n) (all_after xs) b) in
    let here : taken_of f (rows_of f.opcode) (operands f n) ≡ Some i =
    subst (λ (p : Operands). taken_of f (rows_of f.opcode) p ≡ Some i) d (subst (λ (rs : List Instr). taken_of f rs o ≡ Some i) c (sym e)) in
    taken_decoded xs n i (grind (arith, nat_tests, l)) rest (subst (λ (g : Slot). taken_of g (rows_of g.opcode) (operands g n) ≡ Some i) a here)
