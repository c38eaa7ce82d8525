-- The rows of the instruction table, and the one of them that a slot is of.
use Rattle.std.proofs.Common.{◌≡◌, ℕ, Option, Bool, true, false, List, [], ◌∷◌, Some, None, ◌&&◌, ◌==◌, not, refl, ap, sym, ◌∙◌, arith, inl, inr}
use Rattle.std.specs.Prelude.{nat_lt}
use Rattle.std.specs.List.{list_any, list_all, filter}
use Rattle.std.proofs.lemmas.Bool.{eqb-true}
use Rattle.std.proofs.lemmas.Bool.Decides.{nat_tests}
use Rattle.isa_table.specs.Rows.{all_rows, row_of}
use Rattle.isa_table.proofs.Listed.{rows_complete}
use Rattle.isa_table.specs.declared.instr.Instr.{Instr}
use Rattle.isa_table.specs.declared.instr.Instr.TheVariants.{Alu, Jump, Store}
use Rattle.isa_table.specs.declared.instr.Operand.TheVariants as operand
use Rattle.isa_table.proofs.Listed.{and_true}
use Rattle.bpf_codec.specs.declared.layout.Field.{Field}
use Rattle.bpf_codec.specs.declared.layout.Field.TheVariants.{Register, Only}
use Rattle.bpf_codec.specs.declared.layout.Layout.{Layout}
use Rattle.bpf_codec.specs.declared.slot.Slot.{Slot}
use Rattle.bpf_codec.specs.Slots.{row, layout, first}
use Rattle.bpf_codec.specs.Faults.{is_register, may_hold, has_registers_of, is_of, some_row, is_row, platform_layouts, is_of_platform, is_packet}
use Rattle.bpf_codec.specs.Decoding.{rows_of, row_for, have_registers}
use Rattle.bpf_codec.proofs.Lists.{both, Has, has_contained, passes, has_filtered, filtered, any_filtered, any_has, any_found, found, not_found, some_found}
use Rattle.bpf_codec.proofs.Fields.{kind, kind_may_hold, holds_own, holds_register, is_small, is_offset, is_imm, is_wide_imm, kind_small, kind_offset, kind_imm}
use Rattle.bpf_codec.proofs.Fields.{kind_wide}

-- ---- an instruction's row

abbrev pub kinds : Layout → Layout
kinds l = row l.opcode (kind l.dst) (kind l.src) (kind l.offset) (kind l.imm)

-- an instruction's layout is its row's, with other operands
same_kinds : (i : Instr) → kinds (layout (row_of i)) ≡ kinds (layout i)
same_kinds (Alu width op d (operand.Imm z)) = refl
same_kinds (Alu width op d (operand.Register s)) = refl
same_kinds (Jump width c d (operand.Imm z) o) = refl
same_kinds (Jump width c d (operand.Register s) o) = refl
same_kinds (Store size d (operand.Imm z) o) = refl
same_kinds (Store size d (operand.Register s) o) = refl
same_kinds _ = refl

-- ---- what holds of each row

-- some number is one that both may hold
abbrev meet : Field → Field → Bool
meet (Only m) (Only n) = m == n
meet (Only m) (Register r) = nat_lt m 11
meet (Register r) (Only m) = nat_lt m 11
meet _ _ = true

meets : (x y : Field) (n : ℕ) → may_hold x n ≡ true → may_hold y n ≡ true → meet x y ≡ true
meets (Only a) (Only b) n h k = grind (arith, nat_tests, h, k)
meets (Only a) (Register r) n h k = grind (arith, nat_tests, h, k)
meets (Register r) (Only a) n h k = grind (arith, nat_tests, h, k)
meets (Register r) _ n h k = refl
meets (Only a) _ n h k = refl
meets _ _ n h k = refl

-- some slot is of both
abbrev clash : Layout → Layout → Bool
clash l k = (l.opcode == k.opcode) && meet l.dst k.dst && meet l.src k.src && meet l.offset k.offset && meet l.imm k.imm

-- the parts of the test whether a slot is of a layout
pub record IsOf (f : Slot) (l : Layout) : Type 0 where
  pub opcode : f.opcode ≡ l.opcode
  pub dst : may_hold l.dst f.dst ≡ true
  pub src : may_hold l.src f.src ≡ true
  pub offset : may_hold l.offset f.offset ≡ true
  pub imm : may_hold l.imm f.imm ≡ true

pub parts_of : (f : Slot) (l : Layout) → is_of f l ≡ true → IsOf f l
unfolding is_of
parts_of f l h =
    let a = and_true _ (may_hold l.imm f.imm) h in
    let b = and_true _ (may_hold l.offset f.offset) a.0 in
    let c = and_true _ (may_hold l.src f.src) b.0 in
    let d = and_true (f.opcode == l.opcode) (may_hold l.dst f.dst) c.0 in
    record { opcode = eqb-true _ _ d.0; dst = d.1; src = c.1; offset = b.1; imm = a.1 }

clashes : (f : Slot) (l k : Layout) → is_of f l ≡ true → is_of f k ≡ true → clash l k ≡ true
clashes f l k a b =
    let p = parts_of f l a in
    let q = parts_of f k b in
    let same : l.opcode ≡ k.opcode = sym p.opcode ∙ q.opcode in
    let e : (l.opcode == k.opcode) ≡ true = grind (arith, nat_tests, same) in
    both _ _ (both _ _ (both _ _ (both _ _ e (meets l.dst k.dst f.dst p.dst q.dst)) (meets l.src k.src f.src p.src q.src))
    (meets l.offset k.offset f.offset p.offset q.offset)) (meets l.imm k.imm f.imm p.imm q.imm)

abbrev apart : List Instr → Bool
apart [] = true
apart (i ∷ is) = list_all (λ j. not (clash (layout i) (layout j))) is && apart is

none_of : {P : Type 0} (b : Bool) → not b ≡ true → b ≡ true → P
none_of true h k = absurd (cc)
none_of false h k = absurd (cc)

one_of : (f : Slot) (rows : List Instr) (i j : Instr) → apart rows ≡ true → Has rows i → Has rows j → is_of f (layout i) ≡ true
    → is_of f (layout j) ≡ true → i ≡ j
one_of f [] i j t h k a b = absurd h
one_of f (r ∷ rs) i j t (inl h) (inl k) a b = sym h ∙ k
one_of f (r ∷ rs) i j t (inl h) (inr k) a b =
    none_of (clash (layout r) (layout j)) (passes (λ x. not (clash (layout r) (layout x))) rs j ((and_true _ _ t).0) k)
    (clashes f (layout r) (layout j) (rw h a) b)
one_of f (r ∷ rs) i j t (inr h) (inl k) a b =
    none_of (clash (layout r) (layout i)) (passes (λ x. not (clash (layout r) (layout x))) rs i ((and_true _ _ t).0) h)
    (clashes f (layout r) (layout i) (rw k b) a)
one_of f (r ∷ rs) i j t (inr h) (inr k) a b = one_of f rs i j ((and_true _ _ t).1) h k a b

all_apart : apart all_rows ≡ true
all_apart = refl

-- ---- kinds of fields

-- The fields are of kinds that may stand there, and a 64-bit number stands in opcode 18 alone.
pub record IsPlaced (l : Layout) : Type 0 where
  pub dst : is_small l.dst ≡ true
  pub src : is_small l.src ≡ true
  pub offset : is_offset l.offset ≡ true
  pub imm : is_imm l.imm ≡ true
  pub wide : is_wide_imm l.imm ≡ (l.opcode == 0x18)

placed_alike : (l k : Layout) → kinds l ≡ kinds k → IsPlaced l → IsPlaced k
placed_alike l k e p =
    let dst : kind l.dst ≡ kind k.dst = ap (λ (x : Layout). x.dst) e in
    let src : kind l.src ≡ kind k.src = ap (λ (x : Layout). x.src) e in
    let offset : kind l.offset ≡ kind k.offset = ap (λ (x : Layout). x.offset) e in
    let imm : kind l.imm ≡ kind k.imm = ap (λ (x : Layout). x.imm) e in
    let opcode : l.opcode ≡ k.opcode = ap (λ (x : Layout). x.opcode) e in
    record {
      dst = sym (kind_small k.dst) ∙ ap is_small (sym dst) ∙ kind_small l.dst ∙ p.dst;
      src = sym (kind_small k.src) ∙ ap is_small (sym src) ∙ kind_small l.src ∙ p.src;
      offset = sym (kind_offset k.offset) ∙ ap is_offset (sym offset) ∙ kind_offset l.offset ∙ p.offset;
      imm = sym (kind_imm k.imm) ∙ ap is_imm (sym imm) ∙ kind_imm l.imm ∙ p.imm;
      wide = sym (kind_wide k.imm) ∙ ap is_wide_imm (sym imm) ∙ kind_wide l.imm ∙ p.wide ∙ ap (λ (n : ℕ). n == 0x18) opcode;
    }

same : Bool → Bool → Bool
same true b = b
same false b = not b

same_is : (a b : Bool) → same a b ≡ true → a ≡ b
unfolding same
same_is true true h = refl
same_is false false h = refl
same_is true false h = absurd (cc)
same_is false true h = absurd (cc)

is_placed : Layout → Bool
is_placed l = is_small l.dst && is_small l.src && is_offset l.offset && is_imm l.imm && same (is_wide_imm l.imm) (l.opcode == 0x18)

rows_placed : list_all (λ i. is_placed (layout i)) all_rows ≡ true
unfolding is_placed same
rows_placed = refl

pub row_placed : (i : Instr) → Has all_rows i → IsPlaced (layout i)
unfolding is_placed
row_placed i h =
    let l = layout i in
    let a = and_true _ _ (passes (λ j. is_placed (layout j)) all_rows i rows_placed h) in
    let b = and_true _ _ a.0 in
    let c = and_true _ _ b.0 in
    let d = and_true _ _ c.0 in
    record { dst = d.0; src = d.1; offset = c.1; imm = b.1; wide = same_is _ _ a.1 }

-- ---- the row that a slot is of

in_table : (i : Instr) → Has all_rows (row_of i)
in_table i = has_contained all_rows (row_of i) (rows_complete i)

pub placed : (i : Instr) → IsPlaced (layout i)
placed i = placed_alike (layout (row_of i)) (layout i) (same_kinds i) (row_placed (row_of i) (in_table i))

of_kinds : (f : Slot) (l : Layout) → is_of f (kinds l) ≡ is_of f l
unfolding is_of
of_kinds f l = rw (kind_may_hold l.dst f.dst, kind_may_hold l.src f.src, kind_may_hold l.offset f.offset, kind_may_hold l.imm f.imm) refl

own_layout : (i : Instr) → is_of (first i) (layout i) ≡ true
unfolding is_of
own_layout i =
    let l = layout i in
    let e : (l.opcode == l.opcode) ≡ true = grind (arith, nat_tests) in
    rw (e, holds_own l.dst, holds_own l.src, holds_own l.offset, holds_own l.imm) refl

own_row : (i : Instr) → is_of (first i) (layout (row_of i)) ≡ true
own_row i = sym (of_kinds (first i) (layout (row_of i))) ∙ ap (is_of (first i)) (same_kinds i) ∙ of_kinds (first i) (layout i) ∙ own_layout i

named_alike : (o : Option Instr) (i j : Instr) → o ≡ Some j → j ≡ i → o ≡ Some i
named_alike o i j e s = e ∙ ap Some s

-- of the rows of an opcode, a slot is of the one of which it is in the table
one_row : (f : Slot) (i : Instr) → Has all_rows i → is_of f (layout i) ≡ true → row_for f (rows_of f.opcode) ≡ Some i
unfolding rows_of
one_row f i there own =
    let code : (f.opcode == (layout i).opcode) ≡ true = grind (arith, nat_tests, (parts_of f (layout i) own).opcode) in
    let s = some_found (λ j. is_of f (layout j)) (rows_of f.opcode) i (has_filtered (λ j. f.opcode == (layout j).opcode) all_rows i there code) own in
    let k = found (λ j. is_of f (layout j)) (rows_of f.opcode) s.0 s.1 in
    let h = filtered (λ j. f.opcode == (layout j).opcode) all_rows s.0 k.0 in
    named_alike (row_for f (rows_of f.opcode)) i s.0 s.1 (one_of f all_rows s.0 i all_apart h.0 there k.1 own)

-- an instruction's first slot is of its row, and of no other
pub row_found : (i : Instr) → row_for (first i) (rows_of (first i).opcode) ≡ Some (row_of i)
row_found i = one_row (first i) (row_of i) (in_table i) (own_row i)

-- ---- the rows of an opcode, and the table

pub in_rows : (n : ℕ) (i : Instr) → Has (rows_of n) i → Has all_rows i × ((n == (layout i).opcode) ≡ true)
unfolding rows_of
in_rows n i h = filtered (λ j. n == (layout j).opcode) all_rows i h

pub no_rows : (n : ℕ) → rows_of n ≡ [] → is_row n ≡ false
unfolding rows_of some_row
no_rows n e = sym (any_filtered (λ j. n == (layout j).opcode) (λ j. n == (layout j).opcode) all_rows (λ x h. h)) ∙ ap (list_any (λ j. n == (layout j).opcode)) e

pub some_rows : (n : ℕ) (i : Instr) → Has (rows_of n) i → is_row n ≡ true
unfolding some_row
some_rows n i h = let k = in_rows n i h in any_has (λ j. n == (layout j).opcode) all_rows i k.0 k.1

pub registers_of_table : (f : Slot) → have_registers f (rows_of f.opcode) ≡ some_row (has_registers_of f)
unfolding rows_of some_row has_registers_of
registers_of_table f = any_filtered (λ j. has_registers_of f (layout j)) (λ j. f.opcode == (layout j).opcode) all_rows
    (λ x h. (and_true _ _ ((and_true _ _ h).0)).0)

pub none_of_table : (f : Slot) → row_for f (rows_of f.opcode) ≡ None → some_row (is_of f) ≡ false
unfolding rows_of some_row is_of
none_of_table f e =
    sym (any_filtered (λ j. is_of f (layout j)) (λ j. f.opcode == (layout j).opcode) all_rows
    (λ x h. (and_true _ _ ((and_true _ _ ((and_true _ _ ((and_true _ _ h).0)).0)).0)).0))
    ∙ not_found (λ j. is_of f (layout j)) (filter (λ j. f.opcode == (layout j).opcode) all_rows) e

-- ---- packet access and the platform

rows_no_packet : list_all (λ i. not (is_packet (layout i).opcode)) all_rows ≡ true
unfolding is_packet
rows_no_packet = refl

not_true : (b : Bool) → not b ≡ true → b ≡ false
not_true false h = refl
not_true true h = absurd (cc)

pub no_packet : (n : ℕ) (i : Instr) → Has (rows_of n) i → is_packet n ≡ false
no_packet n i h =
    let k = in_rows n i h in
    let e : n ≡ (layout i).opcode = eqb-true _ _ k.1 in
    rw e (not_true _ (passes (λ j. not (is_packet (layout j).opcode)) all_rows i rows_no_packet k.0))

rows_no_platform : list_all (λ i. list_all (λ l. not (clash (layout i) l)) platform_layouts) all_rows ≡ true
unfolding platform_layouts
rows_no_platform = refl

-- a slot of a row is none of the platform's
pub no_platform : (f : Slot) (i : Instr) → Has all_rows i → is_of f (layout i) ≡ true → is_of_platform f ≡ false
no_platform f i h o = go (is_of_platform f) refl
  where
    go : (b : Bool) → is_of_platform f ≡ b → is_of_platform f ≡ false
    go false e = e
    go true e =
        let k = any_found (is_of f) platform_layouts e in
        none_of (clash (layout i) k.0) (passes (λ l. not (clash (layout i) l)) platform_layouts k.0
        (passes (λ j. list_all (λ l. not (clash (layout j) l)) platform_layouts) all_rows i rows_no_platform h) k.1) (clashes f (layout i) k.0 o k.2)

-- a number that the second may hold is a register's where the first is read as one
abbrev covers : Field → Field → Bool
covers (Register r) (Register s) = true
covers (Register r) _ = false
covers _ _ = true

covered : (x y : Field) (n : ℕ) → covers x y ≡ true → may_hold y n ≡ true → is_register x n ≡ true
covered (Register r) (Register s) n c h = h
covered (Register r) _ n c h = absurd (cc)
covered _ _ n c h = refl

reads_alike : Layout → Layout → Bool
reads_alike k l = (k.opcode == l.opcode) && covers l.dst k.dst && covers l.src k.src

platform_reads : list_all (λ k. list_any (λ i. reads_alike k (layout i)) all_rows) platform_layouts ≡ true
unfolding platform_layouts reads_alike
platform_reads = refl

registers_alike : (f : Slot) (k l : Layout) → reads_alike k l ≡ true → is_of f k ≡ true → has_registers_of f l ≡ true
unfolding reads_alike has_registers_of
registers_alike f k l r h =
    let p = parts_of f k h in
    let a = and_true _ _ r in
    let b = and_true _ _ a.0 in
    let code : k.opcode ≡ l.opcode = eqb-true _ _ b.0 in
    let e : (f.opcode == l.opcode) ≡ true = grind (arith, nat_tests, code, p.opcode) in
    both _ _ (both _ _ e (covered l.dst k.dst f.dst b.1 p.dst)) (covered l.src k.src f.src a.1 p.src)

pub platform_registers : (f : Slot) → is_of_platform f ≡ true → some_row (has_registers_of f) ≡ true
unfolding some_row
platform_registers f e =
    let k = any_found (is_of f) platform_layouts e in
    let r = any_found (λ j. reads_alike k.0 (layout j)) all_rows
    (passes (λ l. list_any (λ j. reads_alike l (layout j)) all_rows) platform_layouts k.0 platform_reads k.1) in
    any_has (λ j. has_registers_of f (layout j)) all_rows r.0 r.1 (registers_alike f k.0 (layout r.0) r.2 k.2)

-- ---- what a slot's row says of the tests

pub record IsRowOf (f : Slot) (i : Instr) : Type 0 where
  pub has : Has all_rows i
  pub is : IsOf f (layout i)
  pub some : some_row (is_of f) ≡ true
  pub registers : some_row (has_registers_of f) ≡ true
  pub platform : is_of_platform f ≡ false

own_registers : (f : Slot) (l : Layout) → IsOf f l → has_registers_of f l ≡ true
unfolding has_registers_of
own_registers f l p =
    let e : (f.opcode == l.opcode) ≡ true = grind (arith, nat_tests, p.opcode) in
    both _ _ (both _ _ e (holds_register l.dst f.dst p.dst)) (holds_register l.src f.src p.src)

pub row_is : (f : Slot) (i : Instr) → row_for f (rows_of f.opcode) ≡ Some i → IsRowOf f i
unfolding some_row
row_is f i e =
    let k = found (λ j. is_of f (layout j)) (rows_of f.opcode) i e in
    let h = (in_rows f.opcode i k.0).0 in
    let p = parts_of f (layout i) k.1 in
    record {
      has = h;
      is = p;
      some = any_has (λ j. is_of f (layout j)) all_rows i h k.1;
      registers = any_has (λ j. has_registers_of f (layout j)) all_rows i h (own_registers f (layout i) p);
      platform = no_platform f i h k.1;
    }
