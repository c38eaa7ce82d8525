-- The list of rows has each row once.
use Rattle.std.proofs.Common.{◌≡◌, ◌≢◌, ℕ, zero, suc, ◌+◌, ◌*◌, ◌<◌, Bool, true, false, if◌then◌else◌, List, [], ◌∷◌, length, get_or, map, ◌&&◌, ◌==◌, refl, ap}
use Rattle.std.proofs.Common.{sym, ◌∙◌, arith, pos}
use Rattle.std.specs.Prelude.{All, AllPairs, Contains, nat_lt, slice_index_or}
use Rattle.std.proofs.lemmas.Bool.{eqb-true, ltb-true}
use Rattle.std.proofs.lemmas.List.{get_or-map}
use Rattle.isa_table.specs.declared.instr.Instr.{Instr}
use Rattle.isa_table.specs.declared.instr.Instr.TheVariants.{Alu, Neg, MovSx8, MovSx16, MovSx32, End, Jump, Ja, JaLong, CallHelper, CallLocal, Exit, Load}
use Rattle.isa_table.specs.declared.instr.Instr.TheVariants.{LoadSigned, Store, Atomic, LoadImm64}
use Rattle.isa_table.specs.declared.instr.Binary.{Binary}
use Rattle.isa_table.specs.declared.instr.Binary.TheVariants.{Add, Sub, Mul, Div, SDiv, Or, And, Lsh, Rsh, Mod, SMod, Xor, Mov, Arsh}
use Rattle.isa_table.specs.declared.instr.Cond.{Cond}
use Rattle.isa_table.specs.declared.instr.Cond.TheVariants.{Eq, Gt, Ge, Set, Ne, SGt, SGe, Lt, Le, SLt, SLe}
use Rattle.isa_table.specs.declared.instr.Order.{Order}
use Rattle.isa_table.specs.declared.instr.Order.TheVariants.{Little, Big, Swapped}
use Rattle.isa_table.specs.declared.instr.Width.{Width}
use Rattle.isa_table.specs.declared.instr.Width.TheVariants.{W32, W64}
use Rattle.isa_table.specs.declared.instr.SwapWidth.{SwapWidth}
use Rattle.isa_table.specs.declared.instr.SwapWidth.TheVariants as swap_width
use Rattle.isa_table.specs.declared.instr.Size.{Size}
use Rattle.isa_table.specs.declared.instr.Size.TheVariants as size
use Rattle.isa_table.specs.declared.instr.SignedSize.{SignedSize}
use Rattle.isa_table.specs.declared.instr.SignedSize.TheVariants as signed_size
use Rattle.isa_table.specs.declared.instr.AtomicOp.{AtomicOp}
use Rattle.isa_table.specs.declared.instr.AtomicOp.TheVariants as atomic_op
use Rattle.isa_table.specs.declared.instr.Reg.TheVariants.{R0, R1}
use Rattle.isa_table.specs.declared.instr.Operand.{Operand}
use Rattle.isa_table.specs.declared.instr.Operand.TheVariants.{Imm, Register}
use Rattle.isa_table.specs.declared.row_list.TheConstants.{ROWS}
use Rattle.isa_table.specs.Rows.{row_of, row_operand}

-- ---- a number for each row

abbrev binary_key : Binary → ℕ
binary_key Add = 0
binary_key Sub = 1
binary_key Mul = 2
binary_key Div = 3
binary_key SDiv = 4
binary_key Or = 5
binary_key And = 6
binary_key Lsh = 7
binary_key Rsh = 8
binary_key Mod = 9
binary_key SMod = 10
binary_key Xor = 11
binary_key Mov = 12
binary_key Arsh = 13

abbrev operand_key : Operand → ℕ
operand_key (Imm z) = 0
operand_key (Register s) = 1

abbrev width_key : Width → ℕ
width_key W32 = 0
width_key W64 = 1

abbrev order_key : Order → ℕ
order_key Little = 0
order_key Big = 1
order_key Swapped = 2

abbrev swap_width_key : SwapWidth → ℕ
swap_width_key swap_width.W16 = 0
swap_width_key swap_width.W32 = 1
swap_width_key swap_width.W64 = 2

abbrev cond_key : Cond → ℕ
cond_key Eq = 0
cond_key Gt = 1
cond_key Ge = 2
cond_key Set = 3
cond_key Ne = 4
cond_key SGt = 5
cond_key SGe = 6
cond_key Lt = 7
cond_key Le = 8
cond_key SLt = 9
cond_key SLe = 10

abbrev size_key : Size → ℕ
size_key size.Byte = 0
size_key size.Half = 1
size_key size.Word = 2
size_key size.Double = 3

abbrev signed_key : SignedSize → ℕ
signed_key signed_size.Byte = 0
signed_key signed_size.Half = 1
signed_key signed_size.Word = 2

abbrev atomic_key : AtomicOp → ℕ
atomic_key atomic_op.Add = 0
atomic_key atomic_op.Or = 1
atomic_key atomic_op.And = 2
atomic_key atomic_op.Xor = 3
atomic_key atomic_op.FetchAdd = 4
atomic_key atomic_op.FetchOr = 5
atomic_key atomic_op.FetchAnd = 6
atomic_key atomic_op.FetchXor = 7
atomic_key atomic_op.Exchange = 8
atomic_key atomic_op.CompareExchange = 9

abbrev key : Instr → ℕ
key (Alu w op d s) = 100 + 40 * width_key w + 20 * operand_key s + binary_key op
key (Neg w d) = 200 + width_key w
key (MovSx8 w d s) = 300 + width_key w
key (MovSx16 w d s) = 400 + width_key w
key (MovSx32 d s) = 500
key (End order w d) = 600 + 3 * order_key order + swap_width_key w
key (Jump w c d s o) = 700 + 40 * width_key w + 20 * operand_key s + cond_key c
key (Ja o) = 800
key (JaLong o) = 900
key (CallHelper id) = 1000
key (CallLocal o) = 1100
key Exit = 1200
key (Load z d s o) = 1300 + size_key z
key (LoadSigned z d s o) = 1400 + signed_key z
key (Store z d s o) = 1500 + 4 * operand_key s + size_key z
key (Atomic w op d s o) = 1600 + 10 * width_key w + atomic_key op
key (LoadImm64 d v) = 1700

-- ---- no row is missing

-- where the first row with the number stands
abbrev place_in : List Instr → ℕ → ℕ
place_in [] n = 0
place_in (x ∷ xs) n = if key x == n then 0 else suc (place_in xs n)

abbrev place : Instr → ℕ
place i = place_in ROWS (key i)

-- the row stands in the list
abbrev IsListed : Instr → Type 0
IsListed i = (nat_lt (place i) (length ROWS) ≡ true) × (slice_index_or ROWS (place i) i ≡ i)

alu_listed : (w : Width) (op : Binary) (s : Operand) → IsListed (Alu w op R0 (row_operand s))
alu_listed W32 Add (Imm z) = (refl, refl)
alu_listed W32 Add (Register s) = (refl, refl)
alu_listed W64 Add (Imm z) = (refl, refl)
alu_listed W64 Add (Register s) = (refl, refl)
alu_listed W32 _ (Imm z) = (refl, refl)
alu_listed W32 _ (Register s) = (refl, refl)
alu_listed W64 _ (Imm z) = (refl, refl)
alu_listed W64 _ (Register s) = (refl, refl)

jump_listed : (w : Width) (c : Cond) (s : Operand) → IsListed (Jump w c R0 (row_operand s) (pos 0))
jump_listed W32 Eq (Imm z) = (refl, refl)
jump_listed W32 Eq (Register s) = (refl, refl)
jump_listed W64 Eq (Imm z) = (refl, refl)
jump_listed W64 Eq (Register s) = (refl, refl)
jump_listed W32 _ (Imm z) = (refl, refl)
jump_listed W32 _ (Register s) = (refl, refl)
jump_listed W64 _ (Imm z) = (refl, refl)
jump_listed W64 _ (Register s) = (refl, refl)

end_listed : (order : Order) (w : SwapWidth) → IsListed (End order w R0)
end_listed Little swap_width.W16 = (refl, refl)
end_listed Little _ = (refl, refl)
end_listed Big swap_width.W16 = (refl, refl)
end_listed Big _ = (refl, refl)
end_listed Swapped swap_width.W16 = (refl, refl)
end_listed Swapped _ = (refl, refl)

store_listed : (z : Size) (s : Operand) → IsListed (Store z R0 (row_operand s) (pos 0))
store_listed size.Byte (Imm z) = (refl, refl)
store_listed size.Byte (Register s) = (refl, refl)
store_listed _ (Imm z) = (refl, refl)
store_listed _ (Register s) = (refl, refl)

atomic_listed : (w : Width) (op : AtomicOp) → IsListed (Atomic w op R0 R1 (pos 0))
atomic_listed W32 atomic_op.Add = (refl, refl)
atomic_listed W32 _ = (refl, refl)
atomic_listed W64 atomic_op.Add = (refl, refl)
atomic_listed W64 _ = (refl, refl)

-- the rows that one width or size tells apart
neg_listed : (w : Width) → IsListed (Neg w R0)
neg_listed W32 = (refl, refl)
neg_listed W64 = (refl, refl)

mov_sx8_listed : (w : Width) → IsListed (MovSx8 w R0 R1)
mov_sx8_listed W32 = (refl, refl)
mov_sx8_listed W64 = (refl, refl)

mov_sx16_listed : (w : Width) → IsListed (MovSx16 w R0 R1)
mov_sx16_listed W32 = (refl, refl)
mov_sx16_listed W64 = (refl, refl)

load_listed : (z : Size) → IsListed (Load z R0 R1 (pos 0))
load_listed size.Byte = (refl, refl)
load_listed _ = (refl, refl)

load_signed_listed : (z : SignedSize) → IsListed (LoadSigned z R0 R1 (pos 0))
load_signed_listed signed_size.Byte = (refl, refl)
load_signed_listed _ = (refl, refl)

row_listed : (i : Instr) → IsListed (row_of i)
row_listed (Alu w op d s) = alu_listed w op s
row_listed (Neg w d) = neg_listed w
row_listed (MovSx8 w d s) = mov_sx8_listed w
row_listed (MovSx16 w d s) = mov_sx16_listed w
row_listed (MovSx32 d s) = (refl, refl)
row_listed (End order w d) = end_listed order w
row_listed (Jump w c d s o) = jump_listed w c s
row_listed (Load z d s o) = load_listed z
row_listed (LoadSigned z d s o) = load_signed_listed z
row_listed (Store z d s o) = store_listed z s
row_listed (Atomic w op d s o) = atomic_listed w op
row_listed _ = (refl, refl)

pub rows_complete : (i : Instr) → Contains ROWS (row_of i)
rows_complete i = let r = row_listed i in (place (row_of i), ltb-true _ _ (r.0), r.1)

-- ---- each element is a row

rows_are_rows : map row_of ROWS ≡ ROWS
rows_are_rows = refl

pub rows_only : All (λ i. row_of i ≡ i) ROWS
rows_only k d h = sym (get_or-map row_of ROWS k d d h) ∙ ap (λ l. get_or l k d) rows_are_rows

-- ---- no row stands twice: the numbers rise, since each row is the first with its own number

-- each element from the place k on passes the test with its place
abbrev pass_from : (ℕ → Instr → Bool) → ℕ → List Instr → Bool
pass_from t k [] = true
pass_from t k (x ∷ xs) = t k x && pass_from t (suc k) xs

pub and_true : (a b : Bool) → (a && b) ≡ true → (a ≡ true) × (b ≡ true)
and_true true b h = (refl, h)
and_true false b h = absurd (cc)

passes_at : (t : ℕ → Instr → Bool) (i : ℕ) (xs : List Instr) → pass_from t i xs ≡ true → (k : ℕ) (d : Instr) → k < length xs → t (i + k) (get_or xs k d) ≡ true
passes_at t i [] h k d p = absurd (omega (arith, p))
passes_at t i (x ∷ xs) h zero d p = let e : i + 0 ≡ i = omega arith in rw e ((and_true _ _ h).0)
passes_at t i (x ∷ xs) h (suc k) d p =
    let e : i + suc k ≡ suc i + k = omega arith in
    rw e (passes_at t (suc i) xs ((and_true _ _ h).1) k d (omega (arith, p)))

abbrev is_place : ℕ → Instr → Bool
is_place k i = place i == k

all_at_place : pass_from is_place 0 ROWS ≡ true
all_at_place = refl

place_of : (k : ℕ) (d : Instr) → k < length ROWS → place (slice_index_or ROWS k d) ≡ k
place_of k d h = let e : 0 + k ≡ k = omega arith in eqb-true _ _ (rw e at (passes_at is_place 0 ROWS all_at_place k d h))

pub rows_once : AllPairs (λ i j. i ≢ j) ROWS
rows_once i j d less within same =
    let a = place_of i d (omega (arith, less, within)) in
    let b = place_of j d within in
    let e : i ≡ j = sym a ∙ ap place same ∙ b in
    absurd (omega (arith, less, e))
