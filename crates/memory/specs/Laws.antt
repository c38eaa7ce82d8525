-- What follows of accesses and objects, in their users' words. The definitions above decide each; none speaks of the code.
use Rattle.std.specs.Prelude.{◌≡◌, ◌≢◌, ℕ, ◌*◌, ◌<◌, false, List, length, get_or}
use Rattle.isa_table.specs.declared.instr.Size.{Size}
use Rattle.isa_table.specs.declared.instr.Width.{Width}
use Rattle.isa_table.specs.declared.instr.AtomicOp.TheVariants.{CompareExchange}
use Rattle.isa_table.specs.Words.{unsigned}
use Rattle.isa_table.specs.Table.{size_bytes, width_bits}
use Rattle.memory.specs.declared.access.Op.{Op}
use Rattle.memory.specs.declared.access.Action.TheVariants.{Load, Store, Atomic}
use Rattle.memory.specs.declared.access.Reach.{Reach}
use Rattle.memory.specs.declared.access.Reach.TheVariants.{Done}
use Rattle.memory.specs.Access.{WritesAt, writes}
use Rattle.memory.specs.Objects.{bytes_of}
use Rattle.memory.specs.MapMemory.{map_reaches}

-- A byte that an access wrote is one of the object's.
abbrev pub WritesAreInside : Type 0
WritesAreInside = (old new : List (List ℕ)) (n : ℕ) (op : Op) (x i : ℕ)
    → map_reaches old n op (Done x) new → WritesAt op x i → i < length (bytes_of old n)

-- A byte that it didn't write is as it was.
abbrev pub OtherBytesStay : Type 0
OtherBytesStay = (old new : List (List ℕ)) (n : ℕ) (op : Op) (x i : ℕ)
    → map_reaches old n op (Done x) new → (WritesAt op x i → ⊥) → get_or (bytes_of new n) i 0 ≡ get_or (bytes_of old n) i 0

-- An access that wrote nothing changes nothing.
abbrev pub UnwrittenStays : Type 0
UnwrittenStays = (old new : List (List ℕ)) (n : ℕ) (op : Op) (x : ℕ)
    → map_reaches old n op (Done x) new → writes op.action x ≡ false → new ≡ old

-- A compare-exchange that finds another number than R0's changes nothing.
abbrev pub FailedExchangesChangeNothing : Type 0
FailedExchangesChangeNothing = (old new : List (List ℕ)) (n offset : ℕ) (width : Width) (src r0 x : ℕ)
    → map_reaches old n (record { offset = offset; action = Atomic width CompareExchange src r0 }) (Done x) new
    → x ≢ unsigned (width_bits width) r0 → new ≡ old

-- An access changes no object but its own.
abbrev pub OtherObjectsStay : Type 0
OtherObjectsStay = (old new : List (List ℕ)) (n k : ℕ) (op : Op) (r : Reach)
    → map_reaches old n op r new → k ≢ n → bytes_of new k ≡ bytes_of old k

-- An access changes no object's length.
abbrev pub LengthsStay : Type 0
LengthsStay = (old new : List (List ℕ)) (n k : ℕ) (op : Op) (r : Reach)
    → map_reaches old n op r new → length (bytes_of new k) ≡ length (bytes_of old k)

-- A load after a store of the same size at the same place gives the number stored, cut to the size.
abbrev pub LoadsWhatWasStored : Type 0
LoadsWhatWasStored = (old mid new : List (List ℕ)) (n offset : ℕ) (size : Size) (value x y : ℕ)
    → map_reaches old n (record { offset = offset; action = Store size value }) (Done x) mid
    → map_reaches mid n (record { offset = offset; action = Load size }) (Done y) new
    → y ≡ unsigned (8 * size_bytes size) value

-- An access has one answer and leaves one state.
abbrev pub AccessesOneWay : Type 0
AccessesOneWay = (old new other : List (List ℕ)) (n : ℕ) (op : Op) (r s : Reach)
    → map_reaches old n op r new → map_reaches old n op s other → (r ≡ s) × (new ≡ other)

-- Two accesses of different objects do the same in either order.
abbrev pub AccessesCommute : Type 0
AccessesCommute = (old mid new : List (List ℕ)) (n m : ℕ) (op other : Op) (r s : Reach)
    → n ≢ m → map_reaches old n op r mid → map_reaches mid m other s new
    → (between : List (List ℕ)) × map_reaches old m other s between × map_reaches between n op r new
