-- The object is that of number 1.
use Rattle.std.proofs.Common.{◌≡◌, ◌≢◌, ℕ, ◌≤◌, zero, suc, List, length, refl, arith}
use Rattle.isa_table.specs.declared.instr.Size.{Size}
use Rattle.isa_table.specs.declared.instr.Size.TheVariants.{Byte, Half, Word, Double}
use Rattle.isa_table.specs.Table.{size_bytes}
use Rattle.memory.specs.declared.access.Op.{Op}
use Rattle.memory.specs.Access.{IsInside, size_of}
use Rattle.memory.specs.Objects.{Reaches, bytes_of}
use Rattle.memory_tests.specs.Singles.{objects_of}

some_bytes : (s : Size) → 1 ≤ size_bytes s
some_bytes Byte = omega arith
some_bytes Half = omega arith
some_bytes Word = omega arith
some_bytes Double = omega arith

pub no_other : (bytes : List ℕ) (n : ℕ) → n ≢ 1 → length (bytes_of (objects_of bytes) n) ≡ 0
no_other bytes zero h = refl
no_other bytes (suc zero) h = absurd (h refl)
no_other bytes (suc (suc n)) h = refl

pub the_one : (bytes : List ℕ) (n : ℕ) → n ≡ 1 → length (bytes_of (objects_of bytes) n) ≡ length bytes
the_one bytes n h = rw h refl

pub not_there : (bytes : List ℕ) (n : ℕ) (op : Op) → n ≢ 1 → Reaches (objects_of bytes) n op → ⊥
not_there bytes n op h i = let k = no_other bytes n h in let s = some_bytes (size_of op.action) in absurd (omega arith)

pub not_inside : (bytes : List ℕ) (n : ℕ) (op : Op) → n ≡ 1 → (IsInside op (length bytes) → ⊥) → Reaches (objects_of bytes) n op → ⊥
not_inside bytes n op h f i = f (rw h at i)

pub ruleset number_steps = (no_other, the_one, not_there, not_inside)
