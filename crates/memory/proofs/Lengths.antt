-- Accesses keep lengths.
use Rattle.std.proofs.Common.{◌≡◌, ℕ, ◌+◌, ◌≤◌, zero, suc, List, [], ◌∷◌, ◌++◌, length, take, drop, get_or, set, Option, Some, None, refl, length-append}
use Rattle.std.proofs.Common.{length-take, length-drop, arith}
use Rattle.byteorder.specs.Numbers.{length-bytes_low_first}
use Rattle.isa_table.specs.Words.{low_bytes}
use Rattle.memory.specs.declared.access.Op.{Op}
use Rattle.memory.specs.Access.{IsInside, count_of, old_number, number_put, replaced, with_number, after}

pub length-replaced : (o : ℕ) (new bytes : List ℕ) → o + length new ≤ length bytes → length (replaced o new bytes) ≡ length bytes
length-replaced o new bytes h =
    let whole = length-append (take o bytes) (new ++ drop (o + length new) bytes) in
    let rest = length-append new (drop (o + length new) bytes) in
    let front = length-take o bytes in
    let back = length-drop (o + length new) bytes in
    omega arith

length-with_number : (o n : ℕ) (v : Option ℕ) (bytes : List ℕ) → o + n ≤ length bytes → length (with_number o n v bytes) ≡ length bytes
length-with_number o n None bytes h = refl
length-with_number o n (Some x) bytes h = let e = length-bytes_low_first 0 n x in length-replaced o (low_bytes n x) bytes (omega arith)

pub length-after : (op : Op) (bytes : List ℕ) → IsInside op (length bytes) → length (after op bytes) ≡ length bytes
length-after op bytes h = length-with_number op.offset (count_of op) (number_put op.action (old_number op bytes)) bytes h

pub length-set_at : (objects : List (List ℕ)) (n k : ℕ) (b : List ℕ) → length b ≡ length (get_or objects n [])
    → length (get_or (set objects n b) k []) ≡ length (get_or objects k [])
length-set_at [] n k b h = refl
length-set_at (x ∷ xs) zero zero b h = h
length-set_at (x ∷ xs) zero (suc k) b h = refl
length-set_at (x ∷ xs) (suc n) zero b h = refl
length-set_at (x ∷ xs) (suc n) (suc k) b h = length-set_at xs n k b h
