-- Bytes written over others.
use Rattle.std.proofs.Common.{◌≡◌, ℕ, ◌-◌, ◌%◌, ◌/◌, ◌<◌, List, [], ◌++◌, length, length-drop, take, drop, set, refl, sym, ◌∙◌, append-nil, bit_and, arith}
use Rattle.std.specs.Int.{bytes_low_first}
use Rattle.std.proofs.lemmas.List.{take-append-drop, take-set, drop-set, drop-drop, drop_all, take_all}
use Rattle.std.proofs.lemmas.Grind.{common_steps}
use borrow.Rule.Slice.PartMut.{put_mid}
use Rattle.memory.specs.Access.{replaced}

pub one_byte : (bytes : List ℕ) (offset x : ℕ) → offset < length bytes → set bytes offset (bit_and x 255) ≡ replaced offset (bytes_low_first 0 1 x) bytes
one_byte bytes o x h =
    let whole : take o (set bytes o (bit_and x 255)) ++ drop o (set bytes o (bit_and x 255)) ≡ set bytes o (bit_and x 255) =
    take-append-drop o (set bytes o (bit_and x 255)) in
    let low : bit_and x 255 ≡ x % 256 = grind (arith, common_steps) in
    sym whole ∙ rw (take-set bytes o (bit_and x 255), drop-set bytes o (bit_and x 255) h, low) refl

-- what a write through the part from o on leaves
pub to_end : (bytes bs new : List ℕ) (o : ℕ) → new ≡ bs ++ drop (length bs) (take (length bytes - o) (drop o bytes))
    → put_mid o (length bytes - o) bytes new ≡ replaced o bs bytes
to_end bytes bs new o e =
    let gone : drop (length bytes - o) (drop o bytes) ≡ [] = drop_all (length bytes - o) (drop o bytes) (omega (arith, length-drop o bytes)) in
    let all : take (length bytes - o) (drop o bytes) ≡ drop o bytes = take_all (length bytes - o) (drop o bytes) (omega (arith, length-drop o bytes)) in
    rw (e, all) (rw (gone, append-nil, drop-drop (length bs) o bytes) refl)

-- the low bytes of a number that was cut to so many bits
pub low_half : (x : ℕ) → bytes_low_first 0 2 (bit_and x 65535) ≡ bytes_low_first 0 2 x
low_half x =
    let cut : bit_and x 65535 ≡ x % 65536 = grind (arith, common_steps) in
    let first : x % 65536 % 256 ≡ x % 256 = omega arith in
    let second : x % 65536 / 256 % 256 ≡ x / 256 % 256 = omega arith in
    rw (cut, first, second) refl

pub low_word : (x : ℕ) → bytes_low_first 0 4 (bit_and x 4294967295) ≡ bytes_low_first 0 4 x
low_word x =
    let cut : bit_and x 4294967295 ≡ x % 4294967296 = grind (arith, common_steps) in
    let first : x % 4294967296 % 256 ≡ x % 256 = omega arith in
    let second : x % 4294967296 / 256 % 256 ≡ x / 256 % 256 = omega arith in
    let third : x % 4294967296 / 65536 % 256 ≡ x / 65536 % 256 = omega arith in
    let fourth : x % 4294967296 / 16777216 % 256 ≡ x / 16777216 % 256 = omega arith in
    rw (cut, first, second, third, fourth) refl
