-- How a word is kept in 64 bits.
use Rattle.std.specs.Prelude.{◌≡◌, ℕ, ◌-◌, ◌*◌, ◌/◌, ◌%◌, ◌<◌, ◌^◌, nat_eq, cond}
use Rattle.pointer_word.specs.declared.word.WordPlace.{WordPlace}
use Rattle.pointer_word.specs.declared.word.WordPlace.TheVariants.{Local, Moving, Far}
use Rattle.pointer_word.specs.Words.{WordRecord}

-- the place of this number; any above 1 is far
abbrev pub place_at : ℕ → WordPlace
place_at n = cond (nat_eq n 0) Local (cond (nat_eq n 1) Moving Far)

-- the fields in the bits of a number
abbrev pub fields_of : ℕ → WordRecord
fields_of n = record {
  place = place_at (n % 4);
  turn = nat_eq (n / 4 % 2) 1;
  hot = nat_eq (n / 8 % 2) 1;
  count = n / 256 % 256;
  stamp = n / 65536;
}

-- the place is one of the three, and bits 4 to 7 are zero
pub record IsWord (n : ℕ) : Type 0 where
  pub placed : n % 4 < 3
  pub reserved : n / 16 % 16 ≡ 0
  pub fits : n < 2 ^ 64

-- the number without the mark that the object is hot
abbrev pub cold_bits : ℕ → ℕ
cold_bits n = n - 8 * (n / 8 % 2)
