-- Numbers of w bits, unsigned and signed (RFC 9669, section 2.1), and numbers as bytes, the lowest first.
-- A register holds a number below 2 ^ 64.
use Rattle.std.specs.Prelude.{ℕ, ◌+◌, ◌-◌, ◌*◌, ◌/◌, ◌%◌, ◌^◌, ℤ, pos, negsuc, ◌-ℤ◌, nat_lt, if◌then◌else◌, List, [], ◌∷◌}
use Rattle.std.specs.Int.{bytes_low_first}

-- x modulo 2 ^ w
abbrev pub unsigned : ℕ → ℕ → ℕ
unsigned w x = x % 2 ^ w

-- the number from -2 ^ (w - 1) to 2 ^ (w - 1) - 1 with the same remainder as x
abbrev pub signed : ℕ → ℕ → ℤ
signed w x = if nat_lt (unsigned w x) (2 ^ (w - 1)) then pos (unsigned w x) else (pos (unsigned w x) -ℤ pos (2 ^ w))

-- an integer modulo 2 ^ w, from 0 to 2 ^ w - 1; negsuc n is -(n + 1)
abbrev pub wrapped : ℕ → ℤ → ℕ
wrapped w (pos n) = n % 2 ^ w
wrapped w (negsuc n) = 2 ^ w - 1 - n % 2 ^ w

-- the quotient of an integer by m, rounded down
abbrev pub floor_quotient : ℤ → ℕ → ℤ
floor_quotient (pos n) m = pos (n / m)
floor_quotient (negsuc n) m = negsuc (n / m)

-- the number whose bytes these are, the lowest first
abbrev pub number_of : List ℕ → ℕ
number_of [] = 0
number_of (b ∷ bs) = b + 256 * number_of bs

-- the lowest n bytes of x, the lowest first
abbrev pub low_bytes : ℕ → ℕ → List ℕ
low_bytes n x = bytes_low_first 0 n x
