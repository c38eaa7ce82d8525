-- Classes of bytes, how long a token is, and the places between the tokens of a line.
use Rattle.std.specs.Prelude.{◌≡◌, ℕ, zero, suc, ◌+◌, ◌==◌, ◌&&◌, ◌||◌, nat_lt, Bool, true, false, if◌then◌else◌, List, [], ◌∷◌, length, drop}
use Rattle.std.specs.Char.{is_ascii_alphabetic, is_ascii_digit, is_ascii_hexdigit}

-- ---- classes of bytes

-- a space or a tab
abbrev pub is_blank : ℕ → Bool
is_blank b = b == 32 || b == 9

-- an ASCII letter or `_`
abbrev pub is_letter : ℕ → Bool
is_letter b = is_ascii_alphabetic b || b == 95

-- a letter or a decimal digit
abbrev pub is_name_byte : ℕ → Bool
is_name_byte b = is_letter b || is_ascii_digit b

-- `#` or `;`
abbrev pub begins_comment : ℕ → Bool
begins_comment b = b == 35 || b == 59

-- a byte below 128
abbrev pub is_ascii : ℕ → Bool
is_ascii b = nat_lt b 128

-- how many bytes at the front are of the class: the longest run
abbrev pub run : (ℕ → Bool) → List ℕ → ℕ
run p [] = 0
run p (b ∷ bs) = if p b then suc (run p bs) else 0

-- ---- one token

-- `x` and a hex digit
abbrev pub begins_hex : List ℕ → Bool
begins_hex [] = false
begins_hex (x ∷ []) = false
begins_hex (x ∷ d ∷ bs) = x == 120 && is_ascii_hexdigit d

-- The length of the token at the front: a letter and all name bytes after it; `0x` and all hex digits after it, at
-- least one; all digits; else one byte.
unfoldable pub word_length : List ℕ → ℕ
word_length [] = 0
word_length (b ∷ bs) =
    if is_letter b then suc (run is_name_byte bs) else
    (if b == 48 && begins_hex bs then suc (suc (run is_ascii_hexdigit (drop 1 bs))) else
    (if is_ascii_digit b then suc (run is_ascii_digit bs) else 1))

-- ---- the places of a line

-- where the token that comes next at this place of a line begins
abbrev pub next_start : ℕ → List ℕ → ℕ
next_start at line = at + run is_blank (drop at line)

-- how long the token at the front of these bytes is; a comment goes to the end
abbrev pub part_length : List ℕ → ℕ
part_length [] = 0
part_length (b ∷ bs) = if begins_comment b then length (b ∷ bs) else word_length (b ∷ bs)

-- where that token ends
abbrev pub next_end : ℕ → List ℕ → ℕ
next_end at line = next_start at line + part_length (drop (next_start at line) line)

-- the place of a line after so many tokens
abbrev pub place_after : ℕ → List ℕ → ℕ
place_after zero line = 0
place_after (suc n) line = next_end (place_after n line) line

-- a place of a line where no token is cut in two: its start, or the end of a token
abbrev pub IsPlace : List ℕ → ℕ → Type 0
IsPlace line at = ∥ ((count : ℕ) × (at ≡ place_after count line)) ∥₁
