-- The tokens of a line of assembly. Text is ASCII; tokens are names, numbers and `: , [ ] + -`, each the longest that fits.
-- Blanks may stand between any two; `#` and `;` begin a comment to the line's end. All of it is this project's choice.
use Rattle.std.specs.Prelude.{◌≡◌, ◌<◌, ℕ, zero, suc, ◌+◌, ◌-◌, ◌^◌, ◌==◌, ◌&&◌, ◌||◌, nat_lt, Bool, true, false, if◌then◌else◌, List, [], ◌∷◌, length, take}
use Rattle.std.specs.Prelude.{drop, get_or, Option, Some, None}
use Rattle.std.specs.Char.{is_ascii_alphabetic, is_ascii_digit, is_ascii_hexdigit}
use Rattle.std.specs.Str.Parse.{digits_value, IsNumeral}
pub use Rattle.asm_text.specs.Places.{is_blank, is_letter, is_name_byte, begins_comment, is_ascii, run, begins_hex, next_start, next_end, IsPlace}
unfoldable pub use Rattle.asm_text.specs.Places.{word_length}
use Rattle.asm_text.specs.declared.cursor.Tokens.{Tokens}
use Rattle.asm_text.specs.declared.token.Fault.{Fault}
use Rattle.asm_text.specs.declared.token.Fault.TheVariants as fault
use Rattle.asm_text.specs.declared.token.Class.{Class}
use Rattle.asm_text.specs.declared.token.Class.TheVariants as class
use Rattle.asm_text.specs.declared.token.Token.{Token}
use Rattle.asm_text.specs.declared.token.Token.TheVariants as token

-- A token. A name has its bytes, a number its value, or nothing where that is above 2^64 - 1. A stray byte begins no token.
pub data Lexeme : Type 0 where
  Name : List ℕ → Lexeme
  Number : Option ℕ → Lexeme
  Colon : Lexeme
  Comma : Lexeme
  Open : Lexeme
  Close : Lexeme
  Plus : Lexeme
  Minus : Lexeme
  Stray : Lexeme

-- what is wrong with a token by itself
abbrev pub fault_in : Lexeme → Option Fault
fault_in Stray = Some fault.Char
fault_in (Number None) = Some fault.Number
fault_in _ = None

-- faults by number
abbrev pub fault_number : Fault → ℕ
fault_number fault.Char = 1
fault_number fault.Number = 2

-- ---- classes of bytes

-- the byte is of the class
abbrev pub in_class : Class → ℕ → Bool
in_class class.Blank b = is_blank b
in_class class.NameByte b = is_name_byte b
in_class class.Digit b = is_ascii_digit b
in_class class.HexDigit b = is_ascii_hexdigit b
in_class class.Ascii b = is_ascii b

-- ---- one token

-- the number, or nothing where it is above 2^64 - 1
abbrev pub bounded : ℕ → Option ℕ
bounded n = if nat_lt n (2 ^ 64) then Some n else None

-- the value of digits, or of `0x` and hex digits; nothing where it is above 2^64 - 1
abbrev pub numeral_value : List ℕ → Option ℕ
numeral_value word = if get_or word 1 0 == 120 then bounded (digits_value 16 (drop 2 word)) else bounded (digits_value 10 word)

-- the token of one byte: one of `: , [ ] + -`, else a stray byte
abbrev pub mark_of : ℕ → Lexeme
mark_of b =
    if b == 58 then Colon else
    (if b == 44 then Comma else
    (if b == 91 then Open else
    (if b == 93 then Close else
    (if b == 43 then Plus else
    (if b == 45 then Minus else Stray)))))

-- the token that the bytes of a token are
unfoldable pub lexeme_of : List ℕ → Lexeme
lexeme_of [] = Stray
lexeme_of (b ∷ bs) =
    if is_letter b then Name (b ∷ bs) else
    (if is_ascii_digit b then Number (numeral_value (b ∷ bs)) else mark_of b)

-- all bytes are ASCII
abbrev pub is_clean : List ℕ → Bool
is_clean bs = run is_ascii bs == length bs

-- a comment is no token, but for a byte that isn't ASCII
abbrev pub comment_of : List ℕ → List Lexeme
comment_of bs = if is_clean bs then [] else Stray ∷ []

-- ---- all tokens

-- The tokens of these bytes, of which the first `inside` are of a token before them.
abbrev pub tokens_past : ℕ → List ℕ → List Lexeme
tokens_past inside [] = []
tokens_past (suc inside) (b ∷ bs) = tokens_past inside bs
tokens_past zero (b ∷ bs) =
    if is_blank b then tokens_past 0 bs else
    (if begins_comment b then comment_of bs else
    lexeme_of (take (word_length (b ∷ bs)) (b ∷ bs)) ∷ tokens_past (word_length (b ∷ bs) - 1) bs)

-- the tokens of a line
abbrev pub tokens : List ℕ → List Lexeme
tokens line = tokens_past 0 line

-- The bytes of a line from start to end are the first of these tokens, with which the line ends.
abbrev pub IsFirstOf : List Lexeme → List ℕ → ℕ → ℕ → Type 0
IsFirstOf ts line start end = (at : ℕ) × IsPlace line at × (tokens (drop at line) ≡ ts) × (start ≡ next_start at line) × (end ≡ next_end at line)

-- ---- the code's values

-- what a token of the code is
abbrev pub lexeme_seen : Token → Lexeme
lexeme_seen (token.Name w) = Name w.now
lexeme_seen (token.Number n) = Number n
lexeme_seen token.Colon = Colon
lexeme_seen token.Comma = Comma
lexeme_seen token.Open = Open
lexeme_seen token.Close = Close
lexeme_seen token.Plus = Plus
lexeme_seen token.Minus = Minus
lexeme_seen token.Stray = Stray

-- the tokens that are still to be read
abbrev pub lexemes_left : Tokens → List Lexeme
lexemes_left t = tokens (drop t.at t.line.now)

-- the bytes of a number
abbrev pub IsNumberToken : List ℕ → Type 0
IsNumberToken word = ((get_or word 1 0 == 120) ≡ true → IsNumeral 16 (drop 2 word)) × ((get_or word 1 0 == 120) ≡ false → IsNumeral 10 word)

-- the bytes of a token
abbrev pub IsToken : List ℕ → Type 0
IsToken word = (0 < length word) × (is_ascii_digit (get_or word 0 0) ≡ true → IsNumberToken word)
