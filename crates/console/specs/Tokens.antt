-- The tokens of a line: a name, and after it numbers and hex text.
use Rattle.std.specs.Prelude.{◌≡◌, ℕ, ◌<◌, ◌≤◌, ◌^◌, ◌==◌, List, [], ◌∷◌, ◌++◌, length, get_or, codes, ◌⊎◌, Option, Some, None, Ok}
use Rattle.std.specs.List.{slice_split}
use Rattle.std.specs.Str.Parse.{IsNumeral, digits_value}
use Rattle.hex.specs.Hex.{decode_of}
use denote.Ref.{Bor}
use Rattle.console.specs.declared.kind.Limits.{Limits}
use Rattle.console.specs.declared.tokens.Tokens.{Tokens}

-- the tokens of a line, separated by one space each
abbrev pub tokens_of : List ℕ → List (List ℕ)
tokens_of line = slice_split (λ b. b == 32) line

-- decimal without leading zeros, or `0x` and one to sixteen hex digits of either case; at most 2^64 - 1
abbrev pub IsNumber : List ℕ → ℕ → Type 0
IsNumber token n = (n < 2 ^ 64)
    × ((IsNumeral 10 token × (get_or token 0 0 ≡ 48 → length token ≡ 1) × (digits_value 10 token ≡ n))
    ⊎ ((digits : List ℕ) × (token ≡ codes "0x" ++ digits) × IsNumeral 16 digits × (length digits ≤ 16) × (digits_value 16 digits ≡ n)))

-- from the one to the other, both included
abbrev pub within : ℕ → ℕ → Limits
within least most = record { least = least; most = most }

-- the number is within the limits
abbrev pub IsWithin : Limits → ℕ → Type 0
IsWithin limits n = (limits.least ≤ n) × (n ≤ limits.most)

-- a number within these limits
abbrev pub IsNumberWithin : Limits → List ℕ → ℕ → Type 0
IsNumberWithin limits token n = IsNumber token n × IsWithin limits n

-- two hex digits of either case for each byte, and at least one byte
abbrev pub IsHex : List ℕ → List ℕ → Type 0
IsHex token bytes = (0 < length bytes) × (decode_of token ≡ Ok bytes)

-- the first tokens are these numbers, one for each of the limits and within them, and the rest are the other tokens
abbrev pub AreNumbers : List Limits → List (List ℕ) → List ℕ → List (List ℕ) → Type 0
AreNumbers [] tokens [] rest = rest ≡ tokens
AreNumbers (limits ∷ more) (token ∷ tokens) (n ∷ numbers) rest = IsNumberWithin limits token n × AreNumbers more tokens numbers rest
AreNumbers _ _ _ _ = ⊥

-- where there may be bytes, at most so many, the first token is their hex text; the rest are the other tokens
abbrev pub AreBytes : Option ℕ → List (List ℕ) → List ℕ → List (List ℕ) → Type 0
AreBytes (Some most) tokens bytes rest = (token : List ℕ) × (tokens ≡ token ∷ rest) × IsHex token bytes × (length bytes ≤ most)
AreBytes None tokens bytes rest = (rest ≡ tokens) × (bytes ≡ [])

-- the tokens of the rest of a line; none where there is no rest
abbrev pub left_of : Option (Bor (List ℕ)) → List (List ℕ)
left_of None = []
left_of (Some rest) = tokens_of rest.now

-- the tokens that are still to be read
abbrev pub tokens_left : Tokens → List (List ℕ)
tokens_left tokens = left_of tokens.rest
