-- Options that are numbers, and how a number is read from the matches of a subcommand.
use Rattle.std.specs.Prelude.{◌≡◌, ◌<◌, ℕ, ◌^◌, pos, false, List, [], ◌∷◌, Some, Result, Ok, Err}
use Rattle.std.specs.Str.Parse.{IsNumeral, ParsesUnsigned, digits_value, without_leading_plus}
use Rattle.clap.specs.Words.{Accepts, Row, Rule, Text, new_rule, one_of, without_minus}
use Rattle.clap.specs.declared.builder.value_parser.ValueParser.{ValueParser}
use Rattle.clap.specs.declared.builder.value_parser.ValueParser.TheVariants.{Signed}

-- a number from the one to the other
abbrev pub number_parser : ℕ → ℕ → ValueParser
number_parser least limit = Signed (pos least) (pos limit)

-- An option that is a number from the one to the other, and the text that stands for it where it is left out.
pub record NumberOption : Type 0 where
  pub name : Text
  pub least : ℕ
  pub limit : ℕ
  pub default : Text

-- the same as an argument: `--NAME N`
abbrev pub number_rule : NumberOption → Rule
number_rule o = record (new_rule o.name) { long = Some o.name; value_names = 1; defaults = o.default ∷ []; parser = Some (number_parser o.least o.limit) }

-- These matches have a number of this name, which so many bits hold.
pub record HasNumber (bits : ℕ) (name : Text) (rows : List Row) : Type 0 where
  pub least : ℕ
  pub limit : ℕ
  pub fits : limit < 2 ^ bits
  pub text : Text
  pub accepted : Accepts false (number_parser least limit) text
  pub found : one_of name rows ≡ Some (without_minus text)

-- the text is a number, which so many bits hold
abbrev pub IsWithin : ℕ → Text → Type 0
IsWithin bits text = IsNumeral 10 (without_leading_plus text) × (digits_value 10 (without_leading_plus text) < 2 ^ bits)

-- The result of reading the text as a number of so many bits: its value if the text is such a number, otherwise an error.
abbrev pub ParsesAs : {N E : Type 0} → ℕ → (N → ℕ) → Text → Result N E → Type 0
ParsesAs bits value text (Ok n) = IsWithin bits text × (value n ≡ digits_value 10 (without_leading_plus text))
ParsesAs bits value text (Err error) = ¬ (IsWithin bits text)

-- so Rust's own types read it
pub parses_as : {E : Type 0} (bits : ℕ) (text : Text) (r : Result ℕ E) → ParsesUnsigned bits 10 text r → ParsesAs bits (λ n. n) text r
parses_as bits text (Ok n) parses = parses
parses_as bits text (Err error) parses = parses
