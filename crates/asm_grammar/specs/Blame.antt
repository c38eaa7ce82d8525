-- Which token of a line a reason against it is about.
use Rattle.std.specs.Prelude.{Bool, true, false, List, [], ◌∷◌, Option, Some, None, option_and_then, if◌then◌else◌}
use Rattle.std.specs.Option.{option_map_or}
use Rattle.asm_text.specs.Tokens.{Lexeme}
use Rattle.asm_text.specs.Tokens.Lexeme.{Number, Comma, Stray}
use Rattle.asm_table.specs.declared.mnemonic.Mnemonic.{Mnemonic}
use Rattle.asm_table.specs.declared.mnemonic.Sort.{Sort}
use Rattle.asm_table.specs.Mnemonics.{sorts}
use Rattle.asm_grammar.specs.declared.why.Why.{Why}
use Rattle.asm_grammar.specs.declared.why.Why.TheVariants as why
use Rattle.asm_grammar.specs.Writing.{Written}
use Rattle.asm_grammar.specs.Sorts.{Taken, operand_taken}
use Rattle.asm_grammar.specs.Sorts.Taken.{No, Out, To, LongTo}
use Rattle.asm_grammar.specs.Grammar.{after_label, has_stray}
use Rattle.asm_grammar.specs.Reading.{next_operand, mnemonic_at}

-- the reason may be about an operand that is taken so
abbrev pub is_about : Why → Taken → Bool
is_about why.Operand No = true
is_about why.Range Out = true
is_about why.Label (To w) = true
is_about why.Label (LongTo w) = true
is_about _ _ = false

-- the tokens after the comma at the front, which stands before each operand but the first
abbrev pub past_comma : Bool → List Lexeme → List Lexeme
past_comma false (Comma ∷ ts) = ts
past_comma _ ts = ts

-- the tokens after the operand at the front, where it can be read and the reason isn't about it
unfoldable pub passed : Why → Bool → Sort → List Lexeme → Option (List Lexeme)
passed w first s ts = option_and_then (λ (x : Written × List Lexeme). if is_about w (operand_taken s x.0) then None else Some x.1) (next_operand first ts)

-- The tokens from that operand on which the reason is about, or which can't be read, else those after the last operand.
abbrev pub operand_from : Why → Bool → List Sort → List Lexeme → List Lexeme
operand_from w first [] ts = ts
operand_from w first (s ∷ ss) ts = option_map_or (λ rest. operand_from w false ss rest) (passed w first s ts) (past_comma first ts)

-- the same of what stands after a line's label, or all of it where it begins with no mnemonic
abbrev pub in_body : Why → List Lexeme → List Lexeme
in_body w ts = option_map_or (λ (x : Mnemonic × List Lexeme). operand_from w true (sorts x.0) x.1) (mnemonic_at ts) ts

-- a number, or else a stray byte
abbrev pub is_sought : Bool → Lexeme → Bool
is_sought true (Number n) = true
is_sought false Stray = true
is_sought numbers t = false

-- the tokens from the first one on that is sought
abbrev pub first_from : Bool → List Lexeme → List Lexeme
first_from numbers [] = []
first_from numbers (t ∷ ts) = if is_sought numbers t then t ∷ ts else first_from numbers ts

-- The tokens from that one on which the reason is about; none where it is that the line ends too early. Word is about a
-- stray byte, or what should be a mnemonic; Operand about an operand's beginning, or what follows the operands; Range about
-- a number; Label about the label that is used; TwiceLabel about the line's own; TooLong about the mnemonic.
abbrev pub blamed : Why → List Lexeme → List Lexeme
blamed why.Word ts = if has_stray ts then first_from false ts else after_label ts
blamed why.Operand ts = in_body why.Operand (after_label ts)
blamed why.Range ts = first_from true (in_body why.Range (after_label ts))
blamed why.Label ts = in_body why.Label (after_label ts)
blamed why.TwiceLabel ts = ts
blamed why.TooLong ts = after_label ts
blamed why.Memory ts = ts
