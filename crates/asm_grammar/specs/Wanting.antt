-- What would fit in place of the token of a line that a reason is about.
use Rattle.std.specs.Prelude.{Bool, true, false, List, [], ◌∷◌, if◌then◌else◌}
use Rattle.std.specs.Option.{option_map_or}
use Rattle.asm_text.specs.Tokens.{Lexeme}
use Rattle.asm_text.specs.Tokens.Lexeme.{Comma as Comma_lexeme}
use Rattle.asm_table.specs.declared.mnemonic.Mnemonic.{Mnemonic}
use Rattle.asm_table.specs.declared.mnemonic.Sort.{Sort}
use Rattle.asm_table.specs.Mnemonics.{sorts}
use Rattle.asm_grammar.specs.declared.why.Why.{Why}
use Rattle.asm_grammar.specs.declared.wanted.Wanted.{Wanted}
use Rattle.asm_grammar.specs.declared.wanted.Wanted.TheVariants as fits
use Rattle.asm_grammar.specs.Blame.{passed}
use Rattle.asm_grammar.specs.Grammar.{after_label, has_stray}
use Rattle.asm_grammar.specs.Reading.{mnemonic_at}

-- an operand of this sort, or the comma before it, which only the first has not
abbrev pub wanted_here : Bool → Sort → List Lexeme → Wanted
wanted_here true s ts = fits.Operand s
wanted_here false s (Comma_lexeme ∷ ts) = fits.Operand s
wanted_here false s _ = fits.Comma

-- what would fit at the first of these operands that can't be read or that the reason is about; the line's end where there is none
abbrev pub wanted_from : Why → Bool → List Sort → List Lexeme → Wanted
wanted_from w first [] ts = fits.End
wanted_from w first (s ∷ ss) ts = option_map_or (λ rest. wanted_from w false ss rest) (passed w first s ts) (wanted_here first s ts)

-- the same of what stands after a line's label, or a mnemonic where it begins with none
abbrev pub wanted_in_body : Why → List Lexeme → Wanted
wanted_in_body w ts = option_map_or (λ (x : Mnemonic × List Lexeme). wanted_from w true (sorts x.0) x.1) (mnemonic_at ts) fits.Mnemonic

-- What would fit in place of the token that the reason is about. Where a byte begins no token the reason is about that.
abbrev pub wanted : Why → List Lexeme → Wanted
wanted w ts = if has_stray ts then fits.Token else wanted_in_body w (after_label ts)
