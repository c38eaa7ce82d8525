-- The reasons against a text, by number and name.
use Rattle.std.specs.Prelude.{ℕ, List, codes}
use Rattle.asm_grammar.specs.declared.why.Why.{Why}
use Rattle.asm_grammar.specs.declared.why.Why.TheVariants as why

-- reasons by number
abbrev pub why_number : Why → ℕ
why_number why.Word = 1
why_number why.Operand = 2
why_number why.Range = 3
why_number why.Label = 4
why_number why.TwiceLabel = 5
why_number why.TooLong = 6
why_number why.Memory = 7

-- reasons by name
abbrev pub why_name : Why → List ℕ
why_name why.Word = codes "Word"
why_name why.Operand = codes "Operand"
why_name why.Range = codes "Range"
why_name why.Label = codes "Label"
why_name why.TwiceLabel = codes "TwiceLabel"
why_name why.TooLong = codes "TooLong"
why_name why.Memory = codes "Memory"
