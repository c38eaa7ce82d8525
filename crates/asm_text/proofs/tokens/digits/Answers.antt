use Rattle.std.proofs.lemmas.Str.{IsUtf8-from_ascii}
use Rattle.asm_text.proofs.Digits.{ascii_digits}
use Rattle.asm_text.proofs.tokens.digits.Goals as goal

pub returns-in-Err : goal.returns-in-Err
returns-in-Err c = absurd (c.in-Err.ensures.cases.0 (IsUtf8-from_ascii _ (ascii_digits _ _ c.requires.high c.requires.numeral.1)))
