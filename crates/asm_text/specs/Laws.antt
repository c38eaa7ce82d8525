-- What of a line makes no difference to its tokens.
use Rattle.std.specs.Prelude.{◌≡◌, ℕ, Bool, true, false, List, [], ◌∷◌, ◌++◌, map, if◌then◌else◌}
use Rattle.std.specs.Char.{digit_value}
use Rattle.std.specs.Str.Parse.{IsNumeral}
use Rattle.asm_text.specs.Tokens.{tokens, run, is_blank, is_name_byte, begins_comment, is_clean, mark_of}

-- no comment begins in these bytes
abbrev pub no_comment : List ℕ → Bool
no_comment [] = true
no_comment (b ∷ bs) = if begins_comment b then false else no_comment bs

-- A word ends where a byte stands that can't be in it.
abbrev pub TokensPart : Type 0
TokensPart = (before after : List ℕ) (b : ℕ) → is_name_byte b ≡ false → no_comment before ≡ true
    → tokens (before ++ b ∷ after) ≡ tokens before ++ tokens (b ∷ after)

-- A mark is a token by itself, whatever stands on its sides: `a:exit` has the tokens of `a: exit`, and `r0,1` those of
-- `r0, 1`. So is a stray byte.
abbrev pub MarksPart : Type 0
MarksPart = (before after : List ℕ) (b : ℕ) → is_name_byte b ≡ false → is_blank b ≡ false → begins_comment b ≡ false → no_comment before ≡ true
    → tokens (before ++ b ∷ after) ≡ tokens before ++ mark_of b ∷ tokens after

-- Where one blank stands, more of them make no difference; nor do those at a line's ends.
abbrev pub BlanksDontMatter : Type 0
BlanksDontMatter = (before after : List ℕ) (b : ℕ) → is_blank b ≡ true → no_comment before ≡ true → tokens (before ++ b ∷ after) ≡ tokens before ++ tokens after

-- A comment makes no difference, unless it isn't ASCII.
abbrev pub CommentsDontMatter : Type 0
CommentsDontMatter = (line comment : List ℕ) (b : ℕ) → begins_comment b ≡ true → no_comment line ≡ true → is_clean comment ≡ true
    → tokens (line ++ b ∷ comment) ≡ tokens line

-- Hex digits of the same values are the same number, whatever their letter case.
abbrev pub HexCaseDoesntMatter : Type 0
HexCaseDoesntMatter = (ds es after : List ℕ) → IsNumeral 16 ds → IsNumeral 16 es → map digit_value ds ≡ map digit_value es → run is_name_byte after ≡ 0
    → tokens (48 ∷ 120 ∷ (ds ++ after)) ≡ tokens (48 ∷ 120 ∷ (es ++ after))
