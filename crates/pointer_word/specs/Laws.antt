-- What follows of the definitions of words. None of it speaks of the code.
use Rattle.std.specs.Prelude.{◌≡◌, ◌<◌, true, None}
use Rattle.pointer_word.specs.Words.{WordRecord, HasFields, word_number, leaving}

-- A number is that of one word.
abbrev pub OneNumber : Type 0
OneNumber = (v w : WordRecord) → HasFields v → HasFields w → word_number v ≡ word_number w → v ≡ w

-- An object on which a scope is open, or whose turn is taken, doesn't begin to leave.
abbrev pub ScopesKeepObjectsHere : Type 0
ScopesKeepObjectsHere = (w : WordRecord) → (0 < w.count → leaving w ≡ None) × (w.turn ≡ true → leaving w ≡ None)
