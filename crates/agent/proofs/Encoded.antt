-- The bytes of the character that stands for a byte above 127.
use Rattle.std.proofs.Common.{◌≡◌, refl, [], ◌∷◌}
use Rattle.std.specs.Char.{encode_utf8}

pub character_128 : encode_utf8 128 ≡ 0xc2 ∷ 0x80 ∷ []
unfolding encode_utf8
character_128 = refl
