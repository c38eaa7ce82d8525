-- Frames: requests and answers as bytes. Numbers are big-endian.
use Rattle.std.specs.Prelude.{ℕ, ◌^◌, ◌<◌, List, ◌∷◌, ◌++◌, length}
use Rattle.byteorder.specs.Endian.{big_bytes}

-- the first thirteen bytes of a frame: a request's kind or an answer's status, the id, and how many bytes follow
unfoldable pub head : ℕ → ℕ → ℕ → List ℕ
head kind id count = kind ∷ big_bytes 8 id ++ big_bytes 4 count

-- a frame: the head, and the bytes that it counts
abbrev pub frame : ℕ → ℕ → List ℕ → List ℕ
frame kind id bytes = head kind id (length bytes) ++ bytes

-- how many bytes a head has
abbrev pub head_length : ℕ
head_length = 13

-- what the fields of a head have room for
abbrev pub IsHead : ℕ → ℕ → ℕ → Type 0
IsHead kind id count = (kind < 256) × (id < 2 ^ 64) × (count < 2 ^ 32)

-- how many bytes a frame carries at most
abbrev pub payload_limit : ℕ
payload_limit = 65536

-- the kind of a request that bytes be kept
abbrev pub put_kind : ℕ
put_kind = 1

-- the kind of a request for kept bytes
abbrev pub get_kind : ℕ
get_kind = 2

-- the kind of a request that bytes be kept no more
abbrev pub forget_kind : ℕ
forget_kind = 3

-- the status of an answer: it is done
abbrev pub done : ℕ
done = 0

-- the status of an answer: the id is kept already, or isn't
abbrev pub refused_id : ℕ
refused_id = 1

-- the status of an answer: there is no room
abbrev pub no_room : ℕ
no_room = 2
