-- Which calls a conversation makes of its reader and its writer, and in which order.
use Rattle.std.specs.Prelude.{◌≡◌, ℕ, ◌+◌, ◌<◌, Bool, true, false, IsTrue, nat_eq, List, [], ◌∷◌, ◌++◌, length, map, count_by, ◌⊎◌, ⊤, Result, Ok, Err, codes}
use Rattle.console.specs.Lines.{ended}
use Rattle.console.specs.declared.fault.DriveFault.{DriveFault}
use Rattle.console.specs.declared.fault.DriveFault.TheVariants as drive

-- A call: a read that gave these bytes, none where the input has ended; a read that failed; a line that was written whole; a
-- line of which not all could be written.
pub data StreamCall : Type 0 where
  ReadGave : List ℕ → StreamCall
  ReadFailed : StreamCall
  LineWritten : List ℕ → StreamCall
  LineBroken : List ℕ → StreamCall

-- the calls, one after the other, where it is known what each may make of the reader and the writer
abbrev pub StreamCalls : {R W : Type 0} → (R → W → StreamCall → R → W → Type 0) → R → W → List StreamCall → R → W → Type 0
StreamCalls {R} {W} called reader writer [] reader_after writer_after = (reader_after ≡ reader) × (writer_after ≡ writer)
StreamCalls {R} {W} called reader writer (call ∷ calls) reader_after writer_after =
    (next_reader : R) × (next_writer : W) × called reader writer call next_reader next_writer
    × StreamCalls called next_reader next_writer calls reader_after writer_after

-- how many lines end in these bytes
abbrev pub line_ends : List ℕ → ℕ
line_ends bytes = count_by (λ b. nat_eq b 10) bytes

-- how many whole lines wait for their reply: the one that the console holds
abbrev pub lines_waiting : Bool → ℕ
lines_waiting true = 1
lines_waiting false = 0

-- Rounds of a conversation: first the reply to the line that waited, if one did; then so many times a read that gives
-- something, and for each line that ends in what came its reply. So no read is called while a whole line waits.
pub data Rounds (waits : Bool) : ℕ → List StreamCall → Type 0 where
  Start : (replies : List (List ℕ)) → length replies ≡ lines_waiting waits → Rounds waits 0 (map LineWritten replies)
  Round : (reads : ℕ) (calls : List StreamCall) (bytes : List ℕ) (replies : List (List ℕ)) → Rounds waits reads calls → 0 < length bytes
      → length replies ≡ line_ends bytes
      → Rounds waits (reads + 1) (calls ++ ReadGave bytes ∷ map LineWritten replies)

-- What comes before a line that could not be written whole: nothing, where a line waited; rounds and a read, with the replies
-- to some lines that end in what came, and not to all; or rounds and the end of the input, where the line is `cut`.
pub data UpToABreak (waits : Bool) : List StreamCall → Type 0 where
  AtOnce : IsTrue waits → UpToABreak waits []
  InARound : (reads : ℕ) (calls : List StreamCall) (bytes : List ℕ) (replies : List (List ℕ)) → Rounds waits reads calls → length replies < line_ends bytes
      → UpToABreak waits (calls ++ ReadGave bytes ∷ map LineWritten replies)
  AtTheEnd : (reads : ℕ) (calls : List StreamCall) → Rounds waits reads calls → UpToABreak waits (calls ++ ReadGave [] ∷ [])

-- after so many reads that gave bytes a conversation gives up
abbrev pub read_limit : ℕ
read_limit = 18446744073709551615

-- How the calls of a conversation end: with a read that gives nothing, and `cut` where bytes without a line end came last; with
-- a read that failed, or with the last read that is made; with a line that could not be written whole.
abbrev pub EndsCalls : Bool → Result ⊤ DriveFault → List StreamCall → Type 0
EndsCalls waits (Ok done) calls = (reads : ℕ) × (before : List StreamCall) × Rounds waits reads before
    × ((calls ≡ before ++ ReadGave [] ∷ []) ⊎ (calls ≡ before ++ ReadGave [] ∷ LineWritten (ended (codes "cut")) ∷ []))
EndsCalls waits (Err drive.Read) calls = (reads : ℕ) × (before : List StreamCall) × Rounds waits reads before
    × ((calls ≡ before ++ ReadFailed ∷ []) ⊎ ((calls ≡ before) × (reads ≡ read_limit)))
EndsCalls waits (Err drive.Write) calls = (before : List StreamCall) × UpToABreak waits before × ((line : List ℕ) × (calls ≡ before ++ LineBroken line ∷ []))
