-- Which errors of accepting a client pass, which are the listener's own, and how long whoever accepts clients rests after any other.
use Rattle.std.specs.Prelude.{◌≡◌, ◌⊎◌, ◌*◌, ℕ, min, pos, Some}
use Rattle.std.specs.IoError.{error_kind, raw_os_error}
use Rattle.std.specs.declared.io.Error.{Error}
use Rattle.std.specs.declared.io.ErrorKind.{ErrorKind}
use Rattle.std.specs.declared.io.ErrorKind.TheVariants.{ConnectionAborted, Interrupted}

-- a client went before it was accepted, or a signal came
abbrev pub Passes : ErrorKind → Type 0
Passes kind = (kind ≡ ConnectionAborted) ⊎ (kind ≡ Interrupted)

-- the error has this number of Linux
abbrev pub HasNumber : ℕ → Error → Type 0
HasNumber number error = raw_os_error error ≡ Some (pos number)

-- Nobody can wait for a client at this listener: it isn't open (EBADF), doesn't wait (EAGAIN), doesn't listen (EINVAL) or is no socket (ENOTSOCK).
abbrev pub IsBroken : Error → Type 0
IsBroken error = HasNumber 9 error ⊎ HasNumber 11 error ⊎ HasNumber 22 error ⊎ HasNumber 88 error

-- With these errors accepting ends. After any other it goes on, at once or after a rest.
abbrev pub GivesUp : Error → Type 0
GivesUp error = (¬ (Passes (error_kind error))) × IsBroken error

-- the first rest, and the longest, in milliseconds
abbrev pub first_rest : ℕ
first_rest = 10

abbrev pub longest_rest : ℕ
longest_rest = 1000

-- the rest after this one
abbrev pub next_rest : ℕ → ℕ
next_rest millis = min (millis * 2) longest_rest
