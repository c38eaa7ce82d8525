-- For private functions and proofs alone: which file at the path of a socket may be removed.
use Rattle.std.specs.Prelude.{◌≡◌, Bool, true, Result}
use Rattle.std.specs.Prelude.{IsErrAnd}
use Rattle.std.specs.IoError.{error_kind}
use Rattle.std.specs.declared.io.Error.{Error}
use Rattle.std.specs.declared.io.ErrorKind.TheVariants.{ConnectionRefused}

-- It is a socket, and the system refused to connect to it: nobody listens.
abbrev pub IsDeserted : {S : Type 0} → Bool → Result S Error → Type 0
IsDeserted is_socket connected = (is_socket ≡ true) × IsErrAnd connected (λ error. error_kind error ≡ ConnectionRefused)
