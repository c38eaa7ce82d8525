-- An error that is neither help nor out of memory.
use Rattle.std.proofs.Common.{◌≡◌, ℕ, List, Option, refl, inl}
use Rattle.std.proofs.KnownBytes.{Keeps-refl}
use Rattle.clap.specs.declared.error.kind.ErrorKind.{ErrorKind}
use Rattle.clap.specs.declared.error.kind.ErrorKind.TheVariants as kind
use Rattle.agent.specs.ErrorShown.{Shows, ShowsError}
use Rattle.agent.specs.declared.failure.ExitStatus.{ExitStatus}

pub error_shown : (k : ErrorKind) (out before after : Option (List ℕ)) (status : ExitStatus)
    → (k ≡ kind.DisplayHelp → ⊥) → (k ≡ kind.DisplayVersion → ⊥) → (k ≡ kind.OutOfMemory → ⊥)
    → ShowsError before after status → Shows k out out before after status
error_shown kind.DisplayHelp out before after status no_help no_version memory says = absurd (no_help refl)
error_shown kind.DisplayVersion out before after status no_help no_version memory says = absurd (no_version refl)
error_shown kind.OutOfMemory out before after status no_help no_version memory says = absurd (memory refl)
error_shown _ out before after status no_help no_version memory says = inl (Keeps-refl out, says)
