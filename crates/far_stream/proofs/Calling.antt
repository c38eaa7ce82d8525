-- A call on a stream that isn't broken.
use Rattle.std.proofs.Common.{◌≡◌, sym, subst, None, Err, Result}
use Rattle.std.specs.Prelude.{MatchOption}
use Rattle.far_store.specs.declared.fault.StoreFault.{StoreFault}
use Rattle.far_stream.specs.Client.{UnlessBroken, Client}

pub calls_on : {S A : Type 0} (old : Client S) (result : Result A StoreFault) (new : Client S) (talks : Type 0) → old.broken ≡ None → talks
    → UnlessBroken old result new talks
calls_on old result new talks none t = subst (λ b. MatchOption b talks (λ fault. (result ≡ Err fault) × (new.stream ≡ old.stream)
    × (new.puts ≡ old.puts))) (sym none) t
