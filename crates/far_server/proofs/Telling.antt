-- What is told of one client more.
use Rattle.std.proofs.Common.{ℕ, List, [], ◌∷◌, ◌++◌, Option, Result, refl, subst}
use Rattle.std.specs.Prelude.{⊤}
use Rattle.far_stream.specs.declared.fault.StreamFault.{StreamFault}
use Rattle.far_server.specs.Told.{End, Tells, TellsEnd, TellsEnds}

-- nothing was told before the first client
pub nothing_told : (known : Option (List ℕ)) → Tells known known
nothing_told known = ([], refl)

ends_next : (ends : List End) (end : End) (before mid after : Option (List ℕ)) → TellsEnds ends before mid → TellsEnd end.client end.outcome mid after
    → TellsEnds (ends ++ end ∷ []) before after
ends_next [] end before mid after same told = (after, subst (λ k. TellsEnd end.client end.outcome k after) same told, refl)
ends_next (e ∷ ends) end before mid after first told = (first.0, first.1, ends_next ends end first.0 mid after first.2 told)

-- and what was told of the next
pub told_next : (client : ℕ) (outcome : Result ⊤ StreamFault) (before mid after : Option (List ℕ)) → Tells before mid
    → TellsEnd client outcome mid after → Tells before after
told_next client outcome before mid after told next =
    let end : End = record { client = client; outcome = outcome } in (told.0 ++ end ∷ [], ends_next told.0 end before mid after told.1 next)
