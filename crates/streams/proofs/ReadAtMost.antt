-- Bytes that are read up to a limit: they are the first of the input, or all of it.
use Rattle.std.proofs.Common.{◌≡◌, ℕ, ◌+◌, ◌≤◌, ◌<◌, List, [], ◌∷◌, ◌++◌, length, take, Option, None, Some, IfSome, refl, sym, ap, ◌∙◌, arith, append-nil}
use Rattle.std.proofs.Common.{subst}
use Rattle.std.proofs.lemmas.List.{take_all, length-append}
use Rattle.std.proofs.KnownBytes.{Consumes-trans}
use Rattle.std.specs.Io.KnownBytes.{Consumes, IsAtEnd}
use Rattle.streams.specs.Streams.{ConsumesAtMost}

pub consumes_piece : (limit n : ℕ) (a b c : Option (List ℕ)) (code piece : List ℕ) → length code + length (take n piece) ≤ limit
    → Consumes a b code → Consumes b c (take n piece) → ConsumesAtMost limit a c
consumes_piece limit n a b c code piece fits first next =
    (code ++ take n piece, omega (arith, length-append code (take n piece), fits), Consumes-trans a b c code (take n piece) first next)

take_length : (code rest : List ℕ) → take (length code) (code ++ rest) ≡ code
take_length [] rest = refl
take_length (b ∷ code) rest = ap (λ l. b ∷ l) (take_length code rest)

pub whole_at_limit : (limit : ℕ) (a b : Option (List ℕ)) (code : List ℕ) → length code ≡ limit
    → Consumes a b code → IfSome a (λ input. code ≡ take limit input)
whole_at_limit limit None b code is consumed = tt
whole_at_limit limit (Some input) None code is consumed = absurd consumed
whole_at_limit limit (Some input) (Some rest) code is consumed =
    subst (λ l. code ≡ take limit l) (sym consumed) (subst (λ n. code ≡ take n (code ++ rest)) is (sym (take_length code rest)))

ended_here : (n : ℕ) (b c : Option (List ℕ)) (piece : List ℕ) → n ≡ 0 → Consumes b c (take n piece) → Consumes b c []
ended_here n b c piece is next = subst (λ k. Consumes b c (take k piece)) is next

whole : (limit : ℕ) (a b c : Option (List ℕ)) (code : List ℕ) → length code ≤ limit
    → Consumes a b code → Consumes b c [] → IsAtEnd c → IfSome a (λ input. code ≡ take limit input)
whole limit None b c code fits first next end = tt
whole limit (Some input) None c code fits first next end = absurd first
whole limit (Some input) (Some left) None code fits first next end = absurd next
whole limit (Some input) (Some left) (Some rest) code fits first next end =
    let all : input ≡ code = first ∙ ap (λ l. code ++ l) (next ∙ end) ∙ append-nil code in
    subst (λ l. code ≡ take limit l) (sym all) (sym (take_all limit code fits))

-- a read that took nothing, where there was room, was at the end
pub whole_at_end : (limit n : ℕ) (a b c : Option (List ℕ)) (code piece : List ℕ) → n ≡ 0 → 0 < length piece → length code ≤ limit
    → Consumes a b code → Consumes b c (take n piece) × (n ≡ 0 → 0 < length piece → IsAtEnd c) → IfSome a (λ input. code ≡ take limit input)
whole_at_end limit n a b c code piece is room fits first next = whole limit a b c code fits first (ended_here n b c piece is next.0) (next.1 is room)
