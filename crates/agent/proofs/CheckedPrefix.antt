-- What is found about the longest valid code and one byte more is found about the whole input.
use Rattle.std.proofs.Common.{◌≡◌, ℕ, ◌+◌, ◌≤◌, ◌<◌, List, [], ◌∷◌, length, take, subst, ap, refl, arith, Option, None, Some, IfSome, Result, Ok, Err}
use Rattle.std.proofs.lemmas.List.{length-take, take_all}
use Rattle.loader.specs.Refusals.{Refuses}
use Rattle.loader.specs.declared.loading.Why.{Why}
use Rattle.loader.specs.declared.loading.Why.TheVariants as why
use Rattle.agent.specs.CheckLeaves.{Finds}
use Rattle.agent.specs.declared.failure.Failure.{Failure}
use Rattle.agent.specs.declared.failure.Failure.TheVariants.{Refused, WrongLine, InputTooLong, Read, Write, NoMemory}

pub short : (n limit : ℕ) (input : List ℕ) → limit ≡ n + 1 → length (take limit input) ≤ n → take limit input ≡ input
short n limit input above fits = take_all limit input (omega (arith, length-take limit input, fits, above))

pub longer : (n limit : ℕ) (input : List ℕ) → n < length (take limit input) → n < length input
longer n limit input more = omega (arith, length-take limit input, more)

empty : (limit : ℕ) (input : List ℕ) → 0 < limit → take limit input ≡ [] → input ≡ []
empty limit [] some none = refl
empty limit (b ∷ input) some none = absurd (omega (arith, ap length none, length-take limit (b ∷ input), some))

pub refused : (limit : ℕ) (w : Why) (n : ℕ) (input : List ℕ) → limit ≡ 32769 → Refuses (take limit input) n w → Refuses input n w
refused limit (why.Decoder f) n input is h = subst (λ bytes. Refuses bytes n (why.Decoder f)) (short 32768 limit input is h.0.1) h
refused limit why.Empty n input is h = (h.0, empty limit input (omega (arith, is)) h.1)
refused limit why.TooLong n input is h = (h.0, longer 32768 limit input h.1)
refused limit why.JumpOut n input is h = subst (λ bytes. Refuses bytes n why.JumpOut) (short 32768 limit input is h.0.1) h
refused limit why.JumpInside n input is h = subst (λ bytes. Refuses bytes n why.JumpInside) (short 32768 limit input is h.0.1) h
refused limit why.WritesR10 n input is h = subst (λ bytes. Refuses bytes n why.WritesR10) (short 32768 limit input is h.0.1) h
refused limit why.Helper n input is h = subst (λ bytes. Refuses bytes n why.Helper) (short 32768 limit input is h.0.1) h
refused limit why.FallsOff n input is h = subst (λ bytes. Refuses bytes n why.FallsOff) (short 32768 limit input is h.0.1) h
refused limit why.Memory n input is h = subst (λ bytes. Refuses bytes n why.Memory) (short 32768 limit input is h.0.1) h

pub found_whole : (limit : ℕ) (input : List ℕ) (result : Result ℕ Failure) → limit ≡ 32769 → Finds (take limit input) result → Finds input result
found_whole limit input (Ok slots) is h = subst (λ bytes. Finds bytes (Ok slots)) (short 32768 limit input is h.0.1.short) h
found_whole limit input (Err (Refused error)) is h = (refused limit error.why error.slot input is h.0, h.1)
found_whole limit input (Err NoMemory) is h = tt
found_whole limit input (Err Read) is h = tt
found_whole limit input (Err Write) is h = absurd h
found_whole limit input (Err (WrongLine error)) is h = absurd h
found_whole limit input (Err InputTooLong) is h = absurd h

pub found_in : (given : Option (List ℕ)) (limit : ℕ) (code : List ℕ) (result : Result ℕ Failure) → limit ≡ 32769
    → IfSome given (λ input. code ≡ take limit input) → Finds code result → IfSome given (λ input. Finds input result)
found_in None limit code result is read found = tt
found_in (Some input) limit code result is read found = found_whole limit input result is (rw read at found)
