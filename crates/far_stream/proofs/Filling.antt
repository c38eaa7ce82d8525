-- A payload that is read to the end of a vector.
use Rattle.std.proofs.Common.{◌≡◌, ℕ, ◌+◌, ◌≤◌, List, ◌++◌, length, take, ap, ◌∙◌, sym, subst, arith, length-append, length-take-le, Option}
use Rattle.std.proofs.lemmas.List.{take_all, take_at}
use Rattle.std.proofs.lemmas.Slice.{take-put_mid}
use borrow.Rule.Slice.PartMut.{put_mid, post_of}
use lib.Seq.{take-append-le}
use Rattle.streams.specs.Streams.{ConsumesFewer}
use Rattle.far_stream.specs.Payloads.{CutsOff, LosesPayload}
use Rattle.far_stream.specs.declared.fault.Cut.{Cut}
use Rattle.far_stream.specs.declared.fault.Cut.TheVariants.{Failed, Ended}
use Rattle.far_stream.specs.declared.fault.PayloadFault.{PayloadFault}
use Rattle.far_stream.specs.declared.fault.PayloadFault.TheVariants.{CutOff}

-- what stood in front, and then what the part holds now
pub filled : (start len k : ℕ) (xs front after buffer : List ℕ) → start ≤ length xs → len ≡ start + length buffer → take start xs ≡ front
    → take len (put_mid start k xs buffer ++ after) ≡ front ++ buffer
filled start len k xs front after buffer within is same =
    let room : len ≤ length (put_mid start k xs buffer) =
    omega (
      arith,
      length-append (take start xs) (buffer ++ post_of start k xs),
      length-append buffer (post_of start k xs),
      length-take-le start xs within,
      is,
    ) in
    take-append-le len (put_mid start k xs buffer) after room ∙ take-put_mid start k xs buffer len is within ∙ ap (λ l. l ++ buffer) same

-- what a vector held before it grew
pub front_of_grown : (start n : ℕ) (old new grown : List ℕ) → grown ≡ take n old ++ new → start ≡ length old → start ≤ n → take start grown ≡ old
front_of_grown start n old new grown is same most =
    ap (take start) is ∙ ap (λ l. take start (l ++ new)) (take_all n old (omega (arith, same, most))) ∙ take_at old new start (sym same)

-- less than a payload came
pub cut_short : (cut : Cut) (due : ℕ) (before after : Option (List ℕ)) → CutsOff cut due before after → ConsumesFewer due before after
cut_short Failed due before after c = c
cut_short Ended due before after c = c.0

pub lost_short : (fault : PayloadFault) (cut : Cut) (due : ℕ) (before after : Option (List ℕ)) → fault ≡ CutOff cut → LosesPayload fault due before after
    → ConsumesFewer due before after
lost_short fault cut due before after is lost = cut_short cut due before after (subst (λ f. LosesPayload f due before after) is lost)
