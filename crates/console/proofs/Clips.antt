-- The clip of a line spells what the line spells.
use Rattle.std.proofs.Common.{◌≡◌, ℕ, ◌+◌, ◌-◌, ◌≤◌, min, zero, suc, List, [], ◌∷◌, ◌++◌, length, take, refl, sym, ap, ◌∙◌, arith, Result, Ok, Err, subst}
use Rattle.std.proofs.lemmas.List.{length-take, take_all, take_min}
use Rattle.std.proofs.Math.Seq.{take-append-add}
use Rattle.world.specs.declared.events.Event.{Event}
use Rattle.console.specs.Commands.{Reads, SpellsCommand}
use Rattle.console.specs.Held.{clip}
use Rattle.console.specs.declared.fault.LineFault.{LineFault}
use Rattle.console.specs.declared.fault.LineFault.TheVariants.{Bad, NoMemory}

-- room for m bytes, of which as many are added as fit
pub kept_is_clip : (m k : ℕ) (xs ys : List ℕ) → length xs ≤ m → k ≡ min (length ys) (m - length xs) → xs ++ take k ys ≡ take m (xs ++ ys)
kept_is_clip m k xs ys h e =
    let n = m - length xs in
    let f : k ≡ min n (length ys) = omega arith in
    let g : length xs + n ≡ m = omega arith in
    ap (λ j. xs ++ take j ys) f ∙ ap (λ l. xs ++ l) (take_min n ys) ∙ sym (take-append-add xs ys n) ∙ ap (λ j. take j (xs ++ ys)) g

-- what is clipped again
pub clip-append : (m : ℕ) (xs ys : List ℕ) → take m (take m xs ++ ys) ≡ take m (xs ++ ys)
clip-append zero xs ys = refl
clip-append (suc m) [] ys = refl
clip-append (suc m) (x ∷ xs) ys = ap (λ l. x ∷ l) (clip-append m xs ys)

pub clip_spells : (line : List ℕ) (command : Event) → SpellsCommand (clip line) command → SpellsCommand line command
clip_spells line command s =
    let e : length (take 70001 line) ≡ min 70001 (length line) = length-take 70001 line in
    let small : length line ≤ 70001 = omega (arith, e, s.0) in
    subst (λ l. SpellsCommand l command) (take_all 70001 line small) s

pub reads_clip : (line : List ℕ) (read : Result Event LineFault) → Reads (SpellsCommand (clip line)) read → Reads (SpellsCommand line) read
reads_clip line (Ok event) h = clip_spells line event h
reads_clip line (Err NoMemory) h = (h.0, clip_spells line h.0 h.1, h.2)
reads_clip line (Err Bad) h = λ command s.
    let small : length line ≤ 70001 = omega (arith, s.0) in
    h command (subst (λ l. SpellsCommand l command) (sym (take_all 70001 line small)) s)
