use Rattle.std.proofs.Common.{◌++◌, ap, ◌∙◌, sym, take, drop, append_assoc, take-append-drop}
use Rattle.std.proofs.lemmas.List.{take_rest}
use Rattle.std.proofs.KnownBytes.{Appends-trans}
use Rattle.streams.proofs.writing.put_all.Goals as goal

pub loop-rest-preserved : goal.loop-rest-preserved
loop-rest-preserved g c =
    let i = c.loop-rest.invariant in
    let n = c.in-Ok.n in
    let rest = c.loop-rest.rest.now in (
      i.0 ++ take n rest,
      i.1 ∙ ap (λ l. i.0 ++ l) (sym (take-append-drop n rest)) ∙ sym (append_assoc i.0 (take n rest) (drop n rest))
          ∙ ap (λ l. i.0 ++ take n rest ++ l) (sym (take_rest rest n)),
      Appends-trans _ _ _ i.0 (take n rest) i.2 c.in-Ok.ensures.bytes,
    )
