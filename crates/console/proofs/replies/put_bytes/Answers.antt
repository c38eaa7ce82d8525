use Rattle.std.proofs.Common.{◌≡◌, [], ◌++◌, length, take, drop, refl, sym, ap, ◌∙◌, append-nil, append_assoc, take-append-drop, length-append, arith}
use Rattle.std.proofs.lemmas.List.{take_rest}
use Rattle.hex.specs.Hex.{encode_lower, lower_digits}
use Rattle.hex.proofs.HexLemmas.{length-encode_with}
use Rattle.console.proofs.HexPairs.{no_digits, digits_join}
use Rattle.console.proofs.replies.put_bytes.Goals as goal

pub loop-rest-init : goal.loop-rest-init
loop-rest-init c = ([], refl, sym (append-nil _) ∙ ap (λ l. c.args.line.now.items ++ l) (sym no_digits), omega arith)

pub loop-rest-preserved : goal.loop-rest-preserved
loop-rest-preserved c =
    let i = c.loop-rest.invariant in
    let n = c.min-count.result in
    let rest = c.loop-rest.rest.now in
    let more : c.put.new.self.items ≡ c.loop-rest.line.items ++ encode_lower (take n rest) =
    c.put.ensures.text ∙ ap (λ l. c.loop-rest.line.items ++ l) c.write_digits.ensures in
    let m = ap length more in
    let a = length-append c.loop-rest.line.items (encode_lower (take n rest)) in
    let b = length-append i.0 (take n rest) in
    let d = length-encode_with lower_digits (take n rest) in (
      i.0 ++ take n rest,
      i.1 ∙ ap (λ l. i.0 ++ l) (sym (take-append-drop n rest)) ∙ sym (append_assoc i.0 (take n rest) (drop n rest))
          ∙ ap (λ l. i.0 ++ take n rest ++ l) (sym (take_rest rest n)),
      digits_join c.args.line.now.items c.loop-rest.line.items _ i.0 (take n rest) i.2 more,
      omega (arith, m, a, b, d, i.3),
    )
