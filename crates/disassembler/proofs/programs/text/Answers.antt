use Rattle.std.proofs.Common.{◌≡◌, true, false, subst, sym, IsAscii}
use Rattle.std.proofs.lemmas.Str.{IsUtf8-from_ascii}
use Rattle.disassembler.proofs.Fitting.{all_fit_parts, ascii_text}
use Rattle.disassembler.proofs.programs.text.Goals as goal

pub prove-unreachable-requires : goal.prove-unreachable-requires
prove-unreachable-requires c =
    let t = c.in_ok-bytes.ensures in
    let k : false ≡ true = c.in-Err.ensures.succeeds (IsUtf8-from_ascii _ (subst (λ l. IsAscii l) (sym t.2) (ascii_text t.0 (all_fit_parts t.0 t.1.fits)))) in
    cc k
