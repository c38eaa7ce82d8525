-- Calls of streams, joined.
use Rattle.std.proofs.Common.{◌≡◌, ℕ, ◌+◌, ◌<◌, Bool, IsTrue, IsFalse, List, [], ◌∷◌, ◌++◌, length, length-append, map, take, refl, sym, ap, ◌∙◌, subst, arith}
use Rattle.std.proofs.Common.{inl, inr, ◌≢◌}
use Rattle.std.proofs.lemmas.List.{take_all}
use Rattle.std.proofs.lemmas.List.Elements.{All-head, All-tail}
use Rattle.std.proofs.lemmas.List.Sums.{sum_by-append}
use Rattle.std.proofs.lemmas.Bool.Decides.{nat_tests}
use Rattle.console.specs.Lines.{IsLine}
use Rattle.console.specs.Held.{Held, TakesBytes}
use Rattle.console.specs.StreamCalls.{StreamCall, StreamCalls, line_ends, lines_waiting}
use Rattle.console.specs.StreamCalls.StreamCall.{ReadGave, LineWritten}
use Rattle.console.proofs.Exchanges.{take_through_end}

module _ {R W : Type 0} (called : R → W → StreamCall → R → W → Type 0) where
  -- some calls, and then more
  pub calls_append : (xs ys : List StreamCall) (r s t : R) (w v u : W) → StreamCalls called r w xs s v → StreamCalls called s v ys t u
      → StreamCalls called r w (xs ++ ys) t u
  calls_append [] ys r s t w v u a c = subst (λ x. StreamCalls called x w ys t u) a.0 (subst (λ y. StreamCalls called s y ys t u) a.1 c)
  calls_append (x ∷ xs) ys r s t w v u a c = (a.0, a.1, a.2, calls_append xs ys a.0 s t a.1 v u a.3 c)

  -- lines that were written, and then more
  pub written_append : (xs ys : List (List ℕ)) (r s t : R) (w v u : W) → StreamCalls called r w (map LineWritten xs) s v
      → StreamCalls called s v (map LineWritten ys) t u
      → StreamCalls called r w (map LineWritten (xs ++ ys)) t u
  written_append [] ys r s t w v u a c = subst (λ x. StreamCalls called x w (map LineWritten ys) t u) a.0
      (subst (λ y. StreamCalls called s y (map LineWritten ys) t u) a.1 c)
  written_append (x ∷ xs) ys r s t w v u a c = (a.0, a.1, a.2, written_append xs ys a.0 s t a.1 v u a.3 c)

  -- a read that gave nothing
  pub ended_call : (r s : R) (w v : W) (bytes : List ℕ) (n : ℕ) → n ≡ 0 → called r w (ReadGave (take n bytes)) s v → called r w (ReadGave []) s v
  ended_call r s w v bytes n e c = subst (λ k. called r w (ReadGave (take k bytes)) s v) e c

-- no line ends within a line
no_line_end : (bytes : List ℕ) → IsLine bytes → line_ends bytes ≡ 0
no_line_end [] l = refl
no_line_end (b ∷ bytes) l =
    let h = All-head (λ x. x ≢ 10) b bytes l in
    let t = no_line_end bytes (All-tail (λ x. x ≢ 10) b bytes l) in
    grind (arith, nat_tests, h, t)

pub one_waits : (waits : Bool) → IsTrue waits → 1 ≡ lines_waiting waits
one_waits waits e = rw e refl

none_waits : (waits : Bool) → IsFalse waits → 0 ≡ lines_waiting waits
none_waits waits e = rw e refl

-- a line ends in what a console took where it then has a line that waits
pub fed_ends : (old bytes : List ℕ) (n : ℕ) (h : Held) → TakesBytes old bytes n h → line_ends (take n bytes) ≡ lines_waiting h.waits
fed_ends old bytes n h (inl f) =
    ap line_ends (take_all n bytes (omega (arith, f.1))) ∙ no_line_end bytes f.0 ∙ none_waits h.waits (ap (λ (x : Held). x.waits) f.2)
fed_ends old bytes n h (inr f) =
    ap line_ends (ap (λ l. take n l) f.2 ∙ take_through_end f.0 f.1 n f.4) ∙ sum_by-append _ f.0 (10 ∷ []) ∙ ap (λ k. k + 1) (no_line_end f.0 f.3)
    ∙ one_waits h.waits (ap (λ (x : Held). x.waits) f.5)

-- as many replies as lines end in more of a piece
pub more_replies : (xs ys : List (List ℕ)) (seen bytes : List ℕ) → length xs ≡ line_ends seen → length ys ≡ line_ends bytes
    → length (xs ++ ys) ≡ line_ends (seen ++ bytes)
more_replies xs ys seen bytes e f = length-append xs ys ∙ ap (λ k. k + length ys) e ∙ ap (λ k. line_ends seen + k) f ∙ sym (sum_by-append _ seen bytes)

-- fewer replies than lines end in the piece, where one more line has ended
pub fewer_replies : (xs : List (List ℕ)) (seen bytes more piece : List ℕ) → piece ≡ (seen ++ bytes) ++ more → length xs ≡ line_ends seen
    → 1 ≡ line_ends bytes → length xs < line_ends piece
fewer_replies xs seen bytes more piece p e f =
    let a : line_ends piece ≡ line_ends seen + line_ends bytes + line_ends more =
    ap line_ends p ∙ sum_by-append _ (seen ++ bytes) more ∙ ap (λ k. k + line_ends more) (sum_by-append _ seen bytes) in
    omega (arith, a, e, f)
