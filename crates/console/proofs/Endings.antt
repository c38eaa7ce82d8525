-- How a drive ends.
use Rattle.std.proofs.Common.{◌≡◌, ℕ, ◌<◌, List, [], ◌∷◌, ◌++◌, length, refl, sym, ap, ◌∙◌, append_assoc, append-nil, Option, Some, None, subst, arith, take}
use Rattle.std.proofs.Common.{IfSome, inl, inr, codes}
use Rattle.std.proofs.KnownBytes.{Appends-trans}
use Rattle.std.specs.Io.KnownBytes.{Appends, Consumes, IsAtEnd}
use Rattle.console.specs.Lines.{ended, cut_of}
use Rattle.console.specs.Held.{Held, clip}
use Rattle.console.specs.Conversations.{Protocol, AnswersSoFar, AnswersAll, FailsInReply, StopsReading, StopsWriting}

-- what holds of what was seen at the end holds of the whole input
pub all_seen : (a b : Option (List ℕ)) (seen : List ℕ) (P : List ℕ → Type 0) → Consumes a b seen → IsAtEnd b → P seen → IfSome a P
all_seen None b seen P c e p = tt
all_seen (Some x) None seen P c e p = absurd c
all_seen (Some x) (Some y) seen P c e p = subst P (sym (c ∙ ap (λ l. seen ++ l) e ∙ append-nil seen)) p

-- a read that gives nothing
pub none_seen : (a b : Option (List ℕ)) (seen bytes : List ℕ) (n : ℕ) → n ≡ 0 → Consumes a b (seen ++ take n bytes) → Consumes a b seen
none_seen a b seen bytes n e c = subst (λ l. Consumes a b l) (ap (λ k. seen ++ take k bytes) e ∙ append-nil seen) c

clip_empty : (line : List ℕ) → (0 < length (clip line) → ⊥) → cut_of line ≡ []
clip_empty [] h = refl
clip_empty (b ∷ line) h = absurd (h (omega arith))

clip_some : (line : List ℕ) → 0 < length (clip line) → (0 < length line) × (cut_of line ≡ ended (codes "cut"))
clip_some [] h = absurd (omega arith)
clip_some (b ∷ line) h = (omega arith, refl)

module _ (p : Protocol) (s t : p.State) (h seen : List ℕ) where
  pub stops_reading : (a b u v : Option (List ℕ)) (k : Held) → Consumes a b seen → AnswersSoFar p s (h ++ seen) u v t k
      → IfSome a (λ input. StopsReading p s (h ++ input) u v t k b)
  stops_reading None b u v k c x = tt
  stops_reading (Some input) None u v k c x = absurd c
  stops_reading (Some input) (Some more) u v k c x = record {
    heard = h ++ seen;
    more = more;
    parts = ap (λ l. h ++ l) c ∙ sym (append_assoc h seen more);
    kept = refl;
    answers = x;
  }

  pub stops_writing : (a b u v : Option (List ℕ)) (ahead : List ℕ) → Consumes a b seen → length ahead < 4096 → FailsInReply p ahead s (h ++ seen) u v t
      → IfSome a (λ input. StopsWriting p s (h ++ input) u v t b)
  stops_writing None b u v ahead c short x = tt
  stops_writing (Some input) None u v ahead c short x = absurd c
  stops_writing (Some input) (Some more) u v ahead c short x = record {
    heard = h ++ seen;
    more = more;
    parts = ap (λ l. h ++ l) c ∙ sym (append_assoc h seen more);
    kept = refl;
    fails = inl (ahead, short, x);
  }

  -- a write of `cut` failed, for what was heard since the last line end
  pub breaks_cut : (a b u v w : Option (List ℕ)) (k : Held) (part missing : List ℕ) → Consumes a b seen → IsAtEnd b
      → AnswersSoFar p s (h ++ seen) u v t k → 0 < length k.line
      → ended (codes "cut") ≡ part ++ missing → 0 < length missing → Appends v w part → IfSome a (λ input. StopsWriting p s (h ++ input) u w t b)
  breaks_cut None b u v w k part missing c e x n d m y = tt
  breaks_cut (Some input) None u v w k part missing c e x n d m y = absurd c
  breaks_cut (Some input) (Some more) u v w k part missing c e x n d m y =
      let r = clip_some x.rest (subst (λ (z : Held). 0 < length z.line) x.holds n) in record {
        heard = h ++ seen;
        more = more;
        parts = ap (λ l. h ++ l) c ∙ sym (append_assoc h seen more);
        kept = refl;
        fails = inr (
          e,
          (
            x.output ++ part,
            Appends-trans u v w x.output part x.appended y,
            record {
              written = x.output;
              rest = x.rest;
              mid = t;
              due = ended (codes "cut");
              part = part;
              missing = missing;
              so_far = x.so_far;
              next = (x.is_open, r.0, sym r.1, refl);
              broken = d;
              misses = m;
              wrote = refl;
            },
          ),
        );
      }

  pub ends_whole : (a b u v : Option (List ℕ)) (k : Held) → Consumes a b seen → IsAtEnd b → AnswersSoFar p s (h ++ seen) u v t k → (0 < length k.line → ⊥)
      → IfSome a (λ input. AnswersAll p s (h ++ input) u v t)
  ends_whole a b u v k c e x n = all_seen a b seen (λ input. AnswersAll p s (h ++ input) u v t) c e (
    x.output,
    x.appended,
    (
      x.output,
      x.rest,
      x.so_far,
      x.is_open,
      sym (ap (λ l. x.output ++ l) (clip_empty x.rest (subst (λ (y : Held). 0 < length y.line → ⊥) x.holds n)) ∙ append-nil x.output),
    ),
  )

  pub ends_cut : (a b u v w : Option (List ℕ)) (k : Held) → Consumes a b seen → IsAtEnd b → AnswersSoFar p s (h ++ seen) u v t k → 0 < length k.line
      → Appends v w (ended (codes "cut")) → IfSome a (λ input. AnswersAll p s (h ++ input) u w t)
  ends_cut a b u v w k c e x n y =
      let r = clip_some x.rest (subst (λ (z : Held). 0 < length z.line) x.holds n) in
      all_seen a b seen (λ input. AnswersAll p s (h ++ input) u w t) c e (
        x.output ++ ended (codes "cut"),
        Appends-trans u v w x.output (ended (codes "cut")) x.appended y,
        (
          x.output,
          x.rest,
          x.so_far,
          x.is_open,
          ap (λ l. x.output ++ l) (sym r.1),
        ),
      )
