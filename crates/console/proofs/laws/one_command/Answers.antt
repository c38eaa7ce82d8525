use Rattle.std.proofs.Common.{◌≡◌, ℕ, List, [], ◌∷◌, sym, ◌∙◌, ap, subst, Some}
use Rattle.world.specs.declared.events.Event.{Event}
use Rattle.console.specs.Tokens.{tokens_of, AreBytes}
use Rattle.console.specs.Granting.{AreGrants}
use Rattle.console.specs.Commands.{most_bytes, takes_grants, event_with, Says, SaysOfKind}
use Rattle.console.specs.declared.kind.Kind.{Kind}
use Rattle.console.proofs.LineTokens.{numbers_one, bytes_one}
use Rattle.console.proofs.GrantWords.{grants_one}
use Rattle.console.proofs.laws.one_command.Goals as goal

of_kind : (kind : Kind) (tokens : List (List ℕ)) (a b : Event) → SaysOfKind kind tokens a → SaysOfKind kind tokens b → a ≡ b
of_kind kind tokens a b s t =
    let n = numbers_one _ _ _ _ _ _ s.numbers_first t.numbers_first in
    let m = bytes_one _ t.rest _ _ _ _ (subst (λ l. AreBytes (most_bytes kind) l s.bytes s.words) n.1 s.bytes_next) t.bytes_next in
    let g = grants_one _ t.words _ _ (subst (λ l. AreGrants (takes_grants kind) l s.grants) m.1 s.grants_last) t.grants_last in
    s.is_command ∙ ap (λ x. event_with kind x s.bytes s.grants) n.0 ∙ ap (λ x. event_with kind t.numbers x s.grants) m.0
    ∙ ap (λ x. event_with kind t.numbers t.bytes x) g ∙ sym t.is_command

said : (tokens : List (List ℕ)) (a b : Event) → Says tokens a → Says tokens b → a ≡ b
said [] a b s t = absurd s
said (name ∷ tokens) a b s t =
    let e : Some s.0 ≡ Some t.0 = sym s.1 ∙ t.1 in
    let k : s.0 ≡ t.0 = cc in
    of_kind t.0 tokens a b (subst (λ k. SaysOfKind k tokens a) k s.2) t.2

pub returns : goal.returns
returns c = λ line a b s t. said (tokens_of line) a b s.1 t.1
