-- What is read from tokens.
use Rattle.std.proofs.Common.{◌≡◌, ℕ, ◌<◌, ◌≤◌, List, [], ◌∷◌, drop, length, get_or, slice_index, take, Option, Bool, Some, None, Result, Ok, Err, refl, subst}
use Rattle.std.proofs.Common.{sym, ◌∙◌, ap, arith}
use Rattle.std.proofs.lemmas.List.{length-take}
use Rattle.hex.specs.Hex.{decode_of}
use Rattle.machine.specs.Grants.{GrantState}
use Rattle.debugger.specs.declared.commands.MachineCommand.TheVariants.{Show}
use Rattle.debugger.specs.declared.show.ShowCommand.{ShowCommand}
use Rattle.debugger.specs.declared.show.ShowCommand.TheVariants.{Stack, Line}
use Rattle.debugger.specs.declared.show.ShowReply.{ShowReply}
use Rattle.debugger.specs.declared.show.ShowReply.TheVariants as show_reply
use Rattle.debugger.specs.declared.debuggee.Debuggee.{Debuggee}
use Rattle.debugger.specs.Showing.{Shows}
use Rattle.world.specs.declared.events.Event.{Event}
use Rattle.world.specs.declared.events.Event.TheVariants.{Object, Machine}
use Rattle.world.specs.declared.events.ObjectCommand.TheVariants.{Get}
use Rattle.world.specs.declared.replies.Reply.TheVariants.{Shown}
use Rattle.console.specs.Tokens.{tokens_of, within, IsWithin, AreNumbers, AreBytes}
use Rattle.console.specs.Granting.{AreGrants}
use Rattle.console.specs.Replies.{IsShort}
use Rattle.console.specs.Commands.{Reads, Says, SaysOfKind, SpellsCommand, kind_named, number_limits, most_bytes, takes_grants, event_with, range_limit}
use Rattle.console.specs.Commands.{CarriesBytes}
use Rattle.console.specs.declared.fault.LineFault.{LineFault}
use Rattle.console.specs.declared.fault.LineFault.TheVariants.{Bad, NoMemory}
use Rattle.console.specs.declared.kind.Kind.{Kind}
use Rattle.console.specs.declared.kind.Limits.{Limits}
use Rattle.console.specs.declared.kind.Kind.TheVariants as kind
use Rattle.console.proofs.LineTokens.{numbers_one, numbers_within, bytes_one, hex_length}

-- no command is said
reads_bad : (IsSaid : Event → Type 0) (r : Result Event LineFault) (x y : LineFault) → r ≡ Err x → x ≡ y → y ≡ Bad
    → ((command : Event) → IsSaid command → ⊥) → Reads IsSaid r
reads_bad IsSaid r x y e f g none = subst (Reads IsSaid) (sym (e ∙ ap (λ (v : LineFault). Err v) (f ∙ g))) none

-- a command is said, and there is no memory for its bytes
reads_no_memory : (IsSaid : Event → Type 0) (r : Result Event LineFault) (x y : LineFault) → r ≡ Err x → x ≡ y → y ≡ NoMemory → (command : Event)
    → IsSaid command → CarriesBytes command → Reads IsSaid r
reads_no_memory IsSaid r x y e f g command s b = subst (Reads IsSaid) (sym (e ∙ ap (λ (v : LineFault). Err v) (f ∙ g))) (command, s, b)

-- the kind of the name decides
pub reads_named : (tokens left : List (List ℕ)) (name : List ℕ) (k : Kind) (r : Result Event LineFault) → tokens ≡ name ∷ left → Some k ≡ kind_named name
    → Reads (SaysOfKind k left) r → Reads (Says tokens) r
reads_named tokens left name k (Ok event) e f h = subst (λ t. Says t event) (sym e) (k, sym f, h)
reads_named tokens left name k (Err NoMemory) e f h = (h.0, subst (λ t. Says t h.0) (sym e) (k, sym f, h.1), h.2)
reads_named tokens left name k (Err Bad) e f h = λ command s.
    let t = subst (λ t. Says t command) e s in
    let g : Some k ≡ Some t.0 = f ∙ t.1 in
    let same : t.0 ≡ k = cc in
    h command (subst (λ x. SaysOfKind x left command) same t.2)

-- ---- what the tokens after the name can't say

module _ (kind : Kind) (tokens : List (List ℕ)) (numbers : List ℕ) (left : List (List ℕ)) (first : AreNumbers (number_limits kind) tokens numbers left) where
  -- what comes after the numbers isn't as it has to be
  none_without_bytes : ((bytes : List ℕ) (words : List (List ℕ)) → AreBytes (most_bytes kind) left bytes words → ⊥) → (command : Event)
      → SaysOfKind kind tokens command → ⊥
  none_without_bytes none command s =
      none s.bytes s.words (subst (λ l. AreBytes (most_bytes kind) l s.bytes s.words)
      (numbers_one (number_limits kind) tokens s.numbers numbers s.rest left s.numbers_first first).1 s.bytes_next)

  -- what comes after the bytes isn't as it has to be
  none_without_grants : (bytes : List ℕ) (words : List (List ℕ)) → AreBytes (most_bytes kind) left bytes words
      → ((grants : GrantState) → AreGrants (takes_grants kind) words grants → ⊥) → (command : Event) → SaysOfKind kind tokens command → ⊥
  none_without_grants bytes words next none command s =
      let l = (numbers_one (number_limits kind) tokens s.numbers numbers s.rest left s.numbers_first first).1 in
      let w = (bytes_one (most_bytes kind) left s.bytes bytes s.words words
      (subst (λ l. AreBytes (most_bytes kind) l s.bytes s.words) l s.bytes_next) next).1 in
      none s.grants (subst (λ t. AreGrants (takes_grants kind) t s.grants) w s.grants_last)

-- ---- the table of commands

none_carried : (left words : List (List ℕ)) (bytes : List ℕ) → AreBytes None left bytes words → 0 < length bytes → ⊥
none_carried left words bytes a some = let e = ap length a.1 in omega (arith, e, some)

-- where there are bytes, the command carries them
carries : (k : Kind) (numbers bytes : List ℕ) (grants : GrantState) (left words : List (List ℕ)) → AreBytes (most_bytes k) left bytes words → 0 < length bytes
    → CarriesBytes (event_with k numbers bytes grants)
carries kind.Put numbers bytes grants left words a some = tt
carries kind.Ship numbers bytes grants left words a some = tt
carries kind.Ship2 numbers bytes grants left words a some = tt
carries _ numbers bytes grants left words a some = absurd (none_carried left words bytes a some)

-- ---- what the calls have read

module _ (kind : Kind) (limits : List Limits) (tokens left : List (List ℕ)) (numbers : List ℕ) (limits_are : limits ≡ number_limits kind)
    (read : AreNumbers limits tokens (take (length limits) numbers) left) where
  -- they are the numbers of the kind
  pub numbers_read : AreNumbers (number_limits kind) tokens (take (length (number_limits kind)) numbers) left
  numbers_read = subst (λ ls. AreNumbers ls tokens (take (length ls) numbers) left) limits_are read

  module _ (most : Option ℕ) (most_is : most ≡ most_bytes kind) (r : Result Event LineFault) (x y : LineFault) (is : r ≡ Err x) (same : x ≡ y) where
    -- there are no such bytes
    pub without_bytes : (y ≡ Bad) × ((bytes : List ℕ) (words : List (List ℕ)) → AreBytes most left bytes words → ⊥) → Reads (SaysOfKind kind tokens) r
    without_bytes h = reads_bad _ r x y is same h.0
        (none_without_bytes kind tokens _ left numbers_read (λ bytes words a. h.1 bytes words (subst (λ m. AreBytes m left bytes words) (sym most_is) a)))

    module _ (words : List (List ℕ)) (takes : Bool) (takes_is : takes ≡ takes_grants kind) (text : List ℕ) (b : (bytes : List ℕ)
        × AreBytes most left bytes words × (decode_of text ≡ Ok bytes)) where
      next : AreBytes (most_bytes kind) left b.0 words
      next = subst (λ m. AreBytes m left b.0 words) most_is b.1

      -- there are no such grants
      pub without_grants : (y ≡ Bad) × ((grants : GrantState) → AreGrants takes words grants → ⊥) → Reads (SaysOfKind kind tokens) r
      without_grants h = reads_bad _ r x y is same h.0
          (none_without_grants kind tokens _ left numbers_read b.0 words next
          (λ grants a. h.1 grants (subst (λ some. AreGrants some words grants) (sym takes_is) a)))

      -- all is as it has to be, and there is no memory for the bytes
      pub without_memory : (grants : GrantState) → AreGrants takes words grants → (y ≡ NoMemory) × (0 < length text) → Reads (SaysOfKind kind tokens) r
      without_memory grants last h =
          let all : List ℕ = take (length (number_limits kind)) numbers in
          let some = hex_length text b.0 b.2 in
          reads_no_memory (SaysOfKind kind tokens) r x y is same h.0 (event_with kind all b.0 grants)
          record {
            numbers = all;
            bytes = b.0;
            grants = grants;
            rest = left;
            words = words;
            numbers_first = numbers_read;
            bytes_next = next;
            grants_last = subst (λ some. AreGrants some words grants) takes_is last;
            is_command = refl;
          }
          (carries kind all b.0 grants left words next (omega (arith, some, h.1)))

-- a command that asks for so few bytes that they can be shown
abbrev pub AsksShort : Event → Type 0
AsksShort (Object n (Get offset size)) = size ≤ range_limit
AsksShort (Machine m (Show (Stack offset size))) = size ≤ range_limit
AsksShort _ = Unit {0}

kind_asks_short : (k : Kind) (numbers bytes : List ℕ) (grants : GrantState)
    → ((i : ℕ) → i < length (number_limits k) → IsWithin (get_or (number_limits k) i (within 0 0)) (slice_index numbers i))
    → AsksShort (event_with k numbers bytes grants)
kind_asks_short kind.Get numbers bytes grants w = (w 2 (omega arith)).1
kind_asks_short kind.Stack numbers bytes grants w = (w 2 (omega arith)).1
kind_asks_short _ numbers bytes grants w = tt

said_short : (tokens : List (List ℕ)) (command : Event) → Says tokens command → AsksShort command
said_short [] command s = absurd s
said_short (name ∷ tokens) command s =
    let t = s.2 in
    subst AsksShort (sym t.is_command) (kind_asks_short s.0 t.numbers t.bytes t.grants
    (numbers_within (number_limits s.0) tokens t.numbers t.rest t.numbers_first))

pub asks_short : (line : List ℕ) (command : Event) → SpellsCommand line command → AsksShort command
asks_short line command s = said_short (tokens_of line) command s.1

-- ---- replies

pub show_short : (m : ℕ) (command : ShowCommand) (d : Debuggee) (replied : ShowReply) → Shows command d replied → AsksShort (Machine m (Show command))
    → IsShort (Shown m replied)
show_short m (Stack offset size) d (show_reply.Bytes shown) s short = let e = ap length s.1 in
    let l = length-take size (drop offset d.machine.stack) in omega (arith, e, l, short)
show_short m (Line slot) d (show_reply.Bytes shown) s short = absurd s
show_short m _ d (show_reply.Bytes shown) s short = absurd (cc)
show_short m command d _ s short = tt
