-- A whole conversation: lines in, their replies out, and the run of commands between them. Who answers the commands is a parameter.
use Rattle.std.specs.Prelude.{◌≡◌, ℕ, ◌<◌, List, [], ◌∷◌, ◌++◌, length, All, flat_map, ◌⊎◌, Option, Some}
use Rattle.std.specs.Io.KnownBytes.{Appends}
use Rattle.world.specs.declared.events.Event.{Event}
use Rattle.world.specs.Run.{Runs}
use Rattle.console.specs.Lines.{IsLine, ended, bad_text, nomem_text, cut_of}
use Rattle.console.specs.Commands.{SpellsCommand, SpellsNone, CarriesBytes}
use Rattle.console.specs.Held.{Held, open_line}

-- Who answers the commands: the states, the replies with their texts, and which reply a command may have in a state, with the state that follows.
pub record Protocol : Type 1 where
  pub State : Type 0
  pub Reply : Type 0
  pub step : State → Event → Reply → State → Type 0
  pub text : Reply → List ℕ

-- A line with its reply: it spells a command that was done, or one whose bytes found no memory when they were read, or none.
pub data Turn (p : Protocol) : Type 0 where
  Done : List ℕ → Event → p.Reply → Turn p
  Unread : List ℕ → Turn p
  Bad : List ℕ → Turn p

-- the line
abbrev pub turn_line : (p : Protocol) → Turn p → List ℕ
turn_line p (Done line command reply) = line
turn_line p (Unread line) = line
turn_line p (Bad line) = line

-- what is answered, without its line end
abbrev pub turn_text : (p : Protocol) → Turn p → List ℕ
turn_text p (Done line command reply) = p.text reply
turn_text p (Unread line) = nomem_text
turn_text p (Bad line) = bad_text

-- the command that was done
abbrev pub turn_commands : (p : Protocol) → Turn p → List Event
turn_commands p (Done line command reply) = command ∷ []
turn_commands p (Unread line) = []
turn_commands p (Bad line) = []

-- the reply to it
abbrev pub turn_replies : (p : Protocol) → Turn p → List p.Reply
turn_replies p (Done line command reply) = reply ∷ []
turn_replies p (Unread line) = []
turn_replies p (Bad line) = []

-- the line is a line, and spells what the turn says
abbrev pub IsTurn : (p : Protocol) → Turn p → Type 0
IsTurn p (Done line command reply) = IsLine line × SpellsCommand line command
IsTurn p (Unread line) = IsLine line × ((command : Event) × SpellsCommand line command × CarriesBytes command)
IsTurn p (Bad line) = IsLine line × SpellsNone line

-- the lines, each with its end
abbrev pub heard_of : (p : Protocol) → List (Turn p) → List ℕ
heard_of p turns = flat_map (λ turn. ended (turn_line p turn)) turns

-- the replies, each with its end
abbrev pub written_of : (p : Protocol) → List (Turn p) → List ℕ
written_of p turns = flat_map (λ turn. ended (turn_text p turn)) turns

-- the commands, done one after the other, have these replies
abbrev pub RunsTurns : (p : Protocol) → p.State → List (Turn p) → p.State → Type 0
RunsTurns p old turns new = Runs p.step old (flat_map (turn_commands p) turns) (flat_map (turn_replies p) turns) new

-- Up to the rest, the input is ended lines and the output their replies in order, and the commands among them are a run with these replies.
pub record Exchange (p : Protocol) (old : p.State) (input output : List ℕ) (new : p.State) (rest : List ℕ) : Type 0 where
  pub turns : List (Turn p)
  pub each : All (IsTurn p) turns
  pub heard : input ≡ heard_of p turns ++ rest
  pub written : output ≡ written_of p turns
  pub run : RunsTurns p old turns new

-- Each ended line of the input has its reply, in order, and trailing bytes without a line end are answered `cut`.
abbrev pub Converses : (p : Protocol) → p.State → List ℕ → List ℕ → p.State → Type 0
Converses p old input output new = (written rest : List ℕ) × Exchange p old input written new rest × IsLine rest × (output ≡ written ++ cut_of rest)

-- The line is answered by these bytes.
abbrev pub Answered : (p : Protocol) → p.State → List ℕ → List ℕ → p.State → Type 0
Answered p old line bytes new = (turn : Turn p) × (turn_line p turn ≡ line) × IsTurn p turn × RunsTurns p old (turn ∷ []) new
    × (bytes ≡ ended (turn_text p turn))

-- the next ended line, its reply, and what it does; only the bytes ahead are read of what follows it
abbrev pub DueReply : (p : Protocol) → List ℕ → p.State → List ℕ → List ℕ → p.State → Type 0
DueReply p ahead old rest due new = (line : List ℕ) × (rest ≡ ended line ++ ahead) × Answered p old line due new

-- what is written for trailing bytes without a line end
abbrev pub DueCut : (p : Protocol) → p.State → List ℕ → List ℕ → p.State → Type 0
DueCut p old rest due new = IsLine rest × (0 < length rest) × (due ≡ cut_of rest) × (new ≡ old)

-- After replies that are whole come the first bytes of the one that is due next, and not all of it. That one's command is done, and no later one.
pub record Breaks (p : Protocol) (due_next : p.State → List ℕ → List ℕ → p.State
    → Type 0) (old : p.State) (input output : List ℕ) (new : p.State) : Type 0 where
  pub written : List ℕ
  pub rest : List ℕ
  pub mid : p.State
  pub due : List ℕ
  pub part : List ℕ
  pub missing : List ℕ
  pub so_far : Exchange p old input written mid rest
  pub next : due_next mid rest due new
  pub broken : due ≡ part ++ missing
  pub misses : 0 < length missing
  pub wrote : output ≡ written ++ part

-- The input is heard up to a line that is still coming, which the console holds, and all replies to it are written.
pub record AnswersSoFar (p : Protocol) (old : p.State) (input : List ℕ) (before after : Option (List ℕ)) (new : p.State) (held : Held) : Type 0 where
  pub output : List ℕ
  pub rest : List ℕ
  pub appended : Appends before after output
  pub so_far : Exchange p old input output new rest
  pub is_open : IsLine rest
  pub holds : held ≡ open_line rest

-- a write failed within the reply to a line, and these bytes after the line are read
abbrev pub FailsInReply : (p : Protocol) → List ℕ → p.State → List ℕ → Option (List ℕ) → Option (List ℕ) → p.State → Type 0
FailsInReply p ahead old input before after new = (output : List ℕ) × Appends before after output × Breaks p (DueReply p ahead) old input output new

-- a write failed within `cut`, which comes at the end of the input
abbrev pub FailsInCut : (p : Protocol) → p.State → List ℕ → Option (List ℕ) → Option (List ℕ) → p.State → Type 0
FailsInCut p old input before after new = (output : List ℕ) × Appends before after output × Breaks p (DueCut p) old input output new

-- the input has ended, and all of it is answered
abbrev pub AnswersAll : (p : Protocol) → p.State → List ℕ → Option (List ℕ) → Option (List ℕ) → p.State → Type 0
AnswersAll p old input before after new = (output : List ℕ) × Appends before after output × Converses p old input output new

-- A read failed: all replies to what was heard are written, the console holds what was heard of the next line, and the reader still has the rest of the input.
pub record StopsReading (p : Protocol) (old : p.State) (input : List ℕ) (before after : Option (List ℕ)) (new : p.State) (held : Held)
    (unread : Option (List ℕ)) : Type 0 where
  pub heard : List ℕ
  pub more : List ℕ
  pub parts : input ≡ heard ++ more
  pub kept : unread ≡ Some more
  pub answers : AnswersSoFar p old heard before after new held

-- a read asks for so many bytes
abbrev pub piece_limit : ℕ
piece_limit = 4096

-- A write failed, within a reply or within `cut`. The reader still has all that comes after the piece in which the line ended that was being answered.
pub record StopsWriting (p : Protocol) (old : p.State) (input : List ℕ) (before after : Option (List ℕ)) (new : p.State)
    (unread : Option (List ℕ)) : Type 0 where
  pub heard : List ℕ
  pub more : List ℕ
  pub parts : input ≡ heard ++ more
  pub kept : unread ≡ Some more
  pub fails : ((ahead : List ℕ) × (length ahead < piece_limit) × FailsInReply p ahead old heard before after new)
      ⊎ ((more ≡ []) × FailsInCut p old heard before after new)
