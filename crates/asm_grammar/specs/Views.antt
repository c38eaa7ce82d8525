-- The code's values as the definitions see them.
use Rattle.std.specs.Prelude.{◌≡◌, ◌≤◌, ℕ, List, Option, Some, None}
use Rattle.std.specs.Ordering.{nat_cmp}
use Rattle.std.specs.Cmp.Lexicographic.{slice_cmp}
use Rattle.std.specs.BTreeMap.{BTreeMap, get_by}
use denote.Ref.{Bor}
use Rattle.asm_grammar.specs.declared.gather.Gathered.{Gathered as GatheredOfCode}
use Rattle.asm_grammar.specs.declared.taking.Taken.{Taken as TakenOfCode}
use Rattle.asm_grammar.specs.declared.taking.Taken.TheVariants as code
use Rattle.asm_grammar.specs.Sorts.{Taken}
use Rattle.asm_grammar.specs.Sorts.Taken.{No, Out, Is, To, LongTo}
use Rattle.asm_grammar.specs.Grammar.{Look}
use Rattle.asm_grammar.specs.Reading.{Gathered}

-- what the code has read so far
abbrev pub gathered_seen : GatheredOfCode → Gathered
gathered_seen g = record { operands = g.operands.items; out = g.out; unknown = g.unknown }

-- which slot a label stands for, by the code's map of labels
abbrev pub look_in : BTreeMap (Bor (List ℕ)) ℕ → Look
look_in labels = λ name. get_by (λ k. slice_cmp nat_cmp name k.now) labels

-- each label stands for a slot, or for the place after the last one
abbrev pub AllBelow : BTreeMap (Bor (List ℕ)) ℕ → Type 0
AllBelow labels = (name : List ℕ) (slot : ℕ) → look_in labels name ≡ Some slot → slot ≤ 4096

-- the label that the code has read, if there is one
abbrev pub label_seen : Option (Bor (List ℕ)) → Option (List ℕ)
label_seen None = None
label_seen (Some w) = Some w.now

-- how the code takes a written operand
abbrev pub taken_by : TakenOfCode → Taken
taken_by code.No = No
taken_by code.Out = Out
taken_by (code.Is o) = Is o
taken_by (code.To w) = To w.now
taken_by (code.LongTo w) = LongTo w.now
