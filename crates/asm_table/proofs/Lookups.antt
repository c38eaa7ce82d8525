-- What is found by a name has it.
use Rattle.std.proofs.Common.{◌≡◌, ℕ, Bool, true, false, cond, List, [], ◌∷◌, refl, sym, ap, ◌∙◌, Some}
use Rattle.std.proofs.lemmas.Slice.Eq.{bytes_eq-Decides}
use Rattle.std.specs.Str.{bytes_eq}
use Rattle.isa_table.specs.declared.instr.Reg.{Reg}
use Rattle.isa_table.specs.declared.instr.Reg.TheVariants.{R0, R1, R2, R3, R4, R5, R6, R7, R8, R9, R10}
use Rattle.asm_table.specs.declared.mnemonic.Mnemonic.{Mnemonic}
use Rattle.asm_table.specs.declared.named.TheConstants.{BY_NAME}
use Rattle.asm_table.specs.Mnemonics.{name}
use Rattle.asm_table.specs.Names.{named, named_in, has_two_words, register_in, register_name, register_named}
use Rattle.asm_table.proofs.Each.{named_name}

-- what is found has this name

named_at : (ms : List Mnemonic) (w : List ℕ) (m k : Mnemonic) (b : Bool) → bytes_eq (name k) w ≡ b → (named_in ms w ≡ Some m → w ≡ name m)
    → cond b (Some k) (named_in ms w) ≡ Some m → w ≡ name m
named_at ms w m k true e h f = let i : k ≡ m = cc f in sym ((bytes_eq-Decides (name k) w).0 e) ∙ ap name i
named_at ms w m k false e h f = h f

named_in_is : (ms : List Mnemonic) (w : List ℕ) (m : Mnemonic) → named_in ms w ≡ Some m → w ≡ name m
named_in_is [] w m e = absurd (cc e)
named_in_is (k ∷ ms) w m e = named_at ms w m k (bytes_eq (name k) w) refl (λ f. named_in_is ms w m f) e

pub named_is : (w : List ℕ) (m : Mnemonic) → named w ≡ Some m → w ≡ name m
unfolding named
named_is w m e = named_in_is BY_NAME.now w m e

-- a test that holds of all mnemonics in the table holds of what is found
unfoldable pub all_pass : (Mnemonic → Bool) → List Mnemonic → Bool
all_pass p [] = true
all_pass p (m ∷ ms) = cond (p m) (all_pass p ms) false

passes_at : (p : Mnemonic → Bool) (ms : List Mnemonic) (w : List ℕ) (m k : Mnemonic) (b c : Bool) → p k ≡ c → cond c (all_pass p ms) false ≡ true
    → (all_pass p ms ≡ true → named_in ms w ≡ Some m → p m ≡ true) → cond b (Some k) (named_in ms w) ≡ Some m → p m ≡ true
passes_at p ms w m k b false e a h f = absurd (cc a)
passes_at p ms w m k true true e a h f = let i : k ≡ m = cc f in sym (ap p i) ∙ e
passes_at p ms w m k false true e a h f = h a f

passes : (p : Mnemonic → Bool) (ms : List Mnemonic) (w : List ℕ) (m : Mnemonic) → all_pass p ms ≡ true → named_in ms w ≡ Some m → p m ≡ true
unfolding all_pass
passes p [] w m a e = absurd (cc e)
passes p (k ∷ ms) w m a e = passes_at p ms w m k (bytes_eq (name k) w) (p k) refl a (λ a e. passes p ms w m a e) e

-- and so of each mnemonic of one word
pub passing : (p : Mnemonic → Bool) (m : Mnemonic) → all_pass p BY_NAME.now ≡ true → has_two_words m ≡ false → p m ≡ true
unfolding named
passing p m a h = passes p BY_NAME.now (name m) m a (named_name m h)

one_word : Mnemonic → Bool
one_word m = cond (has_two_words m) false true

all_one_word : all_pass one_word BY_NAME.now ≡ true
unfolding all_pass one_word
all_one_word = refl

not_local : (b : Bool) → cond b false true ≡ true → b ≡ false
not_local true e = absurd (cc e)
not_local false e = refl

-- `call local` isn't found by one word
pub named_local : (w : List ℕ) (m : Mnemonic) → named w ≡ Some m → has_two_words m ≡ false
unfolding named one_word
named_local w m e = not_local (has_two_words m) (passes one_word BY_NAME.now w m all_one_word e)

pub register_again : (r : Reg) → register_named (register_name r) ≡ Some r
register_again R0 = refl
register_again R1 = refl
register_again R2 = refl
register_again R3 = refl
register_again R4 = refl
register_again R5 = refl
register_again R6 = refl
register_again R7 = refl
register_again R8 = refl
register_again R9 = refl
register_again R10 = refl

register_at : (rs : List Reg) (w : List ℕ) (r k : Reg) (b : Bool) → bytes_eq (register_name k) w ≡ b → (register_in rs w ≡ Some r → w ≡ register_name r)
    → cond b (Some k) (register_in rs w) ≡ Some r → w ≡ register_name r
register_at rs w r k true e h f = let i : k ≡ r = cc f in sym ((bytes_eq-Decides (register_name k) w).0 e) ∙ ap register_name i
register_at rs w r k false e h f = h f

pub register_is : (rs : List Reg) (w : List ℕ) (r : Reg) → register_in rs w ≡ Some r → w ≡ register_name r
register_is [] w r e = absurd (cc e)
register_is (k ∷ rs) w r e = register_at rs w r k (bytes_eq (register_name k) w) refl (λ f. register_is rs w r f) e
