-- A number is read from the matches of a subcommand.
use Rattle.std.proofs.Common.{◌≡◌, ℕ, List, Option, None, Some, Result, Ok, Err, refl, sym, ap, ◌∙◌, subst, option_map}
use Rattle.std.specs.Str.Parse.{ParsesUnsigned, digits_value, without_leading_plus}
use Rattle.clap.specs.Words.{Row, one_of, without_minus}
use Rattle.clap.specs.Matches.{ReadsOne}
use Rattle.clap.proofs.CallerReads.{signed_reads}
use Rattle.agent.specs.CommandLine.{number_in}
use Rattle.agent.specs.OptionNumbers.{HasNumber, ParsesAs}

module _ {N E : Type 0} (gives : List ℕ → Result N E → Type 0) (value : N → ℕ) (bits : ℕ) (parses : (text : List ℕ) (r : Result N E) → gives text r
    → ParsesAs bits value text r) where
  -- the same of the number's value
  abbrev Parses : List ℕ → Result ℕ E → Type 0
  Parses text r = ParsesUnsigned bits 10 text r

  value_read : (text : List ℕ) (r : Option N) → ReadsOne gives text r → ReadsOne Parses text (option_map value r)
  value_read text (Some n) reads = parses text (Ok n) reads
  value_read text None reads = (reads.0, parses text (Err reads.0) reads.1)

  of_value : (r : Option N) (v : ℕ) → option_map value r ≡ Some v → (n : N) × (r ≡ Some n) × (v ≡ value n)
  of_value (Some n) v e = (n, refl, cc)
  of_value None v e = absurd (cc)

  pub number_read : (name : List ℕ) (rows : List Row) → HasNumber bits name rows → (r : Option N)
      → ((text : List ℕ) → one_of name rows ≡ Some text → ReadsOne gives text r)
      → (n : N) × (r ≡ Some n) × (number_in name rows ≡ Some (value n))
  number_read name rows has r reads =
      let read = value_read (without_minus has.text) r (reads (without_minus has.text) has.found) in
      let got = signed_reads E Parses bits has.least has.limit has.text (option_map value r) read (λ text x h. h) has.fits has.accepted in
      let parsed = subst (ReadsOne Parses (without_minus has.text)) got.1 read in
      let n = of_value r got.0 got.1 in
      (n.0, n.1, ap (option_map (λ text. digits_value 10 (without_leading_plus text))) has.found ∙ ap Some (sym parsed.1 ∙ n.2))
