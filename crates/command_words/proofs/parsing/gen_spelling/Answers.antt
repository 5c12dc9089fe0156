-- The getter gives the first value of an entry, and that is what the rows tell.
use Rattle.std.proofs.Common.{◌≡◌, ◌∙◌, List, [], ◌∷◌, Option, Some, None, refl, ap₂, codes}
use Rattle.std.specs.Prelude.{option_and_then, option_map}
use Rattle.clap.specs.Words.{Text, first_value, found_of, rows_of}
use Rattle.clap.specs.declared.parser.matches.Found.{Found}
use Rattle.clap.proofs.WalkLemmas.{first_value-rows}
use Rattle.command_words.specs.Parsing.{numbers_told}
use Rattle.command_words.proofs.parsing.gen_spelling.Goals as goal

abbrev both : Option Text → Option Text → Option (List Text)
both lines start = option_and_then (λ l. option_map (λ s. codes "gen" ∷ l ∷ s ∷ []) start) lines

-- the two numbers as they were met, if they were
both_told : (f : Found) (lines start : Option Text) → lines ≡ first_value f (codes "N") → start ≡ first_value f (codes "START")
    → both lines start ≡ numbers_told (rows_of f)
both_told f lines start l s = ap₂ both (l ∙ first_value-rows f (codes "N")) (s ∙ first_value-rows f (codes "START"))

pub returns-in_err-lines : goal.returns-in_err-lines
returns-in_err-lines c =
    let f = found_of c.args.matches.now in
    rw c.from_residual.ensures (both_told f None (first_value f (codes "START")) c.in_err-lines.ensures refl)

pub returns-in_err-start : goal.returns-in_err-start
returns-in_err-start c =
    let f = found_of c.args.matches.now in
    let lines = Some c.in_ok-lines.lines.now in
    rw c.from_residual-in_err-start.ensures (both_told f lines None c.in_ok-lines.ensures c.in_err-start.ensures)

pub returns : goal.returns
returns c =
    let f = found_of c.args.matches.now in
    both_told f (Some c.in_ok-lines.lines.now) (Some c.in_ok-start.start.now) c.in_ok-lines.ensures c.in_ok-start.ensures
