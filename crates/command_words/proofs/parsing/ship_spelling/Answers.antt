-- The getter gives the first value of an entry, and that is what the rows tell.
use Rattle.std.proofs.Common.{◌≡◌, ◌∙◌, List, [], ◌∷◌, Option, Some, None, ap, codes}
use Rattle.std.specs.Prelude.{option_map}
use Rattle.clap.specs.Words.{Text, first_value, found_of, rows_of}
use Rattle.clap.specs.declared.parser.matches.Found.{Found}
use Rattle.clap.proofs.WalkLemmas.{first_value-rows}
use Rattle.command_words.specs.Parsing.{number_told}
use Rattle.command_words.proofs.parsing.ship_spelling.Goals as goal

abbrev one : Option Text → Option (List Text)
one changes = option_map (λ k. codes "ship" ∷ k ∷ []) changes

-- the number as it was met, if it was
one_told : (f : Found) (changes : Option Text) → changes ≡ first_value f (codes "K") → one changes ≡ number_told (rows_of f)
one_told f changes k = ap one (k ∙ first_value-rows f (codes "K"))

pub returns-in_err-changes : goal.returns-in_err-changes
returns-in_err-changes c =
    rw c.from_residual.ensures (one_told (found_of c.args.matches.now) None c.in_err-changes.ensures)

pub returns : goal.returns
returns c = one_told (found_of c.args.matches.now) (Some c.in_ok-changes.changes.now) c.in_ok-changes.ensures
