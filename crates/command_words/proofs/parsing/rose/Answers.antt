-- Each call adds what its name says to what the parser is told.
use Rattle.std.proofs.Common.{◌≡◌, ◌∙◌, true, ap, ap₂, codes}
use Rattle.std.specs.Prelude.{Bool, ◌||◌}
use Rattle.std.proofs.lemmas.Result.{IfOk-weaker}
use Rattle.clap.specs.Words.{App, Shape, app_of, new_app, with_rule, with_subcommand}
use Rattle.clap.specs.Simple.{app_of_fields, on_top}
use Rattle.command_words.specs.Parsing.{first_three, generate, program, ship}
use Rattle.command_words.proofs.parsing.rose.Goals as goal

abbrev top : App → Shape
top a = a.top

abbrev either : Bool → Bool → Bool
either x y = x || y

abbrev with_run : App
with_run = with_subcommand program (new_app (codes "run")).top

abbrev with_check : App
with_check = with_subcommand with_run (new_app (codes "check")).top

abbrev with_ship : App
with_ship = with_subcommand first_three ship.top

abbrev with_follow : App
with_follow = with_subcommand with_ship (new_app (codes "follow")).top

abbrev with_certify : App
with_certify = with_subcommand with_follow (new_app (codes "certify")).top

pub returns : goal.returns
returns c =
    let lines = c.needed-lines.ensures in
    let start = c.needed-start.ensures in
    let changes = c.needed-changes.ensures in
    let lines_in = c.in_ok-arg.ensures.shape lines.1 ∙ ap₂ with_rule c.new.ensures.app lines.0 in
    let lines_local = c.in_ok-arg.ensures.globals ∙ ap₂ either c.new.ensures.local lines.1 in
    let generate_is : app_of c.in_ok-generate.generate ≡ generate =
    c.in_ok-generate.ensures.shape start.1 ∙ ap₂ with_rule lines_in start.0 in
    let generate_local = c.in_ok-generate.ensures.globals ∙ ap₂ either lines_local start.1 in
    let ship_is : app_of c.in_ok-ship.ship ≡ ship =
    c.in_ok-ship.ensures.shape changes.1 ∙ ap₂ with_rule c.new-2.ensures.app changes.0 in
    let ship_local = c.in_ok-ship.ensures.globals ∙ ap₂ either c.new-2.ensures.local changes.1 in
    let unnamed = on_top (λ s. record s { no_binary_name = true }) in
    let flagless = on_top (λ s. record s { disable_help_flag = true }) in
    let helpless = on_top (λ s. record s { disable_help_subcommand = true }) in
    let unnamed_is = ap app_of_fields c.no_binary_name.ensures ∙ ap unnamed c.new-3.ensures.app in
    let flagless_is = ap app_of_fields c.disable_help_flag.ensures ∙ ap flagless unnamed_is in
    let program_is : app_of c.disable_help_subcommand.result ≡ program =
    ap app_of_fields c.disable_help_subcommand.ensures ∙ ap helpless flagless_is in
    let run_in : app_of c.in_ok-subcommand.field-0 ≡ with_run =
    c.in_ok-subcommand.ensures.shape c.new-run.ensures.local ∙ ap₂ with_subcommand program_is (ap top c.new-run.ensures.app) in
    let check_in : app_of c.in_ok-subcommand-2.field-0 ≡ with_check =
    c.in_ok-subcommand-2.ensures.shape c.new-check.ensures.local ∙ ap₂ with_subcommand run_in (ap top c.new-check.ensures.app) in
    let generate_in : app_of c.in_ok-subcommand-3.field-0 ≡ first_three =
    c.in_ok-subcommand-3.ensures.shape generate_local ∙ ap₂ with_subcommand check_in (ap top generate_is) in
    let ship_in : app_of c.in_ok-subcommand-4.field-0 ≡ with_ship =
    c.in_ok-subcommand-4.ensures.shape ship_local ∙ ap₂ with_subcommand generate_in (ap top ship_is) in
    let follow_in : app_of c.in_ok-subcommand-5.field-0 ≡ with_follow =
    c.in_ok-subcommand-5.ensures.shape c.new-follow.ensures.local ∙ ap₂ with_subcommand ship_in (ap top c.new-follow.ensures.app) in
    let certify_in : app_of c.in_ok-subcommand-6.field-0 ≡ with_certify =
    c.in_ok-subcommand-6.ensures.shape c.new-certify.ensures.local ∙ ap₂ with_subcommand follow_in (ap top c.new-certify.ensures.app) in
    let audit_in = ap₂ with_subcommand certify_in (ap top c.new-audit.ensures.app) in
    IfOk-weaker c.subcommand-7.result _ _ (λ r adds. adds.shape c.new-audit.ensures.local ∙ audit_in) c.subcommand-7.ensures
