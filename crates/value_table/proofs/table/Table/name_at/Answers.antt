use Rattle.std.proofs.Common.{Some, length, option_map, slice_get, sym, ap, ◌∙◌}
use Rattle.std.specs.Map.{keys_of}
use Rattle.std.specs.Map.Iter.{TakesFirst, deref}
use Rattle.std.proofs.lemmas.Option.{slice_get-map}
use Rattle.std.proofs.lemmas.Iterator.Consumers.{nth_from_yields_List, YieldsList-from_shown}
use Rattle.value_table.specs.Table.{NamedValues}
use Rattle.value_table.proofs.table.Table.name_at.Goals as goal

-- the name of the definition at the place
pub returns-in-Some : goal.returns-in-Some
returns-in-Some c =
    let all : NamedValues = c.all.result in
    let nth = nth_from_yields_List c.nth.result c.nth.new.self c.args.k c.nth.ensures.ran
    (YieldsList-from_shown (TakesFirst deref) deref (λ s. s) (λ s t h. ap length h.0) (λ s x t h. h) all) in
    ap (λ name. Some name) c.name.ensures
    ∙ ap (λ r. option_map (λ d. d.0) (option_map deref r)) (sym c.in-Some.is)
    ∙ ap (option_map (λ d. d.0)) nth
    ∙ sym (slice_get-map (λ d. d.0) all c.args.k)
    ∙ ap (λ (table : NamedValues). slice_get (keys_of table) c.args.k) (c.all.ensures.definitions ∙ c.self.view_is)

pub returns-in-None : goal.returns-in-None
returns-in-None c =
    let all : NamedValues = c.all.result in
    let nth = nth_from_yields_List c.nth.result c.nth.new.self c.args.k c.nth.ensures.ran
    (YieldsList-from_shown (TakesFirst deref) deref (λ s. s) (λ s t h. ap length h.0) (λ s x t h. h) all) in
    ap (λ r. option_map (λ d. d.0) (option_map deref r)) (sym c.in-None.is)
    ∙ ap (option_map (λ d. d.0)) nth
    ∙ sym (slice_get-map (λ d. d.0) all c.args.k)
    ∙ ap (λ (table : NamedValues). slice_get (keys_of table) c.args.k) (c.all.ensures.definitions ∙ c.self.view_is)
