use Rattle.std.proofs.Common.{◌≡◌, ◌++◌, string_bytes, append_assoc}
use Rattle.std.specs.List.{flat_map}
use Rattle.line_grammar.specs.Pieces.{points, next_list}
use Rattle.line_grammar.proofs.Texts.{others, lists-others}
use Rattle.line_grammar.proofs.writing.push_lists.Goals as goal

-- the first list was written, and then the others, each behind a semicolon
pub returns-in_ok-push_points-in-len1-up : goal.returns-in_ok-push_points-in-len1-up
returns-in_ok-push_points-in-len1-up c =
    let first = c.first-item.result in
    let whole = lists-others c.args.paths.now first c.in-len1-up.len_at_least c.first-item.is in
    let so_far : string_bytes c.push_points.new.text ≡ string_bytes c.args.text.now ++ points first =
    rw (c.places.ensures) at c.in_ok-push_points-in-len1-up.ensures in
    rw (whole, ← append_assoc (string_bytes c.args.text.now) (points first) (flat_map next_list (others c.args.paths.now)), ← so_far)
    c.push_next_lists.ensures
