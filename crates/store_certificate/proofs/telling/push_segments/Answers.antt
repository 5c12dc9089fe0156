use Rattle.std.proofs.Common.{◌≡◌, ◌++◌, List, sym, ap, ◌∙◌, arith}
use Rattle.std.proofs.lemmas.List.{append-nil}
use Rattle.realm_audit.specs.declared.item.Item.{Item}
use Rattle.store_certificate.proofs.NewOriginals.{told_below, none_told, one_id_more, all_told}
use Rattle.store_certificate.proofs.telling.push_segments.Goals as goal

-- before the first id none is told
pub loop-id-init : goal.loop-id-init
loop-id-init c =
    let lines = c.args.lines.now in
    sym (append-nil lines) ∙ ap (λ (l : List Item). lines ++ l) (sym (none_told c.args.first c.args.drawing.now.drawing.originals))

-- one id more was looked for
pub loop-id-preserved : goal.loop-id-preserved
loop-id-preserved c =
    one_id_more c.args.drawing.now.drawing c.args.first c.loop-id.id c.args.lines.now c.loop-id.lines c.push_segment.new.lines
    c.loop-id.auto.id c.chain-rising.ensures.rising c.in_ok-push_segment.ensures c.loop-id.invariant

-- at the end all were
pub returns : goal.returns
returns c =
    let end : c.loop-id.id ≡ c.args.next_id = omega (arith, c.requires.order) in
    let os = c.args.drawing.now.drawing.originals in
    c.loop-id.invariant ∙ ap (λ n. c.args.lines.now ++ told_below c.args.first n os) end
    ∙ ap (λ (l : List Item). c.args.lines.now ++ l) (all_told c.args.first c.args.next_id os c.requires.below)
