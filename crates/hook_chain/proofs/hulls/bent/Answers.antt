use Rattle.std.proofs.Common.{List, refl, sym, subst}
use Rattle.std.proofs.lemmas.Result.{IfOk-weaker}
use Rattle.grid_base.specs.Point.{GridPoint}
use Rattle.hook_chain.specs.Hook.{Hook}
use Rattle.hook_chain.specs.Placing.{turned}
use Rattle.hook_chain.proofs.PieceCharts.{both_charted}
use Rattle.hook_chain.proofs.HookParts.{hook_of_walks, seen_alike, walked_alike}
use Rattle.hook_chain.proofs.hulls.bent.Goals as goal

-- the walk from the lesser end
pub part-requires : goal.part-requires
part-requires c =
    let t = c.args.t.now in
    let both = both_charted t c.args.x c.chart_of-chart.result c.a-a.ensures.ordered c.chart_of-chart.ensures c.requires.near
    c.requires.beside in
    record {
      charted = seen_alike c.chart_of-chart.result c.chart_of-chart.result t.a t.b c.args.x c.a-a.result c.b-b.result refl
          c.a-a.ensures.end c.b-b.ensures.end both.first;
    }

-- and from the greater
pub part-requires-2 : goal.part-requires-2
part-requires-2 c =
    let t = c.args.t.now in
    let both = both_charted t c.args.x c.chart_of-chart.result c.a-a.ensures.ordered c.chart_of-chart.ensures c.requires.near
    c.requires.beside in
    record {
      charted = seen_alike (turned c.chart_of-chart.result) c.back_along-back.result t.b t.a c.args.x c.b-b.result c.a-a.result
          c.back_along-back.ensures
          c.b-b.ensures.end c.a-a.ensures.end both.second;
    }

-- the two walks make up the hook
pub returns : goal.returns
returns c =
    let t = c.args.t.now in
    let chart = c.chart_of-chart.result in
    let to = walked_alike chart chart t.a t.b c.args.x c.a-a.result c.b-b.result c.in_ok-to.to.items refl c.a-a.ensures.end
    c.b-b.ensures.end c.in_ok-to.ensures in
    let from = walked_alike (turned chart) c.back_along-back.result t.b t.a c.args.x c.b-b.result c.a-a.result c.in_ok-from.from.items
    c.back_along-back.ensures
    c.b-b.ensures.end c.a-a.ensures.end c.in_ok-from.ensures in
    let whole = hook_of_walks t c.args.x chart c.in_ok-to.to.items c.in_ok-from.from.items c.a-a.ensures.ordered c.chart_of-chart.ensures
    c.requires.near
    c.requires.beside to from in
    IfOk-weaker c.join.result _ _ (λ list is. subst (λ (l : List GridPoint). Hook t c.args.x l) (sym is) whole.hook) c.join.ensures
