use Rattle.std.proofs.Common.{arith, ◌≡◌, ◌∙◌, sym, subst, ℕ, suc, List, length}
use Rattle.grid_base.specs.Segment.{GridSegment}
use Rattle.plane_cells.specs.Swept.{AreVertices, AreDue, AreLater, IsSwept, wall_before, bound_at}
use Rattle.plane_cells.proofs.Whole.{begun, done}
use Rattle.plane_cells.proofs.Asking.{due_before, passing_on, first_passing, due_of, later_of, all_asked}
use Rattle.plane_cells.proofs.sweep.pass_all.Goals as goal

pub loop-index-init : goal.loop-index-init
loop-index-init c =
    let s = c.in_ok-sweep.sweep in
    let e = c.in_ok-sweep.ensures in
    first_passing c.args.border.now c.in_ok-vertices.vertices.items s.status s.next s.links.items s.right.items c.args.list.now
    s.list.now s.asked.items e.list e.asked
    (begun c.args.border.now c.in_ok-vertices.vertices.items s.status s.next s.links.items s.right.items c.args.list.now s.asked.items
    e.status e.next e.links e.right e.zero e.asked)

pub ask-requires-clause-vertices : goal.ask-requires-clause-vertices
ask-requires-clause-vertices c =
    subst (AreVertices c.args.border.now) (sym c.deref.ensures.value)
    (record {
      ascending = c.in_ok-vertices.ensures.ascending;
      all = c.in_ok-vertices.ensures.all;
      only =
          c.in_ok-vertices.ensures.only;
    })

pub ask-requires-clause-due : goal.ask-requires-clause-due
ask-requires-clause-due c =
    let s = c.loop-index.sweep in
    let V = c.in_ok-vertices.vertices in
    let i = c.loop-index.invariant in
    subst (λ (l : List ℕ). AreDue s.list.now (length s.asked.items) (bound_at l c.loop-index.index)) (sym c.deref.ensures.value)
    (subst (λ (T : List GridSegment). AreDue T (length s.asked.items) (bound_at V.items c.loop-index.index)) (sym i.same)
    (due_before c.args.border.now V.items c.loop-index.index c.args.list.now (length s.asked.items) c.requires.realm
    (record { ascending = c.in_ok-vertices.ensures.ascending; all = c.in_ok-vertices.ensures.all; only = c.in_ok-vertices.ensures.only })
    (omega (arith, c.loop-index-test.true, V.ok, c.len-index-end.ensures)) i.early))

pub pass-requires-clause-vertices : goal.pass-requires-clause-vertices
pass-requires-clause-vertices c =
    subst (AreVertices c.args.border.now) (sym c.deref-in-loop-index.ensures.value)
    (record {
      ascending = c.in_ok-vertices.ensures.ascending;
      all = c.in_ok-vertices.ensures.all;
      only =
          c.in_ok-vertices.ensures.only;
    })

pub pass-requires-clause-due : goal.pass-requires-clause-due
pass-requires-clause-due c =
    let V = c.in_ok-vertices.vertices in
    due_of c.loop-index.sweep.list.now c.ask.new.sweep.list.now V.items c.deref.result.now c.deref-in-loop-index.result.now
    c.loop-index.index (length c.ask.new.sweep.asked.items)
    c.in_ok-ask.ensures.list c.deref.ensures.value c.deref-in-loop-index.ensures.value
    (omega (arith, c.loop-index-test.true, V.ok, c.len-index-end.ensures)) c.in_ok-ask.ensures.due

pub pass-requires-clause-later : goal.pass-requires-clause-later
pass-requires-clause-later c =
    let V = c.in_ok-vertices.vertices in
    later_of c.loop-index.sweep.list.now c.ask.new.sweep.list.now V.items c.deref.result.now c.deref-in-loop-index.result.now
    c.loop-index.index (length c.ask.new.sweep.asked.items)
    c.in_ok-ask.ensures.list c.deref.ensures.value c.deref-in-loop-index.ensures.value
    (omega (arith, c.loop-index-test.true, V.ok, c.len-index-end.ensures)) c.in_ok-ask.ensures.later

-- one more vertex is passed
pub loop-index-preserved : goal.loop-index-preserved
loop-index-preserved c =
    let B = c.args.border.now in
    let V = c.in_ok-vertices.vertices in
    let i = c.loop-index.index in
    let n = c.pass.new.sweep in
    let to_first = c.in_ok-ask.ensures.list ∙ c.loop-index.invariant.same in
    let swept = subst (λ (l : List ℕ). IsSwept B (wall_before l (suc i)) n.status n.next n.links.items n.right.items
    c.ask.new.sweep.list.now c.ask.new.sweep.asked.items) c.deref-in-loop-index.ensures.value c.in_ok-pass.ensures.swept in
    let swept' = subst (λ (T : List GridSegment). IsSwept B (wall_before V.items (suc i)) n.status n.next n.links.items n.right.items
    T c.ask.new.sweep.asked.items) to_first swept in
    let swept'' = subst (λ (Y : List ℕ). IsSwept B (wall_before V.items (suc i)) n.status n.next n.links.items n.right.items
    c.args.list.now Y) (sym c.in_ok-pass.ensures.asked) swept' in
    let due = subst (λ (l : List ℕ). AreDue c.loop-index.sweep.list.now (length c.ask.new.sweep.asked.items) (bound_at l i))
    c.deref.ensures.value c.in_ok-ask.ensures.due in
    let due' = subst (λ (T : List GridSegment). AreDue T (length c.ask.new.sweep.asked.items) (bound_at V.items i))
    c.loop-index.invariant.same due in
    let due'' = subst (λ (Y : List ℕ). AreDue c.args.list.now (length Y) (bound_at V.items i)) (sym c.in_ok-pass.ensures.asked) due' in
    passing_on B V.items i n.status n.next n.links.items n.right.items c.args.list.now n.list.now n.asked.items
    (omega (arith, c.loop-index-test.true, V.ok, c.len-index-end.ensures)) (c.in_ok-pass.ensures.list ∙ to_first) swept'' due''

pub ask-requires-2-clause-vertices : goal.ask-requires-2-clause-vertices
ask-requires-2-clause-vertices c =
    subst (AreVertices c.args.border.now) (sym c.deref-2.ensures.value)
    (record {
      ascending = c.in_ok-vertices.ensures.ascending;
      all = c.in_ok-vertices.ensures.all;
      only =
          c.in_ok-vertices.ensures.only;
    })

pub ask-requires-2-clause-due : goal.ask-requires-2-clause-due
ask-requires-2-clause-due c =
    let s = c.loop-index.sweep in
    let V = c.in_ok-vertices.vertices in
    let i = c.loop-index.invariant in
    let end : c.loop-index.index ≡ c.len.result = omega
    (arith, c.loop-index-test.false, c.loop-index.auto.index-end, c.len-index-end.ensures, c.len.ensures) in
    let due = due_before c.args.border.now V.items c.loop-index.index c.args.list.now (length s.asked.items) c.requires.realm
    (record { ascending = c.in_ok-vertices.ensures.ascending; all = c.in_ok-vertices.ensures.all; only = c.in_ok-vertices.ensures.only })
    (omega (arith, c.loop-index.auto.index-end, V.ok, c.len-index-end.ensures)) i.early in
    subst (λ (l : List ℕ). AreDue s.list.now (length s.asked.items) (bound_at l c.len.result)) (sym c.deref-2.ensures.value)
    (subst (λ (m : ℕ). AreDue s.list.now (length s.asked.items) (bound_at V.items m)) end
    (subst (λ (T : List GridSegment). AreDue T (length s.asked.items) (bound_at V.items c.loop-index.index)) (sym i.same) due))

-- behind the last vertex the sweep is done
pub returns-clause-done : goal.returns-clause-done
returns-clause-done c =
    let B = c.args.border.now in
    let V = c.in_ok-vertices.vertices in
    let n = c.ask-2.new.sweep in
    let s = subst (λ (l : List ℕ). IsSwept B (wall_before l c.len.result) n.status n.next n.links.items n.right.items
    c.loop-index.sweep.list.now n.asked.items) c.deref-2.ensures.value c.in_ok-ask-2.ensures.swept in
    let s' = subst (λ (T : List GridSegment). IsSwept B (wall_before V.items c.len.result) n.status n.next n.links.items n.right.items
    T n.asked.items) c.loop-index.invariant.same s in
    done B V.items c.len.result n.status n.next n.links.items n.right.items c.args.list.now n.asked.items
    (record { ascending = c.in_ok-vertices.ensures.ascending; all = c.in_ok-vertices.ensures.all; only = c.in_ok-vertices.ensures.only })
    (omega (arith, V.ok, c.len.ensures)) (omega (arith, V.ok, c.len.ensures)) s'

pub returns-clause-all : goal.returns-clause-all
returns-clause-all c =
    let B = c.args.border.now in
    let V = c.in_ok-vertices.vertices in
    let n = c.ask-2.new.sweep in
    let s = subst (λ (T : List GridSegment). IsSwept B (wall_before c.deref-2.result.now c.len.result) n.status n.next n.links.items
    n.right.items T n.asked.items) c.loop-index.invariant.same c.in_ok-ask-2.ensures.swept in
    let l = subst (λ (l : List ℕ). AreLater c.loop-index.sweep.list.now (length n.asked.items) (bound_at l c.len.result))
    c.deref-2.ensures.value c.in_ok-ask-2.ensures.later in
    let l' = subst (λ (T : List GridSegment). AreLater T (length n.asked.items) (bound_at V.items c.len.result)) c.loop-index.invariant.same
    l in
    all_asked B V.items c.len.result c.args.list.now (length n.asked.items) c.requires.others
    (omega (arith, V.ok, c.len.ensures)) s.asked.count l'
