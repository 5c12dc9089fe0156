use Rattle.std.proofs.Common.{Option, IsNone, MatchOption, take, take_all, ◌+◌, refl, sym, subst, arith}
use Rattle.std.proofs.lemmas.List.Elements.{All-more}
use Rattle.grid_base.specs.Segment.{GridSegment, BoxesMeet}
use Rattle.grid_base.specs.declared.kinds.Step.{Step}
use Rattle.hook_chain.specs.Mending.{IsPermitted}
use Rattle.realm_insert.specs.Clashes.{NoClash, AreClear}
use Rattle.realm_insert.specs.declared.searching.FoundClash.{FoundClash}
use Rattle.realm_insert.proofs.FoundSteps.{none_says}
use Rattle.realm_insert.proofs.searching.first_clash.Goals as goal
use Rattle.realm_insert.proofs.searching.first_clash.Goals.{in-Some, in_default}

-- the next piece clashes and is found, or what was found stays
pub loop-t-preserved : goal.loop-t-preserved
loop-t-preserved c =
    let d = c.args.drawing.now.drawing in
    let s = c.args.s.now in
    let pieces = c.args.pieces.now in
    let i = c.loop-t.t-index in
    let clear : GridSegment → Type 0 = λ t. BoxesMeet s t → NoClash d s t in
    let mends : FoundClash → Type 0 = λ found. IsPermitted d found.step in
    let so_far : Option FoundClash → Type 0 = λ first. MatchOption first (AreClear d s (take (i + 1) pieces)) mends in
    elim c.match-sooner_clash.branch [
      | in-Some w ↦ subst so_far (sym w.first-is) (rw w.in-Some.is at c.sooner_clash.ensures.permitted)
      | in_default w ↦ subst so_far (sym w.first-is)
          (none_says c.loop-t.first (AreClear d s (take i pieces)) (AreClear d s (take (i + 1) pieces)) mends
          (λ none before. All-more clear pieces i c.t-item.result c.loop-t-test.true before
          (subst clear c.t-item.is (c.sooner_clash.ensures.clear (subst (λ (o : Option Step). IsNone o) (sym w.in_default.is) refl) none)))
          c.loop-t.invariant)
    ]

-- at the end no piece clashes
pub returns-in-None : goal.returns-in-None
returns-in-None c =
    subst (AreClear c.args.drawing.now.drawing c.args.s.now)
    (take_all c.loop-t.t-index c.args.pieces.now (omega (arith, c.loop-t-test.false))) (rw c.in-None.is at c.loop-t.invariant)
