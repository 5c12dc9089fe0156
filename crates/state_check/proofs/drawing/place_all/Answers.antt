use Rattle.std.proofs.Common.{◌<◌, All, sym, subst, take_all}
use Rattle.std.proofs.lemmas.List.Elements.{All-nil, All-more}
use Rattle.grid_base.specs.Drawing.{Drawing}
use Rattle.grid_base.specs.declared.original.Original.{Original}
use Rattle.hook_chain.specs.StandingChains.{HasValidChain}
use Rattle.state_check.proofs.Placed.{next_is_above, one_more_there}
use Rattle.state_check.proofs.drawing.place_all.Goals as goal

pub loop-o-init : goal.loop-o-init
loop-o-init c = record { there = c.requires.none; valid = All-nil HasValidChain }

-- its id is above those before it
pub place-requires : goal.place-requires
place-requires c =
    let above = next_is_above c.args.originals.now c.loop-o.o-index c.o-item.result c.loop-o-test.true c.o-item.is c.requires.rising in
    record {
      id_above = subst (λ (d : Drawing). All (λ (p : Original). p.id < c.o-item.result.id) d.originals)
          (sym c.loop-o.invariant.there) above;
    }

-- one more is there
pub loop-o-preserved : goal.loop-o-preserved
loop-o-preserved c =
    let os = c.args.originals.now in
    let i = c.loop-o.o-index in
    let o = c.o-item.result in
    record {
      there = one_more_there c.loop-o.drawing.drawing c.place.new.drawing.drawing os i o c.loop-o-test.true c.o-item.is
          c.loop-o.invariant.there c.in_ok-place.ensures.placed;
      valid = All-more HasValidChain os i o c.loop-o-test.true c.loop-o.invariant.valid
          (subst HasValidChain c.o-item.is c.in_ok-place.ensures.valid);
    }

-- at the end all are
pub returns-clause-placed : goal.returns-clause-placed
returns-clause-placed c = let past = c.loop-o-test.false in rw take_all at c.loop-o.invariant.there

pub returns-clause-valid : goal.returns-clause-valid
returns-clause-valid c = let past = c.loop-o-test.false in rw take_all at c.loop-o.invariant.valid
