use Rattle.std.proofs.Common.{refl}
use Rattle.hook_chain.proofs.Upright.{upright_by, close_by_ends, straddled_by_close, ends_by_close}
use Rattle.hook_chain.proofs.closeness.upright_is_close.Goals as goal

-- a piece one high is close exactly where the original passes between its ends
pub returns-then-is_one_high : goal.returns-then-is_one_high
returns-then-is_one_high c =
    let upright = upright_by _ _ c.requires.wide c.requires.within c.requires.upright c.is_one_high.ensures.ordered in (
      λ between. close_by_ends _ _ upright (c.if-is_one_high.ensures.one_high.0 refl) (c.passes_between.ensures.0 between),
      λ close. c.passes_between.ensures.1 (ends_by_close _ _ upright close),
    )

-- and a close piece is one high
pub returns-else-is_one_high : goal.returns-else-is_one_high
returns-else-is_one_high c =
    let upright = upright_by _ _ c.requires.wide c.requires.within c.requires.upright c.is_one_high.ensures.ordered in (
      λ no. cc,
      λ close. let yes = c.is_one_high.ensures.one_high.1 (straddled_by_close _ _ upright close).one_high in cc,
    )
