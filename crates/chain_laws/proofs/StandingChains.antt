-- This file shows what valid chains are promised to be, and that the two ends of a segment are a valid chain for it.
use Rattle.std.proofs.Common.{◌≢◌, List, [], ◌∷◌, All, refl}
use Rattle.grid_base.specs.Point.{GridPoint, IsBefore}
use Rattle.grid_base.specs.Segment.{GridSegment}
use Rattle.grid_base.specs.declared.original.Original.{Original}
use Rattle.grid_base.proofs.Ends.{not_before_itself, columns_in_order}
use Rattle.hook_chain.specs.ValidChain.{IsMonotone, ValidChain}
use Rattle.hook_chain.proofs.CloseParts.{own_close}
use Rattle.hook_chain.specs.Straight.{along}
use Rattle.hook_chain.specs.StandingChains.{HasValidChain, IsChainFor}
use Rattle.chain_laws.proofs.Progress.{chain_is_short}
use Rattle.chain_laws.proofs.ChainEnvelope.{chain_in_envelope, ends_are_near}
use Rattle.chain_laws.proofs.Unswept.{nothing_swept}

-- a valid chain keeps all that is promised of the chain of an original
pub stands_for : (o : GridSegment) (chain : List GridPoint) → ValidChain o chain → IsChainFor o chain
stands_for o chain valid = record {
  valid = valid;
  in_envelope = chain_in_envelope o chain valid;
  near_ends = ends_are_near o chain valid;
  unswept = nothing_swept o chain valid;
  few_links = chain_is_short o chain valid;
}

pub all_stand : (originals : List Original) → All HasValidChain originals → All (λ o. IsChainFor (along o) o.chain) originals
all_stand originals valid = λ k o within. stands_for _ _ (valid k o within)

-- from its lesser end to its greater a segment is monotone and close to itself
pub straight_is_valid : (s : GridSegment) → IsBefore s.a s.b → ValidChain s (s.a ∷ s.b ∷ [])
straight_is_valid s ordered =
    let apart : s.a ≢ s.b = λ same. not_before_itself s.a s.b same ordered in
    let link : IsMonotone s.a s.b s.a s.b = (apart, columns_in_order s.a s.b ordered, λ up. up, λ down. down) in
    record { ends = ordered; leads = (refl, (refl, refl)); monotone = (link, tt); close = own_close s ordered }
