-- This file shows that what a step takes from an owner is a piece.
use Rattle.std.proofs.Common.{List, All, Contains, sym, subst}
use Rattle.std.proofs.lemmas.List.Elements.{All-contains_itself, All-weaker}
use Rattle.component_registry.specs.Registry.{Holdings, IsPiece, owners_of}
use Rattle.component_registry.proofs.Registries.{piece_from_owner}
use Rattle.chain_laws.specs.declared.redrawing.Redrawings.{Redrawings}
use Rattle.realm_drawing.specs.declared.shares.Share.{Share}
use Rattle.chain_laws.specs.Redraws.{AreRedrawings}
use Rattle.realm_drawing.specs.Shares.{IsLost}
use Rattle.realm_drawing.specs.StepShares.{IsLostBy, Lists}
use Rattle.chain_laws.proofs.StepLinks.{AnyOf-weaker, AnyOf-constant}

pub lost_were_pieces : (step : Redrawings) (r : Holdings) (list : List Share) → AreRedrawings step
    → Lists list (IsLostBy r step) → All (λ y. IsPiece r y.piece) list
lost_were_pieces step r list are lists =
    All-weaker (Contains list) (λ y. IsPiece r y.piece)
    (λ y listed. AnyOf-constant (IsPiece r y.piece) step
    (AnyOf-weaker (λ q. IsLost (owners_of r q.piece) q.piece q.path y) (λ q. IsPiece r y.piece) step are
    (λ q path lost. subst (IsPiece r) (sym lost.of_piece) (piece_from_owner r q.piece y.id lost.owner))
    ((lists y).0 listed)))
    list (All-contains_itself list)
