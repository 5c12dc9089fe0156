-- This file shows that each step that the search finds is permitted, and what it means that it finds none.
use Rattle.std.proofs.Common.{◌≡◌, ◌↔◌, false, Option, None, Some, Result, Ok, Err, MatchOption, IfOk, IfSome, IsNone, refl, sym, subst, ◌∙◌, inl, inr}
use Rattle.std.specs.Option.{is_some}
use Rattle.grid_base.specs.Point.{GridPoint}
use Rattle.grid_base.specs.Segment.{GridSegment}
use Rattle.grid_base.specs.Crossing.{Inside, Cross}
use Rattle.grid_base.specs.Drawing.{Drawing, IsPoint, IsPiece}
use Rattle.grid_base.specs.declared.kinds.Step.{Step}
use Rattle.grid_base.specs.declared.kinds.Step.TheVariants.{Split}
use Rattle.hook_chain.specs.Mending.{IsPermitted, MendsCrossing}
use Rattle.chain_laws.proofs.Mendings.{mending_is_permitted}
use Rattle.realm_insert.specs.Clashes.{HasNoEndInside, NoClash}

-- what it means that nothing was found may be weakened
pub none_means : (found : Option Step) (P Q : Type 0) (R : Step → Type 0) → (P → Q) → MatchOption found P R
    → MatchOption found Q R
none_means None P Q R weaker said = weaker said
none_means (Some step) P Q R weaker said = said

-- so it may where there was memory to look
pub none_found_means : {E : Type 0} (r : Result (Option Step) E) (P Q : Type 0) (R : Step → Type 0) → (P → Q)
    → IfOk r (λ found. MatchOption found P R) → IfOk r (λ found. MatchOption found Q R)
none_found_means (Ok found) P Q R weaker said = none_means found P Q R weaker said
none_found_means (Err e) P Q R weaker said = said

-- and where something is found, nothing is said of it
pub none_says : {A : Type 0} (found : Option A) (P Q : Type 0) (R : A → Type 0) → (IsNone found → P → Q) → MatchOption found P R
    → MatchOption found Q R
none_says None P Q R weaker said = weaker refl said
none_says (Some x) P Q R weaker said = said

-- what is said of None holds where there is no Some
pub where_none : (A : Type 0) (P : Step → Type 0) (found : Option Step) → false ≡ is_some found → MatchOption found A P → A
where_none A P None no_step none = none
where_none A P (Some step) no_step some = cc

-- a point inside a piece splits it
pub split_is_permitted : (d : Drawing) (p : GridPoint) (t : GridSegment) → IsPoint d p → IsPiece d t → Inside p t
    → IsPermitted d (Split p t)
split_is_permitted d p t point piece inside = mending_is_permitted d (Split p t) inside (point, piece)

-- what is so of both ends is so of each end
pub no_end_by : (d : Drawing) (s t : GridSegment) (a b : GridPoint) → a ≡ s.a → b ≡ s.b → (IsPoint d a → Inside a t → ⊥)
    → (IsPoint d b → Inside b t → ⊥) → HasNoEndInside d s t
no_end_by d s t a b is_a is_b no_a no_b p (inl first) point inside =
    let same = first ∙ sym is_a in
    no_a (subst (IsPoint d) same point) (subst (λ q. Inside q t) same inside)
no_end_by d s t a b is_a is_b no_a no_b p (inr last) point inside =
    let same = last ∙ sym is_b in
    no_b (subst (IsPoint d) same point) (subst (λ q. Inside q t) same inside)

-- where no end is inside, the step that mends a crossing of two pieces is all there is to find
pub crossing_found : (d : Drawing) (s t : GridSegment) (found : Option Step) → IsPiece d s → IsPiece d t
    → HasNoEndInside d s t → HasNoEndInside d t s → (IsNone found ↔ (Cross s t → ⊥)) → IfSome found (MendsCrossing s t)
    → MatchOption found (NoClash d s t) (IsPermitted d)
crossing_found d s t None is_piece other no_end_of_s no_end_of_t apart mends = record {
  no_end_of_s = no_end_of_s;
  no_end_of_t = no_end_of_t;
  no_crossing = λ cross. apart.0 refl cross;
}
crossing_found d s t (Some step) is_piece other no_end_of_s no_end_of_t apart mends =
    mending_is_permitted d step mends.mending (mends.parts d is_piece other)
