-- This file shows that each value of a valid state has a geometry that ascends, and the border of a region is even.
use Rattle.std.proofs.Common.{◌≡◌, ◌⊎◌, ◌↔◌, ℕ, ◌%◌, ◌<◌, Bool, List, map, Contains, All, AllPairs, Any, count_by}
use Rattle.std.proofs.Common.{Option, Some, None, IfSome, IsSome, refl, sym, ap, subst, ◌∙◌, inl, inr, arith}
use Rattle.std.specs.Str.{bytes_eq}
use Rattle.std.proofs.lemmas.List.Elements.{All-contains, All-weaker, Contains-get_or}
use Rattle.std.proofs.lemmas.Map.Entries.{All-lookup}
use Rattle.grid_base.specs.Border.{is_end, IsEvenBorder}
use Rattle.grid_base.specs.Drawing.{Drawing}
use Rattle.grid_base.specs.Segment.{GridSegment, IsSegmentBefore}
use Rattle.grid_base.specs.declared.kinds.Kind.{Kind}
use Rattle.grid_base.specs.declared.kinds.Kind.TheVariants as kinds
use Rattle.grid_base.specs.declared.original.Original.{Original}
use Rattle.grid_base.proofs.Orders.{is_segment}
use Rattle.rose_values.specs.declared.geometry.Geometry.{Geometry}
use Rattle.rose_values.specs.declared.geometry.Geometry.TheVariants.{P, L, R}
use Rattle.rose_operators.specs.Results.{IsAscending}
use Rattle.hook_chain.specs.StandingChains.{AllValid, HasValidChain}
use Rattle.hook_chain.specs.Ids.{IsAscending as RiseById}
use Rattle.hook_chain.specs.Straight.{along}
use Rattle.value_geometry.specs.Geometry.{IsOnChainOf, IsOnOddly, IsGeometryOf}
use Rattle.value_geometry.specs.Links.{links_of, IsOnlyOne}
use Rattle.value_geometry.specs.Parts.{AreOriginals, HasParts}
use Rattle.value_geometry.proofs.Cancelling.{segment_differs}
use Rattle.value_geometry.proofs.Counts.{IsOnceOrNot, once_or_not}
use Rattle.value_geometry.proofs.PartLinks.{on_some_chain, on_oddly, ends_of_parts}
use Rattle.value_table.specs.Table.{value_named}
use Rattle.value_table.specs.declared.value.Value.{Value}
use Rattle.value_table.specs.declared.value.Parts.{Parts}
use Rattle.value_table.specs.declared.value.Parts.TheVariants.{Points, Ids}
use Rattle.state_check.specs.Tabled.{AreAscending}
use Rattle.state_check.proofs.PartEnds.{same_by_id}
use Rattle.realm_insert.specs.State.{State}
use Rattle.realm_insert.specs.Operands.{LacksName}
use Rattle.realm_insert.specs.Snapshots.{IsValidState}
use Rattle.realm_insert.specs.Values.{IsGeometryNamed}
use Rattle.realm_insert.proofs.KeptValues.{named_has_parts}
use Rattle.one_reply.proofs.Listings.{listed_segments, reduced_segments}

-- a region has an even border
abbrev pub IsEvenValue : Geometry → Type 0
IsEvenValue (P points) = Unit {0}
IsEvenValue (L lines) = Unit {0}
IsEvenValue (R border) = IsEvenBorder border

-- g is made of such parts, ascends, and is even if it is a region
pub record IsMade (d : Drawing) (kind : Kind) (made : Parts) (g : Geometry) : Type 0 where
  pub is_geometry : IsGeometryOf d (record { kind = kind; parts = made }) g
  pub ascending : IsAscending g
  pub even : IsEvenValue g

module _ (d : Drawing) (rising : RiseById d.originals) (chains : AllValid d) where
  -- no two originals have one id
  pub only_one : (o : Original) → Contains d.originals o → IsOnlyOne d o
  only_one o there = record {
    valid = All-contains HasValidChain d.originals o chains there;
    only = λ k q within same.
        ap (λ (r : Original). r.chain) (same_by_id d.originals rising _ o (Contains-get_or d.originals k q within) there same);
  }

  -- ---- lines
  module _ (ids : List ℕ) (parts : List Original) (are : AreOriginals d ids parts) where
    all_only : All (IsOnlyOne d) parts
    all_only = All-weaker (Contains d.originals) (IsOnlyOne d) only_one parts are.there

    -- the links of the chains, each once
    some_lines : (g : Geometry) × IsMade d kinds.Lines (Ids ids) g
    some_lines =
        let (list, is) = listed_segments (links_of parts) in (
          L list,
          record {
            is_geometry = (
              refl,
              λ s.
                  let on = on_some_chain d parts are.there all_only s in (
                    λ there. subst (Any (IsOnChainOf d s)) are.by_id (on.0 ((is.exact s).0 there)),
                    λ some. (is.exact s).1 (on.1 (subst (Any (IsOnChainOf d s)) (sym are.by_id) some)),
                  ),
            );
            ascending = is.ascending;
            even = tt;
          },
        )

    -- those that stand there an odd number of times
    module _ (border : List GridSegment) (ascending : AllPairs IsSegmentBefore border)
        (parity : (test : GridSegment → Bool) → count_by test border % 2 ≡ count_by test (links_of parts) % 2) where
      counts_once : (s : GridSegment) → Contains border s ↔ (count_by (is_segment s) (links_of parts) % 2 ≡ 1)
      counts_once s = by (once_or_not border (λ i j e before within. segment_differs _ _ (ascending i j e before within)) s)
        where
          same : count_by (is_segment s) border % 2 ≡ count_by (is_segment s) (links_of parts) % 2
          same = parity (is_segment s)

          by : IsOnceOrNot border s → Contains border s ↔ (count_by (is_segment s) (links_of parts) % 2 ≡ 1)
          by (inl (there, once)) = (λ h. omega (arith, same, once), λ h. there)
          by (inr (gone, none)) = (λ h. absurd (gone h), λ h. absurd (omega (arith, same, none, h)))

      is_region : AllPairs (λ m n. m < n) ids → IsEvenBorder (map along parts) → IsMade d kinds.Regions (Ids ids) (R border)
      is_region up even = record {
        is_geometry = (
          refl,
          λ s.
              let once = counts_once s in
              let oddly = on_oddly d parts are.there all_only (subst (AllPairs (λ m n. m < n)) (sym are.by_id) up) s in (
                λ there. subst (λ ns. IsOnOddly d ns s) are.by_id (oddly.0 (once.0 there)),
                λ on. once.1 (oddly.1 (subst (λ ns. IsOnOddly d ns s) (sym are.by_id) on)),
              ),
        );
        ascending = ascending;
        even = λ p. parity (is_end p) ∙ ends_of_parts d parts all_only p ∙ even p;
      }

    some_region : AllPairs (λ m n. m < n) ids → IsEvenBorder (map along parts)
        → (g : Geometry) × IsMade d kinds.Regions (Ids ids) g
    some_region up even =
        let (border, is) = reduced_segments (links_of parts) in (R border, is_region border is.ascending is.parity up even)

  -- ---- by kinds
  pub some_made : (kind : Kind) (made : Parts) → HasParts d kind made → AreAscending made → (g : Geometry) × IsMade d kind made g
  some_made kinds.Points (Points list) has up = (P list, record { is_geometry = (refl, refl); ascending = up; even = tt })
  some_made kinds.Points (Ids ids) has up = absurd has
  some_made kinds.Lines (Points list) has up = absurd has
  some_made kinds.Lines (Ids ids) (parts, are) up = some_lines ids parts are
  some_made kinds.Regions (Points list) has up = absurd has
  some_made kinds.Regions (Ids ids) (parts, are, even) up = some_region ids parts are up even

-- ---- by names
-- g is what the value with this name is made of at present
pub record IsNamedValue (s : State) (name : List ℕ) (g : Geometry) : Type 0 where
  pub is_geometry : IsGeometryNamed s name (Some g)
  pub ascending : IsAscending g
  pub even : IsEvenValue g

-- the name is a value's, and this has a geometry, or it is none's
pub some_value : (s : State) (name : List ℕ) → IsValidState s → LacksName name s.values ⊎ ((g : Geometry) × IsNamedValue s name g)
some_value s name valid = by (value_named name s.values) refl
  where
    up : IfSome (value_named name s.values) (λ (v : Value). AreAscending v.parts)
    up = All-lookup (λ (v : Value). AreAscending v.parts) (bytes_eq name) s.values valid.parts_ascend

    by : (found : Option Value) → value_named name s.values ≡ found
        → LacksName name s.values ⊎ ((g : Geometry) × IsNamedValue s name g)
    by None is = inl (λ named. let none = subst (λ (o : Option Value). IsSome o) is named in cc)
    by (Some v) is =
        let has = named_has_parts s.drawing s.values name v valid.values_fit is in
        let ascends = subst (λ (o : Option Value). IfSome o (λ (w : Value). AreAscending w.parts)) is up in
        let (g, made) = some_made s.drawing valid.ids_rise valid.chains v.kind v.parts has ascends in
        inr (g, record { is_geometry = (v, is, made.is_geometry); ascending = made.ascending; even = made.even })
