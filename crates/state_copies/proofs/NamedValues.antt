-- This file shows which values are listed with their names.
use Rattle.std.proofs.Common.{◌≡◌, ℕ, ◌<◌, List, [], ◌∷◌, ◌++◌, length}
use Rattle.std.proofs.Common.{All}
use Rattle.std.proofs.Common.{refl, sym, ap, subst, ◌∙◌, arith}
use Rattle.std.proofs.lemmas.List.{map-append}
use Rattle.std.proofs.lemmas.List.Elements.{All-push}
use Rattle.line_grammar.specs.Spellable.{IsName}
use Rattle.record_codec.specs.Payload.{IsNamed, AreParts, AreOfKind}
use Rattle.record_codec.specs.declared.snapshot.Named.{Named}
use Rattle.record_codec.specs.declared.snapshot.KeptParts.{KeptParts}
use Rattle.record_codec.specs.declared.snapshot.KeptParts.TheVariants as kept
use Rattle.value_table.specs.Table.{NamedValues}
use Rattle.value_table.specs.declared.value.Value.{Value}
use Rattle.state_check.specs.Tabled.{AreAscending, entries_of, entry_of, kept_parts, parts_of}

-- the list has these values with their names, each with a text
pub record AreNamed (values : NamedValues) (list : List Named) : Type 0 where
  pub are : entries_of list ≡ values
  pub fit : All IsNamed list
  pub ascend : All (λ entry. AreAscending entry.1.parts) (entries_of list)

-- parts of a table that are kept are the parts that they were kept as
pub parts_kept : (made : KeptParts) → kept_parts (parts_of made) ≡ made
parts_kept (kept.Points points) = refl
parts_kept (kept.Ids ids) = refl

short_name : (name : List ℕ) → IsName name → length name < 256
short_name [] is = absurd is
short_name (b ∷ bytes) is = let few = is.2 in omega (arith, few)

-- one value more
pub one_more_named : (values more : NamedValues) (d : List ℕ × Value) (n : Named) (list new : List Named)
    → IsName d.0 × AreOfKind d.1.kind (kept_parts d.1.parts) → entry_of n ≡ d → AreAscending (parts_of n.value.parts)
    → AreParts n.value.parts → new ≡ list ++ n ∷ [] → more ≡ values ++ d ∷ [] → AreNamed values list → AreNamed more new
one_more_named values more d n list new kinds same ascends fits pushed longer was =
    let has = subst (λ (e : List ℕ × Value). IsName e.0 × AreOfKind e.1.kind (kept_parts e.1.parts)) (sym same) kinds in
    let entries = ap entries_of pushed ∙ map-append entry_of list (n ∷ []) in
    record {
      are = entries ∙ ap (λ (t : NamedValues). t ++ entry_of n ∷ []) was.are
          ∙ ap (λ (e : List ℕ × Value). values ++ e ∷ []) same ∙ sym longer;
      fit = subst (All IsNamed) (sym pushed) (All-push IsNamed list n was.fit (record {
        name = short_name n.name has.0;
        value = record { of_kind = subst (AreOfKind n.value.kind) (parts_kept n.value.parts) has.1; parts = fits };
      }));
      ascend = subst (All (λ entry. AreAscending entry.1.parts)) (sym entries)
          (All-push (λ entry. AreAscending entry.1.parts) (entries_of list) (entry_of n) was.ascend ascends);
    }
