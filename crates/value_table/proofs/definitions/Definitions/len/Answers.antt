use Rattle.std.proofs.Common.{subst}
use Rattle.std.proofs.lemmas.Map.Made.{AllPairs-from_IsDistinct}
use Rattle.std.proofs.lemmas.Slice.Eq.{bytes_eq-Decides}
use Rattle.value_table.specs.Table.{HasDistinctNames}
use Rattle.value_table.proofs.Numbering.{distinct_names}
use Rattle.value_table.proofs.definitions.Definitions.len.Goals as goal

-- a name has one number alone
pub returns-clause-distinct : goal.returns-clause-distinct
returns-clause-distinct c =
    subst HasDistinctNames c.self.view_is (AllPairs-from_IsDistinct bytes_eq-Decides _ (distinct_names _ _ _ c.self.invariant))
