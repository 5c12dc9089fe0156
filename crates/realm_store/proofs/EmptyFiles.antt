-- This file shows that files without a byte stand for the empty state.
use Rattle.std.proofs.Common.{◌≡◌, List, ℕ, [], None, length, refl, ap, arith}
use Rattle.realm_insert.specs.State.{empty_state}
use Rattle.realm_pages.specs.Files.{Counts}
use Rattle.realm_files.specs.Stands.{Files}
use Rattle.realm_store.specs.Stands.{AreEmpty}
use Rattle.realm_store.specs.Keeping.{RestsAt, StandsGated, nothing_kept}

-- a file without a byte doesn't count
empty_counts : {file : List ℕ} → file ≡ [] → Counts file → ⊥
empty_counts is counts = omega (arith, ap length is, counts.has_more)

pub rests_empty : (files : Files) → AreEmpty files → RestsAt nothing_kept files
rests_empty files empty = record { stands = (λ f. empty_counts (empty f), refl); reach = refl }

pub stands_empty : (files : Files) → AreEmpty files → StandsGated files empty_state
stands_empty files empty = (None, rests_empty files empty)
