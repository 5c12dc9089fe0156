use Rattle.std.proofs.Common.{◌≡◌, ◌++◌}
use Rattle.realm_pages.specs.Generations.{pages_of}
use Rattle.realm_pages.proofs.prepared.push_pages.Given as goal

abbrev pub invariant-loop-page : goal.invariant-loop-page
invariant-loop-page l = l.text.items ≡ l.initial.text.items ++ pages_of l.page l.payload
