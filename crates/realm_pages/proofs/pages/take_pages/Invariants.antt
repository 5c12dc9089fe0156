use Rattle.std.proofs.Common.{◌≡◌, ℕ, ◌+◌, ◌*◌, List, length, min}
use Rattle.realm_pages.specs.Files.{HoldsFirst}
use Rattle.realm_pages.specs.ReadingPages.{IsPieceOf}
use Rattle.realm_pages.proofs.pages.take_pages.Given as goal

abbrev pub invariant-loop-page : goal.invariant-loop-page
invariant-loop-page l = record {
  so_far : length l.payload.items ≡ min (4054 * (l.before + l.page)) l.size;
  taken : (whole : List ℕ) → IsPieceOf whole l.before l.count l.piece → HoldsFirst whole l.size l.before l.initial.payload.items
      → HoldsFirst whole l.size (l.before + l.page) l.payload.items;
}
