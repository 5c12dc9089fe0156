-- A block without elements adds nothing to the elements, nor to the starts behind it.
use Rattle.std.proofs.Common.{◌≡◌, ℕ, List, length, remove, Vec, ap, sym, ◌∙◌, arith}
use Rattle.std.proofs.lemmas.List.{nil_from_length}
use Rattle.std.proofs.lemmas.Bool.Decides.{nat_tests}
use Rattle.tiered_vector.specs.Blocks.{joined, starts_from}
use Rattle.tiered_vector.proofs.Starts.{length-starts_from}
use Rattle.tiered_vector.proofs.Edits.{joined_dropped, starts_dropped}
use Rattle.tiered_vector.proofs.blocks.drop_if_empty.Goals as goal

pub remove-requires-then-is_empty : goal.remove-requires-then-is_empty
remove-requires-then-is_empty g c = omega (
  arith,
  c.requires.there,
  ap length c.requires.starts,
  length-starts_from 0 c.args.blocks.now.items,
  c.args.blocks.now.ok.0,
  c.args.starts.now.ok.0,
)

pub returns-then-is_empty-clause-same : goal.returns-then-is_empty-clause-same
returns-then-is_empty-clause-same g c =
    let b = c.index.result.now in
    let none : length b.items ≡ 0 = grind (arith, nat_tests, b.ok.0, c.is_empty.ensures, c.if-is_empty.true) in
    ap joined c.remove.ensures.items
    ∙ joined_dropped c.args.blocks.now.items c.args.block b (omega (arith, c.requires.there, c.args.blocks.now.ok.0))
    (ap (λ (v : Vec _ _). v.items) (sym c.index.ensures) ∙ nil_from_length b.items none)

pub returns-then-is_empty-clause-starts : goal.returns-then-is_empty-clause-starts
returns-then-is_empty-clause-starts g c =
    let b = c.index.result.now in
    let k = c.args.block in
    let none : length b.items ≡ 0 = grind (arith, nat_tests, b.ok.0, c.is_empty.ensures, c.if-is_empty.true) in
    c.remove-then-is_empty.ensures.items ∙ ap (λ (l : List ℕ). remove l k) c.requires.starts
    ∙ starts_dropped c.args.blocks.now.items k b (omega (arith, c.requires.there, c.args.blocks.now.ok.0))
    (ap (λ (v : Vec _ _). v.items) (sym c.index.ensures) ∙ nil_from_length b.items none)
    ∙ ap (starts_from 0) (sym c.remove.ensures.items)
