-- The elements that are cut off stand right behind the others, and their block starts where those end.
use Rattle.std.proofs.Common.{◌≡◌, ℕ, ◌+◌, ◌/◌, ◌<◌, List, ◌++◌, length, get_or, take, set, insert, Vec, ap, sym, ◌∙◌, arith, rules}
use Rattle.std.proofs.lemmas.List.{take-append-drop}
use Rattle.tiered_vector.specs.Blocks.{joined, starts_from}
use Rattle.tiered_vector.proofs.Starts.{length-starts_from, get_or-starts_from, block_within}
use Rattle.tiered_vector.proofs.Edits.{joined_halves, starts_halves}
use Rattle.tiered_vector.proofs.blocks.halve.Goals as goal

pub index-requires-2 : goal.index-requires-2
index-requires-2 g c = omega (
  arith,
  c.requires.there,
  c.reserve-2.ensures.len,
  ap length c.requires.starts,
  length-starts_from 0 c.args.blocks.now.items,
  c.args.blocks.now.ok.0,
  c.args.starts.now.ok.0,
)

pub put_in_room-requires-2-clause-within : goal.put_in_room-requires-2-clause-within
put_in_room-requires-2-clause-within g c = omega (
  arith,
  c.requires.there,
  c.reserve-2.ensures.len,
  ap length c.requires.starts,
  length-starts_from 0 c.args.blocks.now.items,
  c.args.blocks.now.ok.0,
  c.args.starts.now.ok.0,
)

pub overflow_add-index : goal.overflow_add-index
overflow_add-index g c =
    let bs = c.args.blocks.now.items in
    let k = c.args.block in
    let b = c.index.result.now in
    let n = c.index-2.result.now in
    let here : b ≡ get_or bs k b = c.index.ensures ∙ ap (λ (l : List (Vec _ _)). get_or l k b) c.reserve.ensures.items in
    let start : n ≡ get_or (starts_from 0 bs) k n =
    c.index-2.ensures ∙ ap (λ (l : List ℕ). get_or l k n) (c.reserve-2.ensures.items ∙ c.requires.starts) in
    omega (
      arith,
      start,
      ap (λ (v : Vec _ _). length v.items) here,
      b.ok.0,
      c.len-middle.ensures,
      c.requires.countable,
      block_within bs k n b (omega (arith, c.requires.there, c.args.blocks.now.ok.0)),
    )

pub returns : goal.returns
returns g c =
    let bs = c.args.blocks.now.items in
    let k = c.args.block in
    let b = c.index_mut.result.now in
    let first = c.split_off.new.self in
    let second = c.in_ok-second.second in
    let middle = c.len-middle.result / 2 in
    let n = c.index-2.result.now in
    let there : k < length bs = omega (arith, c.requires.there, c.args.blocks.now.ok.0) in
    let here : b ≡ get_or bs k b = c.index_mut.ensures.value ∙ ap (λ (l : List (Vec _ _)). get_or l k b) c.reserve.ensures.items in
    let cut : (get_or bs k b).items ≡ first.items ++ second.items =
    ap (λ (v : Vec _ _). v.items) (sym here)
    ∙ sym (ap (λ (l : List _). l ++ second.items) c.in_ok-second.ensures.items
    ∙ ap (λ (l : List _). take middle b.items ++ l) c.in_ok-second.ensures.tail ∙ take-append-drop middle b.items) in
    let list : c.put_in_room.new.list.items ≡ insert (set bs k first) (k + 1) second =
    c.put_in_room.ensures ∙ ap (λ (l : List (Vec _ _)). insert (set l k first) (k + 1) second) c.reserve.ensures.items in
    let before : n ≡ get_or (starts_from 0 bs) k n =
    c.index-2.ensures ∙ ap (λ (l : List ℕ). get_or l k n) (c.reserve-2.ensures.items ∙ c.requires.starts) in
    let start : n + middle ≡ (0 + length (joined (take k bs))) + length first.items =
    omega (arith, before, get_or-starts_from 0 bs k n there, c.in_ok-second.ensures.len, first.ok.0) in
    record {
      same = ap joined list ∙ joined_halves bs k b there first second cut;
      starts = c.put_in_room-2.ensures ∙ ap (λ (l : List ℕ). insert l (k + 1) (n + middle)) (c.reserve-2.ensures.items ∙ c.requires.starts)
          ∙ starts_halves bs k b there first second cut (n + middle) start ∙ ap (starts_from 0) (sym list);
      some = search rules;
    }
