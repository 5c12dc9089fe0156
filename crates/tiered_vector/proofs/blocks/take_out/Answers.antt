-- The element is taken out of one block, and stands before the later blocks no more.
use Rattle.std.proofs.Common.{◌≡◌, ℕ, ◌+◌, ◌-◌, ◌<◌, List, ◌++◌, All, map, length, get_or, take, drop, remove, Vec}
use Rattle.std.proofs.Common.{subst, ap, sym, ◌∙◌, arith}
use Rattle.std.proofs.lemmas.List.{take_rest}
use Rattle.std.proofs.lemmas.List.Edits.{length-remove}
use Rattle.tiered_vector.proofs.Starts.{ascending, from_zero, some_block, place_found, length-starts_from, starts_positive}
use Rattle.tiered_vector.proofs.Written.{written}
use Rattle.tiered_vector.proofs.Edits.{taken_from_joined, element_of_joined, starts_of_fewer}
use Rattle.tiered_vector.proofs.blocks.take_out.Goals as goal

pub place_of-block-requires-clause-ascending : goal.place_of-block-requires-clause-ascending
place_of-block-requires-clause-ascending g c = ascending c.args.blocks.now.items _ (c.deref.ensures.value ∙ c.requires.starts)

pub place_of-block-requires-clause-from_zero : goal.place_of-block-requires-clause-from_zero
place_of-block-requires-clause-from_zero g c = from_zero c.args.blocks.now.items _ (c.deref.ensures.value ∙ c.requires.starts)
    (some_block c.args.blocks.now.items (omega (arith, c.requires.within)))

pub index_mut-requires : goal.index_mut-requires
index_mut-requires g c =
    let at = place_found c.args.blocks.now.items _ (c.deref.ensures.value ∙ c.requires.starts) _ _ _ c.place_of-block.ensures in
    omega (arith, c.args.blocks.now.ok.0, at.there)

pub remove-element-requires : goal.remove-element-requires
remove-element-requires g c =
    let at = place_found c.args.blocks.now.items _ (c.deref.ensures.value ∙ c.requires.starts) _ _ _ c.place_of-block.ensures in
    let old = c.index_mut.result.now in
    omega (arith, old.ok.0, ap (λ (v : Vec _ _). length v.items) c.index_mut.ensures.value, at.below old c.requires.within)

pub lower-requires : goal.lower-requires
lower-requires g c =
    let bs = c.args.blocks.now.items in
    let k = c.place_of-block.result.0 in
    let old = c.index_mut.result.now in
    let at = place_found bs _ (c.deref.ensures.value ∙ c.requires.starts) _ _ _ c.place_of-block.ensures in
    let later = take_rest c.deref_mut.result.now (k + 1) ∙ ap (drop (k + 1)) (c.deref_mut.ensures.value ∙ c.requires.starts) in
    subst (λ (l : List ℕ). All (λ n. 0 < n) l) (sym later)
    (starts_positive bs k old (omega (arith, at.below old c.requires.within)))

pub drop_if_empty-requires-clause-there : goal.drop_if_empty-requires-clause-there
drop_if_empty-requires-clause-there g c =
    let at = place_found c.args.blocks.now.items _ (c.deref.ensures.value ∙ c.requires.starts) _ _ _ c.place_of-block.ensures in
    omega (arith, c.args.blocks.now.ok.0, at.there)

pub drop_if_empty-requires-clause-starts : goal.drop_if_empty-requires-clause-starts
drop_if_empty-requires-clause-starts g c =
    let bs = c.args.blocks.now.items in
    let k = c.place_of-block.result.0 in
    let place = c.place_of-block.result.1 in
    let old = c.index_mut.result.now in
    let at = place_found bs _ (c.deref.ensures.value ∙ c.requires.starts) _ _ _ c.place_of-block.ensures in
    let here = ap (λ (v : Vec _ _). length v.items) c.index_mut.ensures.value in
    let fewer : length c.remove-element.new.self.items + 1 ≡ length (get_or bs k old).items =
    omega (
      arith,
      ap length c.remove-element.ensures.items,
      here,
      length-remove old.items place
          (omega (arith, here, at.below old c.requires.within)),
    ) in
    written (λ n. n - 1) c.args.starts.now.items c.deref_mut.result.now c.lower.new.starts c.args.starts.now.len (k + 1)
    c.args.starts.now.ok.0 c.deref_mut.ensures.value
    (omega (arith, ap length (c.deref_mut.ensures.value ∙ c.requires.starts), length-starts_from 0 bs, at.there)) c.lower.ensures
    ∙ ap (λ (l : List ℕ). take (k + 1) l ++ map (λ (n : ℕ). n - 1) (drop (k + 1) l)) c.requires.starts
    ∙ sym (starts_of_fewer bs k old at.there c.remove-element.new.self fewer)

pub returns-clause-value : goal.returns-clause-value
returns-clause-value g c =
    let bs = c.args.blocks.now.items in
    let place = c.place_of-block.result.1 in
    let old = c.index_mut.result.now in
    let x = c.remove-element.result in
    let at = place_found bs _ (c.deref.ensures.value ∙ c.requires.starts) _ _ _ c.place_of-block.ensures in
    c.remove-element.ensures.value ∙ ap (λ (v : Vec _ _). get_or v.items place x) c.index_mut.ensures.value
    ∙ sym (element_of_joined bs _ old at.there place c.args.index at.behind x (at.below old c.requires.within))

pub returns-clause-rest : goal.returns-clause-rest
returns-clause-rest g c =
    let bs = c.args.blocks.now.items in
    let place = c.place_of-block.result.1 in
    let old = c.index_mut.result.now in
    let at = place_found bs _ (c.deref.ensures.value ∙ c.requires.starts) _ _ _ c.place_of-block.ensures in
    c.drop_if_empty.ensures.same
    ∙ taken_from_joined bs _ old at.there place c.args.index at.behind c.remove-element.new.self (at.below old c.requires.within)
    (c.remove-element.ensures.items ∙ ap (λ (v : Vec _ _). remove v.items place) c.index_mut.ensures.value)
