-- The element is put into one block, and stands there before all later blocks.
use Rattle.std.proofs.Common.{◌≡◌, ℕ, ◌+◌, ◌^◌, ◌<◌, List, ◌++◌, All, map, length, get_or, take, drop, insert, Vec}
use Rattle.std.proofs.Common.{subst, ap, sym, ◌∙◌, arith}
use Rattle.std.proofs.lemmas.List.{take_rest}
use Rattle.std.proofs.lemmas.List.Edits.{length-insert}
use Rattle.tiered_vector.proofs.Around.{on_err}
use Rattle.tiered_vector.proofs.Starts.{ascending, from_zero, place_found, length-starts_from, starts_countable}
use Rattle.tiered_vector.proofs.Written.{written}
use Rattle.tiered_vector.proofs.Edits.{joined_same, starts_same, put_in_joined, starts_of_more}
use Rattle.tiered_vector.proofs.blocks.put_in.Goals as goal

pub place_of-block-requires-clause-ascending : goal.place_of-block-requires-clause-ascending
place_of-block-requires-clause-ascending g c = ascending c.args.blocks.now.items _ (c.deref.ensures.value ∙ c.requires.starts)

pub place_of-block-requires-clause-from_zero : goal.place_of-block-requires-clause-from_zero
place_of-block-requires-clause-from_zero g c = from_zero c.args.blocks.now.items _ (c.deref.ensures.value ∙ c.requires.starts)
    (omega (arith, c.requires.some, c.args.blocks.now.ok.0))

pub index_mut-requires : goal.index_mut-requires
index_mut-requires g c =
    let at = place_found c.args.blocks.now.items _ (c.deref.ensures.value ∙ c.requires.starts) _ _ _ c.place_of-block.ensures in
    omega (arith, c.args.blocks.now.ok.0, at.there)

pub insert-requires : goal.insert-requires
insert-requires g c =
    let at = place_found c.args.blocks.now.items _ (c.deref.ensures.value ∙ c.requires.starts) _ _ _ c.place_of-block.ensures in
    let old = c.index_mut.result.now in
    omega (arith, old.ok.0, ap (λ (v : Vec _ _). length v.items) c.index_mut.ensures.value, at.at_most old c.requires.within)

pub returns-in_err-insert-clause-err : goal.returns-in_err-insert-clause-err
returns-in_err-insert-clause-err g c =
    let bs = c.args.blocks.now.items in
    let at = place_found bs _ (c.deref.ensures.value ∙ c.requires.starts) _ _ _ c.place_of-block.ensures in
    on_err c.from_residual.result (joined_same bs _ c.index_mut.result.now at.there c.insert.new.self
    (c.in_err-insert.ensures.items ∙ ap (λ (v : Vec _ _). v.items) c.index_mut.ensures.value))

pub returns-in_err-insert-clause-starts : goal.returns-in_err-insert-clause-starts
returns-in_err-insert-clause-starts g c =
    let bs = c.args.blocks.now.items in
    let at = place_found bs _ (c.deref.ensures.value ∙ c.requires.starts) _ _ _ c.place_of-block.ensures in
    c.requires.starts ∙ starts_same bs _ c.index_mut.result.now at.there c.insert.new.self
    (c.in_err-insert.ensures.items ∙ ap (λ (v : Vec _ _). v.items) c.index_mut.ensures.value)

pub raise-requires : goal.raise-requires
raise-requires g c =
    let a = c.place_of-block.result.0 + 1 in
    let later = take_rest c.deref_mut.result.now a ∙ ap (drop a) (c.deref_mut.ensures.value ∙ c.requires.starts) in
    subst (λ (l : List ℕ). All (λ n. n + 1 < 2 ^ 64) l) (sym later)
    (starts_countable c.args.blocks.now.items 18446744073709551615 (omega (arith, c.requires.countable)) a)

pub returns-clause-ok : goal.returns-clause-ok
returns-clause-ok g c =
    let bs = c.args.blocks.now.items in
    let old = c.index_mut.result.now in
    let place = c.place_of-block.result.1 in
    let at = place_found bs _ (c.deref.ensures.value ∙ c.requires.starts) _ _ _ c.place_of-block.ensures in
    put_in_joined bs _ old at.there place c.args.index at.behind c.insert.new.self c.args.element (at.at_most old c.requires.within)
    (c.in_ok-insert.ensures.items ∙ ap (λ (v : Vec _ _). insert v.items place c.args.element) c.index_mut.ensures.value)

pub returns-clause-starts : goal.returns-clause-starts
returns-clause-starts g c =
    let bs = c.args.blocks.now.items in
    let old = c.index_mut.result.now in
    let k = c.place_of-block.result.0 in
    let place = c.place_of-block.result.1 in
    let at = place_found bs _ (c.deref.ensures.value ∙ c.requires.starts) _ _ _ c.place_of-block.ensures in
    let here = ap (λ (v : Vec _ _). length v.items) c.index_mut.ensures.value in
    let more : length c.insert.new.self.items ≡ length (get_or bs k old).items + 1 =
    omega (
      arith,
      ap length c.in_ok-insert.ensures.items,
      here,
      length-insert old.items place c.args.element
          (omega (arith, here, at.at_most old c.requires.within)),
    ) in
    written (λ n. n + 1) c.args.starts.now.items c.deref_mut.result.now c.raise.new.starts c.args.starts.now.len (k + 1)
    c.args.starts.now.ok.0 c.deref_mut.ensures.value
    (omega (arith, ap length (c.deref_mut.ensures.value ∙ c.requires.starts), length-starts_from 0 bs, at.there)) c.raise.ensures
    ∙ ap (λ (l : List ℕ). take (k + 1) l ++ map (λ (n : ℕ). n + 1) (drop (k + 1) l)) c.requires.starts
    ∙ sym (starts_of_more bs k old at.there c.insert.new.self more)
