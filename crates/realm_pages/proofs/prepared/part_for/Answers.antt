use Rattle.std.proofs.Common.{◌≡◌, ◌*◌, ℕ, List, length, take, drop, min, arith, ap, sym, subst, ◌∙◌}
use Rattle.std.proofs.lemmas.List.{take_min, take_rest}
use Rattle.page_codec.specs.Pages.{Fills}
use Rattle.realm_pages.specs.Generations.{part_behind}
use Rattle.realm_pages.proofs.Counting.{below}
use Rattle.realm_pages.proofs.Parts.{part_fills}
use Rattle.realm_pages.proofs.prepared.part_for.Goals as goal

-- some of the payload stands behind the pages
pub overflow_mul-rest : goal.overflow_mul-rest
overflow_mul-rest c = omega (arith, below (length c.args.payload.now) c.args.pages c.requires)

pub slice_bounds-rest-start : goal.slice_bounds-rest-start
slice_bounds-rest-start c = omega (arith, below (length c.args.payload.now) c.args.pages c.requires)

pub slice_bounds-rest-count : goal.slice_bounds-rest-count
slice_bounds-rest-count c = omega (arith, below (length c.args.payload.now) c.args.pages c.requires)

-- and the front of it is the part
part_is : (payload rest : List ℕ) (n size : ℕ) → rest ≡ drop (n * 4054) payload → size ≡ min 4054 (length rest)
    → take size rest ≡ part_behind n payload
part_is payload rest n size rest_is size_is =
    let place : n * 4054 ≡ 4054 * n = omega arith in
    ap (λ m. take m rest) size_is ∙ take_min 4054 rest ∙ ap (λ l. take 4054 l) (rest_is ∙ ap (λ m. drop m payload) place)

pub returns-clause-part : goal.returns-clause-part
returns-clause-part c =
    part_is c.args.payload.now _ c.args.pages c.min.result (take_rest c.args.payload.now (c.args.pages * 4054)) c.min.ensures

pub returns-clause-fills : goal.returns-clause-fills
returns-clause-fills c =
    subst Fills
    (sym (part_is c.args.payload.now _ c.args.pages c.min.result (take_rest c.args.payload.now (c.args.pages * 4054)) c.min.ensures))
    (part_fills c.args.payload.now c.args.pages c.requires)
