use Rattle.std.proofs.Common.{◌≢◌, ◌<◌, ℕ, List, [], length, slice_index, get_or, Contains, AllPairs, sym, ap, subst, ◌∙◌, arith}
use Rattle.std.proofs.lemmas.List.Elements.{Contains-get_or}
use Rattle.std.proofs.lemmas.List.Sorted.{Contains-permutation, IsPermutation-sym}
use Rattle.grid_base.proofs.Elements.{same_place}
use Rattle.r_blocks.specs.Places.{those}
use Rattle.grid_base.specs.Point.{GridPoint}
use Rattle.plane_classes.specs.Classes.{AreInOneClass}
use Rattle.r_faces.specs.FaceCycles.{IsBorderCycle, IsBounded}
use Rattle.r_faces.proofs.ListsApart.{ascends_strictly}
use Rattle.r_faces.proofs.FaceRims.{known}
use Rattle.r_faces.proofs.FaceBounds.{cut_of, face_number_is, key_other, zero_key, some_of_key, rim_of_key, outer_of, hole_of, of_hole}
use Rattle.r_faces.proofs.FaceBounds.{IsCut, cycles_apart, rest_at, rest_long, rest_apart}
use Rattle.r_faces.proofs.bounds.face_of.Goals as goal
use Rattle.r_faces.proofs.bounds.face_of.Goals.{After-deref-7}

-- the keys are the numbers of the classes beyond the face
cut : (c : After-deref-7)
    → IsCut c.args.rim.now c.in_ok-classes.classes.items c.face_number-face.result c.in_ok-numbers.numbers.items
    c.in_ok-parts.parts.keys.items
cut c =
    let R = c.args.rim.now in
    let N = c.in_ok-classes.classes.items in
    cut_of R N c.deref-2.result.now c.deref-3.result.now c.face_number-face.result c.in_ok-numbers.numbers.items c.deref-4.result.now
    c.in_ok-parts.parts.keys.items
    (known R N c.requires.noded c.requires.ascending c.requires.even c.each_is_on_grid.ensures c.in_ok-classes.ensures)
    c.deref-2.ensures.value c.deref-3.ensures.value c.deref-4.ensures.value c.face_number-face.ensures c.in_ok-numbers.ensures
    c.in_ok-parts.ensures.keys

-- the face is on one side of each segment, and none of the keys is its number
pub cycles_of-requires-clause-face : goal.cycles_of-requires-clause-face
cycles_of-requires-clause-face c =
    let h = cut c in
    let face = c.face_number-face.result in
    let (z, inside) = c.requires.inside in
    rw (c.deref-5.ensures.value, c.deref-6.ensures.value) (
      face,
      face_number_is _ _ z face h.key h.known inside,
      λ k d within e. key_other _ _ z face _ _ k h inside within (same_place c.in_ok-parts.parts.keys.items k 0 d within ∙ e),
    )

-- each key has segments
pub cycles_of-requires-clause-some : goal.cycles_of-requires-clause-some
cycles_of-requires-clause-some c = rw c.deref-7.ensures.value (λ k d within.
    let keys = c.in_ok-parts.parts.keys.items in
    let is = c.in_ok-parts.ensures.parts k d within
    ∙ ap (λ (l : List ℕ). those (slice_index keys k) l c.args.rim.now) c.deref-4.ensures.value in
    let some = some_of_key _ _ _ _ keys k (cut c) (omega (arith, within, c.in_ok-parts.ensures.length)) in
    let long = ap (λ l. length l) is in omega (arith, some, long))

-- those with its class on one side alone
pub cycles_of-requires-clause-parts : goal.cycles_of-requires-clause-parts
cycles_of-requires-clause-parts c =
    let (z, inside) = c.requires.inside in
    rw (c.deref-5.ensures.value, c.deref-6.ensures.value, c.deref-7.ensures.value) (λ k d within.
    let keys = c.in_ok-parts.parts.keys.items in
    c.in_ok-parts.ensures.parts k d within ∙ ap (λ (l : List ℕ). those (slice_index keys k) l c.args.rim.now) c.deref-4.ensures.value
    ∙ rim_of_key _ _ z _ _ keys k (cut c) inside (omega (arith, within, c.in_ok-parts.ensures.length)))

-- 0 is a key
pub remove-outer-requires : goal.remove-outer-requires
remove-outer-requires c =
    let zero_in = zero_key _ _ _ _ _ (cut (goal.at.remove-outer-requires c).After-deref-7) in
    let as_many = ap (λ (l : List ℕ). length l) c.deref-6.ensures.value in
    omega (arith, zero_in.1, as_many, c.in_ok-cycles.ensures.length, c.in_ok-cycles.cycles.ok)

-- the first cycle is the border to the outside, and each other one that to an enclosed class
pub returns : goal.returns
returns c = λ z inside.
    let R = c.args.rim.now in
    let N = c.in_ok-classes.classes.items in
    let U = c.in_ok-numbers.numbers.items in
    let keys = c.in_ok-parts.parts.keys.items in
    let face = c.face_number-face.result in
    let h = cut (goal.at.returns c).After-deref-7 in
    let cycles = c.in_ok-cycles.cycles.items in
    let rest = c.remove-outer.new.self.items in
    let holes = c.in_ok-holes.holes.items in
    let rounds = rw (c.deref-5.ensures.value, c.deref-6.ensures.value) at c.in_ok-cycles.ensures.rounds in
    let as_many = c.in_ok-cycles.ensures.length ∙ ap (λ (l : List ℕ). length l) c.deref-6.ensures.value in
    let zero_in = zero_key R N face U keys h in
    let some : 0 < length cycles = omega (arith, zero_in.1, as_many) in
    let is_rest = c.remove-outer.ensures.items in
    let long = ap (λ (l : List (List GridPoint)). length l) is_rest in
    let all_long = rest_long cycles some in
    let bounded : IsBounded R z (record { outer = c.remove-outer.result; holes = holes }) = record {
      outer_cycle = outer_of R N z face U keys cycles c.remove-outer.result h inside as_many rounds c.remove-outer.ensures.value;
      only = λ hole there.
          let in_rest = Contains-permutation holes rest hole (IsPermutation-sym rest holes c.in_ok-holes.ensures.same) there in
          of_hole R N z face U keys cycles in_rest.0 hole h inside as_many rounds (omega (arith, in_rest.1, long, all_long))
          (sym (ap (λ (l : List (List GridPoint)). get_or l in_rest.0 hole) is_rest ∙ rest_at cycles in_rest.0 hole) ∙ in_rest.2);
      each = λ y enclosed.
          let hole = hole_of R N z y face U keys cycles h inside as_many rounds enclosed in
          let e = get_or rest hole.0 [] in
          let in_rest : Contains rest e = Contains-get_or rest hole.0 [] (omega (arith, hole.1, long, all_long)) in
          let in_holes = Contains-permutation rest holes e c.in_ok-holes.ensures.same in_rest in
          let is = ap (λ (l : List (List GridPoint)). get_or l hole.0 []) is_rest ∙ rest_at cycles hole.0 [] in
          (in_holes.0, e, in_holes.1, in_holes.2, subst (IsBorderCycle R z (AreInOneClass R y)) (sym is) (hole.2 []));
      ascending = ascends_strictly (λ (l : List GridPoint). l) rest holes c.in_ok-holes.ensures.same
          (subst (AllPairs (λ a b. a ≢ b)) (sym is_rest) (rest_apart (λ a b. a ≢ b) cycles (cycles_apart R N face U keys cycles h as_many
          rounds))) c.in_ok-holes.ensures.ascending;
    } in
    subst (λ (l : List (List GridPoint)). IsBounded R z (record { outer = c.remove-outer.result; holes = l })) (sym c.new.ensures) bounded
