-- This file shows that there is room for a record or one lack, and not both.
use Rattle.std.proofs.Common.{◌≡◌, ◌⊎◌, ◌^◌, Bool, true, false, refl, sym, ◌∙◌, inl, inr, arith}
use Rattle.grid_base.proofs.Signs.{natural_order}
use Rattle.realm_insert.specs.declared.refusal.Refusal.{Refusal}
use Rattle.realm_insert.specs.declared.refusal.Refusal.TheVariants.{Full, Generations}
use Rattle.realm_files.specs.Writing.{wants_generation, generation_of}
use Rattle.realm_store.specs.Keeping.{Kept}
use Rattle.realm_store.specs.Making.{next_gate, LacksGeneration, HasRoom, LacksRoom}

-- that the file is full comes before that there is no greater generation
pub one_lack : (kept : Kept) (a b : Refusal) → LacksRoom kept a → LacksRoom kept b → a ≡ b
one_lack kept a b (inl full) (inl too) = full.1 ∙ sym too.1
one_lack kept a b (inl full) (inr lacks) = absurd (lacks.0 full.0)
one_lack kept a b (inr lacks) (inl full) = absurd (lacks.0 full.0)
one_lack kept a b (inr lacks) (inr too) = lacks.2 ∙ sym too.2

-- where there is room nothing is lacking
pub never_both : (kept : Kept) (word : Refusal) → HasRoom kept → LacksRoom kept word → ⊥
never_both kept word room (inl full) = omega (arith, full.0, room.gate)
never_both kept word room (inr lacks) = room.generation lacks.1

-- a greater generation is wanting, or it isn't
lacks_or_not : (kept : Kept) → LacksGeneration kept ⊎ (LacksGeneration kept → ⊥)
lacks_or_not kept = by (wants_generation kept.place) refl
  where
    by : (b : Bool) → wants_generation kept.place ≡ b → LacksGeneration kept ⊎ (LacksGeneration kept → ⊥)
    by false none = inr (λ lacks. let both = sym none ∙ lacks.0 in absurd cc)
    by true wants = elim (natural_order (2 ^ 63) (generation_of kept.place)) [
      | inl last ↦ inl (wants, last)
      | inr more ↦ inr (λ lacks. omega (arith, lacks.1, more))
    ]

-- so there is room, or something is lacking
pub room_or_not : (kept : Kept) → HasRoom kept ⊎ ((word : Refusal) × LacksRoom kept word)
room_or_not kept = elim (natural_order (2 ^ 61) (next_gate kept)) [
  | inl full ↦ inr (Full, inl (full, refl))
  | inr near ↦ elim (lacks_or_not kept) [
    | inl lacks ↦ inr (Generations, inr ((λ full. omega (arith, full, near)), lacks, refl))
    | inr none ↦ inl (record { gate = near; generation = none })
  ]
]
