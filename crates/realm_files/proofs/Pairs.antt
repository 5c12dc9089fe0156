-- This file shows how two files are given as a function of their names.
use Rattle.std.proofs.Common.{◌≡◌, ◌≢◌, ◌⊎◌, inl, inr, refl}
use Rattle.outside_world.specs.declared.world.FileName.{FileName}
use Rattle.outside_world.specs.declared.world.FileName.TheVariants.{A, B}
use Rattle.realm_files.specs.Stands.{Files}

pub not_b : A ≢ B
not_b is = cc

pub not_a : B ≢ A
not_a is = cc

pub same_or : (f g : FileName) → (f ≡ g) ⊎ (f ≢ g)
same_or A A = inl refl
same_or B B = inl refl
same_or A B = inr not_b
same_or B A = inr not_a

-- files that are the same one by one are the same
pub same_files : {a b : Files} → ((f : FileName) → a f ≡ b f) → a ≡ b
same_files each = λ i f. each f i
