-- The letters of the two files, and which of them is open.
use Rattle.std.specs.Prelude.{ℕ, List, codes, Option, IsSome}
use Rattle.outside_world.specs.declared.world.FileName.{FileName}
use Rattle.outside_world.specs.declared.world.FileName.TheVariants.{A, B}

-- of the slots of both files the one of this name holds an open file
abbrev pub IsOpen : {File : Type 0} → FileName → Option File → Option File → Type 0
IsOpen A a b = IsSome a
IsOpen B a b = IsSome b

-- the letter that the name of a file ends with
abbrev pub letter : FileName → List ℕ
letter A = codes "a"
letter B = codes "b"
