-- Which files are held.
use Rattle.std.specs.Prelude.{◌≢◌, Option, Some, Bool, false}

-- where it is told whether the lock of a file is held, it is
abbrev pub IsHeld : Option Bool → Type 0
IsHeld told = told ≢ Some false
