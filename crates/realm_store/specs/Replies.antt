-- The reply to a change that is made.
use Rattle.std.specs.Prelude.{ℕ, List, [], ◌∷◌, ◌++◌, codes}
use Rattle.std.specs.Fmt.{decimal}

-- its number, the length of its trace, the next id before it, and how many originals are new
abbrev pub ok_reply : (change steps first added : ℕ) → List ℕ
ok_reply change steps first added =
    codes "ok " ++ (decimal change ++ (codes " steps " ++ (decimal steps ++ (codes " first " ++ (decimal first
    ++ (codes " new " ++ (decimal added ++ 10 ∷ [])))))))
