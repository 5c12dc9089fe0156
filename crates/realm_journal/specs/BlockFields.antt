-- What a block that is ready to be written stands for.
use Rattle.std.specs.Prelude.{◌≡◌, ◌-◌, ℕ, List, [], ◌∷◌, ◌++◌, length, take, drop}
use Rattle.realm_journal.specs.Gates.{open_gate, closed_gate}
use Rattle.realm_journal.specs.declared.block.Block.TheInside.{Inside}

-- the text: all bytes but the first and the last
abbrev pub text_within : Inside → List ℕ
text_within b = take (length b.whole.items - 2) (drop 1 b.whole.items)

-- the first byte is an open gate, and the last is a closed one
abbrev pub IsFramed : Inside → Type 0
IsFramed b = b.whole.items ≡ open_gate ∷ (text_within b ++ closed_gate ∷ [])
