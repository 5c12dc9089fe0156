-- Texts, one after another.
use Rattle.std.specs.Prelude.{◌≡◌, ℕ, List, [], ◌∷◌, ◌++◌}

-- each item has a text by this relation, and the bytes are these texts in order
abbrev pub AreJoined : {A : Type 0} → (A → List ℕ → Type 0) → List A → List ℕ → Type 0
AreJoined has_text [] bytes = bytes ≡ []
AreJoined has_text (x ∷ xs) bytes =
    (first : List ℕ) × (rest : List ℕ) × has_text x first × (bytes ≡ first ++ rest) × AreJoined has_text xs rest
