-- This file shows that a word is the name of a command, or one that the parser knows by no name.
use Rattle.std.proofs.Common.{◌≡◌, ◌⊎◌, Bool, [], ◌∷◌, true, false, refl, sym, inl, inr, codes}
use Rattle.std.specs.Str.{bytes_eq}
use Rattle.std.proofs.lemmas.Slice.Eq.{bytes_eq-Decides}
use Rattle.clap.specs.Walk.{Names, Text}
use Rattle.command_words.proofs.Steps.{IsUnnamed}

abbrev pub names : Names
names =
    (codes "run", []) ∷ (codes "check", []) ∷ (codes "gen", []) ∷ (codes "ship", []) ∷ (codes "follow", [])
    ∷ (codes "certify", []) ∷ (codes "audit", []) ∷ []

abbrev pub IsNamedOrNot : Text → Type 0
IsNamedOrNot word =
    (word ≡ codes "run") ⊎ ((word ≡ codes "check") ⊎ ((word ≡ codes "gen") ⊎ ((word ≡ codes "ship")
    ⊎ ((word ≡ codes "follow") ⊎ ((word ≡ codes "certify") ⊎ ((word ≡ codes "audit") ⊎ IsUnnamed names word))))))

-- a word is one of the seven names, or the parser knows it by none
pub named_or_not : (word : Text) → IsNamedOrNot word
named_or_not word =
    go (bytes_eq (codes "run") word) (bytes_eq (codes "check") word) (bytes_eq (codes "gen") word) (bytes_eq (codes "ship") word)
    (bytes_eq (codes "follow") word) (bytes_eq (codes "certify") word) (bytes_eq (codes "audit") word) refl refl refl refl refl refl refl
  where
    is : (name : Text) → bytes_eq name word ≡ true → word ≡ name
    is name same = sym ((bytes_eq-Decides name word).0 same)

    go : (run check gen ship follow certify audit : Bool) → bytes_eq (codes "run") word ≡ run → bytes_eq (codes "check") word ≡ check
        → bytes_eq (codes "gen") word ≡ gen → bytes_eq (codes "ship") word ≡ ship → bytes_eq (codes "follow") word ≡ follow
        → bytes_eq (codes "certify") word ≡ certify → bytes_eq (codes "audit") word ≡ audit → IsNamedOrNot word
    go true check gen ship follow certify audit r c g s f e a = inl (is (codes "run") r)
    go false true gen ship follow certify audit r c g s f e a = inr (inl (is (codes "check") c))
    go false false true ship follow certify audit r c g s f e a = inr (inr (inl (is (codes "gen") g)))
    go false false false true follow certify audit r c g s f e a = inr (inr (inr (inl (is (codes "ship") s))))
    go false false false false true certify audit r c g s f e a = inr (inr (inr (inr (inl (is (codes "follow") f)))))
    go false false false false false true audit r c g s f e a = inr (inr (inr (inr (inr (inl (is (codes "certify") e))))))
    go false false false false false false true r c g s f e a = inr (inr (inr (inr (inr (inr (inl (is (codes "audit") a)))))))
    go false false false false false false false r c g s f e a = inr (inr (inr (inr (inr (inr (inr (rw (r, c, g, s, f, e, a) refl)))))))
