-- The names of two commands differ, and a number has one text.
use Rattle.std.proofs.Common.{◌≡◌, ℕ, List, [], ◌∷◌, refl, sym, ap, ◌∙◌, arith, get_or, codes}
use Rattle.std.proofs.lemmas.Fmt.{decimal_injective}
use Rattle.command_words.specs.Written.{AreWordsOf}
use Rattle.command_words.specs.declared.word.Word.{Word}
use Rattle.command_words.specs.declared.word.Word.TheVariants.{Run, Check, Gen, Ship, Follow, Certify, Audit}
use Rattle.command_words.proofs.laws.one_command.Goals as goal

-- the two of one length differ in their first letters
check_is_no_audit : codes "check" ∷ [] ≡ codes "audit" ∷ [] → ⊥
check_is_no_audit same =
    let letters : 99 ≡ 97 = ap (λ (words : List (List ℕ)). get_or (get_or words 0 []) 0 0) same in
    omega (arith, letters)

one : (words : List (List ℕ)) (v w : Word) → AreWordsOf words v → AreWordsOf words w → v ≡ w
one words Run Run p q = refl
one words Run Check p q = let e = sym p.0 ∙ q.0 in cc
one words Run (Gen m a) p q = let e = sym p.0 ∙ q.0 in cc
one words Run (Ship j) p q = let e = sym p.0 ∙ q.0 in cc
one words Run Follow p q = let e = sym p.0 ∙ q.0 in cc
one words Run Certify p q = let e = sym p.0 ∙ q.0 in cc
one words Run Audit p q = let e = sym p.0 ∙ q.0 in cc
one words Check Run p q = let e = sym p.0 ∙ q.0 in cc
one words Check Check p q = refl
one words Check (Gen m a) p q = let e = sym p.0 ∙ q.0 in cc
one words Check (Ship j) p q = let e = sym p.0 ∙ q.0 in cc
one words Check Follow p q = let e = sym p.0 ∙ q.0 in cc
one words Check Certify p q = let e = sym p.0 ∙ q.0 in cc
one words Check Audit p q = absurd (check_is_no_audit (sym p.0 ∙ q.0))
one words (Gen n b) Run p q = let e = sym p.0 ∙ q.0 in cc
one words (Gen n b) Check p q = let e = sym p.0 ∙ q.0 in cc
one words (Gen n b) (Gen m a) p q =
    let e = sym p.0 ∙ q.0 in
    let lines : n ≡ m = decimal_injective n m (omega arith) (omega arith) (cc) in
    let start : b ≡ a = decimal_injective b a (omega arith) (omega arith) (cc) in
    cc
one words (Gen n b) (Ship j) p q = let e = sym p.0 ∙ q.0 in cc
one words (Gen n b) Follow p q = let e = sym p.0 ∙ q.0 in cc
one words (Gen n b) Certify p q = let e = sym p.0 ∙ q.0 in cc
one words (Gen n b) Audit p q = let e = sym p.0 ∙ q.0 in cc
one words (Ship k) Run p q = let e = sym p.0 ∙ q.0 in cc
one words (Ship k) Check p q = let e = sym p.0 ∙ q.0 in cc
one words (Ship k) (Gen m a) p q = let e = sym p.0 ∙ q.0 in cc
one words (Ship k) (Ship j) p q =
    let e = sym p.0 ∙ q.0 in
    let changes : k ≡ j = decimal_injective k j (omega arith) (omega arith) (cc) in
    cc
one words (Ship k) Follow p q = let e = sym p.0 ∙ q.0 in cc
one words (Ship k) Certify p q = let e = sym p.0 ∙ q.0 in cc
one words (Ship k) Audit p q = let e = sym p.0 ∙ q.0 in cc
one words Follow Run p q = let e = sym p.0 ∙ q.0 in cc
one words Follow Check p q = let e = sym p.0 ∙ q.0 in cc
one words Follow (Gen m a) p q = let e = sym p.0 ∙ q.0 in cc
one words Follow (Ship j) p q = let e = sym p.0 ∙ q.0 in cc
one words Follow Follow p q = refl
one words Follow Certify p q = let e = sym p.0 ∙ q.0 in cc
one words Follow Audit p q = let e = sym p.0 ∙ q.0 in cc
one words Certify Run p q = let e = sym p.0 ∙ q.0 in cc
one words Certify Check p q = let e = sym p.0 ∙ q.0 in cc
one words Certify (Gen m a) p q = let e = sym p.0 ∙ q.0 in cc
one words Certify (Ship j) p q = let e = sym p.0 ∙ q.0 in cc
one words Certify Follow p q = let e = sym p.0 ∙ q.0 in cc
one words Certify Certify p q = refl
one words Certify Audit p q = let e = sym p.0 ∙ q.0 in cc
one words Audit Run p q = let e = sym p.0 ∙ q.0 in cc
one words Audit Check p q = absurd (check_is_no_audit (sym q.0 ∙ p.0))
one words Audit (Gen m a) p q = let e = sym p.0 ∙ q.0 in cc
one words Audit (Ship j) p q = let e = sym p.0 ∙ q.0 in cc
one words Audit Follow p q = let e = sym p.0 ∙ q.0 in cc
one words Audit Certify p q = let e = sym p.0 ∙ q.0 in cc
one words Audit Audit p q = refl

pub returns : goal.returns
returns c = one
