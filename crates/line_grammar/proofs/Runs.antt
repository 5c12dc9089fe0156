-- This file shows how far a run of bytes that pass a test goes.
use Rattle.std.proofs.Common.{◌≡◌, ℕ, zero, suc, ◌+◌, ◌-◌, ◌≤◌, ◌<◌, Bool, true, false, List, [], ◌∷◌, ◌++◌, length, take, drop, get_or}
use Rattle.std.proofs.Common.{add-one, refl, sym, ap, subst, ◌∙◌, arith, ◌⊎◌, inl, inr}
use Rattle.std.specs.List.{AllByRecursion}
use Rattle.std.proofs.Math.Seq.{drop-cons}
use Rattle.std.proofs.lemmas.List.{length-take, length-drop, take_all, nil_from_length}
use Rattle.line_grammar.proofs.Agree.{agree}
use Rattle.line_grammar.specs.Reading.{run}
use Rattle.line_grammar.proofs.Agreement.{agree-same_head, agree-other_head, cases_equal}

-- nothing, or a space, comes next
abbrev pub Parted : List ℕ → Type 0
Parted [] = Unit {0}
Parted (b ∷ bs) = b ≡ 32

abbrev pub Passes : (ℕ → Bool) → List ℕ → Type 0
Passes test ds = AllByRecursion (λ d. test d ≡ true) ds

abbrev pub front : (ℕ → Bool) → ℕ → List ℕ → List ℕ
front test most line = take (run test most line) line

pub tested : {A : Type 0} (b : Bool) → (b ≡ true → A) → (b ≡ false → A) → A
tested true holds fails = holds refl
tested false holds fails = fails refl

pub run-pass : (test : ℕ → Bool) (most b : ℕ) (line : List ℕ) → test b ≡ true → run test (suc most) (b ∷ line) ≡ suc (run test most line)
unfolding run
run-pass test most b line e = rw e refl

run-fail : (test : ℕ → Bool) (most b : ℕ) (line : List ℕ) → test b ≡ false → run test most (b ∷ line) ≡ 0
unfolding run
run-fail test zero b line e = refl
run-fail test (suc most) b line e = rw e refl

pub run-nil : (test : ℕ → Bool) (most : ℕ) → run test most [] ≡ 0
unfolding run
run-nil test zero = refl
run-nil test (suc most) = refl

run-zero : (test : ℕ → Bool) (line : List ℕ) → run test 0 line ≡ 0
unfolding run
run-zero test line = refl

pub run-le : (test : ℕ → Bool) (most : ℕ) (line : List ℕ) → (run test most line ≤ length line) × (run test most line ≤ most)
run-le test zero line = let e = run-zero test line in (omega (arith, e), omega (arith, e))
run-le test (suc most) [] = let e = run-nil test (suc most) in (omega (arith, e), omega (arith, e))
run-le test (suc most) (b ∷ line) = tested (test b)
    (λ holds. let e = run-pass test most b line holds in let inner = run-le test most line in
    (omega (arith, e, inner.0), omega (arith, e, inner.1)))
    (λ fails. let e = run-fail test (suc most) b line fails in (omega (arith, e), omega (arith, e)))

pub run_passes : (test : ℕ → Bool) (most : ℕ) (line : List ℕ) → Passes test (front test most line)
run_passes test zero line = rw (run-zero test line) tt
run_passes test (suc most) [] = rw (run-nil test (suc most)) tt
run_passes test (suc most) (b ∷ line) = tested (test b)
    (λ holds. rw (run-pass test most b line holds) (holds, run_passes test most line))
    (λ fails. rw (run-fail test (suc most) b line fails) tt)

-- a list that is all run passes
pub run_only : (test : ℕ → Bool) (most : ℕ) (ds : List ℕ) → run test most ds ≡ length ds → Passes test ds
run_only test most ds all =
    let whole : front test most ds ≡ ds = take_all (run test most ds) ds (omega (arith, all)) in
    subst (Passes test) whole (run_passes test most ds)

-- a list that passes is all run
pub run_all : (test : ℕ → Bool) (most : ℕ) (ds : List ℕ) → length ds ≤ most → Passes test ds → run test most ds ≡ length ds
run_all test most [] le pass = run-nil test most
run_all test zero (d ∷ ds) le pass = absurd (omega (arith, le))
run_all test (suc most) (d ∷ ds) le pass =
    let head = run-pass test most d ds pass.0 in
    let rest = run_all test most ds (omega (arith, le)) pass.1 in
    omega (arith, head, rest)

-- another run of bytes that pass, with a text that goes on otherwise, parts from the line within its run
pub run_apart : (test : ℕ → Bool) → (test 32 ≡ false) → (most : ℕ) (line ds t : List ℕ) → Passes test ds → length ds ≤ most → Parted t
    → (ds ≡ front test most line) ⊎ (agree line (ds ++ t) ≤ run test most line)
unfolding agree
run_apart test space zero line [] t pass le parted = inl (rw (run-zero test line) refl)
run_apart test space zero line (d ∷ ds) t pass le parted = absurd (omega (arith, le))
run_apart test space (suc most) [] [] t pass le parted = inl (rw (run-nil test (suc most)) refl)
run_apart test space (suc most) [] (d ∷ ds) t pass le parted = inr (omega arith)
run_apart test space (suc most) (b ∷ line) [] [] pass le parted = tested (test b)
    (λ holds. inr (omega arith))
    (λ fails. inl (rw (run-fail test (suc most) b line fails) refl))
run_apart test space (suc most) (b ∷ line) [] (c ∷ t) pass le parted = tested (test b)
    (λ holds. inr (let none = agree-other_head b c line t (λ e. let both : true ≡ false = sym holds ∙ ap test (e ∙ parted) ∙ space in
    absurd cc) in omega (arith, none)))
    (λ fails. inl (rw (run-fail test (suc most) b line fails) refl))
run_apart test space (suc most) (b ∷ line) (d ∷ ds) t pass le parted = elim (cases_equal b d) [
  | inl same ↦
      let holds : test b ≡ true = ap test same ∙ pass.0 in
      let e = run-pass test most b line holds in
      elim (run_apart test space most line ds t pass.1 (omega (arith, le)) parted) [
        | inl here ↦ inl (rw e (cc (here, same)))
        | inr less ↦ inr (let head : agree (b ∷ line) (d ∷ (ds ++ t)) ≡ suc (agree line (ds ++ t)) = rw (same)
            (agree-same_head d line (ds ++ t)) in omega (arith, head, less, e))
      ]
  | inr other ↦ inr (let none = agree-other_head b d line (ds ++ t) other in omega (arith, none))
]

pub length-front : (test : ℕ → Bool) (most : ℕ) (line : List ℕ) → length (front test most line) ≡ run test most line
length-front test most line = let h = run-le test most line in let e = length-take (run test most line) line in omega (arith, h.0, e)

-- ---- the loop that counts a run

pub run_goes : (test : ℕ → Bool) (most : ℕ) (line : List ℕ) (i : ℕ) → i < length line → i < most → test (get_or line i 0) ≡ true
    → run test (most - i) (drop i line) ≡ suc (run test (most - (i + 1)) (drop (i + 1) line))
run_goes test most line i within below holds =
    let k : most - i ≡ suc (most - (i + 1)) = omega arith in
    let cell : drop i line ≡ get_or line i 0 ∷ drop (i + 1) line = rw add-one (drop-cons line i 0 within) in
    rw (k, cell) (run-pass test (most - (i + 1)) (get_or line i 0) (drop (i + 1) line) holds)

pub run_stops : (test : ℕ → Bool) (most : ℕ) (line : List ℕ) (i : ℕ) → i < length line → test (get_or line i 0) ≡ false
    → run test (most - i) (drop i line) ≡ 0
run_stops test most line i within fails = rw (drop-cons line i 0 within)
    (run-fail test (most - i) (get_or line i 0) (drop (suc i) line) fails)

pub run_full : (test : ℕ → Bool) (most : ℕ) (line : List ℕ) (i : ℕ) → most ≤ i → run test (most - i) (drop i line) ≡ 0
run_full test most line i le = let k : most - i ≡ 0 = omega arith in rw k (run-zero test (drop i line))

pub run_ended : (test : ℕ → Bool) (most : ℕ) (line : List ℕ) (i : ℕ) → length line ≤ i → run test (most - i) (drop i line) ≡ 0
run_ended test most line i le = rw (nil_from_length (drop i line) (let len = length-drop i line in omega (arith, len)))
    (run-nil test (most - i))
