-- This file shows that a moment of a run stands for a prefix of its commits.
use Rattle.std.proofs.Common.{◌≡◌, inl, inr, ℕ, zero, suc, ◌+◌, ◌-◌, ◌<◌, ◌≤◌, Bool, true, false, MatchBool}
use Rattle.std.proofs.Common.{List, [], ◌∷◌, ◌++◌, length, refl, sym, ◌∙◌, ap, subst, arith, length-append}
use Rattle.std.specs.Prelude.{if◌then◌else◌}
use Rattle.std.proofs.lemmas.List.{append-nil}
use Rattle.outside_world.specs.View.{Moment}
use Rattle.realm_files.specs.Stands.{Files}
use Rattle.rose_shell.specs.Desk.{FilesRule}
use Rattle.rose_shell.specs.Turns.{Turn}
use Rattle.rose_shell.specs.Moments.{IsMoment}
use Rattle.rose_shell.specs.Prefixes.{one_if, state_after, replies_begun, IsCounted, StandsAround, IsPrefixMoment}

-- as much was given as before, at least
moment_longer : {S : Type 0} (same : S → S → Type 0) (stands : FilesRule S) (start : S) (files : Files)
    (turns : List (Turn S)) (given : List ℕ) (m : Moment) → IsMoment same stands start files turns given m → length given ≤ length m.given
moment_longer same stands start files [] given m is = omega (arith, ap length is.0)
moment_longer same stands start files (turn ∷ turns) given m (inl before) = omega (arith, ap length before.0)
moment_longer same stands start files (turn ∷ turns) given m (inr (inl (sent, unsent, split, is, stand, left))) =
    omega (arith, ap length is, length-append given sent)
moment_longer same stands start files (turn ∷ turns) given m (inr (inr later)) =
    omega (arith, moment_longer same stands turn.after turn.files turns (given ++ turn.reply) m later, length-append given turn.reply)

module _ {S T : Type 0} (state_of : S → T) (is_commit : S → Turn S → Bool) where
  abbrev After : S → List (Turn S) → ℕ → T
  After = state_after state_of is_commit

  abbrev Begun : S → List (Turn S) → ℕ → ℕ
  Begun = replies_begun state_of is_commit

  abbrev Counted : S → List (Turn S) → Type 0
  Counted = IsCounted state_of is_commit

  state_after-zero : (start : S) (turns : List (Turn S)) → After start turns zero ≡ state_of start
  state_after-zero start [] = refl
  state_after-zero start (turn ∷ turns) = refl

  begun-zero : (start : S) (turns : List (Turn S)) → Begun start turns zero ≡ 0
  begun-zero start [] = refl
  begun-zero start (turn ∷ turns) = refl

  begun-cons : (start : S) (turn : Turn S) (turns : List (Turn S)) (n : ℕ) → 0 < n
      → Begun start (turn ∷ turns) n ≡ one_if state_of is_commit (is_commit start turn) + Begun turn.after turns (n - length turn.reply)
  begun-cons start turn turns zero some = absurd (omega (arith, some))
  begun-cons start turn turns (suc n) some = refl

  -- one commit more,
  after-commit : (start : S) (turn : Turn S) (turns : List (Turn S)) (k : ℕ) → is_commit start turn ≡ true
      → After start (turn ∷ turns) (suc k) ≡ After turn.after turns k
  after-commit start turn turns k is = ap (λ b. if b then After turn.after turns k else After turn.after turns (suc k)) is

  -- or another turn
  after-other : (start : S) (turn : Turn S) (turns : List (Turn S)) (k : ℕ) → is_commit start turn ≡ false
      → state_of turn.after ≡ state_of start → After start (turn ∷ turns) k ≡ After turn.after turns k
  after-other start turn turns zero is same = sym same ∙ sym (state_after-zero turn.after turns)
  after-other start turn turns (suc k) is same = ap (λ b. if b then After turn.after turns k else After turn.after turns (suc k)) is

  module _ (stands_for : T → Files → Type 0) where
    abbrev Around : S → List (Turn S) → ℕ → Files → Type 0
    Around = StandsAround state_of is_commit stands_for

    around_commit : (start : S) (turn : Turn S) (turns : List (Turn S)) (k : ℕ) (files : Files)
        → is_commit start turn ≡ true → Around turn.after turns k files → Around start (turn ∷ turns) (suc k) files
    around_commit start turn turns k files is (inl here) =
        inl (subst (λ t. stands_for t files) (sym (after-commit start turn turns k is)) here)
    around_commit start turn turns k files is (inr next) =
        inr (subst (λ t. stands_for t files) (sym (after-commit start turn turns (suc k) is)) next)

    around_other : (start : S) (turn : Turn S) (turns : List (Turn S)) (k : ℕ) (files : Files)
        → is_commit start turn ≡ false → state_of turn.after ≡ state_of start
        → Around turn.after turns k files → Around start (turn ∷ turns) k files
    around_other start turn turns k files is same (inl here) =
        inl (subst (λ t. stands_for t files) (sym (after-other start turn turns k is same)) here)
    around_other start turn turns k files is same (inr next) =
        inr (subst (λ t. stands_for t files) (sym (after-other start turn turns (suc k) is same)) next)

    -- a state before any further commit
    around_now : (start : S) (turns : List (Turn S)) (files : Files) → stands_for (state_of start) files
        → Around start turns zero files
    around_now start turns files stand = inl (subst (λ t. stands_for t files) (sym (state_after-zero start turns)) stand)

    -- so where nothing of a reply was given
    pub start_is_prefix : (start : S) (turns : List (Turn S)) (given : List ℕ) (m : Moment) → m.given ≡ given
        → stands_for (state_of start) m.files → IsPrefixMoment state_of is_commit stands_for start turns given m
    start_is_prefix start turns given m is stand =
        let none : 0 ≡ length m.given - length given = omega (arith, ap length is) in
        subst (λ n. Around start turns (Begun start turns n) m.files) none
        (subst (λ k. Around start turns k m.files) (sym (begun-zero start turns)) (around_now start turns m.files stand))

    -- the next commit was made, and its reply hasn't begun
    around_next : (start : S) (turn : Turn S) (turns : List (Turn S)) (files : Files) (c : Bool) → is_commit start turn ≡ c
        → MatchBool c (0 < length turn.reply) (state_of turn.after ≡ state_of start) → stands_for (state_of turn.after) files
        → Around start (turn ∷ turns) zero files
    around_next start turn turns files true is counted stand =
        inr (subst (λ t. stands_for t files) (sym (after-commit start turn turns zero is ∙ state_after-zero turn.after turns)) stand)
    around_next start turn turns files false is counted stand =
        inl (subst (λ t. stands_for t files) counted stand)

    next_is_prefix : (start : S) (turn : Turn S) (turns : List (Turn S)) (given : List ℕ) (m : Moment) → m.given ≡ given
        → MatchBool (is_commit start turn) (0 < length turn.reply) (state_of turn.after ≡ state_of start)
        → stands_for (state_of turn.after) m.files → IsPrefixMoment state_of is_commit stands_for start (turn ∷ turns) given m
    next_is_prefix start turn turns given m is counted stand =
        let none : 0 ≡ length m.given - length given = omega (arith, ap length is) in
        subst (λ n. Around start (turn ∷ turns) (Begun start (turn ∷ turns) n) m.files) none
        (around_next start turn turns m.files (is_commit start turn) refl counted stand)

    -- its reply has begun
    around_begun : (start : S) (turn : Turn S) (turns : List (Turn S)) (files : Files) (n : ℕ) (c : Bool)
        → is_commit start turn ≡ c
        → MatchBool c (0 < length turn.reply) (state_of turn.after ≡ state_of start) → 0 < n → n ≤ length turn.reply
        → stands_for (state_of turn.after) files → Around start (turn ∷ turns) (Begun start (turn ∷ turns) n) files
    around_begun start turn turns files n true is counted some upto stand =
        let none : n - length turn.reply ≡ 0 = omega (arith, upto) in
        let k : Begun start (turn ∷ turns) n ≡ suc zero =
        begun-cons start turn turns n some
        ∙ (λ i. one_if state_of is_commit (is i) + Begun turn.after turns (none i)) ∙ ap (λ j. 1 + j) (begun-zero turn.after turns) in
        subst (λ j. Around start (turn ∷ turns) j files) (sym k)
        (around_commit start turn turns zero files is (around_now turn.after turns files stand))
    around_begun start turn turns files n false is counted some upto stand =
        let none : n - length turn.reply ≡ 0 = omega (arith, upto) in
        let k : Begun start (turn ∷ turns) n ≡ zero =
        begun-cons start turn turns n some
        ∙ (λ i. one_if state_of is_commit (is i) + Begun turn.after turns (none i)) ∙ ap (λ j. 0 + j) (begun-zero turn.after turns) in
        subst (λ j. Around start (turn ∷ turns) j files) (sym k)
        (around_other start turn turns zero files is counted (around_now turn.after turns files stand))

    -- and was given whole
    around_later : (start : S) (turn : Turn S) (turns : List (Turn S)) (files : Files) (n : ℕ) (c : Bool)
        → is_commit start turn ≡ c
        → MatchBool c (0 < length turn.reply) (state_of turn.after ≡ state_of start) → length turn.reply ≤ n
        → Around turn.after turns (Begun turn.after turns (n - length turn.reply)) files
        → Around start (turn ∷ turns) (Begun start (turn ∷ turns) n) files
    around_later start turn turns files n true is counted all around =
        let k' = Begun turn.after turns (n - length turn.reply) in
        let k : Begun start (turn ∷ turns) n ≡ suc k' =
        begun-cons start turn turns n (omega (arith, counted, all))
        ∙ ap (λ b. one_if state_of is_commit b + k') is ∙ omega arith in
        subst (λ j. Around start (turn ∷ turns) j files) (sym k) (around_commit start turn turns k' files is around)
    around_later start turn turns files zero false is counted all around =
        let k : Begun turn.after turns (zero - length turn.reply) ≡ zero =
        ap (λ j. Begun turn.after turns j) (omega (arith, all)) ∙ begun-zero turn.after turns in
        around_other start turn turns zero files is counted (subst (λ j. Around turn.after turns j files) k around)
    around_later start turn turns files (suc n) false is counted all around =
        let k' = Begun turn.after turns (suc n - length turn.reply) in
        let k : Begun start (turn ∷ turns) (suc n) ≡ k' = ap (λ b. one_if state_of is_commit b + k') is ∙ omega arith in
        subst (λ j. Around start (turn ∷ turns) j files) (sym k) (around_other start turn turns k' files is counted around)

    -- each moment stands for the state after the commits whose replies had begun, or after one more
    pub moment_is_prefix : (same : S → S → Type 0) (stands : FilesRule S)
        → ((s : S) (files : Files) → stands s files → stands_for (state_of s) files)
        → (start : S) (files : Files) (turns : List (Turn S)) (given : List ℕ) (m : Moment) → IsMoment same stands start files turns given m
        → Counted start turns → IsPrefixMoment state_of is_commit stands_for start turns given m
    moment_is_prefix same stands kept start files [] given m is counted = inl (kept start m.files is.1)
    moment_is_prefix same stands kept start files (turn ∷ turns) given m (inl (is, (inl before, left))) counted =
        start_is_prefix start (turn ∷ turns) given m is (kept start m.files before)
    moment_is_prefix same stands kept start files (turn ∷ turns) given m (inl (is, (inr after, left))) counted =
        next_is_prefix start turn turns given m is counted.0 (kept turn.after m.files after)
    moment_is_prefix same stands kept start files (turn ∷ turns) given m (inr (inl ([], unsent, split, is, stand, left))) counted =
        next_is_prefix start turn turns given m (is ∙ append-nil given) counted.0 (kept turn.after m.files stand)
    moment_is_prefix same stands kept start files (turn ∷ turns) given m (inr (inl (b ∷ sent, unsent, split, is, stand, left))) counted =
        around_begun start turn turns m.files (length m.given - length given) (is_commit start turn) refl counted.0
        (omega (arith, ap length is, length-append given (b ∷ sent)))
        (omega (arith, ap length is, length-append given (b ∷ sent), ap length split, length-append (b ∷ sent) unsent))
        (kept turn.after m.files stand)
    moment_is_prefix same stands kept start files (turn ∷ turns) given m (inr (inr later)) counted =
        let longer = moment_longer same stands turn.after turn.files turns (given ++ turn.reply) m later in
        let size = length-append given turn.reply in
        let behind : length m.given - length (given ++ turn.reply) ≡ length m.given - length given - length turn.reply =
        omega (arith, longer, size) in
        around_later start turn turns m.files (length m.given - length given) (is_commit start turn) refl counted.0
        (omega (arith, longer, size))
        (subst (λ n. Around turn.after turns (Begun turn.after turns n) m.files) behind
        (moment_is_prefix same stands kept turn.after turn.files turns (given ++ turn.reply) m later counted.1))
