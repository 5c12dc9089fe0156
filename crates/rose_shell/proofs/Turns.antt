-- This file shows how turns are put together.
use Rattle.std.proofs.Common.{◌≡◌, inl, inr, ⊎_elim, ℕ, List, [], ◌∷◌, ◌++◌, refl, sym, ◌∙◌, ap, subst, append_assoc}
use Rattle.std.proofs.lemmas.List.{append-nil}
use Rattle.outside_world.specs.View.{View, Moment}
use Rattle.realm_files.specs.Stands.{Files}
use Rattle.rose_shell.specs.Desk.{FilesRule, Terms, StandsBetween}
use Rattle.rose_shell.specs.Turns.{Turn, IsRun, IsComplete, AreComplete, end_of, files_after, replies, lines_of}
use Rattle.rose_shell.specs.Moments.{IsMoment, AreLeft}
use Rattle.rose_shell.specs.Session.{IsGivenInPart, IsCutOff}

module _ {S : Type 0} where
  pub end_of-append : (start : S) (ts us : List (Turn S)) → end_of start (ts ++ us) ≡ end_of (end_of start ts) us
  end_of-append start [] us = refl
  end_of-append start (t ∷ ts) us = end_of-append t.after ts us

  pub files_after-append : (files : Files) (ts us : List (Turn S)) → files_after files (ts ++ us) ≡ files_after (files_after files ts) us
  files_after-append files [] us = refl
  files_after-append files (t ∷ ts) us = files_after-append t.files ts us

  -- what turns leave as it was, so do more turns
  pub left-append : (same : S → S → Type 0) (start : S) (files : Files) (ts us : List (Turn S)) → AreLeft same start files ts
      → AreLeft same (end_of start ts) (files_after files ts) us → AreLeft same start files (ts ++ us)
  left-append same start files [] us first second = second
  left-append same start files (t ∷ ts) us first second = (first.0, left-append same t.after t.files ts us first.1 second)

  pub replies-append : (ts us : List (Turn S)) → replies (ts ++ us) ≡ replies ts ++ replies us
  replies-append [] us = refl
  replies-append (t ∷ ts) us =
      ap (λ (l : List ℕ). t.reply ++ l) (replies-append ts us) ∙ sym (append_assoc t.reply (replies ts) (replies us))

  pub lines_of-append : (ts us : List (Turn S)) → lines_of (ts ++ us) ≡ lines_of ts ++ lines_of us
  lines_of-append [] us = refl
  lines_of-append (t ∷ ts) us =
      ap (λ (l : List (List ℕ)). t.line ∷ l)
      (ap (λ (l : List (List ℕ)). t.batch ++ l) (lines_of-append ts us)
      ∙ sym (append_assoc t.batch (lines_of ts) (lines_of us)))

  -- turns behind others, with the lines that were held before them and are held behind them
  pub lines_behind : (ts us : List (Turn S)) (held later more : List (List ℕ)) {all : List (List ℕ)} → lines_of ts ++ held ≡ all
      → lines_of us ++ later ≡ held ++ more → lines_of (ts ++ us) ++ later ≡ all ++ more
  lines_behind ts us held later more first second =
      ap (λ (l : List (List ℕ)). l ++ later) (lines_of-append ts us) ∙ append_assoc (lines_of ts) (lines_of us) later
      ∙ ap (λ (l : List (List ℕ)). lines_of ts ++ l) second ∙ sym (append_assoc (lines_of ts) held more)
      ∙ ap (λ (l : List (List ℕ)). l ++ more) first

  -- complete turns stay so, whatever is said of the last one
  pub complete_wider : {P Q : Type 0} → (P → Q) → (ts : List (Turn S)) → AreComplete P ts → AreComplete Q ts
  complete_wider wider [] full = tt
  complete_wider {P} {Q} wider (t ∷ ts) full = (
    ⊎_elim (λ (is : IsComplete t). inl is) (λ (last : (ts ≡ []) × P). inr (last.0, wider last.1)) full.0,
    complete_wider wider ts full.1,
  )

  pub complete-append : (P : Type 0) (ts us : List (Turn S)) → AreComplete ⊥ ts → AreComplete P us → AreComplete P (ts ++ us)
  complete-append P [] us first second = second
  complete-append P (t ∷ ts) us first second = (
    ⊎_elim (λ (is : IsComplete t). inl is) (λ (last : (ts ≡ []) × ⊥). absurd last.1) first.0,
    complete-append P ts us first.1 second,
  )

  pub given_in_part_behind : (ts : List (Turn S)) {us : List (Turn S)} {unsent : List ℕ}
      → IsGivenInPart us unsent → IsGivenInPart (ts ++ us) unsent
  given_in_part_behind ts part = record {
    before = ts ++ part.before;
    last = part.last;
    sent = part.sent;
    in_order = ap (λ (l : List (Turn S)). ts ++ l) part.in_order ∙ sym (append_assoc ts part.before (part.last ∷ []));
    split = part.split;
  }

-- the same of a run that was cut off
module _ {S : Type 0} {terms : Terms S} {old mid new : View} where
  pub cut_off_behind : (start : S) (ts : List (Turn S)) {us : List (Turn S)} {unsent : List ℕ}
      → mid.given ≡ old.given ++ replies ts → mid.reads ≡ files_after old.reads ts
      → IsCutOff terms mid new (end_of start ts) us unsent → IsCutOff terms old new start (ts ++ us) unsent
  cut_off_behind start ts given reads cut =
      let before = cut.before in
      let state : end_of (end_of start ts) before ≡ end_of start (ts ++ before) = sym (end_of-append start ts before) in
      let files : files_after mid.reads before ≡ files_after old.reads (ts ++ before) =
      ap (λ (f : Files). files_after f before) reads ∙ sym (files_after-append old.reads ts before) in
      record {
        before = ts ++ before;
        last = cut.last;
        in_order = ap (λ (l : List (Turn S)). ts ++ l) cut.in_order ∙ sym (append_assoc ts before (cut.last ∷ []));
        none_given = cut.none_given;
        given_before = cut.given_before ∙ ap (λ (l : List ℕ). l ++ replies before) given
            ∙ append_assoc old.given (replies ts) (replies before)
            ∙ ap (λ (l : List ℕ). old.given ++ l) (sym (replies-append ts before));
        may_write = subst (λ (s : S). terms.writes s cut.last.line) state cut.may_write;
        now = λ left image.
            subst (λ (s : S). StandsBetween terms.same terms.stands s cut.last.after (files_after old.reads (ts ++ before)) left) state
            (subst (λ (f : Files). StandsBetween terms.same terms.stands (end_of (end_of start ts) before) cut.last.after f left) files
            (cut.now left image));
      }

module _ {S : Type 0} (terms : Terms S) where
  pub run-append : (start : S) (ts us : List (Turn S)) → IsRun terms start ts → IsRun terms (end_of start ts) us
      → IsRun terms start (ts ++ us)
  run-append start [] us first second = second
  run-append start (t ∷ ts) us first second = (first.0, run-append t.after ts us first.1 second)

-- a moment of a run is one of a longer run, whether turns come behind it or before it
module _ {S : Type 0} (same : S → S → Type 0) (stands : FilesRule S) where
  pub moment_before : (start : S) (files : Files) (ts us : List (Turn S)) (given : List ℕ) (m : Moment)
      → IsMoment same stands start files ts given m → IsMoment same stands start files (ts ++ us) given m
  moment_before start files [] [] given m is = is
  moment_before start files [] (u ∷ us) given m is = inl (is.0, (inl is.1, λ _. is.2))
  moment_before start files (t ∷ ts) us given m (inl before) = inl before
  moment_before start files (t ∷ ts) us given m (inr (inl during)) = inr (inl during)
  moment_before start files (t ∷ ts) us given m (inr (inr later)) =
      inr (inr (moment_before t.after t.files ts us (given ++ t.reply) m later))

  pub moment_behind : (start : S) (files : Files) (ts us : List (Turn S)) (given : List ℕ) (m : Moment)
      → IsMoment same stands (end_of start ts) (files_after files ts) us (given ++ replies ts) m
      → IsMoment same stands start files (ts ++ us) given m
  moment_behind start files [] us given m is = subst (λ (g : List ℕ). IsMoment same stands start files us g m) (append-nil given) is
  moment_behind start files (t ∷ ts) us given m is =
      inr (inr (moment_behind t.after t.files ts us (given ++ t.reply) m
      (subst (λ (g : List ℕ). IsMoment same stands (end_of t.after ts) (files_after t.files ts) us g m)
      (sym (append_assoc given t.reply (replies ts))) is)))

  -- the moment behind all turns
  pub moment_now : (start : S) (files : Files) (ts : List (Turn S)) (given : List ℕ) (m : Moment)
      → m.given ≡ given ++ replies ts → stands (end_of start ts) m.files → m.files ≡ files_after files ts
      → IsMoment same stands start files ts given m
  moment_now start files ts given m is stand left =
      subst (λ (l : List (Turn S)). IsMoment same stands start files l given m) (append-nil ts)
      (moment_behind start files ts [] given m (is, stand, left))
