-- This file shows how a certificate comes, some bytes and some lines at a time.
use Rattle.std.proofs.Common.{◌≡◌, ℕ, Bool, true, false, List, [], ◌∷◌, ◌++◌, refl, sym, ◌∙◌, ap, subst, append_assoc}
use Rattle.std.specs.Prelude.{◌≢◌}
use Rattle.realm_audit.specs.Verdicts.{Hearing, HasHeard, Hears, FailsAt}
use Rattle.realm_audit.specs.Verdicts.Hearing.{Heard, Failing, Exhausted}
use Rattle.rose_shell.specs.Lines.{lines_from, part_from, whole_lines}
use Rattle.rose_shell.specs.Certificates.{IsFailing, HasCome}
use Rattle.rose_shell.specs.declared.certificate.Certificate.{Certificate}
use Rattle.rose_shell.proofs.Cuts.{lines_from-append, part_from-append}

-- lines behind one that fails change nothing
fails_more : (texts more : List (List ℕ)) (n : ℕ) → FailsAt texts n → FailsAt (texts ++ more) n
fails_more texts more n (before, text, after, split, behind, number) =
    let longer : texts ++ more ≡ before ++ text ∷ (after ++ more) =
    ap (λ (ls : List (List ℕ)). ls ++ more) split ∙ append_assoc before (text ∷ after) more in
    (before, text, after ++ more, longer, behind, number)

pub heard_more : (h : Hearing) (texts more : List (List ℕ)) → IsFailing h → HasHeard h texts → HasHeard h (texts ++ more)
heard_more (Heard n audit) texts more failing heard = absurd failing
heard_more (Failing n) texts more failing heard = fails_more texts more n heard
heard_more Exhausted texts more failing heard = absurd failing

-- after a line that doesn't hold, one has failed
pub failing_by : (old new : Hearing) (text : List ℕ) (held : Bool) → Hears old text held new → new ≢ Exhausted → held ≡ false
    → IsFailing new
failing_by (Heard n audit) (Heard m next) text held hears going is = let yes = hears.0 in cc
failing_by (Heard n audit) (Failing m) text held hears going is = tt
failing_by (Heard n audit) Exhausted text held hears going is = absurd hears
failing_by (Failing n) (Heard m next) text held hears going is = absurd hears
failing_by (Failing n) (Failing m) text held hears going is = tt
failing_by (Failing n) Exhausted text held hears going is = absurd hears
failing_by Exhausted (Heard m next) text held hears going is = absurd hears
failing_by Exhausted (Failing m) text held hears going is = absurd hears
failing_by Exhausted Exhausted text held hears going is = absurd (going refl)

-- once a line has failed, more lines change nothing, whatever comes of the next one
pub come_failed : {c : Certificate} {texts : List (List ℕ)} {part : List ℕ} (more : List (List ℕ)) (rest : List ℕ) → c.holds ≡ false
    → HasCome c texts part → HasCome c (texts ++ more) rest
come_failed {c} {texts} more rest fails come = record {
  heard = heard_more c.auditor texts more (come.failed fails) come.heard;
  kept = λ is. absurd (let both : true ≡ false = sym is ∙ fails in cc);
  failed = come.failed;
}

-- lines and a part that are the same
pub come_as : {c : Certificate} {texts more : List (List ℕ)} {part rest : List ℕ} → texts ≡ more → part ≡ rest
    → HasCome c texts part → HasCome c more rest
come_as {c} {texts} {more} {part} {rest} same_texts same_part come =
    subst (λ (ls : List (List ℕ)). HasCome c ls rest) same_texts (subst (λ (p : List ℕ). HasCome c texts p) same_part come)

-- more bytes behind those that have come
pub come_more : {c : Certificate} (bytes more : List ℕ)
    → HasCome c (whole_lines bytes ++ lines_from (part_from [] bytes) more) (part_from (part_from [] bytes) more)
    → HasCome c (whole_lines (bytes ++ more)) (part_from [] (bytes ++ more))
come_more bytes more come = come_as (sym (lines_from-append [] bytes more)) (sym (part_from-append [] bytes more)) come
