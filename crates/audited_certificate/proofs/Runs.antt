-- This file shows what an audit finds that takes what a run of `certify` has given.
use Rattle.std.proofs.Common.{◌≡◌, inl, inr, ℕ, ◌^◌, min, List, [], ◌++◌, length, map, sym, ap, subst, ◌∙◌}
use Rattle.std.proofs.lemmas.List.{append-nil, append_cancel_left}
use Rattle.outside_world.specs.View.{View}
use Rattle.realm_audit.specs.Items.{text_of}
use Rattle.realm_audit.specs.Verdicts.{IsVerdict}
use Rattle.realm_audit.specs.declared.item.Item.{Item}
use Rattle.realm_audit.specs.declared.verdict.Verdict.{Verdict}
use Rattle.realm_audit.specs.declared.verdict.Verdict.TheVariants.{Sound}
use Rattle.realm_audit.proofs.OneRuns.{one_verdict}
use Rattle.certificate_law.specs.Certificates.{IsCertificate, entries_of, step_count}
use Rattle.certificate_law.proofs.Journals.{journal_led}
use Rattle.certificate_law.proofs.SoundCertificate.{certificate_sound}
use Rattle.rose_shell.specs.Lines.{all_lines}
use Rattle.rose_shell.specs.Auditing.{HasAudited, verdict_text}
use Rattle.rose_shell.specs.Certifying.{Certifies, HasCertified, lines_of_items}
use Rattle.rose_shell.specs.Running.{IsNotBegun}
use Rattle.rose_shell.specs.declared.status.Status.TheVariants.{Done}
use Rattle.audited_certificate.specs.Found.{FindsSound}
use Rattle.audited_certificate.proofs.Lines.{lines_of_certificate}

-- where nothing was begun, nothing is done
begun : {old new : View} → IsNotBegun old new Done → ⊥
begun not_begun = elim not_begun.cause [
  | inl disk ↦ cc
  | inr (inl memory) ↦ cc
  | inr (inr damaged) ↦ let is = damaged.1 in cc
]

-- what was given of all of some bytes
all_given : (bytes sent unsent : List ℕ) → bytes ≡ sent ++ unsent → unsent ≡ [] → bytes ≡ sent
all_given bytes sent unsent split none = split ∙ ap (λ (l : List ℕ). sent ++ l) none ∙ append-nil sent

-- the items of the certificate were given, all of them
items_given : {old new : View} (c : Certifies old new Done) → (c.list ≡ c.gives.begun) × (new.given ≡ old.given ++ lines_of_items c.gives.begun)
items_given {old} {new} c =
    let gives = c.gives in
    let (none_left, none_unsent) = gives.ends in (
      gives.in_order ∙ ap (λ (l : List Item). gives.begun ++ l) none_left ∙ append-nil gives.begun,
      gives.some.given
          ∙ ap (λ (l : List ℕ). old.given ++ l)
          (sym (all_given (lines_of_items gives.begun) gives.some.sent gives.unsent gives.some.split none_unsent)),
    )

-- what was taken
taken : {before after : View} {budget : ℕ} (a : HasAudited before after budget Done) → a.bytes ≡ before.left
taken {before} {after} a = sym (all_given before.left a.bytes after.left a.calls.left a.ended.0)

-- the verdict on the lines of the certificate
verdict_is : {old new : View} (c : Certifies old new Done) (verdict : Verdict) → IsVerdict (all_lines (lines_of_items c.gives.begun)) verdict
    → verdict ≡ Sound (min (length (entries_of c.records)) (2 ^ 63)) (min (step_count (entries_of c.records)) (2 ^ 63))
verdict_is {old} {new} c verdict judged =
    let list = c.gives.begun in
    let certificate = subst (λ (l : List Item). IsCertificate c.base c.records c.kept.state l) (items_given c).0 c.is_certificate in
    let valid = (journal_led old.reads c.kept.state c.kept.place c.base c.records c.journal).valid in
    one_verdict (map text_of list) verdict (Sound _ _)
    (subst (λ (ls : List (List ℕ)). IsVerdict ls verdict) (lines_of_certificate list c.gives.are_lines) judged)
    (certificate_sound c.base c.records c.kept.state list valid certificate c.gives.are_lines)

-- and so the line that was given
pub found : (old new before after : View) {budget : ℕ} → HasCertified old new Done → HasAudited before after budget Done
    → new.given ≡ old.given ++ before.left → FindsSound old.reads before after
found old new before after (inl not_begun) a same = absurd (begun not_begun)
found old new before after (inr c) a same =
    let (over, (verdict, judged, tells), none_unsent) = a.ended in
    let input : before.left ≡ lines_of_items c.gives.begun =
    append_cancel_left old.given before.left (lines_of_items c.gives.begun) (sym same ∙ (items_given c).1) in
    let bytes : a.bytes ≡ lines_of_items c.gives.begun = taken a ∙ input in
    let is = verdict_is c verdict (subst (λ (l : List ℕ). IsVerdict (all_lines l) verdict) bytes judged) in
    record {
      kept = c.kept;
      rests = c.rests;
      base = c.base;
      records = c.records;
      journal = c.journal;
      given = a.calls.given
          ∙ ap (λ (l : List ℕ). before.given ++ l)
          (sym (all_given a.reply a.calls.sent a.unsent a.calls.split none_unsent) ∙ tells ∙ ap verdict_text is);
    }
