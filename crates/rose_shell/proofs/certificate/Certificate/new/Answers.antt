use Rattle.std.proofs.Common.{[], sym, subst}
use Rattle.realm_audit.specs.Verdicts.{HasHeard}
use Rattle.rose_shell.proofs.certificate.Certificate.new.Goals as goal

-- nothing has come, and nothing was heard
pub returns-clause-come : goal.returns-clause-come
returns-clause-come c = record {
  heard = subst (λ h. HasHeard h []) (sym c.new.ensures) c.hearing_is_judged.ensures.nothing;
  kept = λ _. c.new-2.ensures.items;
  failed = λ is. absurd (cc);
}
