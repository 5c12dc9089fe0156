use Rattle.realm_audit.proofs.OneRuns.{one_verdict}
use Rattle.realm_audit.proofs.laws.one_verdict.Goals as goal

-- the lemma is the law itself
pub returns : goal.returns
returns c = one_verdict
