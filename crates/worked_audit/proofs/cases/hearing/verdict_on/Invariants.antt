use Rattle.std.proofs.Common.{◌≢◌}
use Rattle.realm_audit.specs.Verdicts.Hearing.{Exhausted}
use Rattle.worked_audit.proofs.cases.hearing.verdict_on.Given as goal

-- memory didn't run out so far
abbrev pub invariant-loop-line : goal.invariant-loop-line
invariant-loop-line l = l.auditor ≢ Exhausted
