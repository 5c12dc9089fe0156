use Rattle.audited_certificate.proofs.Runs.{found}
use Rattle.audited_certificate.proofs.laws.certificate_is_audited.Goals as goal

-- the bytes of a certificate are cut into its lines, and a text has one verdict
pub returns : goal.returns
returns g c = λ old new before after budget certified audited same.
    found (g.W.Outside.view old) (g.W.Outside.view new) (g.V.Outside.view before) (g.V.Outside.view after) certified audited same
