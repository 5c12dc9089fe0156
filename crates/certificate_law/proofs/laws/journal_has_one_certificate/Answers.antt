use Rattle.certificate_law.proofs.Journals.{journal_led}
use Rattle.certificate_law.proofs.OneCertificate.{some_certificate, one_certificate}
use Rattle.certificate_law.proofs.laws.journal_has_one_certificate.Goals as goal

-- the entries of a journal lead on
pub returns-clause-there : goal.returns-clause-there
returns-clause-there c = λ files kept base records journal.
    some_certificate base records kept.state (journal_led files kept.state kept.place base records journal).lead

-- and each leads to one state
pub returns-clause-one : goal.returns-clause-one
returns-clause-one c = one_certificate
