use Rattle.certificate_law.proofs.Journals.{journal_led}
use Rattle.certificate_law.proofs.SoundCertificate.{certificate_sound}
use Rattle.certificate_law.proofs.laws.certificate_is_sound.Goals as goal

-- a journal begins with a valid state, and from a valid one each line holds
pub returns : goal.returns
returns c = λ files kept base records list journal certificate lines.
    certificate_sound base records kept.state list (journal_led files kept.state kept.place base records journal).valid certificate lines
