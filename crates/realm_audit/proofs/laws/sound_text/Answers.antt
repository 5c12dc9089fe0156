use Rattle.realm_audit.proofs.SoundLists.{sound_text}
use Rattle.realm_audit.proofs.laws.sound_text.Goals as goal

-- the lemma is the law itself
pub returns : goal.returns
returns c = sound_text
