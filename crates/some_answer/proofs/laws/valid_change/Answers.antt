use Rattle.some_answer.proofs.NewState.{new_sound, new_on_grid}
use Rattle.some_answer.proofs.laws.valid_change.Goals as goal

-- the lemmas are the law itself
pub returns-clause-sound : goal.returns-clause-sound
returns-clause-sound c = λ change s new trace valid grid spellable few next. new_sound change s new trace valid grid next spellable few

pub returns-clause-on_grid : goal.returns-clause-on_grid
returns-clause-on_grid c = λ change s new trace valid grid next. new_on_grid change s new trace valid grid next
