use Rattle.std.proofs.Common.{subst}
use Rattle.realm_insert.specs.State.{State}
use Rattle.query_batch.specs.Answers.{TellsLine}
use Rattle.rose_shell.proofs.answering.StoreDesk.engine.Goals as goal

-- the engine has the state that is kept
pub returns-clause-tells : goal.returns-clause-tells
returns-clause-tells g c = λ line reply told. subst (λ (s : State). TellsLine s line reply) c.state.ensures.state told
