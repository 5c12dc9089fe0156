use Rattle.realm_pages.proofs.FilesOnce.{generation_once, no_damage, damage_once, damage_counts}
use Rattle.realm_pages.proofs.laws.one_finding.Goals as goal

pub returns-clause-one_generation : goal.returns-clause-one_generation
returns-clause-one_generation c = λ files file other g h one also. generation_once one also

pub returns-clause-none_damaged : goal.returns-clause-none_damaged
returns-clause-none_damaged c = λ damage files file g damaged holds. no_damage damaged holds

pub returns-clause-one_damage : goal.returns-clause-one_damage
returns-clause-one_damage c = λ damage other files one also. damage_once one also

pub returns-clause-some_counts : goal.returns-clause-some_counts
returns-clause-some_counts c = λ damage files damaged none. damage_counts damaged none
