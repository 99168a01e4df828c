use Rattle.lrc_consistency_laws.proofs.Racing.{race_free}
use Rattle.lrc_consistency_laws.proofs.plain.races_of_lazy_runs_belong_to_the_program.Goals as goal

pub returns : goal.returns
returns c = λ program nodes run follows ws lazily none. race_free program nodes run follows ws lazily none
