use Rattle.lrc_consistency_laws.proofs.Racing.{plain_to_race}
use Rattle.lrc_consistency_laws.proofs.plain.the_first_race_is_one_of_the_plain_machine.Goals as goal

pub returns : goal.returns
returns c = λ program nodes run position follows ws lazily first. plain_to_race program nodes run follows ws lazily position first
