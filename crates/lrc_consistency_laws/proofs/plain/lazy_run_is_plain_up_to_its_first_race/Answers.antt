use Rattle.lrc_consistency_laws.proofs.UpToRace.{up_to_race}
use Rattle.lrc_consistency_laws.proofs.plain.lazy_run_is_plain_up_to_its_first_race.Goals as goal

pub returns : goal.returns
returns c = λ program nodes run position follows ws lazily first. up_to_race program nodes run follows ws lazily position first
