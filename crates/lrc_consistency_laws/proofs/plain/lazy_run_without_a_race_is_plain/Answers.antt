use Rattle.lrc_consistency_laws.proofs.UpToRace.{without_race}
use Rattle.lrc_consistency_laws.proofs.plain.lazy_run_without_a_race_is_plain.Goals as goal

pub returns : goal.returns
returns c = without_race
