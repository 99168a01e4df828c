-- By the rules.
use Rattle.lrc_named_acts_laws.proofs.Keeping.{all_keep, cores_keep}
use Rattle.lrc_named_acts_laws.proofs.laws.blocks_keep_what_is_held.Goals as goal

pub returns-clause-held : goal.returns-clause-held
returns-clause-held c = λ declared held k statements core cores le. cores_keep k declared cores le

pub returns-clause-kept : goal.returns-clause-kept
returns-clause-kept c = λ numbers k core other. all_keep numbers k core other
