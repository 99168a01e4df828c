use Rattle.lrc_private_names.proofs.Values.{kept, never}
use Rattle.lrc_private_names.proofs.laws.names_keep_what_they_were_set_to.Goals as goal

pub returns-clause-never : goal.returns-clause-never
returns-clause-never c = λ program nodes lines acts node name position within none. never program nodes lines acts node name position within none

pub returns-clause-kept : goal.returns-clause-kept
returns-clause-kept c = λ program nodes lines acts node name before position within sets. kept program nodes lines acts node name before position within sets
