use Rattle.lrc_copies.proofs.Stamping.{stamped_longer, added_last, cut_longer}
use Rattle.lrc_copies.proofs.times.closing_keeps_stamps.Goals as goal

pub returns-clause-stamped : goal.returns-clause-stamped
returns-clause-stamped g c = λ s nodes all time x stamped closed. stamped_longer s nodes all time x closed stamped

pub returns-clause-added : goal.returns-clause-added
returns-clause-added g c = λ s nodes all time x closed. added_last s nodes all time x closed

pub returns-clause-cuts : goal.returns-clause-cuts
returns-clause-cuts g c = λ s all time x cut unknown. cut_longer s all time x cut unknown
