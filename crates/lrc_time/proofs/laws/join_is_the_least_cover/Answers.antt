use Rattle.lrc_time.proofs.Times.{length-joined_same, covers-joined_first, covers-joined_second, covers-joined_least}
use Rattle.lrc_time.proofs.laws.join_is_the_least_cover.Goals as goal

pub returns-clause-entries : goal.returns-clause-entries
returns-clause-entries c = length-joined_same

pub returns-clause-covers_first : goal.returns-clause-covers_first
returns-clause-covers_first c = covers-joined_first

pub returns-clause-covers_second : goal.returns-clause-covers_second
returns-clause-covers_second c = covers-joined_second

pub returns-clause-least : goal.returns-clause-least
returns-clause-least c = covers-joined_least
