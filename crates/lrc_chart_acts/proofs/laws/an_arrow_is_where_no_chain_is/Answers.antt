use Rattle.lrc_chart_acts.proofs.Tables.{told_exactly}
use Rattle.lrc_chart_acts.proofs.laws.an_arrow_is_where_no_chain_is.Goals as goal

pub returns : goal.returns
returns c = λ run order i j is_order. told_exactly run order i j is_order
