use Rattle.lrc_judge_all.proofs.Readers.{reader_none, zeros_more, zeros_none}
use Rattle.lrc_judge_all.proofs.learning.nothing_known.Goals as goal

pub returns : goal.returns
returns c = λ run node.
    let zeros = zeros_more _ (zeros_more _ (zeros_more _ (zeros_more _ (zeros_more _ (zeros_more _ (zeros_more _ (zeros_more _ (zeros_more _ (zeros_more _
    (zeros_more _ (zeros_more _ (zeros_more _ (zeros_more _ (zeros_more _ (zeros_more _ zeros_none))))))))))))))) in
    reader_none run node 0 _ zeros.at c.new.ensures.empty
