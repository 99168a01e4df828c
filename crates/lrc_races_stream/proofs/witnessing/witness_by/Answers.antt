-- What is noted is told before the answer.
use Rattle.lrc_races_stream.specs.Reach.{out_of_memory}
use Rattle.lrc_races_stream.specs.Witness.{Witnesses, stopped}
use Rattle.lrc_races_stream.proofs.NotedLemmas.{noted_so}
use Rattle.lrc_races_stream.proofs.witnessing.witness_by.Goals as goal

pub returns : goal.returns
returns g c form held u =
    let found = c.seek_witness-answer.ensures form held u in
    noted_so (Witnesses c.args.strict form held c.args.first c.args.second) form held c.args.second
    (stopped c.args.seeker.front.kept.kept out_of_memory) c.note.ensures found.0 found.1
