use Rattle.std.proofs.Common.{refl, take}
use Rattle.lrc_exact_judge.proofs.Looking.{looked}
use Rattle.lrc_exact_judge.proofs.looked_at.looked_at.Goals as goal

pub returns : goal.returns
returns c =
    looked c.args.nodes c.args.acts.now (take c.unwrap_or-synchronized.result c.args.acts.now) c.first_fault_of_synchronization.result
    c.first_between.result c.unwrap_or-synchronized.result c.unwrap_or.result c.first_fault_of_synchronization.ensures c.unwrap_or-synchronized.ensures
    refl c.first_between.ensures c.unwrap_or.ensures
