use Rattle.lrc_why_chains.proofs.Paths.{chain-before, before-chain}
use Rattle.lrc_why_chains.proofs.laws.a_chain_is_there_where_one_happens_before_the_other.Goals as goal

pub returns : goal.returns
returns c run i j = (λ found. chain-before found.1, λ h. before-chain h)
