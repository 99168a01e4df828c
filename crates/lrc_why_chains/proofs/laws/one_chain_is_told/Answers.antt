use Rattle.lrc_why_chains.proofs.Existing.{before-told}
use Rattle.lrc_why_chains.proofs.Paths.{told-alone, told-before}
use Rattle.lrc_why_chains.proofs.laws.one_chain_is_told.Goals as goal

pub returns-clause-there : goal.returns-clause-there
returns-clause-there c run i j = (λ found. told-before found.1, λ h. before-told h)

pub returns-clause-alone : goal.returns-clause-alone
returns-clause-alone c run i j chain other t o = told-alone t o
