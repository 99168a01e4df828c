use Rattle.std.proofs.Common.{◌∙◌, sym}
use Rattle.std.proofs.lemmas.Bool.{eqb-true, eq-eqb}
use Rattle.lrc_lock.specs.Lock.{manager_of}
use Rattle.lrc_lock.proofs.Starts.{first_token}
use Rattle.lrc_lock.proofs.laws.one_node_has_the_token_at_first.Goals as goal

pub returns : goal.returns
returns c = λ me nodes locks lock within. (
  λ here. eqb-true (manager_of nodes lock) me (sym (first_token me nodes locks lock within) ∙ here),
  λ same. first_token me nodes locks lock within ∙ eq-eqb (manager_of nodes lock) me same,
)
