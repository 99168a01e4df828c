-- No place has a number, and names that were looked for change nothing.
use Rattle.std.proofs.Common.{List, ℕ, subst, ◌∙◌}
use Rattle.std.proofs.lemmas.Result.{IfOk-weaker, on_ok_weaker}
use Rattle.lrc_races_claims.specs.Known.{known_names}
use Rattle.lrc_races_claims.proofs.JudgeLemmas.{with_variables}
use Rattle.lrc_races_missed.specs.Keys.{AreKeys}
use Rattle.lrc_races_scored.proofs.missed.named_keys.Goals as goal

pub returns-clause-keys : goal.returns-clause-keys
returns-clause-keys c =
    IfOk-weaker c.keys_of.result _ _ (λ keys are.
    subst (λ (places : List (List ℕ)). AreKeys (known_names c.args.judge.now.variables) places c.args.claims.now keys.keys)
    (c.new-none.ensures ∙ c.new.ensures) are) c.keys_of.ensures.keys

pub returns-clause-stays : goal.returns-clause-stays
returns-clause-stays c =
    on_ok_weaker c.keys_of.result (λ same events sought naming last is.
    with_variables sought naming events last c.args.judge.now is c.keys_of.new.variables same) c.keys_of.ensures.variables
