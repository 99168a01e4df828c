use Rattle.std.proofs.Common.{◌++◌, ◌-◌, [], ◌∷◌, ℕ, ◌∙◌, ap}
use Rattle.lrc_explore_less.proofs.less.Less.keep_open.Goals as goal

pub returns-clause-opens : goal.returns-clause-opens
returns-clause-opens c =
    c.in_ok-push.ensures.items ∙ ap (λ (n : ℕ). c.args.self.now.opens.items ++ (n - 1) ∷ []) c.len-last.ensures.len
