use Rattle.std.proofs.Common.{◌≡◌, ◌++◌, ◌∙◌, ℕ, List, ap, subst}
use Rattle.std.specs.Prelude.{codes, decimal}
use Rattle.std.proofs.lemmas.Result.{IfOk-weaker}
use Rattle.lrc_text.specs.Parts.{texts_of, whole_text}
use Rattle.lrc_orders.specs.declared.outcomes.Outcome.{Outcome}
use Rattle.lrc_explore_text.specs.Outcomes.{AreLinesOf, ListsOutcomes, none_ends}
use Rattle.lrc_explore_text.proofs.Listed.{listed}
use Rattle.lrc_explore_text.proofs.outcomes.outcomes_listed.Goals as goal

pub returns-clause-listed : goal.returns-clause-listed
returns-clause-listed c =
    let nodes = c.args.nodes in
    let keys = c.args.outcomes.now.keys in
    let head = c.in_ok-head.head in
    let sorted = c.in_ok-lines.lines.items in
    let is_head = c.in_ok-head.ensures ∙ ap (λ (n : ℕ). codes "outcomes " ++ decimal n ++ codes " in every order\n" ++ none_ends n) c.len-count.ensures.len in
    let are = subst (λ (l : List Outcome). AreLinesOf nodes l (texts_of sorted)) c.as_slice-found.ensures.keys c.in_ok-lines.ensures in
    IfOk-weaker c.with_head.result (λ parts. whole_text parts.items ≡ head.items ++ whole_text sorted)
    (λ parts. ListsOutcomes nodes keys (whole_text parts.items))
    (λ parts whole. listed nodes keys head sorted (whole_text parts.items) is_head are whole) c.with_head.ensures
