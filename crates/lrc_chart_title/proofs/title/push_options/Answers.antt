use Rattle.std.proofs.Common.{◌∙◌, ◌++◌, ap}
use Rattle.std.specs.Prelude.{codes}
use Rattle.lrc_chart_title.specs.Title.{option_text, page_size_text}
use Rattle.lrc_chart_title.proofs.Steps.{added, added_as, on_ok}
use Rattle.lrc_chart_title.proofs.title.push_options.Goals as goal

pub returns : goal.returns
returns c =
    let text = c.args.text.now.items in
    let options = c.args.options.now in
    let default = options.default_nodes.count in
    let nodes = option_text (codes " --nodes ") default options.nodes.count in
    let steps = option_text (codes " --steps ") 1000000 options.steps.count in
    let collect = option_text (codes " --collect ") 0 options.collect.count in
    let with_nodes =
    c.in_ok-push_unless.ensures ∙ ap (λ d. text ++ option_text (codes " --nodes ") d c.from-2.result) c.from.ensures
    ∙ ap (λ n. text ++ option_text (codes " --nodes ") default n) c.from-2.ensures in
    let with_steps = added_as text nodes _ steps _ _ (ap (option_text (codes " --steps ") 1000000) c.from-3.ensures)
    with_nodes c.in_ok-push_unless-2.ensures in
    let with_collect = added_as text (nodes ++ steps) _ collect _ _ (ap (option_text (codes " --collect ") 0) c.from-4.ensures)
    with_steps c.in_ok-push_unless-3.ensures in
    on_ok c.push_size.result _ _ (added text (nodes ++ steps ++ collect) (page_size_text options.size) _ _ with_collect)
    c.push_size.ensures
