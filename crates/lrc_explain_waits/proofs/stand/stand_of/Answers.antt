use Rattle.std.proofs.Common.{◌≡◌, ◌∙◌, ap₂}
use Rattle.lrc_exec.specs.declared.machine.Ask.TheVariants.{End}
use Rattle.lrc_exec.specs.Ask.{ask_of}
use Rattle.lrc_exec.specs.Meaning.{next_of}
use Rattle.lrc_lines.specs.Seen.{walks_of}
use Rattle.lrc_lines.specs.Walks.{line_behind, act_lines}
use Rattle.lrc_lines.proofs.Several.{line_found}
use Rattle.lrc_explain_waits.specs.Stand.{ask_behind, coming_of}
use Rattle.lrc_explain_waits.proofs.Finding.{found_in, stand_same}
use Rattle.lrc_explain_waits.proofs.stand.stand_of.Goals as goal

pub returns : goal.returns
returns c = λ program nodes lines inside are.
    let acts = c.args.acts.now in
    let node = c.args.node in
    let walks = c.args.followed.now.walks in
    let line : c.line.result ≡ line_behind program nodes lines acts node =
    c.line.ensures ∙ line_found program nodes lines acts walks.nodes.items walks.end node are.walks_are are.end_is in
    let ask : c.ask.result ≡ ask_behind program nodes lines acts node =
    c.ask.ensures ∙ found_in (λ walk. ask_of (next_of walk.thread)) program nodes lines acts (walks_of walks) node End are.walks_are inside in
    let found = c.deref.ensures.value ∙ are.lines_are in
    let coming = c.coming_of.ensures ∙ ap₂ (λ l a. coming_of c.args.steps acts l node a) found ask in
    stand_same c.fate_of.ensures c.arrives_of.ensures line coming
