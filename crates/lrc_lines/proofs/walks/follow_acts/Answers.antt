-- One act more.
use Rattle.std.proofs.Common.{rules, ◌∷◌, [], ◌++◌, ◌∙◌, ap₂, take}
use Rattle.lrc_lines.proofs.Several.{line_found, acts_so_far}
use Rattle.lrc_lines.proofs.walks.follow_acts.Goals as goal

pub loop-act-preserved : goal.loop-act-preserved
loop-act-preserved c =
    let program = c.args.code.now in
    let nodes = c.args.nodes in
    let lines = c.args.lines.now in
    let acts = c.args.acts.now in
    let i = c.loop-act.act-index in
    let old = c.loop-act.invariant in
    let before = take i acts in
    let line = c.line.ensures ∙ line_found program nodes lines before c.loop-act.walks.nodes.items c.loop-act.walks.end _ old.1 old.2 in
    let both = acts_so_far program nodes lines acts i _ _ _ c.loop-act-test.true (c.in_ok-follow.ensures.walks program nodes lines before old.1)
    (c.in_ok-push.ensures.items ∙ ap₂ (λ l x. l ++ x ∷ []) old.0 line) (search rules) in
    (both.0, both.1, c.in_ok-follow.ensures.end ∙ old.2)
