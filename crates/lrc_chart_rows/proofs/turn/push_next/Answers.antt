use Rattle.std.proofs.Common.{rules, ◌≡◌, ◌++◌, ◌∷◌, [], List, length, subst, sym}
use Rattle.lrc_turns_text.specs.Turns.{Made}
use Rattle.lrc_chart_rows.specs.Counts.{Counts}
use Rattle.lrc_chart_rows.proofs.Counting.{counts_more}
use Rattle.lrc_chart_rows.proofs.turn.push_next.Goals as goal

pub returns-in_ok-push-clause-counts : goal.returns-in_ok-push-clause-counts
returns-in_ok-push-clause-counts c =
    let turn : Made = record { node = c.args.node; entry = c.in-Some.entry.now } in
    let pushed : c.push.new.self.items ≡ c.args.turns.now.items ++ turn ∷ [] = search rules in
    let long : length c.args.made.now.counts ≡ 256 = search rules in
    subst (λ (t : List Made). Counts t c.note.new.self.counts) (sym pushed)
    (counts_more c.args.turns.now.items turn c.args.made.now.counts c.note.new.self.counts long c.by.ensures.in_range c.note.ensures c.requires)
