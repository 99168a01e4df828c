use Rattle.std.proofs.Common.{◌∙◌, ◌++◌, ℕ, List, ap, map}
use Rattle.lrc_trace.specs.declared.race.Race.{Race}
use Rattle.lrc_explain_waits.specs.Traps.{wording_of}
use Rattle.lrc_text.specs.Parts.{whole_text}
use Rattle.lrc_text.specs.RaceText.{races_text}
use Rattle.lrc_explore_text.specs.Orders.{order_text}
use Rattle.lrc_explore_text.proofs.Telling.{of_race}
use Rattle.lrc_explore_text.proofs.orders.last_race_told.Goals as goal

pub returns-clause-ok : goal.returns-clause-ok
returns-clause-ok c =
    let program = c.args.program.now in
    let nodes = c.args.nodes in
    let lines = c.args.lines.now in
    let acts = c.args.acts.now in
    let (order, run, led, tells) = c.requires.tells in
    let last = c.last_of-last.result in
    let races = c.in_ok-races.races.items in
    let named = c.in_ok-named.named.items in
    let first = c.in_ok-first.first.items in
    let named_is = c.in_ok-named.ensures ∙ ap (λ (rs : List Race). races_text rs) c.deref.ensures.value in
    of_race (wording_of c.args.wording.now) program nodes lines order run acts led tells last races c.last_of-last.ensures c.in_ok-races.ensures
    (whole_text c.in_ok-parts.parts.items)
    (c.in_ok-parts.ensures ∙ ap (λ (t : List ℕ). t ++ named ++ first) c.in_ok-told.ensures
    ∙ ap (λ (n : List ℕ). order_text program nodes lines acts ++ n ++ first) named_is
    ∙ ap (λ (f : List ℕ). order_text program nodes lines acts ++ races_text races ++ f) c.in_ok-first.ensures)
