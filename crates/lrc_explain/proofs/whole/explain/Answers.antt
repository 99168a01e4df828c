-- The parts are those of the nodes' stands and of the first pairs.
use Rattle.std.proofs.Common.{◌≡◌, ◌∙◌, ◌++◌, All, List, Some, ap, map, subst, sym}
use Rattle.lrc_labels.specs.Reading.{Label, label_seen}
use Rattle.lrc_judge.specs.declared.lanes.Pair.{Pair}
use Rattle.lrc_lines.specs.Walks.{act_lines}
use Rattle.lrc_explain_waits.specs.declared.stand.Stand.{Stand}
use Rattle.lrc_explain_waits.specs.Circles.{deadlocks_text}
use Rattle.lrc_explain_waits.specs.Followed.{AreFollowed}
use Rattle.lrc_explain_waits.specs.Stand.{stands_of}
use Rattle.lrc_text.specs.RaceText.{first_race_text}
use Rattle.lrc_named_core.specs.Tree.{Trap}
use Rattle.lrc_named_core.specs.View.{trap_of}
use Rattle.lrc_explain.specs.Explain.{fates_text}
use Rattle.lrc_explain.specs.Groups.{groups_text, IsWithin}
use Rattle.lrc_explain.proofs.Earlier.{pairs_within}
use Rattle.lrc_explain.proofs.whole.explain.Goals as goal

pub groups_part-requires-clause-within : goal.groups_part-requires-clause-within
groups_part-requires-clause-within c =
    subst (λ (pairs : List Pair). All (IsWithin c.args.acts.now) pairs) (sym c.deref-4.ensures.value)
    (pairs_within c.args.acts.now c.in_ok-pairs.pairs.items c.in_ok-pairs.ensures)

pub returns : goal.returns
returns c =
    let labels : List Label = map label_seen c.args.labels.now in
    let traps : List Trap = map trap_of c.args.traps.now in
    let program = c.args.code.now in
    let nodes = c.args.nodes in
    let lines = c.args.lines.now in
    let acts = c.args.acts.now in
    let followed = c.in_ok-followed.followed in
    let pairs = c.in_ok-pairs.pairs.items in
    let told = c.in_ok-told.told.items in
    let deadlocks = c.in_ok-deadlocks.deadlocks.items in
    let first = first_race_text c.args.first_race in
    let are : AreFollowed program nodes lines acts followed = record {
      lines_are = c.in_ok-followed.ensures.lines;
      walks_are = c.in_ok-followed.ensures.walks;
      end_is = c.in_ok-followed.ensures.end;
    } in
    let stands = stands_of program nodes lines (Some c.args.steps) acts in
    let stands_are : c.in_ok-stands.stands.items ≡ stands = c.in_ok-stands.ensures program lines are in
    let told_is : told ≡ fates_text labels traps acts stands =
    c.in_ok-told.ensures ∙ ap (λ (s : List Stand). fates_text labels traps acts s) (c.deref.ensures.value ∙ stands_are) in
    let deadlocks_are : deadlocks ≡ deadlocks_text stands =
    c.in_ok-deadlocks.ensures ∙ ap (λ (s : List Stand). deadlocks_text s) (c.deref-2.ensures.value ∙ stands_are) in
    let groups_are : c.in_ok-groups.groups.items ≡ groups_text labels acts (act_lines program nodes lines acts) pairs =
    c.in_ok-groups.ensures ∙ ap (λ l. groups_text labels acts l c.deref-4.result.now) (c.deref-3.ensures.value ∙ are.lines_are)
    ∙ ap (λ (ps : List Pair). groups_text labels acts (act_lines program nodes lines acts) ps) c.deref-4.ensures.value in (
      pairs,
      c.in_ok-pairs.ensures,
      c.in_ok-parts.ensures ∙ ap (λ t. t ++ deadlocks ++ c.in_ok-groups.groups.items ++ first) told_is
          ∙ ap (λ t. fates_text labels traps acts stands ++ t ++ c.in_ok-groups.groups.items ++ first) deadlocks_are
          ∙ ap (λ t. fates_text labels traps acts stands ++ deadlocks_text stands ++ t ++ first) groups_are,
    )
