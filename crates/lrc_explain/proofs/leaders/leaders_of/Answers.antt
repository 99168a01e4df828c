use Rattle.std.proofs.Common.{◌∙◌, ◌+◌, List, ap, sym, subst, true}
use Rattle.std.specs.Prelude.{not}
use Rattle.std.specs.BTreeSet.{contains, Updates}
use Rattle.std.proofs.lemmas.List.{take_all}
use Rattle.lrc_judge.specs.declared.lanes.Pair.{Pair}
use Rattle.lrc_text.specs.Each.{each}
use Rattle.lrc_explain.specs.Groups.{leader_at}
use Rattle.lrc_explain.specs.Site.{site_cmp}
use Rattle.lrc_explain.proofs.Leading.{AreLed, led_new, led_none, led_same}
use Rattle.lrc_explain.proofs.leaders.leaders_of.Goals as goal
use Rattle.lrc_explain.proofs.leaders.leaders_of.Goals.{then-branch+in_ok-push, else-branch}

pub loop-pair-init : goal.loop-pair-init
loop-pair-init c =
    led_none c.args.acts.now c.args.lines.now c.args.pairs.now c.new-sites.result c.new-leaders.result.items c.new-sites.ensures.empty c.new-leaders.ensures.items

pub loop-pair-preserved : goal.loop-pair-preserved
loop-pair-preserved c =
    let acts = c.args.acts.now in
    let lines = c.args.lines.now in
    let pairs = c.args.pairs.now in
    let i = c.loop-pair.pair-index in
    let old = c.loop-pair.sites in
    let new = c.insert.new.self in
    let updates = subst (λ k. Updates site_cmp old new k true) c.site_of-site.ensures c.in_ok-insert.ensures.updates in
    let added = c.in_ok-insert.ensures.added ∙ ap (λ k. not (contains site_cmp old k)) c.site_of-site.ensures in
    elim c.if-branch.branch [
      | then-branch+in_ok-push w ↦
          subst (λ leaders. AreLed acts lines pairs (i + 1) new leaders.items) (sym w.leaders-is)
          (led_new acts lines pairs i c.loop-pair-test.true old new c.loop-pair.leaders.items c.loop-pair.invariant updates _ added w.if-branch.true
          w.push.new.self.items w.in_ok-push.ensures.items)
      | else-branch w ↦
          subst (λ leaders. AreLed acts lines pairs (i + 1) new leaders.items) (sym w.leaders-is)
          (led_same acts lines pairs i c.loop-pair-test.true old new c.loop-pair.leaders.items c.loop-pair.invariant updates _ added w.if-branch.false)
    ]

pub returns : goal.returns
returns c =
    let acts = c.args.acts.now in
    let lines = c.args.lines.now in
    let pairs = c.args.pairs.now in
    c.loop-pair.invariant.led ∙ ap (λ (l : List Pair). each (leader_at acts lines pairs) l) (take_all c.loop-pair.pair-index pairs c.loop-pair-test.false)
