-- One act more.
use Rattle.std.proofs.Common.{◌≡◌, ◌+◌, ◌<◌, List, [], ℕ, length, get_or, subst, sym, arith}
use Rattle.std.proofs.lemmas.List.{get_or_default}
use Rattle.lrc_trace.specs.declared.act.Act.{Act}
use Rattle.lrc_trace.specs.declared.act.Deed.TheVariants.{Quiet}
use Rattle.lrc_trace.specs.Run.{act_of}
use Rattle.lrc_private_names.specs.declared.way.Way.{Way}
use Rattle.lrc_private_names.specs.Ways.{IsWayTo}
use Rattle.lrc_private_names.proofs.Lasts.{none_set}
use Rattle.lrc_private_names.proofs.Onward.{other_way, own_way}
use Rattle.lrc_private_names.proofs.way.Way.to.Goals as goal
use Rattle.lrc_private_names.proofs.way.Way.to.Goals.{else-act-me, then-act-me}

read_is : (acts : List Act) (at : ℕ) (d : Act) → at < length acts → get_or acts at d ≡ get_or acts at (get_or acts at d)
read_is acts at d within = get_or_default acts at d (get_or acts at d) within

pub loop-at-init : goal.loop-at-init
loop-at-init c lines =
    let begun = c.in_ok-way.ensures in
    record {
      on = begun.on;
      thread = begun.thread;
      lasts = none_set c.args.code.now c.args.nodes lines c.args.acts.now c.args.me c.in_ok-way.way.set.items begun.on.long begun.unset;
    }

pub follow-requires : goal.follow-requires
follow-requires c = (c.loop-at.invariant []).on

pub loop-at-preserved : goal.loop-at-preserved
loop-at-preserved c lines =
    let acts = c.args.acts.now in
    let at = c.loop-at.at in
    let d = act_of 0 Quiet in
    let before = c.loop-at-test.true in
    let few = c.requires in
    let within : at < length acts = omega arith in
    let is = read_is acts at d within in
    let so_far = c.loop-at.invariant lines in
    let P : Way → Type 0 = λ way. IsWayTo c.args.code.now c.args.nodes lines acts c.args.me (at + 1) way in
    elim c.if-act-me.branch [
      | then-act-me w ↦
          let f = w.follow.ensures in
          subst P (sym w.way'-is)
          (own_way c.args.code.now c.args.nodes lines acts c.args.me at (get_or acts at d) within is c.loop-at.way w.follow.new.self so_far w.if-act-me.true
          f.on f.thread f.set)
      | else-act-me w ↦
          subst P (sym w.way'-is)
          (other_way c.args.code.now c.args.nodes lines acts c.args.me at (get_or acts at d) within is c.loop-at.way so_far w.if-act-me.false)
    ]

pub returns : goal.returns
returns c lines =
    let past = c.loop-at-test.false in
    let most = c.loop-at.auto.at-end in
    let there : c.loop-at.at ≡ c.args.position = omega arith in
    subst (λ n. IsWayTo c.args.code.now c.args.nodes lines c.args.acts.now c.args.me n c.loop-at.way) there (c.loop-at.invariant lines)
