use Rattle.std.proofs.Common.{◌<◌, ◌≤◌, length, sym, subst, arith}
use Rattle.std.proofs.lemmas.List.{take_all, take_more}
use Rattle.lrc_orders_table.specs.Links.{HasLasts}
use Rattle.lrc_orders_table.proofs.ByNode.{node_below}
use Rattle.lrc_orders_table.proofs.Linking.{grow_again}
use Rattle.lrc_orders_table.proofs.notes.Notes.add.Goals as goal

pub note-requires-clause-there : goal.note-requires-clause-there
note-requires-clause-there c = (_, c.loop-act.invariant.has)

pub note-requires-clause-node : goal.note-requires-clause-node
note-requires-clause-node c =
    let at = c.loop-act.act-index in
    let acts = c.args.acts.now in
    let within : at < length acts = omega (arith, c.loop-act-test.true, c.loop-act.auto.act-index-end) in
    node_below 16 acts at _ c.requires.stand within

pub loop-act-preserved : goal.loop-act-preserved
loop-act-preserved c =
    let i = c.loop-act.invariant in
    let e = c.in_ok-note.ensures in
    let acts = c.args.acts.now in
    let at = c.loop-act.act-index in
    let within : at < length acts = omega (arith, c.loop-act-test.true, c.loop-act.auto.act-index-end) in
    record {
      sound = e.sound;
      grows = grow_again c.args.self.now c.loop-act.self c.note.new.self i.grows e.grows;
      has = subst (HasLasts c.note.new.self.links.keys c.note.new.lasts) (sym (take_more acts at _ within)) (e.has _ i.has);
    }

pub returns-clause-grows : goal.returns-clause-grows
returns-clause-grows c =
    grow_again c.args.self.now c.loop-act.self c.number.new.self c.loop-act.invariant.grows c.in_ok-number.ensures.grows

pub returns-clause-there : goal.returns-clause-there
returns-clause-there c =
    let acts = c.args.acts.now in
    let at = c.loop-act.act-index in
    let past : length acts ≤ at = omega (arith, c.loop-act-test.false, c.loop-act.auto.act-index-end) in
    record {
      lasts = c.loop-act.lasts;
      there = c.in_ok-number.ensures.there;
      made = acts;
      has = subst (λ links. HasLasts links c.loop-act.lasts acts) (sym c.in_ok-number.ensures.links)
          (subst (HasLasts c.loop-act.self.links.keys c.loop-act.lasts) (take_all at acts past) c.loop-act.invariant.has);
      acts_are = c.requires.stand;
    }
