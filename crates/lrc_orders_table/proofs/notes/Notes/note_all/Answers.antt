use Rattle.std.proofs.Common.{◌<◌, ◌≤◌, ◌++◌, length, subst, arith}
use Rattle.std.proofs.lemmas.List.{take_all}
use Rattle.lrc_orders_settling.specs.Gone.{acts_by}
use Rattle.lrc_orders_table.specs.Links.{HasLasts}
use Rattle.lrc_orders_table.proofs.Linking.{deeds_more, grow_again}
use Rattle.lrc_orders_table.proofs.notes.Notes.note_all.Goals as goal

pub loop-deed-preserved : goal.loop-deed-preserved
loop-deed-preserved c =
    let i = c.loop-deed.invariant in
    let e = c.in_ok-note.ensures in
    let deeds = c.args.deeds.now in
    let at = c.loop-deed.deed-index in
    let within : at < length deeds = omega (arith, c.loop-deed-test.true, c.loop-deed.auto.deed-index-end) in
    record {
      sound = e.sound;
      grows = grow_again c.args.self.now c.loop-deed.self c.note.new.self i.grows e.grows;
      there = (_, e.has i.there.0 i.there.1);
      has = λ made h.
          subst (HasLasts c.note.new.self.links.keys c.note.new.lasts) (deeds_more c.args.node made deeds at _ within) (e.has _ (i.has made h));
    }

pub returns-clause-has : goal.returns-clause-has
returns-clause-has c made h =
    let deeds = c.args.deeds.now in
    let at = c.loop-deed.deed-index in
    let past : length deeds ≤ at = omega (arith, c.loop-deed-test.false, c.loop-deed.auto.deed-index-end) in
    subst (λ l. HasLasts c.loop-deed.self.links.keys c.loop-deed.lasts (made ++ acts_by c.args.node l)) (take_all at deeds past)
    (c.loop-deed.invariant.has made h)
