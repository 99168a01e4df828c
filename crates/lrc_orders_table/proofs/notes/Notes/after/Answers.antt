use Rattle.std.proofs.Common.{◌++◌, ◌∙◌, sym, ap, subst}
use Rattle.lrc_orders_settling.specs.Gone.{acts_by}
use Rattle.lrc_orders_table.specs.Links.{HasLasts}
use Rattle.lrc_orders_table.specs.Nexts.{notes_on}
use Rattle.lrc_orders_table.proofs.Linking.{lasts_at, grow_again, notes_deeds}
use Rattle.lrc_orders_table.proofs.notes.Notes.after.Goals as goal

pub note_all-requires-clause-there : goal.note_all-requires-clause-there
note_all-requires-clause-there c =
    let all = c.args.self.now in
    let n = c.requires.there.1 in (
      n.made,
      subst (λ l. HasLasts all.links.keys l n.made)
          (lasts_at all.lasts.keys c.as_slice.result.now c.args.number n.lasts _ c.as_slice.ensures.keys n.there) n.has,
    )

pub returns-clause-grows : goal.returns-clause-grows
returns-clause-grows c =
    grow_again c.args.self.now c.note_all.new.self c.number.new.self c.in_ok-note_all.ensures.grows c.in_ok-after.ensures.grows

pub returns-clause-there : goal.returns-clause-there
returns-clause-there c acts n =
    let all = c.args.self.now in
    let node = c.args.node in
    let deeds = c.args.deeds.now in
    let begun =
    subst (λ l. HasLasts all.links.keys l n.made)
    (lasts_at all.lasts.keys c.as_slice.result.now c.args.number n.lasts _ c.as_slice.ensures.keys n.there) n.has in
    record {
      lasts = c.note_all.new.lasts;
      there = c.in_ok-after.ensures.there;
      made = n.made ++ acts_by node deeds;
      has = subst (λ keys. HasLasts keys c.note_all.new.lasts (n.made ++ acts_by node deeds)) (sym c.in_ok-after.ensures.links)
          (c.in_ok-note_all.ensures.has n.made begun);
      acts_are = notes_deeds node deeds n.made c.requires.node ∙ ap (λ l. notes_on l (acts_by node deeds)) n.acts_are;
    }
