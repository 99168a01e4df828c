use Rattle.std.proofs.Common.{◌∙◌, sym, ap, subst}
use Rattle.std.specs.Prelude.{reverse}
use Rattle.std.proofs.lemmas.List.{reverse-reverse}
use Rattle.lrc_orders.specs.Notes.{notes_of}
use Rattle.lrc_orders_table.specs.Links.{HasLasts}
use Rattle.lrc_orders_table.proofs.Linking.{lasts_at}
use Rattle.lrc_orders_table.proofs.notes.Notes.acts.Goals as goal

pub back-requires : goal.back-requires
back-requires c =
    let all = c.args.self.now in
    let n = c.requires.1 in (
      n.made,
      subst (λ l. HasLasts all.links.keys l n.made)
          (lasts_at all.lasts.keys c.as_slice.result.now c.args.number n.lasts _ c.as_slice.ensures.keys n.there) n.has,
    )

pub returns : goal.returns
returns c =
    let all = c.args.self.now in
    let n = c.requires.1 in
    let here =
    subst (λ l. HasLasts all.links.keys l n.made)
    (lasts_at all.lasts.keys c.as_slice.result.now c.args.number n.lasts _ c.as_slice.ensures.keys n.there) n.has in
    record {
      lasts = n.lasts;
      there = n.there;
      made = n.made;
      has = n.has;
      acts_are = sym (reverse-reverse (notes_of 16 n.made)) ∙ ap reverse (sym (c.in_ok-acts.ensures n.made here)) ∙ sym c.reverse.ensures.items;
    }
