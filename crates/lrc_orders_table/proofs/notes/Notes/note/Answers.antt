use Rattle.std.proofs.Common.{◌≡◌, ◌≤◌, ◌∙◌, true, refl, sym, subst}
use Rattle.std.specs.Prelude.{Some, slice_get, slice_index}
use Rattle.lrc_orders.proofs.Gathering.{put_all}
use Rattle.lrc_orders.proofs.Keeping.{grows_not, put_grows}
use Rattle.lrc_orders.specs.Notes.{is_noted_deed}
use Rattle.lrc_orders_table.specs.declared.notes.Link.{Link}
use Rattle.lrc_orders_table.specs.Links.{link_of}
use Rattle.lrc_orders_table.proofs.Linking.{chain_within, lasts_more, lasts_same, link_is, notes_not}
use Rattle.lrc_orders_table.proofs.notes.Notes.note.Goals as goal

pub returns-then-not-is_noted_deed-clause-grows : goal.returns-then-not-is_noted_deed-clause-grows
returns-then-not-is_noted_deed-clause-grows c = notes_not c.args.self.now

pub returns-then-not-is_noted_deed-clause-has : goal.returns-then-not-is_noted_deed-clause-has
returns-then-not-is_noted_deed-clause-has c made h =
    lasts_same c.args.self.now.links.keys c.args.lasts.now made c.args.act (sym c.is_noted_deed.ensures ∙ c.if-not-is_noted_deed.true) h

pub returns-clause-sound : goal.returns-clause-sound
returns-clause-sound c =
    let old = c.args.self.now.links.keys in
    let node = c.args.act.node in
    let h = c.requires.there.1 in
    record {
      links = c.in_ok-place.ensures.unique;
      lasts = c.requires.sound.lasts;
      ordered = put_all (λ k (link : Link). link.before ≤ k) _ old c.insert_full.new.self.keys _ c.in_ok-place.ensures.keys c.requires.sound.ordered
          (chain_within old (slice_index c.args.lasts.now.numbers node) _ (h.each node c.requires.node));
    }

pub returns-clause-grows : goal.returns-clause-grows
returns-clause-grows c = record {
  links = put_grows _ c.args.self.now.links.keys c.insert_full.new.self.keys _ c.in_ok-place.ensures.keys;
  lasts = grows_not c.args.self.now.lasts.keys c.args.self.now.lasts.keys refl;
}

pub returns-clause-has : goal.returns-clause-has
returns-clause-has c made h =
    let old = c.args.self.now.links.keys in
    let new = c.insert_full.new.self.keys in
    let lasts = c.args.lasts.now in
    let act = c.args.act in
    let place = c.in_ok-place.place in
    let before = slice_index lasts.numbers act.node in
    let s = c.in_ok-place.ensures.stored in
    let there : slice_get new place ≡ Some (link_of before act) =
    subst (λ l. slice_get new place ≡ Some l) (sym (link_is (link_of before act) s.0 s.2)) s.1 in
    let ordered =
    put_all (λ k (link : Link). link.before ≤ k) _ old new _ c.in_ok-place.ensures.keys c.requires.sound.ordered
    (chain_within old before _ (h.each act.node c.requires.node)) in
    let noted : is_noted_deed act.deed ≡ true = sym c.is_noted_deed.ensures ∙ c.if-not-is_noted_deed.false in
    lasts_more old new lasts made act c.in_ok-number.number place (put_grows _ old new _ c.in_ok-place.ensures.keys) noted c.requires.node
    c.in_ok-number.ensures.small c.in_ok-number.ensures.is (ordered place (link_of before act) there) there h
