use Rattle.std.proofs.Common.{◌<◌}
use Rattle.lrc_page.specs.declared.TheConstants.{MOST_PAGES}
use Rattle.lrc_page.proofs.PageLists.{IsPlaceOf, contains-insert, rising-insert, all-insert}
use Rattle.lrc_page.proofs.pages.Pages.insert.Goals as goal

pub place_of-place-requires : goal.place_of-place-requires
place_of-place-requires c = record {
  rising = rw c.as_slice.ensures c.self.invariant.0;
  other = rw (c.as_slice.ensures, c.self.view_is) c.requires.other;
}

pub invariant_of-self : goal.invariant_of-self
invariant_of-self c = rw c.in_err-insert.ensures.err c.self.invariant

pub invariant_of-self-2 : goal.invariant_of-self-2
invariant_of-self-2 c =
    let items = c.self.inside.list.items in
    let place : IsPlaceOf items c.args.page c.place_of-place.result = rw (← c.as_slice.ensures) c.place_of-place.ensures in
    rw c.in_ok-insert.ensures.ok (
      rising-insert items c.place_of-place.result c.args.page c.self.invariant.0 place,
      all-insert (λ page. page < MOST_PAGES) items c.place_of-place.result c.args.page c.self.invariant.1 c.requires.in_range,
    )

pub returns-clause-members : goal.returns-clause-members
returns-clause-members c = λ p.
    rw (c.in_ok-insert.ensures.ok, ← c.self.view_is) (contains-insert c.self.inside.list.items c.place_of-place.result c.args.page p)

pub returns-clause-rising : goal.returns-clause-rising
returns-clause-rising c = (invariant_of-self-2 c).0
