use Rattle.std.proofs.Common.{◌<◌, arith}
use Rattle.lrc_page.specs.declared.TheConstants.{MOST_PAGE_WORDS}
use Rattle.lrc_page.specs.declared.changes.Change.{Change}
use Rattle.lrc_page.proofs.ChangeLists.{ascending-push, change}
use Rattle.std.proofs.lemmas.List.Elements.{All-push}
use Rattle.lrc_page.proofs.changes.Changes.push.Goals as goal

pub invariant_of-self-2 : goal.invariant_of-self-2
invariant_of-self-2 c =
    let fits : c.args.offset < MOST_PAGE_WORDS = omega (arith, c.ranges.offset.fits) in
    rw c.in_ok-push.ensures.ok (
      ascending-push c.self.inside.list.items c.args.offset c.args.value c.self.invariant.0 (rw c.self.view_is c.requires),
      All-push (λ (c : Change). c.offset < MOST_PAGE_WORDS) c.self.inside.list.items (change c.args.offset c.args.value) c.self.invariant.1 fits,
    )
