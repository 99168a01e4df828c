use Rattle.std.proofs.Common.{◌∙◌, ◌++◌, ◌∷◌, [], ap, ◌<◌}
use Rattle.std.proofs.lemmas.List.Elements.{All-push}
use Rattle.lrc_page.specs.declared.TheConstants.{MOST_PAGES}
use Rattle.lrc_page.proofs.PageLists.{rising-push}
use Rattle.lrc_page.proofs.pages.Pages.push.Goals as goal

pub invariant_of-self : goal.invariant_of-self
invariant_of-self c = rw c.in_err-push.ensures.err c.self.invariant

pub invariant_of-self-2 : goal.invariant_of-self-2
invariant_of-self-2 c =
    let items = c.self.inside.list.items in
    rw c.in_ok-push.ensures.ok (
      rising-push items c.args.page c.self.invariant.0 (rw c.self.view_is c.requires.above),
      All-push (λ page. page < MOST_PAGES) items c.args.page c.self.invariant.1 c.requires.in_range,
    )

pub returns : goal.returns
returns c = record {
  ok = c.in_ok-push.ensures.ok ∙ ap (λ items. items ++ c.args.page ∷ []) c.self.view_is;
  err = tt;
}
