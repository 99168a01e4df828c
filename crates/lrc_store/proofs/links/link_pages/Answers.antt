use Rattle.std.proofs.Common.{◌≡◌, ◌+◌, ◌∙◌, ◌++◌, ◌∷◌, [], ℕ, List, get_or, map, take, ap, sym, arith, rules}
use Rattle.std.proofs.lemmas.List.{map_push, take_more}
use Rattle.lrc_store.specs.Links.{page_named}
use Rattle.lrc_store.proofs.links.link_pages.Goals as goal

pub push-requires-clause-in_range : goal.push-requires-clause-in_range
push-requires-clause-in_range c =
    let notice = c.notice.result in
    let below = c.requires.in_range c.loop-at.at notice (omega (arith, c.loop-at-test.true, c.noted-at-end.ensures)) in
    omega (arith, below, ap page_named (c.notice.ensures notice), c.loop-at.invariant.1, ap (λ (r : _). r.lists) c.clear.ensures)

pub loop-at-preserved : goal.loop-at-preserved
loop-at-preserved c =
    let notices = c.args.arena.now.notices in
    let n = c.loop-at.at in
    let notice = c.notice.result in
    let more : take (n + 1) notices ≡ take n notices ++ get_or notices n notice ∷ [] =
    take_more notices n notice (omega (arith, c.loop-at-test.true, c.noted-at-end.ensures)) in (
      c.push.ensures.keys
          ∙ ap (λ (l : List ℕ). l ++ notice.1.page ∷ []) c.loop-at.invariant.0
          ∙ ap (λ k. map page_named (take n notices) ++ k ∷ []) (ap page_named (c.notice.ensures notice))
          ∙ sym (map_push page_named (take n notices) (get_or notices n notice))
          ∙ ap (map page_named) (sym more),
      search rules,
      search rules,
    )
