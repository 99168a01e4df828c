use Rattle.std.proofs.Common.{◌∙◌, ◌≤◌, ◌+◌, Some, ap, subst, arith, length, take}
use Rattle.std.specs.Prelude.{count_by, unwrap_or}
use Rattle.std.specs.BTreeMap.{get, Updates}
use Rattle.std.proofs.lemmas.List.{length-take-le}
use Rattle.std.proofs.lemmas.List.Sums.{count_by-le-length}
use Rattle.lrc_judge.specs.declared.lanes.Pair.{Pair}
use Rattle.lrc_explain.specs.Groups.{is_of_site}
use Rattle.lrc_explain.specs.Site.{site_cmp}
use Rattle.lrc_explain.proofs.Counting.{counted_more}
use Rattle.lrc_explain.proofs.groups.counts_of.Goals as goal

abbrev no_pair : Pair
no_pair = record { later = 0; earlier = 0 }

pub overflow_add-next : goal.overflow_add-next
overflow_add-next c =
    let of = is_of_site c.args.acts.now c.args.lines.now c.site_of-site.result in
    let front = take c.loop-at.at c.args.pairs.now in
    let is = c.count_at-count.ensures ∙ c.loop-at.invariant c.site_of-site.result in
    let le : count_by of front ≤ length front = count_by-le-length of front in
    let few : length front ≤ c.loop-at.at = omega (arith, length-take-le c.loop-at.at c.args.pairs.now (omega arith)) in
    omega (arith, is, le, few)

pub loop-at-preserved : goal.loop-at-preserved
loop-at-preserved c =
    let old = c.loop-at.counts in
    let n = c.count_at-count.result in
    counted_more c.args.acts.now c.args.lines.now c.args.pairs.now c.loop-at.at no_pair old c.insert.new.self n c.loop-at-test.true
    (subst (λ k. Updates site_cmp old c.insert.new.self k (Some (n + 1))) c.site_of-site.ensures c.in_ok-insert.ensures.updates)
    (c.count_at-count.ensures ∙ ap (λ k. unwrap_or (get site_cmp old k) 0) c.site_of-site.ensures) c.loop-at.invariant
