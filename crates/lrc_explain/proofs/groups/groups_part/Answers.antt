use Rattle.std.proofs.Common.{◌≡◌, ◌∙◌, ◌++◌, ℕ, List, None, ap, map, sym, subst, get_or, take}
use Rattle.std.specs.Prelude.{if◌then◌else◌}
use Rattle.std.specs.BTreeMap.{get, Updates}
use Rattle.std.specs.List.{list_any}
use Rattle.lrc_labels.specs.Reading.{Label, label_seen}
use Rattle.lrc_judge.specs.declared.lanes.Pair.{Pair}
use Rattle.lrc_text.specs.Each.{each}
use Rattle.lrc_text.proofs.Each.{each_more}
use Rattle.lrc_explain.specs.Groups.{group_at, group_if, is_of_site}
use Rattle.lrc_explain.specs.Site.{site_cmp, site_of}
use Rattle.lrc_explain.proofs.Counting.{group_is, left_more}
use Rattle.lrc_explain.proofs.groups.groups_part.Goals as goal

abbrev no_pair : Pair
no_pair = record { later = 0; earlier = 0 }

pub loop-at-preserved : goal.loop-at-preserved
loop-at-preserved c =
    let labels : List Label = map label_seen c.args.labels.now in
    let acts = c.args.acts.now in
    let lines = c.args.lines.now in
    let pairs = c.args.pairs.now in
    let i = c.loop-at.at in
    let here = get_or pairs i no_pair in
    let start = c.in_ok-counts.counts in
    let old = c.loop-at.counts in
    let of : ℕ → Pair → List ℕ = λ at pair. group_at labels acts lines pairs at pair in
    let updates = subst (λ k. Updates site_cmp old c.remove-count.new.self k None) c.site_of-site.ensures c.remove-count.ensures.updates in
    let found : c.remove-count.result ≡ (if list_any (is_of_site acts lines (site_of acts lines here)) (take i pairs) then None else get site_cmp start (site_of acts lines here)) =
    c.remove-count.ensures.value ∙ ap (λ k. get site_cmp old k) c.site_of-site.ensures ∙ c.loop-at.invariant.left (site_of acts lines here) in
    record {
      text = c.in_ok-push_group_if.ensures
          ∙ ap (λ l. l ++ group_if labels acts lines here c.remove-count.result) c.loop-at.invariant.text
          ∙ ap (λ t. each of (take i pairs) ++ t) (group_is labels acts lines pairs i no_pair (get site_cmp start (site_of acts lines here)) c.remove-count.result
          c.loop-at-test.true found (c.in_ok-counts.ensures (site_of acts lines here)))
          ∙ sym (each_more of pairs i no_pair c.loop-at-test.true);
      left = left_more acts lines pairs i no_pair start old c.remove-count.new.self c.loop-at-test.true updates c.loop-at.invariant.left;
    }
