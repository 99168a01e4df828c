use Rattle.std.proofs.Common.{◌≡◌, ◌<◌, ◌∙◌, ◌++◌, List, ap, arith, length, refl, rules, subst}
use Rattle.std.specs.Prelude.{reverse}
use Rattle.std.proofs.lemmas.Option.{slice_get_within}
use Rattle.lrc_trace.specs.declared.act.Act.{Act}
use Rattle.lrc_orders.proofs.Keeping.{item_at, item_in}
use Rattle.lrc_lazy_run.specs.Ways.{LeadsFrom}
use Rattle.lrc_lazy_run.proofs.Keeping.{leads_back, leads_here, leads_whole}
use Rattle.lrc_lazy_run.proofs.ways.Ways.acts_to.Goals as goal

pub loop-at-init : goal.loop-at-init
loop-at-init c = record {
  within = c.requires.within;
  leads = leads_here c.args.sought.now c.args.self.now.states.keys c.args.place c.new-acts.result.items (search rules);
}

pub loop-at-smaller : goal.loop-at-smaller
loop-at-smaller c =
    let ways = c.args.self.now in
    let kept = c.requires.ways.kept in
    let i = c.loop-at.invariant in
    let at = c.loop-at.at in
    let origin = c.index-origin.result.now in
    let stood = item_at ways.states.keys at i.within in
    let lt : at < length ways.origins.items = omega (arith, i.within, kept.count) in
    let there = item_in ways.origins.items ways.origins.items at origin refl lt c.index-origin.ensures in
    (kept.come at stood.0 origin c.loop-at-test.true stood.1 there).before

pub loop-at-preserved : goal.loop-at-preserved
loop-at-preserved c =
    let sought = c.args.sought.now in
    let ways = c.args.self.now in
    let keys = ways.states.keys in
    let kept = c.requires.ways.kept in
    let i = c.loop-at.invariant in
    let at = c.loop-at.at in
    let origin = c.index-origin.result.now in
    let stood = item_at keys at i.within in
    let lt : at < length ways.origins.items = omega (arith, i.within, kept.count) in
    let there = item_in ways.origins.items ways.origins.items at origin refl lt c.index-origin.ensures in
    let comes = kept.come at stood.0 origin c.loop-at-test.true stood.1 there in
    let put = c.in_ok-push_back.ensures ∙ ap (λ (l : List Act). c.loop-at.acts.items ++ reverse l) c.deref.ensures.value in
    record {
      within = slice_get_within keys origin.parent comes.parent comes.there;
      leads = leads_back sought keys at c.args.place c.loop-at.acts.items c.push_back.new.acts.items origin stood.0 stood.1 comes put i.leads;
    }

pub returns : goal.returns
returns c =
    let sought = c.args.sought.now in
    let keys = c.args.self.now.states.keys in
    let back = c.loop-at.acts.items in
    let zero : c.loop-at.at ≡ 0 = omega (arith, c.loop-at-test.false) in
    leads_whole sought keys c.args.place back c.reverse.new.self.items c.requires.ways.kept.begun c.reverse.ensures.items
    (subst (λ from. LeadsFrom sought keys from back c.args.place) zero c.loop-at.invariant.leads)
