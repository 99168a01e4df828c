use Rattle.std.proofs.Common.{◌∙◌, ◌∷◌, [], ap, arith, refl, subst, sym}
use Rattle.std.proofs.lemmas.Option.{same_Some}
use Rattle.lrc_trace.specs.declared.act.Act.{Act}
use Rattle.lrc_orders.proofs.Keeping.{stands_on as stays}
use Rattle.lrc_lazy_search.specs.declared.state.LazyState.{LazyState}
use Rattle.lrc_lazy_search.specs.Searching.{renewed, still}
use Rattle.lrc_lazy_run.specs.Ways.{HasAfter}
use Rattle.lrc_lazy_run.proofs.Striding.{comes_of, lead_first, lead_fresh, reached_along}
use Rattle.lrc_lazy_run.proofs.ways.Ways.step.Goals as goal

pub renew-requires : goal.renew-requires
renew-requires c = c.in_ok-next.ensures.valid

pub act_by-requires : goal.act_by-requires
act_by-requires c = omega (arith, c.in_ok-next.ensures.below, c.requires.ways.task.few)

pub keep-requires-clause-reached : goal.keep-requires-clause-reached
keep-requires-clause-reached c =
    let after = c.in_ok-next.ensures in
    let fresh = c.in_ok-renew.ensures in
    reached_along c.args.sought.now c.args.self.now c.args.place c.args.node c.args.deed c.in_ok-next.next c.renew.new.self c.requires.ways c.requires.within after
    (renewed still fresh.fresh) (fresh.neat after.neat) (fresh.left c.requires.ways.task.some)

pub keep-requires-clause-comes : goal.keep-requires-clause-comes
keep-requires-clause-comes c =
    let sought = c.args.sought.now in
    let task = c.requires.ways.task in
    let after = c.in_ok-next.ensures in
    let acts = c.in_ok-acts.acts.items in
    let one = c.in_ok-acts.ensures ∙ ap (λ (a : Act). a ∷ []) c.act_by.ensures in
    comes_of sought c.args.self.now.states.keys c.args.place c.args.node c.args.deed c.in_ok-next.next c.renew.new.self _ after c.requires.within refl
    (lead_fresh sought after.key c.in_ok-next.next c.renew.new.self acts task
    (lead_first sought after.key c.in_ok-next.next acts c.args.node c.args.deed task after.steps one) c.in_ok-renew.ensures.fresh)

pub returns-clause-has : goal.returns-clause-has
returns-clause-has c = λ wanted at.
    let sought = c.args.sought.now in
    let after = c.in_ok-next.ensures in
    let same = same_Some after.key wanted (sym (stays c.args.place after.key c.in_ok-added.ensures.grows after.there) ∙ at) in
    subst (λ (x : LazyState). HasAfter sought.flat c.keep.new.self.states.keys x c.args.node c.args.deed) same
    (record {
      after = c.in_ok-next.next;
      steps = after.steps;
      left = c.renew.new.self;
      fresh = c.in_ok-renew.ensures.fresh;
      has = c.in_ok-added.ensures.has;
    })
