use Rattle.std.proofs.Common.{◌∙◌, ◌∷◌, [], List, ap, length, rules, subst, sym}
use Rattle.std.proofs.lemmas.List.{length_push}
use Rattle.lrc_orders.proofs.Keeping.{grows_not}
use Rattle.lrc_lazy_search.specs.declared.state.LazyState.{LazyState}
use Rattle.lrc_lazy_run.specs.Ways.{AreKeptIn}
use Rattle.lrc_lazy_run.proofs.Keeping.{kept_more, put_known, put_new}
use Rattle.lrc_lazy_run.proofs.ways.Ways.put.Goals as goal

pub returns-then-not-new-clause-kept : goal.returns-then-not-new-clause-kept
returns-then-not-new-clause-kept c =
    let old = c.args.self.now in
    let same = put_known _ old.states.keys c.insert_full.new.self.keys c.args.state c.in_ok-at.new c.in_ok-at.ensures.keys
    c.in_ok-at.ensures.added (search rules) in
    subst (λ (l : List LazyState). AreKeptIn c.args.sought.now l old.origins.items old.settled.items) (sym same) c.requires.kept

pub returns-then-not-new-clause-grows : goal.returns-then-not-new-clause-grows
returns-then-not-new-clause-grows c =
    let old = c.args.self.now in
    grows_not old.states.keys c.insert_full.new.self.keys
    (put_known _ old.states.keys c.insert_full.new.self.keys c.args.state c.in_ok-at.new c.in_ok-at.ensures.keys
    c.in_ok-at.ensures.added (search rules))

pub returns-then-not-new-clause-found : goal.returns-then-not-new-clause-found
returns-then-not-new-clause-found c =
    let old = c.args.self.now in
    put_known _ old.states.keys c.insert_full.new.self.keys c.args.state c.in_ok-at.new c.in_ok-at.ensures.keys
    c.in_ok-at.ensures.added (search rules)

pub returns-then-not-new-clause-has : goal.returns-then-not-new-clause-has
returns-then-not-new-clause-has c =
    let s = c.in_ok-at.ensures.stored in
    record { place = c.in_ok-at.at; stored = s.0; there = s.1; same = s.2 }

pub returns-clause-kept : goal.returns-clause-kept
returns-clause-kept c =
    let old = c.args.self.now in
    let new = c.insert_full.new.self.keys in
    let is = put_new _ old.states.keys new c.args.state c.in_ok-at.new c.in_ok-at.ensures.keys
    c.in_ok-at.ensures.added (search rules) in
    kept_more c.args.sought.now old.states.keys new old.origins.items c.push.new.self.items old.settled.items c.args.state c.args.origin is
    c.in_ok-push.ensures.items c.in_ok-at.ensures.unique c.requires.kept c.requires.reached c.requires.comes

pub returns-clause-grows : goal.returns-clause-grows
returns-clause-grows c =
    let old = c.args.self.now in
    record {
      more = c.args.state ∷ [];
      is = put_new _ old.states.keys c.insert_full.new.self.keys c.args.state c.in_ok-at.new c.in_ok-at.ensures.keys
          c.in_ok-at.ensures.added (search rules);
    }

pub returns-clause-found : goal.returns-clause-found
returns-clause-found c =
    let old = c.args.self.now in
    let is = put_new _ old.states.keys c.insert_full.new.self.keys c.args.state c.in_ok-at.new c.in_ok-at.ensures.keys
    c.in_ok-at.ensures.added (search rules) in
    (c.in_ok-at.ensures.within, ap (λ (l : List LazyState). length l) is ∙ length_push old.states.keys c.args.state)

pub returns-clause-has : goal.returns-clause-has
returns-clause-has c =
    let s = c.in_ok-at.ensures.stored in
    record { place = c.in_ok-at.at; stored = s.0; there = s.1; same = s.2 }
