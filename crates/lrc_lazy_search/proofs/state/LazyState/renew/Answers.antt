use Rattle.std.proofs.Common.{arith, ◌∙◌, ◌-◌, List, ℕ, ap, map, refl}
use Rattle.lrc_lazy_search.specs.declared.state.LazyState.{LazyState}
use Rattle.lrc_lazy_search.proofs.Fresh.{fresh_after, fresh_itself}
use Rattle.lrc_lazy_search.proofs.Neat.{none_left}
use Rattle.lrc_lazy_search.proofs.state.LazyState.renew.Goals as goal

pub returns-then-gone-eq0 : goal.returns-then-gone-eq0
returns-then-gone-eq0 c = record {
  fresh = fresh_itself c.args.flat.now c.args.self.now c.requires;
  neat = λ neat. neat;
  left = λ some.
      let found = c.gone-gone.ensures.least some in
      let is = found.2 in
      record { node = found.0; within = found.1; none = omega (arith, is, c.if-gone-eq0.true) };
}

pub returns-clause-fresh : goal.returns-clause-fresh
returns-clause-fresh c =
    let old = c.args.self.now in
    let after : LazyState = record {
      state = record {
        memory = old.state.memory;
        holders = old.state.holders;
        arrivals = c.in_ok-self.field-0;
        spots = old.state.spots;
      };
      knowledge = c.in_ok-self-2.field-0;
      notes = old.notes;
    } in
    let gone = c.gone-gone.result in
    fresh_after c.args.flat.now old after gone c.requires c.gone-gone.ensures.most refl refl refl
    (c.in_ok-self.ensures ∙ ap (λ (xs : List ℕ). map (λ count. count - gone) xs) c.deref.ensures.value) c.in_ok-self-2.ensures.left refl

pub returns-clause-left : goal.returns-clause-left
returns-clause-left c = λ some.
    let old = c.args.self.now in
    let after : LazyState = record {
      state = record {
        memory = old.state.memory;
        holders = old.state.holders;
        arrivals = c.in_ok-self.field-0;
        spots = old.state.spots;
      };
      knowledge = c.in_ok-self-2.field-0;
      notes = old.notes;
    } in
    let gone = c.gone-gone.result in
    let found = c.gone-gone.ensures.least some in
    none_left c.args.flat.now old after gone found.0 c.requires found.1 found.2
    (c.in_ok-self.ensures ∙ ap (λ (xs : List ℕ). map (λ count. count - gone) xs) c.deref.ensures.value) refl

pub returns-clause-neat : goal.returns-clause-neat
returns-clause-neat c = λ neat. record { blank = neat.blank; tidy = c.in_ok-self-2.ensures.tidy neat.tidy }
