use Rattle.std.proofs.Common.{[], ◌∷◌, ◌∙◌, refl, subst, sym}
use Rattle.std.proofs.lemmas.Option.{same_Some}
use Rattle.lrc_trace.specs.declared.act.Deed.{Deed}
use Rattle.lrc_lazy_search.specs.Searching.{IsForced}
use Rattle.lrc_lazy_search.proofs.Making.{one_all, one_sound, only_one}
use Rattle.lrc_lazy_search.proofs.state.LazyState.forced.Goals as goal

pub returns-in_default-deed : goal.returns-in_default-deed
returns-in_default-deed c = λ found is.
    let flat = c.args.flat.now in
    let key = c.args.self.now in
    let node = c.args.node in
    let deed = c.in-Some.deed in
    let next = sym c.next_deed.ensures ∙ c.in-Some.is in
    let sound = one_sound flat key c.requires.fit node deed next (λ w u e. c.in_default-deed.not-Read w u e) in
    let all = one_all flat key c.requires.fit node deed next (λ w u e. c.in_default-deed.not-Read w u e) in
    subst (λ (d : Deed). IsForced flat key node d) (same_Some deed found is) (record {
      front = c.requires.front;
      can = sound 0 deed refl;
      only = only_one flat key node (deed ∷ []) deed refl refl all;
      no_arrive = c.in_default-deed.not-Arrive;
    })
