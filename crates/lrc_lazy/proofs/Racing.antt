-- Some lazy run has a race exactly where some order gives the plain machine one.
use Rattle.std.proofs.Common.{◌≡◌, ℕ, suc, ◌+◌, ◌<◌, List, [], ◌∷◌, ◌++◌, length, take, drop, refl, sym, subst, ◌∙◌, ap, arith}
use Rattle.std.specs.Prelude.{Some}
use Rattle.std.proofs.lemmas.List.{take-append-drop, length-take, map-append}
use Rattle.lrc_program.specs.declared.Program.{Program}
use Rattle.lrc_trace.specs.declared.act.Act.{Act}
use Rattle.lrc_trace.specs.declared.act.Deed.{Deed}
use Rattle.lrc_trace.specs.Run.{act_of}
use Rattle.lrc_trace.specs.Conflict.{Races, IsFirstRace}
use Rattle.lrc_trace.specs.Outline.{without_value, outline, SameButValues}
use Rattle.lrc_trace.proofs.Intervals.{act_at}
use Rattle.lrc_trace.proofs.Outlines.{same_races}
use Rattle.lrc_trace.proofs.Prefixes.{Races-longer, Races-shorter, MayGoOn-last}
use Rattle.lrc_exec.specs.Plain.{plain}
use Rattle.lrc_exec.proofs.PlainLaws.{plain-take}
use Rattle.lrc_exec.specs.Follows.{nodes_of_acts}
use Rattle.lrc_consistency_laws.specs.Kinds.{SameKind, same, reads}
use Rattle.lrc_consistency_laws.specs.Racing.{HasNoRace}
use Rattle.lrc_consistency_laws.proofs.Ahead.{take_ahead}
use Rattle.lrc_consistency_laws.proofs.InOrder.{lazily_without_race}
use Rattle.lrc_consistency_laws.proofs.Plainly.{facts}
use Rattle.lrc_consistency_laws.proofs.Racing.{plain_to_race, race_free}
use Rattle.lrc_lazy.specs.Lazy.{IsLazyRun, HasNoLazyRace, RacesInSomeOrder, RacesInSomeLazyRun}
use Rattle.lrc_lazy.proofs.FirstRace.{access_within, first_race}
use Rattle.lrc_lazy.proofs.Onward.{goes_on}

-- deeds of one kind differ in a value at most
kind_same : {d e : Deed} → SameKind d e → without_value d ≡ without_value e
kind_same same = refl
kind_same reads = refl

same_but_last : (run : List Act) (node : ℕ) (d e : Deed) → SameKind d e → SameButValues (run ++ act_of node d ∷ []) (run ++ act_of node e ∷ [])
same_but_last run node d e kind =
    map-append _ run (act_of node d ∷ [])
    ∙ ap (λ x. outline run ++ act_of node x ∷ []) (kind_same kind)
    ∙ sym (map-append _ run (act_of node e ∷ []))

module _ (program : Program) (nodes : ℕ) where
  -- a run of the plain machine, cut at its first race, is a lazy run, and goes on lazily to a race
  module _ (order : List ℕ) (run : List Act) (made : plain program nodes order ≡ Some run) (position : ℕ) (first : IsFirstRace run position) where
    within : position < length run
    within = access_within first.races.conflict.3.second

    before : List Act
    before = take position run

    calm : (i j : ℕ) → Races before i j → ⊥
    unfolding before
    calm i j race =
        let here : j < length (take position run) = access_within race.conflict.3.second in
        let longer = Races-longer (take position run) (drop position run) here race in
        let late = first.least i j (subst (λ x. Races x i j) (take-append-drop position run) longer) in
        let l = length-take position run in
        absurd (omega arith)

    lazy_before : IsLazyRun program nodes before
    unfolding before
    lazy_before =
        let f = facts program nodes (take position order) (take position run) (plain-take program nodes position order run made) in
        record { follows = f.follows; synchronized = f.synchronized; lazily = lazily_without_race (take position run) calm f.in_order }

    to_lazy : RacesInSomeLazyRun program nodes
    unfolding before
    to_lazy =
        let (act, does) = act_at run position within in
        let cut : take (suc position) run ≡ take position run ++ act ∷ [] = take_ahead run position act does.stands in
        let f = facts program nodes (take (suc position) order) (take position run ++ act ∷ [])
        (plain-take program nodes (suc position) order run made ∙ ap Some cut) in
        let on = goes_on program nodes (take position run) act.node act.deed lazy_before (record {
          follows = f.follows;
          may = MayGoOn-last (take position run) act nodes f.synchronized;
        }) in
        let lt = within in
        let whole : Races (take (suc position) run) first.with position =
        Races-shorter (take (suc position) run) (drop (suc position) run) (let l = length-take (suc position) run in omega arith)
        (subst (λ x. Races x first.with position) (sym (take-append-drop (suc position) run)) first.races) in
        let here : Races (take position run ++ act ∷ []) first.with position = subst (λ x. Races x first.with position) cut whole in
        record {
          acts = take position run ++ act_of act.node on.other ∷ [];
          run = on.run;
          first = first.with;
          second = position;
          races = same_races (take position run ++ act ∷ []) (take position run ++ act_of act.node on.other ∷ [])
              (same_but_last (take position run) act.node act.deed on.other on.kind) here;
        }

  pub order_to_lazy : RacesInSomeOrder program nodes → RacesInSomeLazyRun program nodes
  order_to_lazy o = let (position, first) = first_race o.acts o.first o.second o.races in to_lazy o.order o.acts o.is position first

  pub lazy_to_order : RacesInSomeLazyRun program nodes → RacesInSomeOrder program nodes
  lazy_to_order r =
      let (position, first) = first_race r.acts r.first r.second r.races in
      let p = plain_to_race program nodes r.acts r.run.follows r.run.synchronized r.run.lazily position first.least in
      let (act, does) = act_at r.acts position (access_within first.races.conflict.3.second) in
      let there = p.upto.there act.node act.deed does in
      record {
        order = nodes_of_acts (take (position + 1) r.acts);
        acts = take position r.acts ++ act_of act.node there.0 ∷ [];
        is = there.2;
        first = first.with;
        second = position;
        races = p.races first.with (take position r.acts ++ act_of act.node there.0 ∷ []) first.races there.2;
      }

  pub none_to_order : HasNoLazyRace program nodes → HasNoRace program nodes
  none_to_order none order run made i j race =
      let r = order_to_lazy (record { order = order; acts = run; is = made; first = i; second = j; races = race }) in
      none r.acts r.run r.first r.second r.races

  pub none_to_lazy : HasNoRace program nodes → HasNoLazyRace program nodes
  none_to_lazy none acts run = race_free program nodes acts run.follows run.synchronized run.lazily none
