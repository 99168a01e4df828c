use Rattle.std.proofs.Common.{◌≡◌, ◌∙◌, ◌++◌, ◌∷◌, [], List, sym, subst, ap}
use Rattle.std.specs.Prelude.{None, Option, Some, Vec, option_map}
use Rattle.std.specs.declared.alloc.Global.{Global}
use Rattle.std.proofs.lemmas.Option.{same_Some}
use Rattle.lrc_trace.specs.declared.act.Act.{Act}
use Rattle.lrc_exec.specs.Follows.{nodes_of_acts}
use Rattle.lrc_explore_causes.specs.Told.{TellsRace}
use Rattle.lrc_explore_causes.proofs.Choosing.{first_within, second_within, tells_found}
use Rattle.lrc_explore_causes.proofs.told.race_told.Goals as goal

pub node_at-one-requires : goal.node_at-one-requires
node_at-one-requires c = first_within c.args.acts.now c.in_ok-pair.pair.earlier c.in_ok-pair.pair.later c.in_ok-pair.ensures

pub node_at-other-requires : goal.node_at-other-requires
node_at-other-requires c = second_within c.args.acts.now c.in_ok-pair.pair.earlier c.in_ok-pair.pair.later c.in_ok-pair.ensures

pub unreachable-requires : goal.unreachable-requires
unreachable-requires c =
    let items : Option (Vec Act Global) → Option (List Act) = λ o. option_map (λ (a : Vec Act Global). a.items) o in
    let one = c.node_at-one.result in
    let other = c.node_at-other.result in
    let is = c.in_ok-order.ensures ∙ ap (λ (l : List Act). nodes_of_acts l ++ one ∷ other ∷ []) c.deref.ensures.value in
    let f = tells_found c.args.program.now c.args.nodes c.requires.made.0 c.args.acts.now c.requires.made.1 c.in_ok-pair.pair.earlier c.in_ok-pair.pair.later
    c.in_ok-pair.ensures c.in_ok-before.before.items c.in_ok-before.ensures one other c.node_at-one.ensures c.node_at-other.ensures
    c.deref-2.result.now (c.deref-2.ensures.value ∙ is) (items c.in_ok-told.field-0) c.in_ok-told.ensures in
    none_some f.told (sym (ap items c.in-None.is) ∙ f.is)
  where
    none_some : (told : List Act) → None ≡ Some told → ⊥
    none_some told e = cc

pub returns : goal.returns
returns c =
    let items : Option (Vec Act Global) → Option (List Act) = λ o. option_map (λ (a : Vec Act Global). a.items) o in
    let one = c.node_at-one.result in
    let other = c.node_at-other.result in
    let is = c.in_ok-order.ensures ∙ ap (λ (l : List Act). nodes_of_acts l ++ one ∷ other ∷ []) c.deref.ensures.value in
    let f = tells_found c.args.program.now c.args.nodes c.requires.made.0 c.args.acts.now c.requires.made.1 c.in_ok-pair.pair.earlier c.in_ok-pair.pair.later
    c.in_ok-pair.ensures c.in_ok-before.before.items c.in_ok-before.ensures one other c.node_at-one.ensures c.node_at-other.ensures
    c.deref-2.result.now (c.deref-2.ensures.value ∙ is) (items c.in_ok-told.field-0) c.in_ok-told.ensures in
    let same : f.told ≡ c.in-Some.told.items = same_Some f.told c.in-Some.told.items (sym f.is ∙ ap items c.in-Some.is) in
    subst (λ (l : List Act). TellsRace c.args.program.now c.args.nodes c.args.acts.now l) same f.tells
