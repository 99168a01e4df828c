-- The group of the pair counts it, or is new.
use Rattle.std.proofs.Common.{◌≡◌, ◌∙◌, false, [], ◌∷◌, ◌++◌, sym, subst, ap}
use Rattle.std.specs.Prelude.{Some, cond, find, slice_get, map}
use Rattle.std.specs.List.{list_any}
use Rattle.std.proofs.lemmas.Option.{slice_get-get_or}
use Rattle.lrc_races_trace.specs.declared.group.Group.{Group}
use Rattle.lrc_races_detector.specs.declared.groups.Sides.{Sides}
use Rattle.lrc_races_detector.specs.contracts.groups.SidesPartialEq.TheImpl.{eq-value}
use Rattle.lrc_races_detector.specs.Grouping.{sides_of, AreAll}
use Rattle.lrc_races_detector.proofs.Grouping.{sides_is, keys_stay, counted, keys_grow, opened_new}
use Rattle.lrc_races_detector.proofs.groups.Groups.count.Goals as goal

pub returns-in-Some-get_mut : goal.returns-in-Some-get_mut
returns-in-Some-get_mut c = λ before old.
    let kept = c.args.self.now in
    let pair = c.args.pair in
    let place = c.in-Some.place in
    let met = c.in-Some._met.now in
    let group = c.in-Some-get_mut.group.now in
    let n = c.saturating_add-group.result in
    let at : slice_get kept.groups.items place ≡ Some group =
    slice_get-get_or kept.groups.items place group c.in-Some-get_mut.ensures.item.3.0 ∙ ap Some (sym c.in-Some-get_mut.ensures.value) in
    let sides = sides_is c.side_of.result c.side_of-2.result pair c.side_of.ensures c.side_of-2.ensures in
    let found : find (λ (s : Sides). eq-value.it (sides_of pair) s) kept.sides.keys ≡ Some met =
    subst (λ (k : Sides). find (λ (s : Sides). eq-value.it k s) kept.sides.keys ≡ Some met) sides (sym c.in-Some.ensures.key) in
    record {
      sides = keys_stay before kept old pair place met group n c.in-Some.ensures.stored found at;
      groups = λ few. counted before kept old pair place met group n c.in-Some.ensures.stored found at c.saturating_add-group.ensures few;
    }

pub returns : goal.returns
returns c = λ before old.
    let kept = c.args.self.now in
    let pair = c.args.pair in
    let sides = sides_is c.side_of.result c.side_of-2.result pair c.side_of.ensures c.side_of-2.ensures in
    let none : list_any (λ (s : Sides). eq-value.it (sides_of pair) s) kept.sides.keys ≡ false =
    subst (λ (k : Sides). list_any (λ (s : Sides). eq-value.it k s) kept.sides.keys ≡ false) sides (sym c.in_default.ensures.found) in
    let keys = c.in_ok-insert.ensures.keys
    ∙ ap (λ (k : Sides). cond (list_any (λ (s : Sides). eq-value.it k s) kept.sides.keys) kept.sides.keys (kept.sides.keys ++ k ∷ [])) sides
    ∙ ap (λ b. cond b kept.sides.keys (kept.sides.keys ++ sides_of pair ∷ [])) none in
    record {
      sides = keys ∙ keys_grow before kept old pair none ∙ ap (λ gs. map (λ (g : Group). sides_of g.first) gs) (sym c.in_ok-push.ensures.items);
      groups = λ few. subst (AreAll (before ++ pair ∷ [])) (sym c.in_ok-push.ensures.items) (opened_new before kept old pair none few);
    }
