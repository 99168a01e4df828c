use Rattle.std.proofs.Common.{◌∙◌, ◌≤◌, ◌++◌, List, ap, append-nil, length, subst, sym}
use Rattle.std.specs.Prelude.{◌==◌, ◌||◌}
use Rattle.std.proofs.lemmas.List.{take_all}
use Rattle.std.proofs.lemmas.Result.{IfOk-from_err}
use Rattle.std.specs.List.{flat_map}
use Rattle.lrc_chart_model.specs.declared.picture.Race.{Race}
use Rattle.lrc_text.specs.Parts.{texts_of}
use Rattle.lrc_chart_text.specs.Phrases.{only_if, race_name}
use Rattle.lrc_chart_text.proofs.Steps.{flat_seen}
use Rattle.lrc_chart_text.proofs.phrases.push_all_races.Goals as goal

pub loop-race-preserved : goal.loop-race-preserved
loop-race-preserved c =
    flat_seen c.args.picture.now.races.items c.deref-race-items.result.now c.deref-race-items.ensures.value c.loop-race.race-index c.race-item.result
    c.loop-race-test.true c.race-item.is (λ race. only_if ((race.from == c.args.number) || (race.to == c.args.number)) (race_name race.number))
    (texts_of c.args.phrases.now.items) (texts_of c.loop-race.phrases.items) (texts_of c.push_race.new.phrases.items) c.loop-race.invariant
    c.in_ok-push_race.ensures

pub loop-race-init : goal.loop-race-init
loop-race-init c = sym (append-nil (texts_of c.args.phrases.now.items))

pub returns : goal.returns
returns c =
    c.loop-race.invariant
    ∙ ap (λ (l : List Race). texts_of c.args.phrases.now.items
    ++ flat_map (λ race. only_if ((race.from == c.args.number) || (race.to == c.args.number)) (race_name race.number)) l)
    (take_all c.loop-race.race-index c.args.picture.now.races.items
    (subst (λ (l : List Race). length l ≤ c.loop-race.race-index) c.deref-race-items.ensures.value c.loop-race-test.false))

pub returns-in_err-push_race : goal.returns-in_err-push_race
returns-in_err-push_race c = IfOk-from_err c.from_residual.result _ c.from_residual.ensures.0
