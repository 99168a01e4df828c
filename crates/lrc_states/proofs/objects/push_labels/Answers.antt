use Rattle.std.proofs.Common.{◌∙◌, ◌++◌, ap, arith, map}
use Rattle.std.specs.Prelude.{codes}
use Rattle.std.proofs.lemmas.List.{length-map, take_all}
use Rattle.lrc_labels.specs.Reading.{label_seen}
use Rattle.lrc_labels.specs.declared.label.Label as code_label
use Rattle.lrc_messages.specs.Lists.{before, separated}
use Rattle.lrc_states.specs.Objects.{label_object}
use Rattle.lrc_states.proofs.Listing.{mapped_next}
use Rattle.lrc_states.proofs.objects.push_labels.Goals as goal

pub loop-place-preserved : goal.loop-place-preserved
loop-place-preserved c =
    mapped_next label_seen label_object c.args.labels.now c.loop-place.place c.index-labels-place.result c.args.text.now.items c.loop-place.text.items
    c.push_label.new.text.items c.loop-place-test.true c.loop-place.invariant
    (c.in_ok-push_label.ensures
    ∙ ap (λ (l : code_label.Label). c.loop-place.text.items ++ before c.loop-place.place (codes ",") ++ label_object (label_seen l)) c.index-labels-place.is)

pub returns : goal.returns
returns c =
    c.loop-place.invariant
    ∙ ap (λ l. c.args.text.now.items ++ separated (codes ",") label_object l)
    (take_all c.loop-place.place (map label_seen c.args.labels.now) (omega (arith, c.loop-place-test.false, length-map c.args.labels.now label_seen)))
