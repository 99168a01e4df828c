use Rattle.std.proofs.Common.{◌∙◌, ◌++◌, [], List, get_or, ap, sym}
use Rattle.std.specs.Prelude.{take, flat_map}
use Rattle.std.proofs.lemmas.List.{flat_map_more, take_more, take_all}
use Rattle.std.proofs.lemmas.Result.{IfOk-from_err}
use Rattle.lrc_protocol.specs.Node.{Letter}
use Rattle.lrc_protocol.specs.Pages.{Need}
use Rattle.lrc_protocol.specs.Turn.{requests_of}
use Rattle.lrc_mail.proofs.request.requests.Goals as goal

pub loop-need-init : goal.loop-need-init
loop-need-init c = c.new-letters.ensures.items

pub returns-in_err-put_requests : goal.returns-in_err-put_requests
returns-in_err-put_requests c = IfOk-from_err _ _ c.from_residual.ensures.0

pub loop-need-preserved : goal.loop-need-preserved
loop-need-preserved c =
    let needs = c.args.needs.now in
    let n = c.loop-need.need-index in
    let item : Need = c.need-item.result in
    c.in_ok-put_requests.ensures
    ∙ ap (λ (need : Need). c.loop-need.letters.items ++ requests_of need) c.need-item.is
    ∙ ap (λ (letters : List Letter). letters ++ requests_of (get_or needs n item)) c.loop-need.invariant
    ∙ flat_map_more requests_of [] (take n needs) (get_or needs n item)
    ∙ ap (flat_map requests_of) (sym (take_more needs n item c.loop-need-test.true))

pub returns : goal.returns
returns c =
    c.loop-need.invariant ∙ ap (flat_map requests_of) (take_all c.loop-need.need-index c.args.needs.now c.loop-need-test.false)
