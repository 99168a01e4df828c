use Rattle.std.proofs.Common.{◌∙◌, ◌++◌, ◌∷◌, [], List, get_or, map, ap, sym, append-nil, append_assoc}
use Rattle.std.specs.Prelude.{take}
use Rattle.std.proofs.lemmas.List.{map_more, take_all}
use Rattle.std.proofs.lemmas.Result.{IfOk-from_err}
use Rattle.lrc_protocol.specs.Node.{Letter}
use Rattle.lrc_protocol.specs.Pages.{Asked}
use Rattle.lrc_protocol.specs.Turn.{changes_request_of}
use Rattle.lrc_mail.proofs.request.put_changes_requests.Goals as goal

pub loop-asked-init : goal.loop-asked-init
loop-asked-init c = sym (append-nil c.args.letters.now.items)

pub returns-in_err-request : goal.returns-in_err-request
returns-in_err-request c = IfOk-from_err _ _ c.from_residual.ensures.0

pub returns-in_err-push : goal.returns-in_err-push
returns-in_err-push c = IfOk-from_err _ _ c.from_residual-in_err-push.ensures.0

pub loop-asked-preserved : goal.loop-asked-preserved
loop-asked-preserved c =
    let all = c.args.all.now in
    let n = c.loop-asked.asked-index in
    let item : Asked = c.asked-item.result in
    let request = changes_request_of c.args.page in
    let start = c.args.letters.now.items in
    let last = request (get_or all n item) in
    c.in_ok-push.ensures.items
    ∙ ap (λ (letter : Letter). c.loop-asked.letters.items ++ letter ∷ []) (c.in_ok-request.ensures ∙ ap request c.asked-item.is)
    ∙ ap (λ (letters : List Letter). letters ++ last ∷ []) c.loop-asked.invariant
    ∙ append_assoc start (map request (take n all)) (last ∷ [])
    ∙ ap (λ (letters : List Letter). start ++ letters) (sym (map_more request all n item c.loop-asked-test.true))

pub returns : goal.returns
returns c =
    c.loop-asked.invariant
    ∙ ap (λ (all : List Asked). c.args.letters.now.items ++ map (changes_request_of c.args.page) all)
    (take_all c.loop-asked.asked-index c.args.all.now c.loop-asked-test.false)
