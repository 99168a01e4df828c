use Rattle.std.proofs.Common.{◌≡◌, ◌∙◌, ◌++◌, ℕ, List, ap, subst}
use Rattle.std.specs.Prelude.{OnOk, codes}
use Rattle.std.proofs.lemmas.Result.{IfOk-from_err}
use Rattle.lrc_text.proofs.Fronts.{begins_still}
use Rattle.lrc_wire.specs.declared.kind.MessageKind.TheVariants as kinds
use Rattle.lrc_envelope.specs.Records.{ArriveRecord}
use Rattle.lrc_messages.specs.MessageText.{collect_text, named, news_text}
use Rattle.lrc_text.proofs.Pushed.{and_then, err_is, then_err, then_ok}
use Rattle.lrc_messages.proofs.message.push_arrive.Goals as goal

pub returns : goal.returns
returns c =
    let text = c.args.text.now.items in
    let first = c.push_named.new.text.items in
    let words_first : List ℕ = named kinds.Arrive (codes " ") c.args.m.now.episode in
    let first_is : first ≡ text ++ words_first =
    c.in_ok-push_named.ensures.ok ∙ ap (λ n. text ++ named kinds.Arrive (codes " ") n) (c.from.ensures ∙ ap (λ (m : ArriveRecord). m.episode) c.m.view_is) in
    let second = c.push_news.new.text.items in
    let words_second : List ℕ = words_first ++ (news_text c.args.m.now.time c.args.m.now.intervals) in
    let second_is : second ≡ text ++ words_second =
    and_then text words_first first second first_is (news_text c.args.m.now.time c.args.m.now.intervals) (c.in_ok-push_news.ensures.ok ∙ ap (λ
    (m : ArriveRecord). first ++ news_text m.time m.intervals) c.m.view_is) in
    let last = c.push_collect.new.text.items in
    record {
      ok = then_ok text words_second second last second_is c.push_collect.result (collect_text c.args.m.now.ask)
          (subst (λ (m : ArriveRecord). OnOk c.push_collect.result (last ≡ second ++ collect_text m.ask)) c.m.view_is c.push_collect.ensures.ok);
      err = then_err text words_second second last second_is c.push_collect.result c.push_collect.ensures.err;
    }

pub returns-in_err-push_named : goal.returns-in_err-push_named
returns-in_err-push_named c =
    record {
      ok = IfOk-from_err c.from_residual.result _ c.from_residual.ensures.0;
      err = err_is c.from_residual.result c.in_err-push_named.ensures.err;
    }

pub returns-in_err-push_news : goal.returns-in_err-push_news
returns-in_err-push_news c =
    let text = c.args.text.now.items in
    let first = c.push_named.new.text.items in
    let words_first : List ℕ = named kinds.Arrive (codes " ") c.args.m.now.episode in
    let first_is : first ≡ text ++ words_first =
    c.in_ok-push_named.ensures.ok ∙ ap (λ n. text ++ named kinds.Arrive (codes " ") n) (c.from.ensures ∙ ap (λ (m : ArriveRecord). m.episode) c.m.view_is) in
    record {
      ok = IfOk-from_err c.from_residual-in_err-push_news.result _ c.from_residual-in_err-push_news.ensures.0;
      err = err_is c.from_residual-in_err-push_news.result
          (begins_still text words_first first c.push_news.new.text.items first_is c.in_err-push_news.ensures.err);
    }
