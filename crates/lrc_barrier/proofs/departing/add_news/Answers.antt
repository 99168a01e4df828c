use Rattle.std.proofs.Common.{◌≡◌, ◌∙◌, ℕ, ◌+◌, ◌<◌, List, [], ◌∷◌, ◌++◌, append-nil, append_assoc, length, get_or, take, ap, sym}
use Rattle.std.proofs.lemmas.List.{take_more}
use Rattle.std.proofs.lemmas.Result.{IfOk-from_err}
use Rattle.lrc_store.specs.Interval.{IntervalRecord}
use Rattle.lrc_barrier.proofs.departing.add_news.Goals as goal

-- one more of the list is pushed
pushed_more : (before xs after list : List IntervalRecord) (i : ℕ) (item copy : IntervalRecord) → i < length list → item ≡ get_or list i item
    → copy ≡ item → xs ≡ before ++ take i list → after ≡ xs ++ copy ∷ [] → after ≡ before ++ take (i + 1) list
pushed_more before xs after list i item copy within is same so_far pushed =
    pushed ∙ ap (λ (front : List IntervalRecord). front ++ copy ∷ []) so_far ∙ append_assoc before (take i list) (copy ∷ [])
    ∙ ap (λ (last : IntervalRecord). before ++ (take i list ++ last ∷ [])) (same ∙ is)
    ∙ ap (λ (rest : List IntervalRecord). before ++ rest) (sym (take_more list i item within))

pub first_news-start-requires : goal.first_news-start-requires
first_news-start-requires c = record {
  node = c.requires.node;
  own = rw c.as_slice-intervals.ensures.all c.requires.own.own;
  ascending = rw c.as_slice-intervals.ensures.all c.as_slice-intervals.ensures.ascending;
}

pub loop-interval-init : goal.loop-interval-init
loop-interval-init c = sym (append-nil c.args.news.now.items)

pub loop-interval-preserved : goal.loop-interval-preserved
loop-interval-preserved c =
    pushed_more c.args.news.now.items c.loop-interval.news.items c.push.new.self.items _ c.loop-interval.interval-index c.interval-item.result
    c.in_ok-duplicate.field-0 c.loop-interval-test.true c.interval-item.is c.in_ok-duplicate.ensures c.loop-interval.invariant c.in_ok-push.ensures.items

pub returns-in_err-duplicate : goal.returns-in_err-duplicate
returns-in_err-duplicate c = record {
  news = IfOk-from_err c.from_residual.result _ c.from_residual.ensures.0;
  ascending = c.as_slice-intervals.ensures.ascending;
}

pub returns-in_err-push : goal.returns-in_err-push
returns-in_err-push c = record {
  news = IfOk-from_err c.from_residual-in_err-push.result _ c.from_residual-in_err-push.ensures.0;
  ascending = c.as_slice-intervals.ensures.ascending;
}

pub returns-clause-ascending : goal.returns-clause-ascending
returns-clause-ascending c = c.as_slice-intervals.ensures.ascending
