use Rattle.std.proofs.Common.{◌≡◌, ◌≢◌, arith, sym, ap, ◌∙◌, ⊎_elim}
use Rattle.std.specs.Prelude.{slice_index_or, slice_set}
use Rattle.lrc_protocol.specs.Pages.{Need, page_came}
use Rattle.std.proofs.lemmas.List.{get_or_default, set-get_or}
use Rattle.std.proofs.lemmas.Bool.{cases_eq}
use Rattle.lrc_need.proofs.Lists.{map-same, page-one, page-other}
use Rattle.lrc_need.proofs.wait.take_page_of_all.Goals as goal

pub loop-need-preserved : goal.loop-need-preserved
loop-need-preserved c =
    let xs = c.args.needs.now in
    let i = c.loop-need.need-index in
    let same : c.loop-need.needs ≡ xs = c.loop-need.invariant.0 in (
      set-get_or c.loop-need.needs i c.need-item.result ∙ same,
      λ k d below of_page. ⊎_elim
          (λ e. c.if-page.false (c.page.ensures.page ∙ ap (λ l. (slice_index_or l i c.need-item.result).page) same
          ∙ ap (λ (n : Need). n.page) (get_or_default xs i c.need-item.result d c.loop-need-test.true)
          ∙ ap (λ j. (slice_index_or xs j d).page) (sym e) ∙ of_page))
          (λ other. c.loop-need.invariant.1 k d (omega (arith, below, other)) of_page)
          (cases_eq k i),
    )

pub returns-then-page : goal.returns-then-page
returns-then-page c =
    let xs = c.args.needs.now in
    let i = c.loop-need.need-index in
    let item = c.need-item.result in
    let f : Need → Need = λ need. page_came need.page c.args.copy.value need in
    let same : c.loop-need.needs ≡ xs = c.loop-need.invariant.0 in
    let here : (slice_index_or xs i item).page ≡ c.args.page =
    ap (λ l. (slice_index_or l i item).page) (sym same) ∙ sym c.page.ensures.page ∙ c.if-page.true in
    ap (λ l. slice_set l i c.take_page.new.self) same
    ∙ ap (λ x. slice_set xs i x) (c.take_page.ensures ∙ ap (λ l. f (slice_index_or l i item)) same
    ∙ ap (λ page. page_came page c.args.copy.value (slice_index_or xs i item)) here)
    ∙ page-one c.args.page c.args.copy.value xs i item c.loop-need-test.true here c.requires

pub returns : goal.returns
returns c =
    c.loop-need.invariant.0
    ∙ sym (map-same (λ need. need.page ≢ c.args.page) (page_came c.args.page c.args.copy.value) (page-other c.args.page c.args.copy.value) c.args.needs.now
    (λ k d lt. c.loop-need.invariant.1 k d (omega (arith, lt, c.loop-need-test.false))))
