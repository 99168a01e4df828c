use Rattle.std.proofs.Common.{ℕ, ◌≡◌, ◌∙◌, ◌<◌, ◌≤◌, List, length, get_or, set, ap, sym, arith}
use Rattle.std.proofs.lemmas.List.{get_or_default}
use Rattle.std.specs.List.{insert}
use Rattle.lrc_page.specs.Mask.{with_offset}
use Rattle.lrc_trace.specs.declared.touched.TouchedPage.{TouchedPage}
use Rattle.lrc_trace.specs.Touched.{one_word}
use Rattle.lrc_trace.proofs.TouchedPages.{above_strictly, touched-found, touched-missing, with_word-found, with_word-missing}
use Rattle.lrc_trace.proofs.touched.Touched.add.Goals as goal
use Rattle.lrc_trace.proofs.touched.Touched.add.Goals.{else-place-len-via-then-place-len+else-index-page, else-place-len-via-else-place-len}

-- ---- the page is there

-- what is written is the page with its mask
written : (c : goal.After-self-1) →
    let it = c.index.result.now in
    let items = c.self.inside.pages.items in
    let place = c.place_of-place.result in
    let new : TouchedPage = record { page = c.args.page; mask = c.with-mask.result } in
    set items place new ≡ set items place (record { page = c.args.page; mask = with_offset (get_or items place it).mask c.args.offset })
written c =
    let it = c.index.result.now in
    let again = c.index-then-index-page.result.now in
    let items = c.self.inside.pages.items in
    let place = c.place_of-place.result in
    let same : again ≡ get_or items place it = c.index-then-index-page.ensures ∙ get_or_default items place again it (omega arith) in
    ap (λ (mask : List ℕ). set items place (record { page = c.args.page; mask = mask }))
    (c.with-mask.ensures.exact ∙ ap (λ (t : TouchedPage). with_offset t.mask c.args.offset) same)

pub invariant_of-self : goal.invariant_of-self
invariant_of-self c =
    let items = c.self.inside.pages.items in
    let place = c.place_of-place.result in
    let it = c.index.result.now in
    let found : (get_or items place it).page ≡ c.args.page =
    ap (λ (t : TouchedPage). t.page) (sym c.index.ensures) ∙ c.if-index-page.true in
    rw (written c) (touched-found c.args.page c.args.offset items place it (omega arith) found c.self.invariant)

pub returns-then-index-page-clause-ok : goal.returns-then-index-page-clause-ok
returns-then-index-page-clause-ok c =
    let items = c.self.inside.pages.items in
    let place = c.place_of-place.result in
    let it = c.index.result.now in
    let found : (get_or items place it).page ≡ c.args.page =
    ap (λ (t : TouchedPage). t.page) (sym c.index.ensures) ∙ c.if-index-page.true in
    let before : (k : ℕ) → k < place → (get_or items k it).page < c.args.page =
    rw c.as_slice.ensures.value at (λ (k : ℕ). c.place_of-place.ensures.before k it) in
    rw (← c.self.view_is)
    (written c ∙ sym (with_word-found c.args.page c.args.offset items place it (omega arith) before found))

-- ---- the page is not there

after : (c : goal.In_ok-insert) (k : ℕ) (d : TouchedPage) → c.place_of-place.result ≤ k → k < length c.self.inside.pages.items
    → c.args.page < (get_or c.self.inside.pages.items k d).page
after c k d late within =
    let items = c.self.inside.pages.items in
    let place = c.place_of-place.result in
    elim c.else-place-len.branch [
      | else-place-len-via-then-place-len+else-index-page w ↦
          let it = w.index.result.now in
          let least : c.args.page ≤ (get_or items place it).page =
          rw c.as_slice.ensures.value at (c.place_of-place.ensures.after place it (omega arith) (omega arith)) in
          above_strictly items c.self.invariant.rising it place c.args.page least w.index.ensures w.if-index-page.false k d late within
      | else-place-len-via-else-place-len w ↦ absurd (omega arith)
    ]

within : (c : goal.In_ok-insert) → c.place_of-place.result ≤ length c.self.inside.pages.items
within c = omega (arith, ap length c.as_slice.ensures.value)

before : (c : goal.In_ok-insert) (d : TouchedPage) (k : ℕ) → k < c.place_of-place.result
    → (get_or c.self.inside.pages.items k d).page < c.args.page
before c d k low = rw c.as_slice.ensures.value at (c.place_of-place.ensures.before k d low)

inserted : (c : goal.In_ok-insert)
    → c.insert.new.self.items ≡ insert c.self.inside.pages.items c.place_of-place.result (one_word c.args.page c.args.offset)
inserted c =
    c.in_ok-insert.ensures.items
    ∙ ap (λ (mask : List ℕ). insert c.self.inside.pages.items c.place_of-place.result (record { page = c.args.page; mask = mask }))
    (c.with-mask-2.ensures.exact ∙ ap (λ mask. with_offset mask c.args.offset) c.none.ensures.exact)

pub invariant_of-self-2 : goal.invariant_of-self-2
invariant_of-self-2 c =
    let items = c.self.inside.pages.items in
    let place = c.place_of-place.result in
    let d : TouchedPage = one_word c.args.page c.args.offset in
    rw (inserted c)
    (touched-missing c.args.page c.args.offset items place d (within c) (before c d) (λ k late low. after c k d late low) c.self.invariant)

pub returns-clause-ok : goal.returns-clause-ok
returns-clause-ok c =
    let items = c.self.inside.pages.items in
    let place = c.place_of-place.result in
    let d : TouchedPage = one_word c.args.page c.args.offset in
    rw (← c.self.view_is)
    (inserted c
    ∙ sym (with_word-missing c.args.page c.args.offset items place d (within c) (before c d) (λ low. after c place d (omega arith) low)))
