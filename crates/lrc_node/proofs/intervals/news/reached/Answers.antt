use Rattle.std.proofs.Common.{◌≡◌, ◌≢◌, ℕ, ◌+◌, ◌-◌, ◌<◌, ◌≤◌, length, take, drop, set, sym, ◌∙◌, ap, subst, arith}
use Rattle.std.proofs.lemmas.List.Elements.{All-get_or}
use Rattle.lrc_time.specs.Time.{entry}
use Rattle.lrc_store.specs.Interval.{IntervalRecord, index_of}
use Rattle.lrc_node.specs.News.{IsBroken}
use Rattle.lrc_node.proofs.Runs.{runs-more, runs-broken, cut, one_more}
use Rattle.lrc_node.proofs.intervals.news.reached.Goals as goal

-- an index and what comes before it
before_it : (at index : ℕ) → 1 ≤ index → at ≡ index - 1 → index ≡ at + 1
before_it at index begun e = omega arith

after_it : (at index : ℕ) → index ≡ at + 1 → at ≡ index - 1
after_it at index e = omega arith

pub returns-then-at-index-clause-broken : goal.returns-then-at-index-clause-broken
returns-then-at-index-clause-broken c =
    let x : IntervalRecord = c.interval-item.result in
    let i = c.loop-interval.interval-index in
    let xs = c.args.intervals.now in
    let node : c.interval.inside.node ≡ x.node = ap (λ (j : IntervalRecord). j.node) c.interval.view_is in
    let at : c.at.result ≡ entry c.loop-interval.reached x.node = c.at.ensures ∙ ap (entry c.loop-interval.reached) node in
    let differ : index_of x ≢ entry c.loop-interval.reached x.node + 1 =
    λ e. c.if-at-index.true (at ∙ after_it _ _ e ∙ sym (ap (λ n. n - 1) c.index-index.ensures.index)) in
    let within : i < length xs = c.loop-interval-test.true in
    let P : IntervalRecord → Type 0 = λ j. j.node < length c.args.known.now in
    let in_range : x.node < length c.args.known.now = subst P (sym c.interval-item.is) (All-get_or P xs i x within c.requires) in
    subst (IsBroken c.args.known.now) (cut xs i x within c.interval-item.is)
    (runs-broken c.args.known.now (take i xs) x (drop (i + 1) xs) c.loop-interval.reached c.loop-interval.invariant in_range differ)

pub loop-interval-preserved : goal.loop-interval-preserved
loop-interval-preserved c =
    let x : IntervalRecord = c.interval-item.result in
    let i = c.loop-interval.interval-index in
    let xs = c.args.intervals.now in
    let node : c.interval.inside.node ≡ x.node = ap (λ (j : IntervalRecord). j.node) c.interval.view_is in
    let at : c.at.result ≡ entry c.loop-interval.reached x.node = c.at.ensures ∙ ap (entry c.loop-interval.reached) node in
    let index = c.index-index.ensures.index in
    let next : index_of x ≡ entry c.loop-interval.reached x.node + 1 =
    before_it _ _ c.index-index.ensures.interval.begun (sym at ∙ c.if-at-index.false ∙ ap (λ n. n - 1) index) in
    let within : i < length xs = c.loop-interval-test.true in
    let P : IntervalRecord → Type 0 = λ j. j.node < length c.args.known.now in
    let in_range : x.node < length c.args.known.now = subst P (sym c.interval-item.is) (All-get_or P xs i x within c.requires) in
    let after = runs-more c.args.known.now (take i xs) x c.loop-interval.reached c.loop-interval.invariant in_range next in
    let raised : c.raise.new.self ≡ set c.loop-interval.reached x.node (index_of x) =
    c.raise.ensures ∙ ap (λ n. set c.loop-interval.reached n c.index-index.result) node ∙ ap (set c.loop-interval.reached x.node) index in
    rw (raised, one_more xs i x within c.interval-item.is) after
