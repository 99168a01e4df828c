use Rattle.std.proofs.Common.{◌≡◌, ◌≢◌, ℕ, ◌+◌, ◌-◌, ◌<◌, ◌≤◌, List, true, false, length, take, drop, max, sym, ◌∙◌, ap, subst, arith, ⊎_elim, eq-eqb}
use Rattle.std.specs.Prelude.{◌==◌}
use Rattle.std.proofs.lemmas.Bool.{cases_Bool, eqb-true, false≢true}
use Rattle.std.proofs.lemmas.List.{take_all}
use Rattle.lrc_store.specs.Interval.{IntervalRecord, index_of}
use Rattle.lrc_protocol.specs.Times.{are_between}
use Rattle.lrc_node.specs.News.{IsUnbrokenRun}
use Rattle.lrc_node.proofs.Runs.{run-own, run-other, between-holds, between-only, between-broken, cut, one_more}
use Rattle.lrc_node.proofs.intervals.news.are_between.Goals as goal
use Rattle.lrc_node.proofs.intervals.news.are_between.Goals.{then-interval-node+else-last-index, else-interval-node}

after_it : (last index : ℕ) → index ≡ last + 1 → last ≡ index - 1
after_it last index e = omega arith

before_it : (last index : ℕ) → 1 ≤ index → last ≡ index - 1 → index ≡ last + 1
before_it last index begun e = omega arith

tested : (xs : List IntervalRecord) (q above last upto most : ℕ) → IsUnbrokenRun xs q above last → most ≡ max above upto
    → (last == most) ≡ are_between xs q above upto
tested xs q above last upto most is e =
    ⊎_elim
    (λ (t : (last == most) ≡ true). t ∙ sym (between-holds xs q above last upto is (eqb-true last most t ∙ e)))
    (λ (f : (last == most) ≡ false).
    ⊎_elim
    (λ (t : are_between xs q above upto ≡ true). absurd (false≢true (sym f ∙ eq-eqb last most (between-only xs q above last upto is t ∙ sym e))))
    (λ (g : are_between xs q above upto ≡ false). f ∙ sym g)
    (cases_Bool (are_between xs q above upto)))
    (cases_Bool (last == most))

pub returns-then-last-index : goal.returns-then-last-index
returns-then-last-index c =
    let x : IntervalRecord = c.interval-item.result in
    let i = c.loop-interval.interval-index in
    let xs = c.args.intervals.now in
    let node : x.node ≡ c.args.node = sym (ap (λ (j : IntervalRecord). j.node) c.interval.view_is) ∙ c.if-interval-node.true in
    let differ : index_of x ≢ c.loop-interval.last + 1 = λ e. c.if-last-index.true (after_it _ _ e ∙ sym (ap (λ n. n - 1) c.index.ensures.index)) in
    let within : i < length xs = c.loop-interval-test.true in
    sym
    (subst (λ ys. are_between ys c.args.node c.args.above c.args.upto ≡ false) (cut xs i x within c.interval-item.is)
    (between-broken (take i xs) x (drop (i + 1) xs) c.args.node c.args.above c.loop-interval.last c.args.upto c.loop-interval.invariant node differ))

pub loop-interval-preserved : goal.loop-interval-preserved
loop-interval-preserved c =
    let x : IntervalRecord = c.interval-item.result in
    let i = c.loop-interval.interval-index in
    let xs = c.args.intervals.now in
    let within : i < length xs = c.loop-interval-test.true in
    let same : c.interval.inside.node ≡ x.node = ap (λ (j : IntervalRecord). j.node) c.interval.view_is in
    rw (one_more xs i x within c.interval-item.is)
    (elim c.if-interval-node.branch [
      | then-interval-node+else-last-index w ↦
          let next = before_it _ _ w.index.ensures.interval.begun (w.if-last-index.false ∙ ap (λ n. n - 1) w.index.ensures.index) in
          run-own (take i xs) x c.args.node c.args.above c.loop-interval.last c.if-interval-node.last c.loop-interval.invariant
          (sym same ∙ w.if-interval-node.true) (next ∙ sym w.last-is) w.last-is
      | else-interval-node w ↦
          rw w.last-is (run-other (take i xs) x c.args.node c.args.above c.loop-interval.last c.loop-interval.invariant
          (λ e. w.if-interval-node.false (same ∙ e)))
    ])

pub returns : goal.returns
returns c =
    let whole : take c.loop-interval.interval-index c.args.intervals.now ≡ c.args.intervals.now = take_all _ _ c.loop-interval-test.false in
    tested c.args.intervals.now c.args.node c.args.above c.loop-interval.last c.args.upto c.max.result
    (subst (λ ys. IsUnbrokenRun ys c.args.node c.args.above c.loop-interval.last) whole c.loop-interval.invariant)
    c.max.ensures
