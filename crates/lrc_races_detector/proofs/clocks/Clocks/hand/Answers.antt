-- Where nothing is known it is copied; where all but one entry is known, that is raised; else it is added.
use Rattle.std.proofs.Common.{◌≡◌, ℕ, subst, ◌∙◌, ap, arith}
use Rattle.std.specs.Prelude.{IfSome, Option, slice_index}
use Rattle.std.proofs.lemmas.Result.{on_ok_weaker}
use Rattle.lrc_races_detector.specs.Clocks.{row}
use Rattle.lrc_races_detector.proofs.Within.{raised_joined}
use Rattle.lrc_races_detector.proofs.clocks.Clocks.hand.Goals as goal

pub returns-then-is_nothing : goal.returns-then-is_nothing
returns-then-is_nothing c =
    let self = c.args.self.now in
    on_ok_weaker c.begin.result (λ replaced. record {
      here = λ thread.
          let none : slice_index (row self c.args.to) thread ≡ 0 = ap (λ xs. slice_index xs thread) c.if-is_nothing.ensures in
          let now = ap (λ xs. slice_index xs thread) replaced.here in
          omega arith;
      others = replaced.others;
    }) c.begin.ensures

pub returns-then-is_within : goal.returns-then-is_within
returns-then-is_within c =
    let self = c.args.self.now in
    let thread = c.in-Some.thread in
    let same : thread ≡ c.args.from = subst (λ (o : Option ℕ). IfSome o (λ t. t ≡ c.args.from)) c.in-Some.is c.thread_of.ensures in
    on_ok_weaker c.raise.result (λ raised. record {
      here = raised_joined (row self c.args.to) (row c.raise.new.self c.args.to) (row self c.args.from) thread c.args.from
          c.of-value.result same (c.of-value.ensures ∙ ap (λ xs. slice_index xs thread) c.row.ensures) raised.here c.if-is_within.ensures;
      others = raised.others;
    }) c.raise.ensures
