-- Whatever comes next is passed, and there is room.
use Rattle.std.proofs.Common.{rules, ◌≡◌, ◌∙◌, sym, ap, true, false, arith}
use Rattle.std.proofs.lemmas.Result.{on_err_weaker}
use Rattle.lrc_lines.specs.Tasks.{beyond}
use Rattle.lrc_lines.proofs.Following.{on_ok}
use Rattle.lrc_lines.proofs.Passing.{passed_loop, passed_then, passed_over, rest_of, beyond_straight, beyond_while_false}
use Rattle.lrc_lines.proofs.way.Todo.pass.Goals as goal

pub returns-in_ok-push-in-While-clause-ok : goal.returns-in_ok-push-in-While-clause-ok
returns-in_ok-push-in-While-clause-ok c =
    let holds : c.args.holds ≡ true = search rules in
    on_ok c.open-in-While.result
    (λ todo. passed_loop c.args.holds c.args.self.now.stretches.items c.pop.new.self.items c.push.new.self.items c.in-Some.stretch
    c.in-While.field-0 c.in-While.body c.deref-in-While.result.now c.tail.result.now _ holds
    (sym c.in_ok-reserve.ensures.items ∙ c.in-Some.ensures.items) c.in_ok-push-in-While.ensures.items c.in-While.is
    c.deref-in-While.ensures.value c.tail.ensures todo)
    c.open-in-While.ensures.ok

pub returns-then-holds-clause-ok : goal.returns-then-holds-clause-ok
returns-then-holds-clause-ok c =
    on_ok c.open.result
    (λ todo. passed_then c.args.holds c.args.self.now.stretches.items c.pop.new.self.items c.leave.new.self.stretches.items c.in-Some.stretch
    c.in-If.field-0 c.in-If.first c.in-If.second c.deref.result.now c.tail-inside.result.now _ c.if-holds.true
    (sym c.in_ok-reserve.ensures.items ∙ c.in-Some.ensures.items) c.in_ok-leave-in-If.ensures.ok c.in-If.is c.deref.ensures.value c.tail-inside.ensures todo)
    c.open.ensures.ok

pub returns-then-not-holds-clause-ok : goal.returns-then-not-holds-clause-ok
returns-then-not-holds-clause-ok c =
    let lines = c.in-Some.stretch.lines.now in
    let rest = rest_of c.in-Some.stretch c.pop.new.self.items in
    let fails : c.args.holds ≡ false = search rules in
    on_ok c.leave-then-not-holds.result
    (passed_over c.args.holds c.args.self.now.stretches.items c.pop.new.self.items c.in-Some.stretch _
    (sym c.in_ok-reserve.ensures.items ∙ c.in-Some.ensures.items)
    (ap (λ b. beyond b c.in-Some.stretch.first.now lines rest) fails
    ∙ beyond_while_false c.in-Some.stretch.first.now c.in-While.field-0 c.in-While.body lines rest c.in-While.is))
    c.leave-then-not-holds.ensures.ok

pub returns-in_default-first-clause-ok : goal.returns-in_default-first-clause-ok
returns-in_default-first-clause-ok c =
    let rest = rest_of c.in-Some.stretch c.pop.new.self.items in
    on_ok c.leave-in_default-first.result
    (passed_over c.args.holds c.args.self.now.stretches.items c.pop.new.self.items c.in-Some.stretch _
    (sym c.in_ok-reserve.ensures.items ∙ c.in-Some.ensures.items)
    (beyond_straight c.args.holds c.in-Some.stretch.first.now c.in-Some.stretch.lines.now rest c.in_default-first.not-If c.in_default-first.not-While))
    c.leave-in_default-first.ensures.ok

-- ---- the room that was got is enough

pub returns-in_err-leave-in-If-clause-err : goal.returns-in_err-leave-in-If-clause-err
returns-in_err-leave-in-If-clause-err c = absurd (omega (arith, c.in_ok-reserve.ensures, c.in-Some.ensures, c.in_err-leave-in-If.ensures))

pub returns-then-holds-clause-err : goal.returns-then-holds-clause-err
returns-then-holds-clause-err c =
    on_err_weaker c.open.result (λ full. absurd (omega (arith, c.in_ok-reserve.ensures, c.in-Some.ensures, c.in_ok-leave-in-If.ensures))) c.open.ensures.full

pub returns-else-holds-clause-err : goal.returns-else-holds-clause-err
returns-else-holds-clause-err c =
    on_err_weaker c.open-else-holds.result
    (λ full. absurd (omega (arith, c.in_ok-reserve.ensures, c.in-Some.ensures, c.in_ok-leave-in-If.ensures))) c.open-else-holds.ensures.full

pub returns-then-not-holds-clause-err : goal.returns-then-not-holds-clause-err
returns-then-not-holds-clause-err c =
    on_err_weaker c.leave-then-not-holds.result
    (λ full. absurd (omega (arith, c.in_ok-reserve.ensures, c.in-Some.ensures))) c.leave-then-not-holds.ensures.full

pub returns-in_err-push-in-While-clause-err : goal.returns-in_err-push-in-While-clause-err
returns-in_err-push-in-While-clause-err c = absurd (omega (arith, c.in_ok-reserve.ensures, c.in-Some.ensures, c.in_err-push-in-While.ensures))

pub returns-in_ok-push-in-While-clause-err : goal.returns-in_ok-push-in-While-clause-err
returns-in_ok-push-in-While-clause-err c =
    on_err_weaker c.open-in-While.result
    (λ full. absurd (omega (arith, c.in_ok-reserve.ensures, c.in-Some.ensures, c.in_ok-push-in-While.ensures))) c.open-in-While.ensures.full

pub returns-in_default-first-clause-err : goal.returns-in_default-first-clause-err
returns-in_default-first-clause-err c =
    on_err_weaker c.leave-in_default-first.result
    (λ full. absurd (omega (arith, c.in_ok-reserve.ensures, c.in-Some.ensures))) c.leave-in_default-first.ensures.full
