use Rattle.std.proofs.Common.{◌≡◌, ℕ, true, false}
use Rattle.lrc_exec.specs.Plain.{thread_in}
use Rattle.lrc_exec.specs.States.{plain_at}
use Rattle.lrc_orders_settling.specs.Settling.{MakesFree}
use Rattle.lrc_orders_settling.specs.declared.step.Step.TheVariants.{Together}
use Rattle.lrc_orders_settling.specs.Gone.{HasSettled}
use Rattle.lrc_orders_settling.specs.Taking.{ComputesLong, HasTaken}
use Rattle.lrc_orders_settling.proofs.Parts.{if_ok}
use Rattle.lrc_orders_settling.proofs.Taken.{taken_together, long_together}
use Rattle.lrc_orders_settling.proofs.step.take_together.Goals as goal

pub returns-clause-taken : goal.returns-clause-taken
returns-clause-taken c =
    let flat = c.args.flat.now in
    let old = c.args.state.now in
    let mid = c.depart.new.state in
    let new = c.settle.new.state in
    let before = c.args.acts.now.items in
    let between = c.depart.new.acts.items in
    let after = c.settle.new.acts.items in
    if_ok c.settle.result (λ done. done ≡ true → HasSettled flat mid new between after) (λ done. done ≡ true → HasTaken flat old Together new before after)
    (λ done settled e. taken_together flat old mid new before between after c.requires.wait c.in_ok-depart.ensures.departed (settled e))
    c.settle.ensures.settled

pub returns-clause-open : goal.returns-clause-open
returns-clause-open c =
    let flat = c.args.flat.now in
    let old = c.args.state.now in
    let mid = c.depart.new.state in
    if_ok c.settle.result (λ done. done ≡ false → (node : ℕ) × MakesFree c.args.most (thread_in (plain_at flat mid) node))
    (λ done. done ≡ false → ComputesLong (plain_at flat old) c.args.most)
    (λ done long e. long_together flat old mid c.args.acts.now.items c.depart.new.acts.items c.args.most c.in_ok-depart.ensures.departed (long e))
    c.settle.ensures.open
