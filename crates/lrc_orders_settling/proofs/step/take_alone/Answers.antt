use Rattle.std.proofs.Common.{◌≡◌, ℕ, true, false}
use Rattle.lrc_exec.specs.Plain.{thread_in}
use Rattle.lrc_exec.specs.States.{plain_at}
use Rattle.lrc_orders_settling.specs.Settling.{MakesFree}
use Rattle.lrc_orders_settling.specs.declared.step.Step.TheVariants.{Alone}
use Rattle.lrc_orders_settling.specs.Gone.{HasSettled}
use Rattle.lrc_orders_settling.specs.Taking.{ComputesLong, HasTaken}
use Rattle.lrc_orders_settling.proofs.Parts.{if_ok}
use Rattle.lrc_orders_settling.proofs.Taken.{counted_room, others_settled, taken_alone, long_alone}
use Rattle.lrc_orders_settling.proofs.step.take_alone.Goals as goal

pub make-requires-clause-room : goal.make-requires-clause-room
make-requires-clause-room c = counted_room c.args.state.now c.requires.counted c.args.node

pub settle-requires-clause-others : goal.settle-requires-clause-others
settle-requires-clause-others c =
    others_settled (plain_at c.args.flat.now c.args.state.now) (plain_at c.args.flat.now c.make.new.self) c.args.node c.args.deed c.requires.settled
    c.make.ensures.made

pub returns-clause-taken : goal.returns-clause-taken
returns-clause-taken c =
    let flat = c.args.flat.now in
    let old = c.args.state.now in
    let mid = c.make.new.self in
    let new = c.settle.new.state in
    let before = c.args.acts.now.items in
    let between = c.push.new.self.items in
    let after = c.settle.new.acts.items in
    if_ok c.settle.result (λ done. done ≡ true → HasSettled flat mid new between after)
    (λ done. done ≡ true → HasTaken flat old (Alone c.args.node) new before after)
    (λ done settled e. taken_alone flat old mid new before between after c.args.node c.args.deed c.requires.contended c.make.ensures.made
    c.in_ok-push.ensures.items (settled e)) c.settle.ensures.settled

pub returns-clause-open : goal.returns-clause-open
returns-clause-open c =
    let flat = c.args.flat.now in
    let old = c.args.state.now in
    let mid = c.make.new.self in
    if_ok c.settle.result (λ done. done ≡ false → (node : ℕ) × MakesFree c.args.most (thread_in (plain_at flat mid) node))
    (λ done. done ≡ false → ComputesLong (plain_at flat old) c.args.most)
    (λ done long e. long_alone (plain_at flat old) (plain_at flat mid) c.args.node c.args.deed c.args.most c.make.ensures.made (long e))
    c.settle.ensures.open
