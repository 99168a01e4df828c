-- The reasons are tried in their order.
use Rattle.lrc_races_detector.proofs.Finding.{joined_first, barrier_first, lock_first, known_last}
use Rattle.lrc_races_detector.proofs.fault_finder.Kept.reason.Goals as goal

pub returns-in-Some : goal.returns-in-Some
returns-in-Some c = λ events n old. joined_first events n c.args.event c.in-Some.reason (c.in-Some.ensures events n old.threads)

pub returns-in-Some-fault : goal.returns-in-Some-fault
returns-in-Some-fault c = λ events n old.
    barrier_first events n c.args.event (c.in_default.ensures events n old.threads) c.in-Some-fault.reason (c.in-Some-fault.ensures events n old.waits)

pub returns-in-Some-fault-2 : goal.returns-in-Some-fault-2
returns-in-Some-fault-2 c = λ events n old.
    lock_first events n c.args.event (c.in_default.ensures events n old.threads) (c.in_default-fault.ensures events n old.waits) c.in-Some-fault-2.reason
    (c.in-Some-fault-2.ensures events n old.holders)

pub returns : goal.returns
returns c = λ events n old.
    known_last events n c.args.event (c.in_default.ensures events n old.threads) (c.in_default-fault.ensures events n old.waits)
    (c.in_default-fault-2.ensures events n old.holders) c.known_fault.result (c.known_fault.ensures events n old.threads)
