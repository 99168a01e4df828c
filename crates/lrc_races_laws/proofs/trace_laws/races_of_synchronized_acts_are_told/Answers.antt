use Rattle.lrc_races_laws.proofs.Episodes.{IsRun}
use Rattle.lrc_races_laws.proofs.Orders.{ordered, ordered_back}
use Rattle.lrc_races_laws.proofs.Racing.{races_forth, races_back, told_of_acts}
use Rattle.lrc_races_laws.proofs.trace_laws.races_of_synchronized_acts_are_told.Goals as goal

pub returns-clause-order : goal.returns-clause-order
returns-clause-order c = λ numbers nodes acts events are node sync waits i j.
    let run : IsRun numbers nodes acts events = record { are = are; node = node; synchronized = sync; waits = waits } in
    (λ h. ordered_back numbers nodes acts events run h, λ h. ordered numbers nodes acts events run h)

pub returns-clause-races : goal.returns-clause-races
returns-clause-races c = λ numbers nodes acts events are node sync waits i j.
    let run : IsRun numbers nodes acts events = record { are = are; node = node; synchronized = sync; waits = waits } in
    (λ h. races_back numbers nodes acts events run i j h, λ h. races_forth numbers nodes acts events run i j h)

pub returns-clause-told : goal.returns-clause-told
returns-clause-told c = λ numbers nodes acts events pairs are node sync waits told.
    told_of_acts numbers nodes acts events (record { are = are; node = node; synchronized = sync; waits = waits }) pairs told
