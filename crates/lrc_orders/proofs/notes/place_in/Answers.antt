use Rattle.std.proofs.Common.{◌≡◌, get_or, length, sym, arith}
use Rattle.std.specs.Prelude.{nat_lt}
use Rattle.std.proofs.lemmas.List.Sums.{position_or_len_is}
use Rattle.std.proofs.lemmas.Bool.{lt-ltb}
use Rattle.lrc_trace.specs.declared.act.Act.{Act}
use Rattle.lrc_trace.specs.declared.act.Deed.TheVariants.{Quiet}
use Rattle.lrc_orders.proofs.notes.place_in.Goals as goal

abbrev some_act : Act
some_act = record { node = 0; deed = Quiet }

pub returns-then-notes-place-clause-place : goal.returns-then-notes-place-clause-place
returns-then-notes-place-clause-place c =
    let notes = c.args.notes.now in
    let place = c.loop-place.place in
    sym (position_or_len_is (λ (note : Act). nat_lt c.args.node note.node) notes place some_act
    (omega (arith, c.loop-place-test.true, c.loop-place.auto.place-end)) (λ k lt. c.loop-place.invariant k some_act lt)
    (λ lt. lt-ltb c.args.node (get_or notes place some_act).node c.if-notes-place.true))

pub returns-clause-place : goal.returns-clause-place
returns-clause-place c =
    let all : length c.args.notes.now ≡ c.loop-place.place = omega (arith, c.loop-place-test.false, c.loop-place.auto.place-end) in
    sym (position_or_len_is (λ (note : Act). nat_lt c.args.node note.node) c.args.notes.now (length c.args.notes.now) some_act (omega arith)
    (λ k lt. c.loop-place.invariant k some_act (omega arith)) (λ lt. absurd (omega (arith, lt))))
