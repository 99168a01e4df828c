use Rattle.std.proofs.Common.{◌∙◌, sym, ap, arith, map, length, ◌≤◌, true}
use Rattle.std.specs.Prelude.{slice_set}
use Rattle.lrc_wire.specs.Reading.{envelope_of}
use Rattle.lrc_protocol.specs.Run.{marked}
use Rattle.lrc_world.specs.World.{Seen, seen_flying, seen_sent}
use Rattle.lrc_world.proofs.Lists.{map-set, same_length}
use Rattle.lrc_world.proofs.Marks.{mark-set, mark-past}
use Rattle.lrc_world.proofs.Played.{sent_at}
use Rattle.lrc_world.proofs.world.mark.Goals as goal

pub returns-then-place-len : goal.returns-then-place-len
returns-then-place-len c = λ sent e.
    let s = sent_at c.args.flight.now.items sent c.args.place c.index_mut.result.now e
    (omega (arith, c.if-place-len.true, c.len.ensures)) c.index_mut.ensures.value in
    map-set seen_flying c.args.flight.now.items c.args.place _
    ∙ ap (λ xs. slice_set xs c.args.place (envelope_of c.index_mut.result.now.bytes.items, (c.index_mut.result.now.stamp, true))) e
    ∙ ap (slice_set (map seen_sent sent) c.args.place) (ap (λ (x : Seen). (x.0, (x.1.0, true))) s.2)
    ∙ sym (map-set seen_sent sent c.args.place (marked s.0))
    ∙ ap (map seen_sent) (sym (mark-set sent c.args.place s.0 s.1))

pub returns-else-place-len : goal.returns-else-place-len
returns-else-place-len c = λ sent e.
    let same = same_length seen_flying seen_sent c.args.flight.now.items sent e in
    let past : length sent ≤ c.args.place = omega (arith, c.if-place-len.false, c.len.ensures, same) in
    e ∙ ap (map seen_sent) (sym (mark-past sent c.args.place past))
