-- The flag of a write whose word is read; another act has none.
use Rattle.std.proofs.Common.{◌≡◌, subst, sym}
use Rattle.std.specs.Prelude.{◌↔◌, true}
use Rattle.lrc_trace.specs.declared.act.Act.{Act}
use Rattle.lrc_trace.specs.declared.act.Deed.TheVariants.{Quiet, Read, Write}
use Rattle.lrc_trace.specs.Run.{IsDone}
use Rattle.lrc_trace.specs.Reading.{AreOrdered}
use Rattle.lrc_trace.proofs.Positions.{Does-read, Does-deed, Does-one_deed}
use Rattle.lrc_judge.proofs.Deeds.{write_word}
use Rattle.lrc_judge.proofs.reading.flag_at.Goals as goal

pub returns-else-not-contains : goal.returns-else-not-contains
returns-else-not-contains c = λ j word read value is_read done.
    let quiet : Act = record { node = 0; deed = Quiet } in
    let run = c.args.acts.now in
    let here = Does-deed c.in-Write.is (Does-read run c.args.position quiet c.requires.within) in
    let both : Write c.in-Write.word c.in-Write.field-1 ≡ Write word value = Does-one_deed here done.1 in
    let words : c.in-Write.word ≡ word = write_word both in
    let is : IsDone run j (Read c.in-Write.word read) = subst (λ w. IsDone run j (Read w read)) (sym words) is_read in
    subst (λ w. (c.are_ordered.result ≡ true) ↔ AreOrdered run c.args.position w) words
    (c.are_ordered.ensures run c.requires.written c.requires.nodes (c.requires.flags j c.in-Write.word read is))

pub returns-in_default : goal.returns-in_default
returns-in_default c = λ j word read value is_read done.
    let quiet : Act = record { node = 0; deed = Quiet } in
    absurd (c.in_default.not-Write word value (Does-one_deed (Does-read c.args.acts.now c.args.position quiet c.requires.within) done.1))
