use Rattle.std.proofs.Common.{◌≡◌, ◌∙◌, ap, get_or, refl, subst, sym}
use Rattle.lrc_trace.specs.declared.act.Act.{Act}
use Rattle.lrc_trace.specs.declared.act.Deed.TheVariants.{Quiet, Read, Write}
use Rattle.lrc_trace.specs.Run.{IsDone}
use Rattle.lrc_trace.proofs.Positions.{Does-deed, Does-one_deed, Does-read}
use Rattle.lrc_judge.specs.InOrder.{IsLastWritten}
use Rattle.lrc_acts.specs.JudgeLines.{unordered_line}
use Rattle.lrc_judge_all.specs.Steps.{told, untold}
use Rattle.lrc_judge_all.proofs.GivenReads.{not_disorder}
use Rattle.lrc_judge_all.proofs.Memory.{memory_next, memory_same}
use Rattle.lrc_judge_all.proofs.disorders.tell_at.Goals as goal

abbrev quiet : Act
quiet = record { node = 0; deed = Quiet }

pub returns-then-value-last-clause-text : goal.returns-then-value-last-clause-text
returns-then-value-last-clause-text c =
    let run = c.args.acts.now in
    let n = c.args.position in
    let word = c.in-Read.word in
    let value = c.in-Read.value in
    let read : IsDone run n (Read word value) =
    ((get_or run n quiet).node, Does-deed c.in-Read.is (Does-read run n quiet c.requires.within)) in
    untold (not_disorder run n word value read
    (subst (λ v. IsLastWritten run n word v) (sym c.last_written-last.ensures ∙ sym c.if-value-last.true) (c.requires.memory word))) refl

pub returns-then-value-last-clause-memory : goal.returns-then-value-last-clause-memory
returns-then-value-last-clause-memory c =
    let run = c.args.acts.now in
    let n = c.args.position in
    let here = Does-deed c.in-Read.is (Does-read run n quiet c.requires.within) in
    memory_same run n c.args.memory.now
    (λ w v (p, d). let both : Read c.in-Read.word c.in-Read.value ≡ Write w v = Does-one_deed here d in cc) c.requires.memory

pub returns-in_ok-push_unordered-in-Read-clause-text : goal.returns-in_ok-push_unordered-in-Read-clause-text
returns-in_ok-push_unordered-in-Read-clause-text c =
    let run = c.args.acts.now in
    let n = c.args.position in
    let word = c.in-Read.word in
    let value = c.in-Read.value in
    let last = c.last_written-last.result in
    let read : IsDone run n (Read word value) =
    ((get_or run n quiet).node, Does-deed c.in-Read.is (Does-read run n quiet c.requires.within)) in
    let written : IsLastWritten run n word last =
    subst (λ v. IsLastWritten run n word v) (sym c.last_written-last.ensures) (c.requires.memory word) in
    told
    (record { word = word; value = value; last_written = last; read = read; written = written; apart = c.if-value-last.false })
    (record {
      word = word;
      value = value;
      last_written = last;
      read = read;
      written = written;
      is = ap (λ p. unordered_line p value last) c.place_at.ensures;
    })
    c.in_ok-push_unordered-in-Read.ensures.ok

pub returns-in_ok-push_unordered-in-Read-clause-memory : goal.returns-in_ok-push_unordered-in-Read-clause-memory
returns-in_ok-push_unordered-in-Read-clause-memory c =
    let run = c.args.acts.now in
    let n = c.args.position in
    let here = Does-deed c.in-Read.is (Does-read run n quiet c.requires.within) in
    memory_same run n c.args.memory.now
    (λ w v (p, d). let both : Read c.in-Read.word c.in-Read.value ≡ Write w v = Does-one_deed here d in cc) c.requires.memory

pub returns-in_ok-insert-in-Write-clause-text : goal.returns-in_ok-insert-in-Write-clause-text
returns-in_ok-insert-in-Write-clause-text c =
    let run = c.args.acts.now in
    let n = c.args.position in
    let here = Does-deed c.in-Write.is (Does-read run n quiet c.requires.within) in
    untold (λ m. let both : Write c.in-Write.word c.in-Write.value ≡ Read m.word m.value = Does-one_deed here m.read.1 in cc) refl

pub returns-in_ok-insert-in-Write-clause-memory : goal.returns-in_ok-insert-in-Write-clause-memory
returns-in_ok-insert-in-Write-clause-memory c =
    let run = c.args.acts.now in
    let n = c.args.position in
    let here = Does-deed c.in-Write.is (Does-read run n quiet c.requires.within) in
    memory_next run n (get_or run n quiet).node c.in-Write.word c.in-Write.value c.args.memory.now c.insert.new.self here
    c.in_ok-insert-in-Write.ensures.updates c.requires.memory

pub returns-in_default : goal.returns-in_default
returns-in_default c =
    let run = c.args.acts.now in
    let n = c.args.position in
    let here = Does-read run n quiet c.requires.within in
    record {
      text = untold (λ m. c.in_default.not-Read m.word m.value (Does-one_deed here m.read.1)) refl;
      memory = memory_same run n c.args.memory.now (λ w v (p, d). c.in_default.not-Write w v (Does-one_deed here d)) c.requires.memory;
    }
