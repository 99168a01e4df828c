use Rattle.std.proofs.Common.{◌≡◌, ◌∙◌, ◌++◌, ℕ, List, Option, Some, ap, append-nil, append_assoc, length, subst, sym}
use Rattle.std.specs.Prelude.{MatchOption}
use Rattle.std.specs.Io.KnownBytes.{Appends}
use Rattle.lrc_trace.specs.Conflict.{IsFirstRace, IsRaceFree}
use Rattle.lrc_text.specs.RaceText.{first_race_text}
use Rattle.lrc_report.specs.Output.{AppendsFront}
use Rattle.lrc_judge_text.specs.PairsTold.{told_text}
use Rattle.lrc_judge_text.specs.RacingPairs.{lines_from}
use Rattle.lrc_judge_text.proofs.PairLists.{no-lines}
use Rattle.lrc_judge_text.proofs.Writing.{broken-behind, err-more}
use Rattle.lrc_judge_text.proofs.pairs.put_pairs.Goals as goal

pub returns-in-Some-clause-err : goal.returns-in-Some-clause-err
returns-in-Some-clause-err g c =
    let run = c.args.judgement.now.acts.items in
    let lines = lines_from c.args.judgement.now.conflicts.order run 0 (length run) in
    let head = c.args.judgement.now.head.items in
    let old = g.W.Write.contents c.args.output.now.writer.now in
    let mid = g.W.Write.contents c.put.new.output.writer.now in
    let new = g.W.Write.contents c.put_races.new.output.writer.now in
    let last = first_race_text (Some c.in-Some.first) in
    let whole : head ++ (lines ++ last) ≡ told_text c.args.judgement.now =
    sym (append_assoc head lines last) ∙ ap (λ (first : Option ℕ). head ++ lines ++ first_race_text first) (sym c.in-Some.is) in
    let before : Appends old mid head = subst (Appends old mid) c.deref.ensures.value c.in_ok-put.ensures.ok in
    err-more c.put_races.result (AppendsFront mid new (lines ++ last)) (AppendsFront old new (told_text c.args.judgement.now))
    (λ broken. subst (AppendsFront old new) whole (broken-behind old mid new head (lines ++ last) before broken))
    c.put_races.ensures.err

pub returns-in-None-clause-ok : goal.returns-in-None-clause-ok
returns-in-None-clause-ok g c =
    let run = c.args.judgement.now.acts.items in
    let order = c.args.judgement.now.conflicts.order in
    let lines = lines_from order run 0 (length run) in
    let head = c.args.judgement.now.head.items in
    let old = g.W.Write.contents c.args.output.now.writer.now in
    let new = g.W.Write.contents c.put.new.output.writer.now in
    let free : IsRaceFree run =
    subst (λ (first : Option ℕ). MatchOption first (IsRaceFree run) (IsFirstRace run)) c.in-None.is c.requires.races.least in
    let whole : told_text c.args.judgement.now ≡ head =
    ap (λ (first : Option ℕ). head ++ lines ++ first_race_text first) c.in-None.is
    ∙ append-nil (head ++ lines)
    ∙ ap (λ (text : List ℕ). head ++ text) (no-lines run order c.requires.races.kept.order free)
    ∙ append-nil head in
    subst (Appends old new) (c.deref.ensures.value ∙ sym whole) c.in_ok-put.ensures.ok
