-- What a judge says of what is printed of a run: that its acts are well synchronized and read lazily.
use Rattle.std.proofs.Common.{◌≡◌, ◌≤◌, ◌⊎◌, ℕ, Bool, true, List, [], ◌++◌, append-nil, Option, Some, None, append_assoc, refl, sym, subst, ap, ◌∙◌}
use Rattle.std.proofs.Common.{arith, inl, inr}
use Rattle.std.specs.Prelude.{◌&&◌, IfSome, MatchOption}
use Rattle.lrc_program.specs.declared.Program.{Program}
use Rattle.lrc_trace.specs.declared.act.Act.{Act}
use Rattle.lrc_trace.specs.Conflict.{IsFirstRace, IsRaceFree}
use Rattle.lrc_trace.specs.Reading.{ReadsLazily}
use Rattle.lrc_trace.specs.Synchronization.{IsWellSynchronized}
use Rattle.lrc_judge.specs.Reading.{Misreads}
use Rattle.lrc_judge.specs.Synchronization.{Breaks, acquire, release, depart}
use Rattle.lrc_exec.specs.Follows.{FollowsText}
use Rattle.lrc_consistency_laws.proofs.UpToRace.{in_range}
use Rattle.lrc_protocol.proofs.Texts.{text}
use Rattle.lrc_order_laws.proofs.Timed.{synchronized}
use Rattle.lrc_reading_laws.proofs.Whole.{reads}
use Rattle.lrc_text.specs.RaceText.{first_race_text}
use Rattle.lrc_acts.specs.JudgeLines.{lazy_line, synchronized_line}
use Rattle.lrc_acts.specs.Printed.{numbers_from}
use Rattle.lrc_acts.proofs.OneLemmas.{one}
use Rattle.lrc_judge_text.specs.Judgement as judgement
use Rattle.lrc_judge_text.specs.Judgement.{CountsNodes, IsHead, IsJudgement}
use Rattle.lrc_judge_text.specs.Judgement.{IsNodeCount, Judges, TellsExactReading, TellsLazyReading, TellsSynchronization, judge_status}
use Rattle.lrc_acts_text_laws.specs.JudgedRun.{IsJudgedRun}
use Rattle.lrc_acts_text_laws.proofs.Printing.{acts_said}

-- ---- acts that are well synchronized and read lazily

no_break : (nodes : ℕ) (acts : List Act) (j : ℕ) → IsWellSynchronized nodes acts → Breaks nodes acts j → ⊥
no_break nodes acts j is (acquire {node = node} {other = other} {l = l} does holds) = is.acquires j node l does other holds
no_break nodes acts j is (release {node = node} {l = l} does unheld) = unheld (is.releases j node l does)
no_break nodes acts j is (depart {node = node} {other = other} does lt few) =
    let more = is.departs j node does other lt in omega (arith, more, few)

no_misread : (acts : List Act) (j : ℕ) → ReadsLazily acts → Misreads acts j → ⊥
no_misread acts j lazy misread = misread.refused (lazy j misread.word misread.value misread.read)

-- of no more nodes than act they are so too
fewer : (program : Program) (nodes count : ℕ) (acts : List Act) → FollowsText program nodes acts → IsWellSynchronized nodes acts
    → IsNodeCount acts count → IsWellSynchronized count acts
fewer program nodes count acts follows is counted = record {
  acquires = is.acquires;
  releases = is.releases;
  departs = λ j node does other lt.
      let here = in_range follows j node _ does in
      let few : count ≤ nodes = counted.least nodes (omega (arith, here)) follows.in_range in
      is.departs j node does other (omega (arith, lt, few));
}

counted : (program : Program) (nodes count : ℕ) (acts : List Act) (given : Option ℕ) → FollowsText program nodes acts
    → IsWellSynchronized nodes acts → IfSome given (λ most. most ≡ nodes) → CountsNodes given acts count → IsWellSynchronized count acts
counted program nodes count acts None follows is same counts = fewer program nodes count acts follows is counts
counted program nodes count acts (Some most) follows is same counts = subst (λ n. IsWellSynchronized n acts) (sym (counts ∙ same)) is

-- ---- what is said of them

tells_synchronized : (nodes : ℕ) (acts : List Act) (lines : List ℕ) (holds : Bool) (line : List ℕ) → IsWellSynchronized nodes acts
    → TellsSynchronization nodes acts lines holds line → (holds ≡ true) × (line ≡ synchronized_line)
tells_synchronized nodes acts lines holds line is (judgement.synchronized _) = (refl, refl)
tells_synchronized nodes acts lines holds line is (judgement.unsynchronized {position = position} first) =
    absurd (no_break nodes acts position is first.broken)

tells_lazy : (acts : List Act) (lines : List ℕ) (so : Bool) (line : List ℕ) → ReadsLazily acts → TellsLazyReading acts lines so line
    → (so ≡ true) × (line ≡ lazy_line)
tells_lazy acts lines so line lazy (judgement.lazy _) = (refl, refl)
tells_lazy acts lines so line lazy (judgement.unlazy {position = position} first done allowed) =
    absurd (no_misread acts position lazy first.misread)

-- where no exact memory is given, no line tells of one
tells_unasked : (nodes : ℕ) (acts : List Act) (lines : List ℕ) (so : Bool) (line : List ℕ) → TellsExactReading nodes None acts lines so line
    → (so ≡ true) × (line ≡ [])
tells_unasked nodes acts lines so line judgement.unasked = (refl, refl)

-- the status tells whether there is a race
status_tells : (acts : List Act) (race : Option ℕ) → MatchOption race (IsRaceFree acts) (IsFirstRace acts)
    → ((judge_status true true race ≡ 0) × IsRaceFree acts) ⊎ ((judge_status true true race ≡ 3) × ¬ IsRaceFree acts)
status_tells acts None free = inl (refl, free)
status_tells acts (Some position) first = inr (refl, λ free. free first.with position first.races)

module _ (nodes : ℕ) (acts : List Act) (lines : List ℕ) (pairs : Bool) (out : List ℕ) (status : ℕ)
    (is : IsJudgement nodes None acts lines pairs out status) (synchronous : IsWellSynchronized nodes acts) (lazy : ReadsLazily acts) where
  told_first : (is.holds ≡ true) × (is.is_head.first ≡ synchronized_line)
  told_first = tells_synchronized nodes acts lines is.holds is.is_head.first synchronous is.is_head.tells_synchronization

  told_second : (is.is_head.lazily ≡ true) × (is.is_head.second ≡ lazy_line)
  told_second = tells_lazy acts lines is.is_head.lazily is.is_head.second lazy is.is_head.tells_reading

  told_between : (is.is_head.exactly ≡ true) × (is.is_head.between ≡ [])
  told_between = tells_unasked nodes acts lines is.is_head.exactly is.is_head.between is.is_head.tells_exactness

  told_reads : is.reads ≡ true
  told_reads = is.is_head.both ∙ ap (λ (b : Bool). b && is.is_head.exactly) told_second.0 ∙ ap (λ (b : Bool). true && b) told_between.0

  pub told_begins : (rest : List ℕ) × (out ≡ synchronized_line ++ lazy_line ++ rest)
  told_begins =
      let head = is.is_head in
      let front = synchronized_line ++ lazy_line in
      let lines_are : is.head ≡ front ++ head.third = head.whole
      ∙ ap (λ (l : List ℕ). l ++ head.second ++ head.between ++ head.third) told_first.1
      ∙ ap (λ (l : List ℕ). synchronized_line ++ l ++ head.between ++ head.third) told_second.1
      ∙ ap (λ (l : List ℕ). front ++ l ++ head.third) told_between.1
      ∙ ap (λ (l : List ℕ). l ++ head.third) (append-nil front) in (
        head.third ++ is.races ++ first_race_text is.race,
        is.whole ∙ ap (λ (l : List ℕ). l ++ is.races ++ first_race_text is.race) lines_are
            ∙ ap (λ (l : List ℕ). l ++ first_race_text is.race) (append_assoc front head.third is.races)
            ∙ append_assoc front (head.third ++ is.races) (first_race_text is.race),
      )

  pub told_status : ((status ≡ 0) × IsRaceFree acts) ⊎ ((status ≡ 3) × ¬ IsRaceFree acts)
  told_status =
      let same : status ≡ judge_status true true is.race = is.status_is
      ∙ ap (λ (b : Bool). judge_status b is.reads is.race) told_first.0 ∙ ap (λ (b : Bool). judge_status true b is.race) told_reads in
      subst (λ n. ((n ≡ 0) × IsRaceFree acts) ⊎ ((n ≡ 3) × ¬ IsRaceFree acts)) (sym same) (status_tells acts is.race is.is_first)

-- ---- runs

room : (given : Option ℕ) (nodes : ℕ) → IfSome given (λ count. count ≡ nodes) → IfSome given (λ most. nodes ≤ most)
room None nodes same = tt
room (Some count) nodes same = omega (arith, same)

module _ (acts : List Act) (pairs : Bool) (out : List ℕ) (status : ℕ) (is : IsJudgedRun acts pairs out status) where
  read_back : (is.judged.lined.acts.items ≡ acts) × (is.judged.lined.lines.items ≡ numbers_from 1 acts)
  read_back = one is.judged.says.1 (acts_said is.nodes acts is.printed is.is_printed is.given (room is.given is.nodes is.as_many))

  pub run_counted : CountsNodes is.given acts is.judged.count
  run_counted = subst (λ (l : List Act). CountsNodes is.given l is.judged.count) read_back.0 is.judged.counted

  pub run_judged : IsJudgement is.judged.count None acts (numbers_from 1 acts) pairs out status
  run_judged =
      subst (λ (n : List ℕ). IsJudgement is.judged.count None acts n pairs out status) read_back.1
      (subst (λ (l : List Act). IsJudgement is.judged.count None l is.judged.lined.lines.items pairs out status) read_back.0 is.judged.judgement)

  run_follows : FollowsText is.is_printed.program is.nodes acts
  run_follows =
      let run = is.is_printed in
      subst (FollowsText run.program is.nodes) (sym run.are_acts) (text run.program is.nodes run.options run.events run.world run.runs)

  run_synchronized : IsWellSynchronized is.judged.count acts
  run_synchronized =
      let run = is.is_printed in
      counted run.program is.nodes is.judged.count acts is.given run_follows
      (subst (IsWellSynchronized is.nodes) (sym run.are_acts) (synchronized run.program is.nodes run.options run.events run.world run.runs))
      is.as_many run_counted

  run_lazy : ReadsLazily acts
  run_lazy =
      let run = is.is_printed in
      subst ReadsLazily (sym run.are_acts)
      (reads run.program is.nodes run.options run.world (record { events = run.events; runs = run.runs }))

  pub run_begins : (rest : List ℕ) × (out ≡ synchronized_line ++ lazy_line ++ rest)
  run_begins = told_begins is.judged.count acts (numbers_from 1 acts) pairs out status run_judged run_synchronized run_lazy

  pub run_status : ((status ≡ 0) × IsRaceFree acts) ⊎ ((status ≡ 3) × ¬ IsRaceFree acts)
  run_status = told_status is.judged.count acts (numbers_from 1 acts) pairs out status run_judged run_synchronized run_lazy
