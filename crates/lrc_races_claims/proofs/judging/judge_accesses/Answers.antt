-- Each test decides what is said.
use Rattle.std.proofs.Common.{◌≡◌, inl, inr}
use Rattle.std.specs.Prelude.{◌⊎◌, IsTrue, true}
use Rattle.lrc_races_witness.proofs.Rivals.{not_set, is_set}
use Rattle.lrc_races_claims.proofs.Judged.{of_one_thread, of_two_variables, of_readers, of_separated, of_rivals}
use Rattle.lrc_races_claims.proofs.judging.judge_accesses.Goals as goal
use Rattle.lrc_races_claims.proofs.judging.judge_accesses.Goals.{else-not-one-via-then-not-one+else-not-other, else-not-one-via-else-not-one}

pub returns-then-one-other-clause-judged : goal.returns-then-one-other-clause-judged
returns-then-one-other-clause-judged c = λ last is is'.
    of_one_thread c.args.asker.now.sought c.args.events.now last c.args.lesser c.args.greater c.args.one c.args.other is is' c.if-one-other.true

pub returns-then-one-other-2-clause-judged : goal.returns-then-one-other-2-clause-judged
returns-then-one-other-2-clause-judged c = λ last is is'.
    of_two_variables c.args.asker.now.sought c.args.events.now last c.args.lesser c.args.greater c.args.one c.args.other is is' c.if-one-other.false
    c.if-one-other-2.true

pub returns-then-not-other-clause-judged : goal.returns-then-not-other-clause-judged
returns-then-not-other-clause-judged c = λ last is is'.
    of_readers c.args.asker.now.sought c.args.events.now last c.args.lesser c.args.greater c.args.one c.args.other is is' c.if-one-other.false
    c.if-one-other-2.false (not_set c.args.one.is_write c.if-not-one.true) (not_set c.args.other.is_write c.if-not-other.true)

pub returns-then-branch-clause-judged : goal.returns-then-branch-clause-judged
returns-then-branch-clause-judged c =
    let writes : IsTrue c.args.one.is_write ⊎ IsTrue c.args.other.is_write =
    elim c.else-not-one.branch [
      | else-not-one-via-then-not-one+else-not-other w ↦ inr (is_set c.args.other.is_write w.if-not-other.false)
      | else-not-one-via-else-not-one w ↦ inl (is_set c.args.one.is_write w.if-not-one.false)
    ] in
    λ last is is'.
    of_separated c.args.asker.now.sought c.args.events.now last c.args.lesser c.args.greater c.args.one c.args.other is is' c.if-one-other.false
    c.if-one-other-2.false writes
    ((c.in_ok-separates.ensures.separates is.event is'.event is.is.at is'.is.at is.of is'.of is'.is.accesses).0 c.if-branch.true)

pub returns-clause-judged : goal.returns-clause-judged
returns-clause-judged c =
    let writes : IsTrue c.args.one.is_write ⊎ IsTrue c.args.other.is_write =
    elim c.else-not-one.branch [
      | else-not-one-via-then-not-one+else-not-other w ↦ inr (is_set c.args.other.is_write w.if-not-other.false)
      | else-not-one-via-else-not-one w ↦ inl (is_set c.args.one.is_write w.if-not-one.false)
    ] in
    λ last is is'.
    of_rivals c.args.asker.now.sought c.args.events.now last c.args.lesser c.args.greater c.args.one c.args.other is is' c.if-one-other.false
    c.if-one-other-2.false writes (c.requires.order c.if-one-other.false)
    (λ separates. let set : c.in_ok-separates.field-0 ≡ true =
    (c.in_ok-separates.ensures.separates is.event is'.event is.is.at is'.is.at is.of is'.of is'.is.accesses).1 separates in
    let unset = c.if-branch.false in let never : ⊥ = cc in never)
