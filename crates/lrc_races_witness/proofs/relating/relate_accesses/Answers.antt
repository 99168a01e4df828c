-- Each test decides one relation.
use Rattle.std.proofs.Common.{inl, inr}
use Rattle.std.specs.Prelude.{◌⊎◌, IsTrue}
use Rattle.std.proofs.lemmas.Result.{IfOk-weaker}
use Rattle.lrc_races_witness.proofs.Rivals.{of_one_thread, of_two_variables, of_readers, of_rivals, not_set, is_set}
use Rattle.lrc_races_witness.proofs.relating.relate_accesses.Goals as goal
use Rattle.lrc_races_witness.proofs.relating.relate_accesses.Goals.{else-not-one-via-then-not-one+else-not-other, else-not-one-via-else-not-one}

pub returns-then-one-other : goal.returns-then-one-other
returns-then-one-other c = λ first second is is'. of_one_thread c.args.events.now first second c.args.one c.args.other is is' c.if-one-other.true

pub returns-then-one-other-2 : goal.returns-then-one-other-2
returns-then-one-other-2 c = λ first second is is'.
    of_two_variables c.args.events.now first second c.args.one c.args.other is is' c.if-one-other.false c.if-one-other-2.true

pub returns-then-not-other : goal.returns-then-not-other
returns-then-not-other c = λ first second is is'.
    of_readers c.args.events.now first second c.args.one c.args.other is is' c.if-one-other.false c.if-one-other-2.false
    (not_set c.args.one.is_write c.if-not-one.true) (not_set c.args.other.is_write c.if-not-other.true)

pub returns : goal.returns
returns c =
    let writes : IsTrue c.args.one.is_write ⊎ IsTrue c.args.other.is_write =
    elim c.else-not-one.branch [
      | else-not-one-via-then-not-one+else-not-other w ↦ inr (is_set c.args.other.is_write w.if-not-other.false)
      | else-not-one-via-else-not-one w ↦ inl (is_set c.args.one.is_write w.if-not-one.false)
    ] in
    IfOk-weaker c.relate_rivals.result _ _ (λ relation related first second is is'.
    of_rivals c.args.events.now first second c.args.one c.args.other is is' c.if-one-other.false c.if-one-other-2.false relation writes related)
    c.relate_rivals.ensures
