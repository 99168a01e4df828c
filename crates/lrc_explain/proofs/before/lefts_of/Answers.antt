-- One act further.
use Rattle.std.proofs.Common.{◌≡◌, ◌∙◌, ap, take}
use Rattle.std.specs.Prelude.{unwrap_or}
use Rattle.std.specs.BTreeMap.{get}
use Rattle.std.specs.Ordering.{nat_cmp}
use Rattle.lrc_trace.specs.declared.act.Act.{Act}
use Rattle.lrc_trace.specs.declared.act.Deed.TheVariants.{Quiet}
use Rattle.lrc_judge.specs.Races.{word_of}
use Rattle.lrc_acts_text.specs.Acts.{act_at}
use Rattle.lrc_explain.specs.Access.{left_in}
use Rattle.lrc_explain.proofs.Earlier.{lefts-more, remembers-next, remembers-same}
use Rattle.lrc_explain.proofs.before.lefts_of.Goals as goal
use Rattle.lrc_explain.proofs.before.lefts_of.Goals.{in-Write+in_ok-insert-in-Write, in_default}

pub loop-position-preserved : goal.loop-position-preserved
loop-position-preserved c =
    let acts = c.args.acts.now in
    let n = c.loop-position.position in
    let memory = c.loop-position.memory in
    let left_is : c.value_in-left.result ≡ left_in (word_of (act_at acts n).deed) (take n acts) =
    c.value_in-left.ensures ∙ ap (λ k. unwrap_or (get nat_cmp memory k) 0) c.word_of-word.ensures
    ∙ c.loop-position.invariant.memory (word_of (act_at acts n).deed) in
    record {
      lefts = lefts-more acts n c.loop-position.lefts.items c.push.new.self.items c.value_in-left.result left_is c.in_ok-push.ensures.items
          c.loop-position.invariant.lefts;
      memory = elim c.match-acts-position.branch [
        | in-Write+in_ok-insert-in-Write w ↦
            rw w.memory-is (remembers-next acts n c.loop-position-test.true memory w.insert.new.self w.in-Write.word w.in-Write.value w.in-Write.is
            w.in_ok-insert-in-Write.ensures.updates c.loop-position.invariant.memory)
        | in_default w ↦
            rw w.memory-is (remembers-same acts n c.loop-position-test.true memory w.in_default.not-Write c.loop-position.invariant.memory)
      ];
    }
