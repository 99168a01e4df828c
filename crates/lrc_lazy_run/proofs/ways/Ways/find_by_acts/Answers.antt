use Rattle.std.proofs.Common.{◌≡◌, ◌<◌, length, arith, false, true, subst, sym, ◌∙◌, ap}
use Rattle.std.proofs.lemmas.Option.{same_Some}
use Rattle.lrc_orders.proofs.Keeping.{stands_on as stays}
use Rattle.lrc_exec.specs.States.{plain_at}
use Rattle.lrc_lazy.specs.Standing.{CanMake}
use Rattle.lrc_lazy_search.specs.declared.state.LazyState.{LazyState}
use Rattle.lrc_lazy_run.proofs.Passing.{none_has, passed_more}
use Rattle.lrc_lazy_run.proofs.ways.Ways.find_by_acts.Goals as goal

pub loop-place-preserved : goal.loop-place-preserved
loop-place-preserved c =
    let flat = c.args.sought.now.flat in
    let i = c.loop-place.invariant in
    let e = c.in_ok-add_all.ensures in
    let place = c.loop-place.place in
    let notes = c.args.notes.now in
    let old = c.loop-place.self.states.keys in
    let new = c.add_all.new.self.states.keys in
    let within : place < length old = omega (arith, c.loop-place-test.true, c.len.ensures.len) in
    record {
      ways = e.ways;
      passed = passed_more flat old new notes place e.grows within i.passed (λ key at. record {
        next = λ node deed can.
            e.all node deed
            (λ other there. subst (λ (k : LazyState). CanMake flat.words (plain_at flat k.state) k.knowledge node deed)
            (same_Some key other (sym (stays place key e.grows at) ∙ there)) can)
            key (stays place key e.grows at);
        other = λ none same.
            let ends = c.in_ok-is_end_with.ensures.1
            ((λ node deed can. none node deed (can key at)), λ other there. ap (λ (k : LazyState). k.notes.items) (same_Some other key (sym there ∙ at)) ∙ same) in
            let never : false ≡ true = sym c.if-branch.false ∙ ends in
            cc;
      });
    }

pub returns-clause-found : goal.returns-clause-found
returns-clause-found c =
    let sought = c.args.sought.now in
    let i = c.loop-place.invariant in
    none_has sought.program.now sought.flat c.requires.ways.task.words c.requires.ways.task.locks c.loop-place.self.states.keys c.args.notes.now i.ways.kept.begun
    (λ k key lt at. i.passed k key (omega (arith, lt, c.loop-place-test.false, c.len.ensures.len)) at)
