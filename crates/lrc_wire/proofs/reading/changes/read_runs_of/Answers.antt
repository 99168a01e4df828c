use Rattle.std.proofs.Common.{◌≡◌, ◌∙◌, ◌-◌, List, [], ◌∷◌, ◌++◌, Some, None, Ok, sym, ap, arith}
use Rattle.std.proofs.lemmas.List.{flat_map_more}
use Rattle.std.proofs.lemmas.Result.{err_from_is_err_and}
use Rattle.lrc_page.specs.declared.changes.Change.{Change}
use Rattle.lrc_wire.specs.Runs.{changes_in_run}
use Rattle.lrc_wire.specs.Reading.{elements_at, next_run_at, last_of, whole_runs}
use Rattle.lrc_wire.proofs.Elements.{with_nothing, goes_on, ends, is_done}
use Rattle.lrc_wire.proofs.reading.changes.read_runs_of.Goals as goal

pub loop-init : goal.loop-init
loop-init c =
    let none : c.args.count - 0 ≡ c.args.count = omega arith in
    record {
      runs = [];
      put = c.empty-changes.ensures;
      last = λ x e. let empty = rw c.empty-changes.ensures at e in absurd cc;
      read = rw none (with_nothing (elements_at next_run_at (λ _ run. Some (last_of run)) c.args.count None c.args.bytes.now.now));
    }

pub returns-in_err-last : goal.returns-in_err-last
returns-in_err-last c =
    let p = err_from_is_err_and c.from_residual.result c.from_residual.ensures.1 in
    rw (p.1, p.2) (λ other. ap whole_runs
    (ends next_run_at (λ _ run. Some
    (last_of run)) c.in_err-last.field-0.0 c.loop.invariant.runs c.args.count c.loop.counter c.loop.before c.loop.bytes.now _ c.loop-test.true
    c.in_err-last.ensures.put c.loop.invariant.read other))

pub loop-preserved : goal.loop-preserved
loop-preserved c =
    let put = c.in_ok-last.ensures.put in
    record {
      runs = c.loop.invariant.runs ++ put.0 ∷ [];
      put = put.2 ∙ ap (λ (cs : List Change). cs ++ changes_in_run put.0) c.loop.invariant.put ∙ flat_map_more changes_in_run [] c.loop.invariant.runs put.0;
      last = c.in_ok-last.ensures.last;
      read = rw put.3 (goes_on next_run_at
          (λ _ run. Some (last_of run)) c.loop.invariant.runs c.args.count c.loop.counter c.loop.before c.loop.bytes.now put.0 c.read_run.new.bytes.now _
          c.loop-test.true put.1 c.loop.invariant.read);
    }

pub returns : goal.returns
returns c =
    ap whole_runs (is_done next_run_at
    (λ _ run. Some (last_of run)) c.loop.invariant.runs c.args.count c.loop.counter c.loop.before c.loop.bytes.now _ c.loop-test.false
    c.loop.invariant.read)
    ∙ ap (λ (cs : List Change). Ok (cs, c.loop.bytes.now)) (sym c.loop.invariant.put)
