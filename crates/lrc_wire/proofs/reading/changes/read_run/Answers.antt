use Rattle.std.proofs.Common.{◌≡◌, ◌∙◌, ℕ, ◌+◌, ◌<◌, true, List, Option, Ok, Err, ltb, refl, sym, arith}
use Rattle.std.proofs.lemmas.Bool.{lt-ltb}
use Rattle.std.proofs.lemmas.Result.{IfOk-from_err, err_from_is_err_and}
use Rattle.lrc_page.specs.declared.TheConstants.{MOST_PAGE_WORDS}
use Rattle.lrc_wire.specs.declared.fault.WireFault.{WireFault}
use Rattle.lrc_wire.specs.Reading.{byte_at, is_after, is_apart, next_run_at, tested, values_at}
use Rattle.lrc_wire.proofs.Cuts.{begins_above, values_long, run_is_read}
use Rattle.lrc_wire.proofs.reading.changes.read_run.Goals as goal

-- the values have a fault
values_wrong : (before : Option ℕ) (bytes r1 r2 : List ℕ) (first more : ℕ) (fault : WireFault) → byte_at bytes ≡ Ok (first, r1)
    → is_after is_apart before first ≡ true → byte_at r1 ≡ Ok (more, r2) → first + more < 256 → values_at (more + 1) r2 ≡ Err fault
    → next_run_at before bytes ≡ Err fault
unfolding next_run_at tested
values_wrong before bytes r1 r2 first more fault a passes b within wrong =
    let fits : ltb (first + more) MOST_PAGE_WORDS ≡ true = lt-ltb (first + more) MOST_PAGE_WORDS within in
    rw (a, passes, b, fits, wrong) refl

pub returns-in_err-first-clause-put : goal.returns-in_err-first-clause-put
unfolding next_run_at tested
returns-in_err-first-clause-put c =
    let p = err_from_is_err_and c.from_residual.result c.from_residual.ensures.1 in
    rw (p.1, p.2) (λ other. rw (c.in_err-first.ensures other) refl)

pub returns-in_err-first-clause-last : goal.returns-in_err-first-clause-last
returns-in_err-first-clause-last c = IfOk-from_err c.from_residual.result _ c.from_residual.ensures.0

pub returns-then-not-may_begin-clause-put : goal.returns-then-not-may_begin-clause-put
unfolding next_run_at tested
returns-then-not-may_begin-clause-put c = λ _. rw (c.in_ok-first.ensures, sym c.may_begin.ensures ∙ c.if-not-may_begin.true) refl

pub returns-in_err-more-clause-put : goal.returns-in_err-more-clause-put
unfolding next_run_at tested
returns-in_err-more-clause-put c =
    let p = err_from_is_err_and c.from_residual-in_err-more.result c.from_residual-in_err-more.ensures.1 in
    rw (p.1, p.2) (λ other. rw (c.in_ok-first.ensures, sym c.may_begin.ensures ∙ c.if-not-may_begin.false, c.in_err-more.ensures other) refl)

pub returns-in_err-more-clause-last : goal.returns-in_err-more-clause-last
returns-in_err-more-clause-last c = IfOk-from_err c.from_residual-in_err-more.result _ c.from_residual-in_err-more.ensures.0

pub returns-in_err-read_run_values-clause-put : goal.returns-in_err-read_run_values-clause-put
returns-in_err-read_run_values-clause-put c =
    let p = err_from_is_err_and c.from_residual-in_err-read_run_values.result c.from_residual-in_err-read_run_values.ensures.1 in
    rw (p.1, p.2) (λ other. values_wrong c.args.before c.args.bytes.now.now c.read_u8.new.bytes.now c.read_u8-2.new.bytes.now
    c.in_ok-first.first c.in_ok-more.more _ c.in_ok-first.ensures (sym c.may_begin.ensures ∙ c.if-not-may_begin.false) c.in_ok-more.ensures c.in-Some.ensures.0
    (c.in_err-read_run_values.ensures.put other))

pub returns-in_err-read_run_values-clause-last : goal.returns-in_err-read_run_values-clause-last
returns-in_err-read_run_values-clause-last c =
    IfOk-from_err c.from_residual-in_err-read_run_values.result _ c.from_residual-in_err-read_run_values.ensures.0

pub read_run_values-requires-clause-above : goal.read_run_values-requires-clause-above
read_run_values-requires-clause-above c =
    λ x e. begins_above c.args.before x.offset c.in_ok-first.first (sym c.may_begin.ensures ∙ c.if-not-may_begin.false) (c.requires x e)

pub returns-clause-put : goal.returns-clause-put
returns-clause-put c =
    let put = c.in_ok-read_run_values.ensures.put in
    let long = values_long (c.in_ok-more.more + 1) c.read_u8-2.new.bytes.now put.0 c.read_run_values.new.bytes.now put.1 in
    let read = run_is_read c.args.before c.args.bytes.now.now c.read_u8.new.bytes.now c.read_u8-2.new.bytes.now c.read_run_values.new.bytes.now
    c.in_ok-first.first c.in_ok-more.more put.0
    c.in_ok-first.ensures (sym c.may_begin.ensures ∙ c.if-not-may_begin.false) c.in_ok-more.ensures c.in-Some.ensures.0 put.1 in
    (record { first = c.in_ok-first.first; values = put.0 }, read, put.2, omega (arith, long, c.in-Some.ensures.1))
