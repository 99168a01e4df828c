-- Each statement's instructions are sound, and lead on to those behind them.
use Rattle.std.proofs.Common.{◌≡◌, ◌-◌, ◌<◌, [], ◌∷◌, ◌++◌, List, length, drop, get_or, refl, sym, ap, ◌∙◌}
use Rattle.std.proofs.Common.{subst, suc, set, arith, append_assoc, length-append}
use Rattle.std.proofs.lemmas.List.{length-set}
use Rattle.std.specs.Prelude.{IfOk}
use Rattle.std.proofs.lemmas.Result.{IfOk-from_err}
use Rattle.std.proofs.Math.Seq.{drop-cons, drop-length, get_or-append_seam}
use Rattle.lrc_program.specs.declared.Statement.TheVariants.{If}
use Rattle.lrc_program.specs.Statements.{statement_of}
use Rattle.lrc_exec.specs.declared.code.Instruction.{Instruction}
use Rattle.lrc_exec.specs.Flat.{IsGrown, IsPut, statements_in_statement}
use Rattle.lrc_exec.proofs.Flat.{leading, grown_straight, grown_choice, grown_loop}
use Rattle.lrc_exec.specs.Laid.{IsLaid}
use Rattle.lrc_exec.proofs.Counts.{in_choice, in_loop, in_straight, longer, put_none, put_on, put_one}
use Rattle.lrc_exec.proofs.Laid.{laid_choice, laid_loop, laid_on, laid_straight, stand_longer}
use Rattle.lrc_exec.proofs.emit.+emit.Goals as goal

pub put_block-loop-i-init : goal.put_block-loop-i-init
put_block-loop-i-init t c =
    let nothing = drop-length c.args.statements.now in
    subst (λ l. IsPut c.args.code.now.items c.args.code.now.items l c.args.next c.args.next) (sym nothing)
    (put_none c.args.code.now.items c.args.next c.requires)

pub put_block-loop-i-preserved : goal.put_block-loop-i-preserved
put_block-loop-i-preserved t c =
    let statements = c.args.statements.now in
    let here = c.index-statements-i.result in
    let i = c.loop-i.i in
    let back : suc (i - 1) ≡ i = omega (arith, c.loop-i-test.true) in
    let within : i - 1 < length statements = omega (arith, c.loop-i-test.true) in
    let next : drop (i - 1) statements ≡ here ∷ drop i statements =
    drop-cons statements (i - 1) here within
    ∙ ap (λ n. get_or statements (i - 1) here ∷ drop n statements) back
    ∙ ap (λ x. x ∷ drop i statements) (sym c.index-statements-i.is)
    in
    subst (λ l. IsPut c.args.code.now.items c.put_statement.new.code.items l c.args.next c.in_ok-place.place) (sym next)
    (put_on c.args.code.now.items c.loop-i.code.items c.put_statement.new.code.items here
    (drop i statements) c.args.next c.loop-i.place c.in_ok-place.place c.requires c.loop-i.invariant c.in_ok-place.ensures)

pub put_block-returns : goal.put_block-returns
put_block-returns t c =
    let all : c.loop-i.i ≡ 0 = omega (arith, c.loop-i-test.false) in
    subst (λ k. IsPut c.args.code.now.items c.loop-i.code.items (drop k c.args.statements.now) c.args.next c.loop-i.place) all c.loop-i.invariant

pub put_statement-returns-in_ok-otherwise-in-If : goal.put_statement-returns-in_ok-otherwise-in-If
put_statement-returns-in_ok-otherwise-in-If t c =
    let old = c.args.code.now.items in
    let c1 = c.put_block.new.code.items in
    let c2 = c.put_block-in-If.new.code.items in
    let next = c.args.next in
    let then = c.in_ok-then-in-If.then in
    let otherwise = c.in_ok-otherwise-in-If.otherwise in
    let i : Instruction = record { statement = c.args.statement; next = next; then = then; otherwise = otherwise } in
    let a = c.in-If.first in
    let b = c.in-If.second in
    let first = subst (λ l. IsPut old c1 l next then) c.deref.ensures.value c.in_ok-then-in-If.ensures in
    let second = subst (λ l. IsPut c1 c2 l next otherwise) c.deref-in-If.ensures.value c.in_ok-otherwise-in-If.ensures in
    let grown = grown_choice old c1 c2 i c.in-If.field-0 a b next then otherwise c.in-If.is refl refl refl c.requires first.grown second.grown in
    let long1 = longer old c1 first.grown.more first.grown.grown in
    let long2 = longer c1 c2 second.grown.more second.grown.grown in
    let stand1 = stand_longer c1 c2 second.grown.more (length old) second.grown.grown in
    let stand2 = stand_longer c2 (c2 ++ i ∷ []) (i ∷ []) (length old) refl in
    subst (λ x. IfOk c.put.result (λ place. IsPut old c.put.new.code.items (x ∷ []) next place)) (sym c.in-If.is)
    (put_one c.put.result old c2 c.put.new.code.items i (If c.in-If.field-0 a b) next c.put.ensures.place c.put.ensures.items grown
    (omega (arith, first.each, second.each, in_choice c.in-If.field-0 a b))
    (laid_choice c2 c.args.statement next (length old) then otherwise c.in-If.field-0 a b (omega (arith, long1, long2)) c.in-If.is
    (laid_on c1 (c2 ++ i ∷ []) (length old) (length old) (omega arith) (λ k x past is. stand2 k x past (stand1 k x past is)) first.laid)
    (laid_on c2 (c2 ++ i ∷ []) (length c1) (length old) long1 (λ k x past is. stand2 k x (omega (arith, past, long1)) is) second.laid)))

-- the instruction of a loop stands where it was put
read_loop : (old c2 more : List Instruction) (i d : Instruction) → c2 ≡ (old ++ i ∷ []) ++ more → get_or c2 (length (old ++ i ∷ []) - 1) d ≡ i
read_loop old c2 more i d grown =
    let here : length (old ++ i ∷ []) - 1 ≡ length old = omega (arith, length-append old (i ∷ [])) in
    ap (λ c. get_or c (length (old ++ i ∷ []) - 1) d) (grown ∙ append_assoc old (i ∷ []) more)
    ∙ ap (λ n. get_or (old ++ i ∷ more) n d) here
    ∙ get_or-append_seam old i more d

pub put_statement-returns-in_ok-then-in-While : goal.put_statement-returns-in_ok-then-in-While
put_statement-returns-in_ok-then-in-While t c =
    let old = c.args.code.now.items in
    let c1 = c.put-in-While.new.code.items in
    let c2 = c.put_block-in-While.new.code.items in
    let next = c.args.next in
    let then = c.in_ok-then-in-While.then in
    let place = c.in_ok-place-in-While.place in
    let before = leading c.args.statement next next next in
    let one : c1 ≡ old ++ before ∷ [] = rw c.straight.ensures at c.in_ok-place-in-While.ensures.items in
    let place_is : place ≡ length (old ++ before ∷ []) = c.in_ok-place-in-While.ensures.place ∙ ap length one in
    let put : IsPut (old ++ before ∷ []) c2 c.in-While.body.items (length (old ++ before ∷ [])) then =
    subst (λ n. IsPut (old ++ before ∷ []) c2 c.in-While.body.items n then) place_is
    (subst (λ k. IsPut k c2 c.in-While.body.items place then) one
    (subst (λ l. IsPut c1 c2 l place then) c.deref-in-While.ensures.value c.in_ok-then-in-While.ensures)) in
    let body = put.grown in
    let read = c.index_mut.result.now in
    let read_is : read ≡ before = c.index_mut.ensures.value ∙ ap (λ n. get_or c2 (n - 1) read) place_is ∙ read_loop old c2 body.more before read body.grown in
    let grown = grown_loop old c2 c.args.statement c.in-While.field-0 c.in-While.body next then c.in-While.is c.requires body in
    let written : record { statement = read.statement; next = read.next; then = then; otherwise = read.otherwise } ≡ leading c.args.statement next then next =
    ap (λ (x : Instruction). leading x.statement x.next then x.otherwise) read_is in
    let named = subst (λ x. IsGrown old (set c2 (length (old ++ before ∷ []) - 1) (leading c.args.statement next then next)) (x ∷ []) next (length (old
    ++ before ∷ []))) (sym c.in-While.is) grown in
    let placed = subst (λ n. IsGrown old (set c2 (n - 1) (leading c.args.statement next then next)) (c.args.statement.now ∷ []) next n) (sym place_is) named in
    let each = length-set c2 (place - 1) (leading c.args.statement next then next) in
    let lies = laid_loop old c2 body.more c.args.statement c.in-While.field-0 c.in-While.body next then c.in-While.is body.grown put.laid in
    let laid = subst (λ n. IsLaid (set c2 (n - 1) (leading c.args.statement next then next)) (length old) (c.args.statement.now ∷ []) next n) (sym place_is)
    (subst (λ x. IsLaid (set c2 (length (old ++ before ∷ []) - 1) (leading c.args.statement next then next)) (length old) (x ∷ []) next (length (old
    ++ before ∷ []))) (sym c.in-While.is) lies) in
    let size = ap (λ x. statements_in_statement (statement_of x)) c.in-While.is ∙ in_loop c.in-While.field-0 c.in-While.body in
    subst (λ x. IsPut old (set c2 (place - 1) x) (c.args.statement.now ∷ []) next place) (sym written)
    record { grown = placed; each = omega (arith, each, put.each, length-append old (before ∷ []), size); laid = laid }

pub put_statement-returns-in_default : goal.put_statement-returns-in_default
put_statement-returns-in_default t c =
    let code = c.args.code.now.items in
    let next = c.args.next in
    let i = leading c.args.statement next next next in
    let items = rw c.straight-in_default.ensures at c.put-in_default.ensures.items in
    put_one c.put-in_default.result code code c.put-in_default.new.code.items i c.args.statement.now next c.put-in_default.ensures.place items
    (grown_straight code i c.args.statement.now next refl refl refl refl c.requires c.in_default.not-If c.in_default.not-While)
    (omega (arith, in_straight c.args.statement.now c.in_default.not-If c.in_default.not-While))
    (laid_straight code c.args.statement next c.in_default.not-If c.in_default.not-While)

pub put_block-returns-in_err-place : goal.put_block-returns-in_err-place
put_block-returns-in_err-place t c = IfOk-from_err c.from_residual.result _ c.from_residual.ensures.0

pub put_statement-returns-in_err-then-in-If : goal.put_statement-returns-in_err-then-in-If
put_statement-returns-in_err-then-in-If t c = IfOk-from_err c.from_residual.result _ c.from_residual.ensures.0

pub put_statement-returns-in_err-otherwise-in-If : goal.put_statement-returns-in_err-otherwise-in-If
put_statement-returns-in_err-otherwise-in-If t c = IfOk-from_err c.from_residual-in_err-otherwise-in-If.result _ c.from_residual-in_err-otherwise-in-If.ensures.0

pub put_statement-returns-in_err-place-in-While : goal.put_statement-returns-in_err-place-in-While
put_statement-returns-in_err-place-in-While t c = IfOk-from_err c.from_residual-in_err-place-in-While.result _ c.from_residual-in_err-place-in-While.ensures.0

pub put_statement-returns-in_err-then-in-While : goal.put_statement-returns-in_err-then-in-While
put_statement-returns-in_err-then-in-While t c = IfOk-from_err c.from_residual-in_err-then-in-While.result _ c.from_residual-in_err-then-in-While.ensures.0
