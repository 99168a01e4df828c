-- One variable more is missed, or not, and all.
use Rattle.std.proofs.Common.{◌≡◌, ◌+◌, List, true, length, sym, subst, arith}
use Rattle.std.proofs.lemmas.Option.{slice_get-get_or}
use Rattle.lrc_races_missed.specs.declared.variables.Racing.{Racing}
use Rattle.lrc_races_missed.proofs.VariableLemmas.{GivenFree, free_more, free_none, free_passed, variable_key_of, variables_are}
use Rattle.lrc_races_missed.proofs.variables.missed_variables.Goals as goal

pub loop-racing-init : goal.loop-racing-init
loop-racing-init c = λ ascending. free_none variable_key_of c.args.keys.now.keys c.args.all.now _ c.new-missed.ensures.items

pub loop-racing-preserved-then-is_among : goal.loop-racing-preserved-then-is_among
loop-racing-preserved-then-is_among c = λ ascending.
    let all = c.args.all.now in
    let n = c.loop-racing.racing-index in
    free_passed variable_key_of c.args.keys.now.keys all ascending n _ (slice_get-get_or all n _ c.loop-racing-test.true) (c.is_among.ensures.0 c.if-is_among.true)
    c.loop-racing.missed.items (c.loop-racing.invariant ascending)

pub loop-racing-preserved : goal.loop-racing-preserved
loop-racing-preserved c = λ ascending.
    let all = c.args.all.now in
    let n = c.loop-racing.racing-index in
    subst (λ (missed : List Racing). GivenFree variable_key_of c.args.keys.now.keys all (n + 1) missed) (sym c.in_ok-push.ensures.items)
    (free_more variable_key_of c.args.keys.now.keys all ascending n _ (slice_get-get_or all n _ c.loop-racing-test.true)
    (λ has. let set : c.is_among.result ≡ true = c.is_among.ensures.1 has in let unset = c.if-is_among.false in let never : ⊥ = cc in never)
    c.loop-racing.missed.items (c.loop-racing.invariant ascending))

pub returns : goal.returns
returns c =
    let done : c.loop-racing.racing-index ≡ length c.args.all.now = omega arith in
    λ sought naming events claims places are numbered are_keys.
    variables_are sought naming events claims places c.args.keys.now.keys c.args.all.now c.loop-racing.missed.items are numbered are_keys
    c.loop-racing.racing-index done (c.loop-racing.invariant are.ascending)
