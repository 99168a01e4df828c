use Rattle.std.proofs.Common.{ℕ, map, ap, sym, ◌∙◌}
use Rattle.std.proofs.lemmas.List.{map_more, take_all}
use Rattle.std.proofs.lemmas.Result.{IfOk-from_err}
use Rattle.lrc_store.specs.declared.key.Key.{Key}
use Rattle.lrc_store.proofs.store.keys_of.Goals as goal

pub returns-in_err-keys : goal.returns-in_err-keys
returns-in_err-keys c = IfOk-from_err _ _ c.from_residual.ensures.0

pub loop-key-init : goal.loop-key-init
loop-key-init c = c.in_ok-keys.ensures.items

pub returns-in_err-push : goal.returns-in_err-push
returns-in_err-push c = IfOk-from_err _ _ c.from_residual-in_err-push.ensures.0

pub loop-key-preserved : goal.loop-key-preserved
loop-key-preserved c =
    rw (c.in_ok-push.ensures.items, c.loop-key.invariant)
    (sym (map_more (λ (pair : ℕ × Key). pair.1) c.args.found.now c.loop-key.key-index _ c.loop-key-test.true))

pub returns : goal.returns
returns c =
    c.loop-key.invariant
    ∙ ap (map (λ (pair : ℕ × Key). pair.1)) (take_all c.loop-key.key-index c.args.found.now c.loop-key-test.false)
