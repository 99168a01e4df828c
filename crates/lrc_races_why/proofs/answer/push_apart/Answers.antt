-- By the chain that is told, or by none.
use Rattle.std.proofs.Common.{◌<◌, length, sym, subst, arith}
use Rattle.std.proofs.lemmas.Option.{slice_get-get_or}
use Rattle.lrc_races_trace.specs.Order.{Precedes}
use Rattle.lrc_chains.specs.Chains.{IsChain}
use Rattle.lrc_races_text.specs.Tables.{naming_of}
use Rattle.lrc_races_why.proofs.Answering.{match_some, match_none, ordered_added}
use Rattle.lrc_races_why.proofs.answer.push_apart.Goals as goal

pub push_steps-requires : goal.push_steps-requires
push_steps-requires c =
    let told = match_some _ _ c.in_ok-told.told c.in-Some.chain c.in-Some.is c.in_ok-told.ensures in
    (c.args.earlier, c.args.later, subst (λ chain. IsChain (Precedes c.args.events.now) c.args.earlier c.args.later chain) (sym c.as_slice.ensures.value) told.is_chain)

pub returns-in_ok-push_steps-in-Some : goal.returns-in_ok-push_steps-in-Some
returns-in_ok-push_steps-in-Some c = λ a b at there apart.
    let events = c.args.events.now in
    let lt : c.args.earlier < length events = omega (arith, c.requires.order, c.requires.within) in
    let told = match_some _ _ c.in_ok-told.told c.in-Some.chain c.in-Some.is c.in_ok-told.ensures in
    ordered_added c.args.form (naming_of c.args.names.now) events c.args.lines.now c.args.earlier c.args.later a b at there _ _
    (record { is = slice_get-get_or events c.args.earlier _ lt }) (record { is = slice_get-get_or events c.args.later _ c.requires.within })
    apart c.in-Some.chain.items c.as_slice.result.now told c.as_slice.ensures.value c.args.text.now.items _ _ c.in_ok-push_order-in-Some.ensures
    c.in_ok-push_steps-in-Some.ensures

pub returns-in_ok-push_unordered-in-None : goal.returns-in_ok-push_unordered-in-None
returns-in_ok-push_unordered-in-None c = λ a b at there apart.
    c.in_ok-push_unordered-in-None.ensures a b c.args.lines.now at there apart (match_none _ _ c.in_ok-told.told c.in-None.is c.in_ok-told.ensures)
