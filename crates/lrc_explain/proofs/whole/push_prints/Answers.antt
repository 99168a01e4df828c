use Rattle.std.proofs.Common.{◌∙◌, ◌++◌, ap, sym, get_or, take}
use Rattle.std.specs.List.{flat_map}
use Rattle.std.proofs.lemmas.List.{flat_map_more, take_more}
use Rattle.lrc_trace.specs.declared.act.Act.{Act}
use Rattle.lrc_trace.specs.declared.act.Deed.TheVariants.{Quiet}
use Rattle.lrc_explain.specs.Explain.{print_of}
use Rattle.lrc_explain.proofs.whole.push_prints.Goals as goal

abbrev no_act : Act
no_act = record { node = 0; deed = Quiet }

pub loop-act-preserved : goal.loop-act-preserved
loop-act-preserved c =
    let node = c.args.node in
    let acts = c.args.acts.now in
    let i = c.loop-act.act-index in
    let here = get_or acts i no_act in
    let text = c.args.text.now.items in
    c.in_ok-push_print_of.ensures ∙ ap (λ l. l ++ print_of node here) c.loop-act.invariant
    ∙ flat_map_more (print_of node) text (take i acts) here
    ∙ ap (λ l. text ++ flat_map (print_of node) l) (sym (take_more acts i no_act c.loop-act-test.true))
