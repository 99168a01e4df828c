use Rattle.std.proofs.Common.{◌∙◌, sym, ap}
use Rattle.std.specs.Prelude.{Option, Vec, option_map}
use Rattle.std.specs.declared.alloc.Global.{Global}
use Rattle.lrc_trace.specs.declared.act.Act.{Act}
use Rattle.lrc_explore_text.proofs.Led.{in_range}
use Rattle.lrc_explore_text.proofs.orders.acts_of.Goals as goal

pub returns-clause-in_range : goal.returns-clause-in_range
returns-clause-in_range c =
    in_range c.args.program.now c.args.nodes c.args.order.now c.in-Some.acts.items c.requires.nodes
    (sym c.in_ok-acts.ensures ∙ ap (λ (o : Option (Vec Act Global)). option_map (λ (a : Vec Act Global). a.items) o) c.in-Some.is)
