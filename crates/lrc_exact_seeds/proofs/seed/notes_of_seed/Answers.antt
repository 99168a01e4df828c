use Rattle.std.proofs.Common.{List, subst, sym}
use Rattle.std.specs.Prelude.{Option, Vec, option_map}
use Rattle.std.specs.declared.alloc.Global.{Global}
use Rattle.std.proofs.lemmas.Result.{IfOk-weaker}
use Rattle.lrc_trace.specs.declared.act.Act.{Act}
use Rattle.lrc_lazy.specs.Lazy.{IsLazyRun}
use Rattle.lrc_node.specs.Options.{options_of}
use Rattle.lrc_world.specs.declared.keep.Keep.TheVariants.{Newest}
use Rattle.lrc_exact_seeds.specs.Seeds.{AreNotesIfOver}
use Rattle.lrc_exact_seeds.proofs.Seeded.{all_of_run, is_lazy, none_of_worn}
use Rattle.lrc_exact_seeds.proofs.seed.notes_of_seed.Goals as goal

pub notes_if_over-requires-clause-run : goal.notes_if_over-requires-clause-run
notes_if_over-requires-clause-run c =
    let program = c.args.program.now in
    let lazy = is_lazy program c.args.setting.now.nodes.count (options_of c.args.setting.now) c.args.seed Newest c.in-Ok.run' c.in-Ok.ensures.run in
    subst (λ n. IsLazyRun program n c.deref.result.now) (sym c.number.ensures)
    (subst (IsLazyRun program c.args.setting.now.nodes.count) (sym c.deref.ensures.value) lazy)

pub returns-in-Ok : goal.returns-in-Ok
returns-in-Ok c =
    let program = c.args.program.now in
    let count = c.args.setting.now.nodes.count in
    let options = options_of c.args.setting.now in
    let items : Option (Vec Act Global) → Option (List Act) = λ o. option_map (λ (a : Vec Act Global). a.items) o in
    IfOk-weaker c.notes_if_over.result _ _
    (λ notes is.
    all_of_run program count options c.args.seed Newest c.in-Ok.run' c.in-Ok.ensures.run (items notes)
    (subst (λ acts. AreNotesIfOver program count acts (items notes)) c.deref.ensures.value
    (subst (λ n. AreNotesIfOver program n c.deref.result.now (items notes)) c.number.ensures is)))
    c.notes_if_over.ensures

pub returns-in-Err-Worn : goal.returns-in-Err-Worn
returns-in-Err-Worn c =
    none_of_worn c.args.program.now c.args.setting.now.nodes.count (options_of c.args.setting.now) c.args.seed
    (rw c.in-Err-Worn.field-0-is at c.in-Err-Worn.ensures.fault)
