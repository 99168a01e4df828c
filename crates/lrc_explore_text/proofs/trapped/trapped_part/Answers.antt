use Rattle.std.proofs.Common.{◌≡◌, ◌∙◌, ℕ, ap}
use Rattle.std.specs.Prelude.{None, Vec}
use Rattle.std.specs.declared.alloc.Global.{Global}
use Rattle.std.proofs.lemmas.Result.{IfOk-weaker}
use Rattle.lrc_program.specs.declared.Program.{Program}
use Rattle.lrc_explain_waits.specs.Traps.{traps_told, wording_of}
use Rattle.lrc_explain_waits.specs.Stand.{stands_of}
use Rattle.lrc_explore_text.specs.Trapped.{trapped_lines, trapped_text}
use Rattle.lrc_explore_text.proofs.trapped.trapped_part.Goals as goal

pub returns : goal.returns
returns c =
    let wording = wording_of c.args.wording.now in
    let nodes = c.args.nodes in
    let lines = c.args.lines.now in
    let acts = c.args.acts.now in
    let told = λ (p : Program). trapped_lines wording.labels (traps_told wording.traps p nodes acts) (stands_of p nodes lines None acts) in
    let is = ap told c.in_ok-code.ensures in
    IfOk-weaker c.trapped_after.result (λ (text : Vec ℕ Global). text.items ≡ told c.in_ok-code.code)
    (λ text. text.items ≡ trapped_text wording c.args.program.now nodes lines acts) (λ text e. e ∙ is) c.trapped_after.ensures
