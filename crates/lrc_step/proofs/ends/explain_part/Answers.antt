use Rattle.std.proofs.Common.{◌≡◌, ◌∙◌, ◌++◌, ℕ, List, Some, Vec, ap, ap₂, map, subst}
use Rattle.std.specs.declared.alloc.Global.{Global}
use Rattle.lrc_program.specs.declared.Program.{Program}
use Rattle.lrc_explain_waits.specs.declared.stand.Stand.{Stand}
use Rattle.lrc_explain_waits.specs.Circles.{waits_of}
use Rattle.lrc_explain_waits.specs.Followed.{AreFollowed}
use Rattle.lrc_explain_waits.specs.Stand.{stands_of}
use Rattle.lrc_step.specs.EndLines.{circles_of, ends_of, explain_line}
use Rattle.lrc_step.specs.Lines.{lines_in}
use Rattle.lrc_step.specs.declared.end_lines.End.{End}
use Rattle.lrc_step.proofs.ends.explain_part.Goals as goal

abbrev nodes_of : Vec ℕ Global → List ℕ
nodes_of circle = circle.items

pub returns : goal.returns
returns c =
    let program = c.args.source.now.program in
    let nodes = c.args.nodes in
    let lines = c.args.source.now.lines in
    let acts = c.args.acts.now in
    let printed : List (List ℕ) = lines_in c.args.printed.now in
    let followed = c.in_ok-followed.followed in
    let made : AreFollowed c.code.result.now nodes c.lines.result.now acts followed = record {
      lines_are = c.in_ok-followed.ensures.lines;
      walks_are = c.in_ok-followed.ensures.walks;
      end_is = c.in_ok-followed.ensures.end;
    } in
    let are : AreFollowed program nodes lines acts followed =
    subst (λ (p : Program). AreFollowed p nodes lines acts followed) c.code.ensures
    (subst (λ (l : List ℕ). AreFollowed c.code.result.now nodes l acts followed) c.lines.ensures.lines made) in
    let stands : List Stand = stands_of program nodes lines (Some c.args.steps) acts in
    let stands_are : c.in_ok-stands.stands.items ≡ stands = c.in_ok-stands.ensures program lines are in
    let waits_are : c.in_ok-waits.waits.items ≡ waits_of stands = c.in_ok-waits.ensures ∙ ap waits_of (c.deref.ensures.value ∙ stands_are) in
    let ends_are : c.in_ok-ends.ends.items ≡ ends_of acts stands =
    c.in_ok-ends.ensures ∙ ap (ends_of acts) (c.deref-2.ensures.value ∙ stands_are) in
    let circles_are : map nodes_of c.in_ok-circles.circles.items ≡ circles_of (waits_of stands) =
    c.in_ok-circles.ensures ∙ ap circles_of (c.deref-3.ensures.value ∙ waits_are) in
    record {
      lines = lines;
      are_lines = c.lines.ensures.text;
      whole = c.in_ok-push_explain_line.ensures
          ∙ ap (λ (l : List ℕ). l ++ explain_line printed c.deref-4.result.now (map nodes_of c.deref-5.result.now)) c.new-line.ensures.items
          ∙ ap₂ (λ (e : List End) (w : List (List ℕ)). explain_line printed e w) (c.deref-4.ensures.value ∙ ends_are)
          (ap (map nodes_of) c.deref-5.ensures.value ∙ circles_are);
    }
