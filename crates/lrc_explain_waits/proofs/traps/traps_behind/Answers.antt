use Rattle.std.proofs.Common.{◌≡◌, ◌∙◌, List, ℕ, ap, map, subst}
use Rattle.lrc_lines.specs.Statements.{numbers_of}
use Rattle.lrc_explain_waits.specs.Followed.{AreFollowed}
use Rattle.lrc_explain_waits.proofs.traps.traps_behind.Goals as goal

pub returns : goal.returns
returns c =
    let program = c.args.code.now in
    let nodes = c.args.nodes in
    let acts = c.args.acts.now in
    let followed = c.in_ok-followed.followed in
    let are : AreFollowed program nodes c.deref.result.now acts followed = record {
      lines_are = c.in_ok-followed.ensures.lines;
      walks_are = c.in_ok-followed.ensures.walks;
      end_is = c.in_ok-followed.ensures.end;
    } in
    c.found_at.ensures program acts
    (subst (λ (l : List ℕ). AreFollowed program nodes l acts followed) (c.deref.ensures.value ∙ c.in_ok-numbers.ensures) are)
