use Rattle.std.proofs.Common.{◌∙◌, ◌++◌, List, [], ℕ, ap, map, subst}
use Rattle.lrc_trace.specs.declared.act.Act.{Act}
use Rattle.lrc_exec.specs.Meaning.{Thread}
use Rattle.lrc_why_run.specs.Private.{private_text}
use Rattle.lrc_private_names.specs.Standing.{AreLastSets, thread_before}
use Rattle.lrc_private_names.specs.Ways.{thread_of}
use Rattle.lrc_why_run.proofs.run.private_part.Goals as goal

pub push_private-requires : goal.push_private-requires
push_private-requires c = (c.in_ok-way.ensures []).on

pub returns : goal.returns
returns c lines =
    let program = c.args.code.now in
    let nodes = c.args.nodes in
    let shown = c.args.shown in
    let acts = shown.acts.now in
    let position = c.args.position in
    let names = map (λ name. name.now) c.args.names.now in
    let way = c.in_ok-way.way in
    let lasts = way.set.items in
    let act = c.act_at-act.result in
    let to = c.in_ok-way.ensures lines in
    record {
      lasts = lasts;
      last = subst (λ (a : Act). AreLastSets program nodes lines acts a.node position lasts) c.act_at-act.ensures to.lasts;
      whole = c.in_ok-push_private.ensures
          ∙ ap (λ (l : List ℕ). l ++ private_text shown names (thread_of way) lasts act.deed) c.new-text.ensures.items
          ∙ ap (λ (t : Thread). private_text shown names t lasts act.deed) to.thread
          ∙ ap (λ (a : Act). private_text shown names (thread_before program nodes lines acts a.node position) lasts a.deed) c.act_at-act.ensures;
    }
