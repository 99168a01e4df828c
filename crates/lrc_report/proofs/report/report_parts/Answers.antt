use Rattle.std.proofs.Common.{◌≡◌, ◌∙◌, ◌<◌, ℕ, [], ◌++◌, length, get_or, sym, ap, arith, append-nil, below_more, set, zero-add}
use Rattle.std.specs.List.{flat_map}
use Rattle.lrc_trace.specs.declared.act.Act.{Act}
use Rattle.lrc_trace.specs.declared.act.Deed.TheVariants.{Quiet}
use Rattle.lrc_trace.specs.declared.end.End.TheVariants.{Ended}
use Rattle.lrc_text.specs.Parts.{texts_of}
use Rattle.lrc_report.specs.ReportText.{end_words, line_of_act, line_on, node_text}
use Rattle.lrc_report.proofs.TextLemmas.{lines_more, part_at, part_kept, part_set, print_here, print_nowhere, quiet_line, whole_is}
use Rattle.lrc_report.proofs.report.report_parts.Goals as goal
use Rattle.lrc_report.proofs.report.report_parts.Goals.{in-Print+then-node-ends+in_ok-push_print, in-Print+else-node-ends, in_default}

abbrev no_act : Act
no_act = record { node = 0; deed = Quiet }

pub loop-act-preserved : goal.loop-act-preserved
loop-act-preserved c =
    let acts = c.args.acts.now in
    let i = c.loop-act.act-index in
    let act = get_or acts i no_act in
    let parts = c.loop-act.parts.items in
    let more = λ (k : ℕ) (h : k < length c.args.ends.now).
    ap (λ l. l ++ line_of_act k act) (c.loop-act.invariant.prints k h) ∙ sym (lines_more k acts i no_act c.loop-act-test.true) in
    let same = λ (k : ℕ) (h : k < length c.args.ends.now) (none : line_of_act k act ≡ []).
    sym (append-nil (get_or (texts_of parts) k [])) ∙ ap (λ l. get_or (texts_of parts) k [] ++ l) (sym none) ∙ more k h in
    record {
      many = elim c.match-act.branch [
        | in-Print+then-node-ends+in_ok-push_print w ↦ ap (λ v. v.len) w.parts-is ∙ c.loop-act.invariant.many
        | in-Print+else-node-ends w ↦ ap (λ v. v.len) w.parts-is ∙ c.loop-act.invariant.many
        | in_default w ↦ ap (λ v. v.len) w.parts-is ∙ c.loop-act.invariant.many
      ];
      prints = λ k h. elim c.match-act.branch [
        | in-Print+then-node-ends+in_ok-push_print w ↦
            ap (λ v. get_or (texts_of v.items) k []) w.parts-is
            ∙ print_here parts act k w.from-node.result w.in-Print.value w.push_print.new.text w.index_mut.result.now w.from-node.ensures w.in-Print.is
            (omega (arith, c.loop-act.parts.ok.0, w.if-node-ends.true, c.loop-act.invariant.many)) w.index_mut.ensures.value w.in_ok-push_print.ensures
            ∙ more k h
        | in-Print+else-node-ends w ↦
            ap (λ v. get_or (texts_of v.items) k []) w.parts-is
            ∙ same k h (print_nowhere act k (length c.args.ends.now) (omega (arith, w.if-node-ends.false, w.from-node.ensures)) h)
        | in_default w ↦
            ap (λ v. get_or (texts_of v.items) k []) w.parts-is
            ∙ same k h (quiet_line act k w.in_default.not-Print)
      ];
    }

pub loop-node-preserved : goal.loop-node-preserved
loop-node-preserved c =
    let acts = c.args.acts.now in
    let ends = c.args.ends.now in
    let node = c.loop-node.node in
    let parts = c.loop-node.parts.items in
    let part = c.push_end.new.text in
    let old = c.index_mut-in-loop-node.result.now in
    let here : node < length parts = omega (arith, c.loop-node.parts.ok.0, c.loop-node.invariant.many, c.loop-node-test.true) in
    let printed : old.items ≡ flat_map (line_of_act node) acts =
    sym (part_at parts node old here c.index_mut-in-loop-node.ensures.value) ∙ c.loop-node.invariant.printed node (omega arith) c.loop-node-test.true in
    record {
      many = c.loop-node.invariant.many;
      ended = below_more (λ k. get_or (texts_of (set parts node part)) k [] ≡ node_text acts k (get_or ends k Ended)) node
          (λ k lt. part_kept parts node k part (omega arith) ∙ c.loop-node.invariant.ended k lt)
          (part_set parts node part here ∙ c.in_ok-push_end.ensures ∙ ap (λ l. l ++ line_on node (end_words (get_or ends node Ended))) printed);
      printed = λ k low high. part_kept parts node k part (omega arith) ∙ c.loop-node.invariant.printed k (omega arith) high;
    }

pub returns : goal.returns
returns c =
    whole_is c.args.acts.now 0 c.loop-node.parts.items c.args.ends.now Ended (sym c.loop-node.parts.ok.0 ∙ c.loop-node.invariant.many)
    (λ k lt. c.loop-node.invariant.ended k (omega arith) ∙ ap (λ n. node_text c.args.acts.now n (get_or c.args.ends.now k Ended)) (sym (zero-add k)))
