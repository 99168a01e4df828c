use Rattle.std.proofs.Common.{◌≡◌, ◌∙◌, ◌<◌, ◌≤◌, ◌+◌, ◌++◌, [], ℕ, List, ap, ap₂, map, sym, subst, arith, get_or, length, Bor}
use Rattle.std.specs.Prelude.{option_map, slice_index, slice_index_or}
use Rattle.std.proofs.lemmas.List.{take_all}
use Rattle.std.proofs.lemmas.Option.{get_or_from_slice_get}
use Rattle.std.proofs.lemmas.Result.{IfOk-from_err}
use Rattle.lrc_trace.specs.declared.act.Act.{Act}
use Rattle.lrc_trace.specs.declared.act.Deed.TheVariants.{Quiet}
use Rattle.lrc_trace.specs.Interval.{closes, interval_at}
use Rattle.lrc_labels.specs.Reading.{label_seen}
use Rattle.lrc_text.specs.Each.{each}
use Rattle.lrc_timeline.specs.Timeline.{times_in}
use Rattle.lrc_acts_text.specs.Json.{json_line}
use Rattle.lrc_acts_text.specs.Tally.{tallied}
use Rattle.lrc_text.proofs.Each.{each_more}
use Rattle.lrc_acts_text.proofs.Tallies.{Tallies, tallies_next, tallies_none, tally_is, tally_small}
use Rattle.lrc_acts_text.proofs.json.json_part.Goals as goal

abbrev no_act : Act
no_act = record { node = 0; deed = Quiet }

pub loop-position-init : goal.loop-position-init
loop-position-init c = record { lines = c.new-text.ensures.items; closed = tallies_none closes c.args.acts.now c.new-closes.result.counts c.new-closes.ensures }

pub overflow_add-place : goal.overflow_add-place
overflow_add-place c =
    let small = tally_small closes c.args.acts.now c.loop-position.position no_act c.loop-position-test.true c.loop-position.closes.counts c.of.ensures.in_range
    c.loop-position.invariant.closed in
    omega (arith, small, c.of.ensures.value)

pub note-requires : goal.note-requires
note-requires c =
    let small = tally_small closes c.args.acts.now c.loop-position.position no_act c.loop-position-test.true c.loop-position.closes.counts c.of.ensures.in_range
    c.loop-position.invariant.closed in
    omega (arith, small)

pub loop-position-preserved : goal.loop-position-preserved
loop-position-preserved c =
    let labels = map label_seen c.args.labels.now in
    let acts = c.args.acts.now in
    let times = times_in c.args.times.now in
    let n = c.loop-position.position in
    let act = get_or acts n no_act in
    let within : n < length acts = c.loop-position-test.true in
    let closed = c.loop-position.invariant.closed in
    let counts = c.loop-position.closes.counts in
    let of : ℕ → Act → List ℕ =
    λ position act. json_line labels position act (slice_index c.args.lines.now position) (interval_at acts act.node position) (slice_index_or times position []) in
    let interval : 1 + c.of.result ≡ interval_at acts act.node n =
    ap (λ m. 1 + m) (c.of.ensures.value ∙ tally_is closes acts n no_act within counts c.of.ensures.in_range closed) in
    let there = sym c.at.ensures ∙ ap (option_map (λ (t : Bor (List ℕ)). t.now)) c.unwrap-time.ensures in
    let time = sym (get_or_from_slice_get times n c.unwrap-time.result.now [] there) in
    let counts_is = c.note.ensures ∙ ap (tallied counts act.node) c.closes_interval.ensures in
    record {
      lines = c.in_ok-push_json_line.ensures
          ∙ ap₂ ◌++◌ c.loop-position.invariant.lines
          (ap₂ (λ (i : ℕ) (t : List ℕ). json_line labels n act (slice_index c.args.lines.now n) i t) interval time)
          ∙ sym (each_more of acts n no_act within);
      closed = subst (λ (l : List ℕ). Tallies closes acts (n + 1) l) (sym counts_is)
          (tallies_next closes acts n no_act within counts c.of.ensures.in_range closed);
    }

pub returns : goal.returns
returns c =
    let labels = map label_seen c.args.labels.now in
    let acts = c.args.acts.now in
    let all : length acts ≤ c.loop-position.position = c.loop-position-test.false in
    let of : ℕ → Act → List ℕ =
    λ position act. json_line labels position act (slice_index c.args.lines.now position) (interval_at acts act.node position)
    (slice_index_or (times_in c.args.times.now) position []) in
    c.loop-position.invariant.lines ∙ ap (each of) (take_all c.loop-position.position acts all)

pub returns-in_err-push_json_line : goal.returns-in_err-push_json_line
returns-in_err-push_json_line c = IfOk-from_err c.from_residual.result _ c.from_residual.ensures.0
