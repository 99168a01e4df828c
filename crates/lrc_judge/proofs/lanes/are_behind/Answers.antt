-- The entry before the index tells it of all.
use Rattle.std.proofs.Common.{◌≡◌, ◌+◌, ◌-◌, sym, subst, ◌∙◌, arith}
use Rattle.std.specs.Prelude.{true}
use Rattle.std.specs.List.{AllWithin}
use Rattle.lrc_judge.specs.declared.lanes.Entry.{Entry}
use Rattle.lrc_judge.specs.Lanes.{is_behind}
use Rattle.lrc_judge.proofs.Searching.{behind_before}
use Rattle.lrc_judge.proofs.lanes.are_behind.Goals as goal

abbrev nothing : Entry
nothing = record { lane = record { word = 0; value = 0; node = 0 }; position = 0 }

pub returns-else-end-eq0 : goal.returns-else-end-eq0
returns-else-end-eq0 c =
    let entries = c.args.entries.now in
    let order = c.args.order.now in
    let end = c.args.end in
    let within = c.requires.end in
    let some = c.if-end-eq0.false in
    let next : end - 1 + 1 ≡ end = omega arith in (
      λ yes'. subst (λ n. AllWithin (λ e. is_behind order c.args.lane c.args.position e ≡ true) entries 0 n) next
          (behind_before entries order c.requires.searchable c.args.lane c.args.position (end - 1) nothing (omega arith)
          (sym c.is_behind.ensures ∙ yes')),
      λ all. c.is_behind.ensures ∙ all (end - 1) nothing (omega arith) (omega arith),
    )
