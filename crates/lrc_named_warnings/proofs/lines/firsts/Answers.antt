use Rattle.std.proofs.Common.{ℕ, ◌∙◌, ◌++◌, [], ap, map, sym, take}
use Rattle.std.proofs.lemmas.List.{take-map}
use Rattle.lrc_lint_warned.proofs.Known.{each_all, each_grown}
use Rattle.lrc_named_warnings.specs.Lines.{Line, unless_told}
use Rattle.lrc_named_warnings.specs.Seen.{line_seen}
use Rattle.lrc_named_warnings.proofs.lines.firsts.Goals as goal

pub loop-i-preserved : goal.loop-i-preserved
loop-i-preserved c =
    let all = map line_seen c.args.lines.now in
    let x = c.index-lines-i.result in
    each_grown (λ (i : ℕ) (line : Line). unless_told (take i all) line) line_seen c.args.lines.now c.loop-i.i x [] (map (λ line. line_seen line.now) c.loop-i.told.items)
    (map (λ line. line_seen line.now) c.put_unless_told.new.told.items) c.loop-i-test.true c.index-lines-i.is c.loop-i.invariant
    (c.in_ok-put_unless_told.ensures
    ∙ ap (λ l. map (λ line. line_seen line.now) c.loop-i.told.items ++ unless_told l (line_seen x)) (sym (take-map line_seen c.loop-i.i c.args.lines.now)))

pub returns : goal.returns
returns c =
    each_all (λ (i : ℕ) (line : Line). unless_told (take i (map line_seen c.args.lines.now)) line) line_seen c.args.lines.now c.loop-i.i []
    (map (λ line. line_seen line.now) c.loop-i.told.items) c.loop-i-test.false c.loop-i.invariant
