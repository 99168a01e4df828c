use Rattle.std.proofs.Common.{◌≡◌, ◌++◌, ℕ, List, Vec, codes, map}
use Rattle.std.specs.declared.alloc.Global.{Global}
use Rattle.lrc_text.proofs.Pushed.{and_then, slice_ok}
use Rattle.lrc_step.specs.EndLines.{circles_text, ends_text}
use Rattle.lrc_step.specs.Lines.{lines_in, quoted_each}
use Rattle.lrc_step.proofs.end_lines.push_explain_line.Goals as goal

abbrev nodes_of : Vec ℕ Global → List ℕ
nodes_of circle = circle.items

pub returns : goal.returns
returns c =
    let old : List ℕ = c.args.text.now.items in
    let printed : List ℕ = quoted_each (lines_in c.args.printed.now) in
    let ends : List ℕ = ends_text c.args.ends.now in
    let circles : List ℕ = circles_text (map nodes_of c.args.circles.now) in
    let first : List ℕ = c.extend_from_slice.new.self.items in
    let second : List ℕ = c.push_printed.new.text.items in
    let third : List ℕ = c.extend_from_slice-2.new.self.items in
    let fourth : List ℕ = c.push_ends.new.text.items in
    let fifth : List ℕ = c.extend_from_slice-3.new.self.items in
    let sixth : List ℕ = c.push_circles.new.text.items in
    let words_first : List ℕ = codes "{\"explain\":[" in
    let words_second : List ℕ = words_first ++ printed in
    let words_third : List ℕ = words_second ++ codes "],\"ends\":[" in
    let words_fourth : List ℕ = words_third ++ ends in
    let words_fifth : List ℕ = words_fourth ++ codes "],\"deadlocks\":[" in
    let words_sixth : List ℕ = words_fifth ++ circles in
    let second_is : second ≡ old ++ words_second =
    and_then old words_first first second c.in_ok-extend_from_slice.ensures.items printed c.in_ok-push_printed.ensures in
    let third_is : third ≡ old ++ words_third =
    and_then old words_second second third second_is (codes "],\"ends\":[") c.in_ok-extend_from_slice-2.ensures.items in
    let fourth_is : fourth ≡ old ++ words_fourth = and_then old words_third third fourth third_is ends c.in_ok-push_ends.ensures in
    let fifth_is : fifth ≡ old ++ words_fifth =
    and_then old words_fourth fourth fifth fourth_is (codes "],\"deadlocks\":[") c.in_ok-extend_from_slice-3.ensures.items in
    let sixth_is : sixth ≡ old ++ words_sixth = and_then old words_fifth fifth sixth fifth_is circles c.in_ok-push_circles.ensures in
    slice_ok old words_sixth sixth c.extend_from_slice-4.new.self.items sixth_is c.extend_from_slice-4.result (codes "]}\n")
    c.extend_from_slice-4.ensures.items
