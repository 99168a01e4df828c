use Rattle.std.proofs.Common.{◌++◌, codes}
use Rattle.lrc_text.proofs.Fronts.{ends_ok, grown_by}
use Rattle.lrc_states.specs.Members.{flying_list, waits_list}
use Rattle.lrc_states.proofs.player.Player.push_flying_and_waits.Goals as goal

pub returns : goal.returns
returns c world is =
    let old = c.args.line.now.items in
    let flying = flying_list world in
    let waits = waits_list world in
    let first = c.in_ok-extend_from_slice.ensures.items in
    let second = grown_by old (codes ",\"flying\":[") flying first (c.in_ok-push_flying.ensures world is) in
    let third = grown_by old (codes ",\"flying\":[" ++ flying) (codes "],\"stand\":[") second c.in_ok-extend_from_slice-2.ensures.items in
    let fourth = grown_by old (codes ",\"flying\":[" ++ flying ++ codes "],\"stand\":[") waits third (c.in_ok-push_waits.ensures world is) in
    ends_ok c.extend_from_slice-3.result old (codes ",\"flying\":[" ++ flying ++ codes "],\"stand\":[" ++ waits) (codes "]") fourth
    c.extend_from_slice-3.ensures.items
