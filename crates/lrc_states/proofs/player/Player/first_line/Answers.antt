use Rattle.std.proofs.Common.{codes, map}
use Rattle.lrc_labels.specs.Reading.{label_seen}
use Rattle.lrc_states.specs.Members.{first_members}
use Rattle.lrc_states.specs.Objects.{labels_list}
use Rattle.lrc_states.specs.States.{flight_list, setting_members, states_list, written_list}
use Rattle.lrc_states.proofs.Showing.{add_text}
use Rattle.lrc_states.proofs.player.Player.first_line.Goals as goal

pub returns : goal.returns
returns c plan world turns is =
    let setting = setting_members plan c.args.size in
    let labels = labels_list (map label_seen c.args.labels.now) in
    let flight = flight_list world in
    let states = states_list plan world in
    let written = written_list plan world in
    let w1 = add_text _ setting c.new-line.ensures.items (c.in_ok-push_setting.ensures plan world turns is) in
    let w2 = add_text _ (codes ",\"labels\":[") w1 c.in_ok-extend_from_slice.ensures.items in
    let w3 = add_text _ labels w2 c.in_ok-push_labels.ensures in
    let w4 = add_text _ (codes "],\"flight\":[") w3 c.in_ok-extend_from_slice-2.ensures.items in
    let w5 = add_text _ flight w4 (c.in_ok-push_flight.ensures plan world turns is) in
    let w6 = add_text _ (codes "],\"states\":[") w5 c.in_ok-extend_from_slice-3.ensures.items in
    let w7 = add_text _ states w6 (c.in_ok-push_states.ensures plan world turns is) in
    let w8 = add_text _ (codes "],\"written\":[") w7 c.in_ok-extend_from_slice-4.ensures.items in
    let w9 = add_text _ written w8 (c.in_ok-push_written.ensures plan world turns is) in
    let w10 = add_text _ (codes "]") w9 c.in_ok-extend_from_slice-5.ensures.items in
    let w11 = add_text _ (first_members c.args.telling world) w10 (c.in_ok-push_first_members.ensures world is.replay) in
    add_text _ (codes "}\n") w11 c.in_ok-extend_from_slice-6.ensures.items
