-- What a node waits for.
use Rattle.std.specs.Prelude.{ℕ, ◌+◌, Bool, true, false, List, ◌++◌, codes, decimal, is_some}
use Rattle.lrc_text.specs.ActText.{cause_number}
use Rattle.lrc_trace.specs.declared.end.End.{End}
use Rattle.lrc_trace.specs.declared.end.End.TheVariants.{Ended, Trapped, Unfinished}
use Rattle.lrc_control.specs.Text.{end_of}
use Rattle.lrc_protocol.specs.Node.{access, departure, discard, grant, Node, needs_of, nothing, own_index, upkeep, Wait}
use Rattle.lrc_protocol.specs.Pages.{Need}
use Rattle.lrc_protocol.specs.Turn.{begins_of}
use Rattle.lrc_state_text.specs.Json.{listed, numbers_text}
use Rattle.lrc_state_text.specs.Needs.{need_text}

-- of a node that goes on, whether it may begin what comes next: else its steps are used up
unfoldable pub going_text : (may_begin : Bool) → List ℕ
going_text true = codes "no"
going_text false = codes "steps used up"

-- a node that awaits nothing: it goes on, has trapped, or has ended
unfoldable pub standing_text : End → (may_begin : Bool) → List ℕ
standing_text Unfinished may_begin = going_text may_begin
standing_text (Trapped cause) may_begin = codes "trapped " ++ decimal (cause_number cause)
standing_text Ended may_begin = codes "ended"

-- with how the node's text ended, whether it may begin what comes next, and how often the node has arrived
unfoldable pub wait_text : End → (may_begin : Bool) → (episode : ℕ) → Wait → List ℕ
wait_text end may_begin episode nothing = standing_text end may_begin
wait_text end may_begin episode (grant awaited) = codes "grant " ++ decimal awaited
wait_text end may_begin episode departure = codes "depart " ++ decimal episode
wait_text end may_begin episode (access need) = codes "page " ++ decimal need.page
wait_text end may_begin episode (upkeep collection needs) = codes "upkeep " ++ decimal episode
wait_text end may_begin episode (discard collection) = codes "discard " ++ decimal episode

abbrev pub waits_text : Node → List ℕ
waits_text node =
    wait_text (end_of node.course) (is_some (begins_of node.left node.course)) node.barrier.episode node.mail.wait

-- the node's time, its open interval, what it waits for, and what is needed then
abbrev pub clock_members : Node → List ℕ
clock_members node = codes "\"time\":" ++ numbers_text node.locks.time ++ codes ",\"open\":" ++ decimal (own_index node + 1)

unfoldable pub waits_member : Node → List ℕ
waits_member node = codes ",\"waits\":\"" ++ waits_text node

unfoldable pub needs_member : List Need → List ℕ
needs_member needs = codes "\",\"needs\":[" ++ listed need_text needs ++ codes "]"

abbrev pub wait_members : Node → List ℕ
wait_members node = waits_member node ++ needs_member (needs_of node.mail.wait)
