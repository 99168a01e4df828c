-- A node that is reached can begin what its text asks for.
use Rattle.std.proofs.Common.{◌≡◌, ℕ, ◌<◌, Bool, true, false, refl, ap, subst}
use Rattle.std.specs.Prelude.{Option, Some, None, option_map, if◌then◌else◌}
use Rattle.std.proofs.lemmas.Option.{same_Some}
use Rattle.lrc_exec.specs.declared.machine.Ask.{Ask}
use Rattle.lrc_exec.specs.Ask.{ask_of}
use Rattle.lrc_exec.specs.Meaning.{Setting, Thread, Next, quiet, prints, reads, writes, acquires, releases, arrives, departs, traps, ends}
use Rattle.lrc_exec.proofs.NextLaws.{IsFine, next_of-fine}
use Rattle.lrc_protocol.specs.Node.{Course, going, trapped, ended, Wait, nothing, grant, departure, access, upkeep, discard, is_idle, Node}
use Rattle.lrc_protocol.specs.Turn.{begins_of}
use Rattle.lrc_order_laws.specs.Waiting.{acquiring}
use Rattle.lrc_protocol.specs.Node.{next_in}
use Rattle.lrc_node_laws.specs.Reached.{IsReached}
use Rattle.lrc_node_laws.proofs.Tokened.{acquired-in_place, released-in_place, held_here, away}
use Rattle.lrc_node_laws.proofs.Always.{text_at, own_next, early_at}
use Rattle.lrc_node.specs.Effects.{CanBegin, CanRun}
use Rattle.lrc_node.proofs.Effects.{begins_asked}

-- a word that the text accesses next is one of the memory's
pub read_within : (node : Node) → IsReached node → (course : Course) (word : ℕ) (after : ℕ → Thread) → node.course ≡ course
    → next_in course ≡ Some (reads word after) → word < node.setting.words
read_within node r (going thread) word after at e =
    let fine : IsFine thread (reads word after) = subst (IsFine thread) (same_Some _ _ e) (next_of-fine thread) in
    subst (λ (s : Setting). word < s.words) (text_at node r thread at).0 fine.0
read_within node r (trapped cause) word after at e = cc
read_within node r ended word after at e = cc

pub write_within : (node : Node) → IsReached node → (course : Course) (word value : ℕ) (after : Thread) → node.course ≡ course
    → next_in course ≡ Some (writes word value after) → word < node.setting.words
write_within node r (going thread) word value after at e =
    let fine : IsFine thread (writes word value after) = subst (IsFine thread) (same_Some _ _ e) (next_of-fine thread) in
    subst (λ (s : Setting). word < s.words) (text_at node r thread at).0 fine.0
write_within node r (trapped cause) word value after at e = cc
write_within node r ended word value after at e = cc

by_next : (node : Node) → IsReached node → node.mail.wait ≡ nothing → (next : Next) → next_in node.course ≡ Some next → CanBegin node (ask_of next)
by_next node r w (quiet after) at = tt
by_next node r w (prints value after) at = tt
by_next node r w (reads word after) at = read_within node r node.course word after refl at
by_next node r w (writes word value after) at = write_within node r node.course word value after refl at
by_next node r w (acquires lock after) at =
    ((own_next node r).1, acquired-in_place node r lock (ap acquiring at), λ f. away node r lock w (ap acquiring at) f)
by_next node r w (releases lock after) at = ((own_next node r).1, released-in_place node r lock after at, held_here node r lock after at)
by_next node r w (arrives after) at = ((own_next node r).1, early_at node r)
by_next node r w (departs after) at = ((own_next node r).1, early_at node r)
by_next node r w (traps cause) at = tt
by_next node r w ends at = tt

by_asked : (node : Node) → IsReached node → node.mail.wait ≡ nothing → (ask : Ask) (o : Option Next) → next_in node.course ≡ o
    → option_map ask_of o ≡ Some ask → CanBegin node ask
by_asked node r w ask None at e = cc
by_asked node r w ask (Some next) at e = subst (CanBegin node) (same_Some _ _ e) (by_next node r w next at)

idle_is : (wait : Wait) → is_idle wait ≡ true → wait ≡ nothing
idle_is nothing e = refl
idle_is (grant lock) e = cc
idle_is departure e = cc
idle_is (access need) e = cc
idle_is (upkeep collection needs) e = cc
idle_is (discard collection) e = cc

idle_if : (node : Node) (ask : Ask) (idle : Bool) → option_map ask_of (if idle then begins_of node.left node.course else None) ≡ Some ask → idle ≡ true
idle_if node ask true e = refl
idle_if node ask false e = cc

-- a node that is reached can begin what its text asks for
pub can_run : (node : Node) → IsReached node → CanRun node
can_run node r = λ ask e.
    by_asked node r (idle_is node.mail.wait (idle_if node ask (is_idle node.mail.wait) e)) ask (next_in node.course) refl (begins_asked node ask e)
