-- A node's state as an object of JSON.
use Rattle.std.specs.Prelude.{ℕ, List, ◌++◌, codes, length, map}
use Rattle.lrc_protocol.specs.Node.{Mail, Node}
use Rattle.lrc_state_text.specs.Json.{numbers_text}
use Rattle.lrc_state_text.specs.Place.{Named, place_members}
use Rattle.lrc_state_text.specs.Waits.{clock_members, wait_members}
use Rattle.lrc_state_text.specs.Tokens.{locks_member}
use Rattle.lrc_state_text.specs.Manager.{barrier_members}
use Rattle.lrc_state_text.specs.Copies.{pages_member}
use Rattle.lrc_state_text.specs.Intervals.{intervals_member, intervals_text, StoredInterval}

-- how many messages the node has sent to each node, and taken from each, repeats not counted
abbrev pub taken_counts : Mail → List ℕ
taken_counts mail = map (λ numbers. length numbers) mail.taken

abbrev pub mail_members : Mail → List ℕ
mail_members mail = codes ",\"sent\":" ++ numbers_text mail.sent ++ codes ",\"taken\":" ++ numbers_text (taken_counts mail)

-- how far the node has come: its time, its wait, and its place in the text
abbrev pub course_members : Node → (line : ℕ) → List Named → List ℕ
course_members node line names = clock_members node ++ wait_members node ++ place_members line names

-- what it has of locks and barriers
abbrev pub control_members : Node → List ℕ
control_members node = locks_member node.locks node.setting.locks ++ barrier_members node.barrier

-- the time of the last collection
unfoldable pub collected_member : (time : List ℕ) → List ℕ
collected_member time = codes ",\"collected\":" ++ numbers_text time

-- what it knows of the shared memory; of the intervals those are shown that were not known before
abbrev pub memory_members : Node → (known : List StoredInterval) → List ℕ
memory_members node known =
    pages_member node.options.size node.memory ++ intervals_member node.options.size node.memory known
    ++ collected_member node.memory.collected

-- the same, of the intervals these
abbrev pub memory_with : Node → (shown : List StoredInterval) → List ℕ
memory_with node shown =
    pages_member node.options.size node.memory ++ intervals_text node.options.size shown ++ collected_member node.memory.collected

-- the state of a node whose next statement is in this line, with its private names whose value is not 0
abbrev pub state_text : Node → (line : ℕ) → List Named → (known : List StoredInterval) → List ℕ
state_text node line names known =
    codes "{" ++ course_members node line names ++ control_members node ++ memory_members node known
    ++ mail_members node.mail ++ codes "}"

-- the same, with these intervals
abbrev pub state_with : Node → (line : ℕ) → List Named → (shown : List StoredInterval) → List ℕ
state_with node line names shown =
    codes "{" ++ course_members node line names ++ control_members node ++ memory_with node shown
    ++ mail_members node.mail ++ codes "}"
