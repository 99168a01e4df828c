-- The exact memory by a local rule: what each act makes of its node's copy of the memory and of what the node knows.
use Rattle.std.specs.Prelude.{◌≡◌, ℕ, zero, suc, ◌+◌, ◌/◌, ◌==◌, ◌&&◌, ◌||◌, Bool, false}
use Rattle.std.specs.Prelude.{List, Option, Some, None, unwrap_or, nat_le, nat_lt, if◌then◌else◌}
use Rattle.lrc_trace.specs.declared.act.Act.{Act}
use Rattle.lrc_trace.specs.declared.act.Deed.{Deed}
use Rattle.lrc_trace.specs.declared.act.Deed.TheVariants.{Read, Write, Release, Arrive}
use Rattle.lrc_trace.specs.Run.{Does}
use Rattle.lrc_time.specs.Time.{zeros, entry, joined, weight_of}
use Rattle.lrc_clock.specs.Times.{raised}
use Rattle.lrc_exact.specs.LocalRule.{LocalRule, KeepsStates, state_before}
use Rattle.lrc_exact.specs.Memory.{Rank, Word, replaces, Interval}

-- so many nodes, the size of a page in words, and how many intervals that are held make a barrier collect; 0 where none does
pub record Shape : Type 0 where
  pub nodes : ℕ
  pub size : ℕ
  pub collect : ℕ

-- What is known: of each node how many of its intervals, and of each of these what it did.
pub record Knowledge : Type 0 where
  pub time : List ℕ
  pub interval : ℕ → ℕ → Interval

-- The state of a node between its acts:
pub record State : Type 0 where
  -- its words,
  pub words : ℕ → Word
  -- of each word that its open interval wrote the value just before the first write, and the pages that the interval wrote,
  pub before : ℕ → Option ℕ
  pub written : ℕ → Bool
  -- what it knows, of each node so many intervals that were dropped,
  pub knows : Knowledge
  pub dropped : List ℕ
  -- and the pages that are named by an interval that it learned since it last accessed the page, and that was not dropped.
  pub stale : ℕ → Bool

-- nobody did anything
abbrev pub no_interval : Interval
no_interval = record { weight = 0; changed = λ word. None; names = λ page. false }

abbrev pub nothing_known : ℕ → Knowledge
nothing_known nodes = record { time = zeros nodes; interval = λ node index. no_interval }

abbrev pub state_at_start : ℕ → State
state_at_start nodes =
    record {
      words = λ word. record { value = 0; mark = None };
      before = λ word. None;
      written = λ page. false;
      knows = nothing_known nodes;
      dropped = zeros nodes;
      stale = λ page. false;
    }

-- ---- accesses

abbrev pub page_of : Shape → ℕ → ℕ
page_of shape word = word / shape.size

-- a look at a page takes the marks off its words
abbrev pub accessed : Shape → ℕ → State → State
accessed shape page state =
    record state {
      words = λ word. if page_of shape word == page then record (state.words word) { mark = None } else state.words word;
      stale = λ other. if other == page then false else state.stale other;
    }

-- a write of a word sets its value, and keeps that before the first write in the interval
abbrev pub with_write : Shape → ℕ → ℕ → State → State
with_write shape written value state =
    record state {
      words = λ word. if word == written then record { value = value; mark = None } else state.words word;
      before = λ word. if word == written then Some (unwrap_or (state.before word) (state.words word).value) else state.before word;
      written = λ page. (page == page_of shape written) || state.written page;
    }

-- ---- intervals

-- the change of a word: its value now, if that is another than before the first write
abbrev pub change_of : Option ℕ → ℕ → Option ℕ
change_of None now = None
change_of (Some before) now = if before == now then None else Some now

-- what the open interval did; its weight is one more than the number of intervals known
abbrev pub open_interval : State → Interval
open_interval state =
    record {
      weight = weight_of state.knows.time + 1;
      changed = λ word. change_of (state.before word) (state.words word).value;
      names = state.written;
    }

-- what is known, and one more interval of the node
abbrev pub with_interval : ℕ → Interval → Knowledge → Knowledge
with_interval node interval knows =
    record {
      time = raised knows.time node;
      interval = λ other index. if other == node && index == entry knows.time node + 1 then interval else knows.interval other index;
    }

-- the node closes its interval
abbrev pub closed : ℕ → State → State
closed node state =
    record state {
      before = λ word. None;
      written = λ page. false;
      knows = with_interval node (open_interval state) state.knows;
    }

-- ---- learning

-- what two know together
abbrev pub known_together : Knowledge → Knowledge → Knowledge
known_together mine yours =
    record {
      time = joined mine.time yours.time;
      interval = λ node index. if nat_le index (entry mine.time node) then mine.interval node index else yours.interval node index;
    }

-- a change takes the place of what a word has, where its rank is higher than the word's mark, or the word has none
abbrev pub with_change : Rank → Option ℕ → Word → Word
with_change rank None word = word
with_change rank (Some value) word = if replaces rank word.mark then record { value = value; mark = Some rank } else word

-- a word with the changes of a node's intervals above the first index, up to the last
abbrev pub with_changes_of : (node : ℕ) (intervals : ℕ → Interval) (word first last : ℕ) → Word → Word
with_changes_of node intervals word first zero had = had
with_changes_of node intervals word first (suc last) had =
    let earlier = with_changes_of node intervals word first last had in
    if nat_le first last
    then with_change (record { weight = (intervals (suc last)).weight; node = node }) ((intervals (suc last)).changed word) earlier
    else earlier

-- a word with the changes of all nodes' intervals that are news to one who knows so many
abbrev pub with_news : (nodes : ℕ) (had : List ℕ) (news : Knowledge) (word : ℕ) → Word → Word
with_news zero had news word now = now
with_news (suc node) had news word now =
    with_changes_of node (news.interval node) word (entry had node) (entry news.time node) (with_news node had news word now)

-- whether one of a node's intervals above the first index, up to the last, names the page
abbrev pub names_between : (intervals : ℕ → Interval) (page first last : ℕ) → Bool
names_between intervals page first zero = false
names_between intervals page first (suc last) =
    (nat_le first last && (intervals (suc last)).names page) || names_between intervals page first last

-- whether one of the news names the page
abbrev pub is_named : (nodes : ℕ) (had : List ℕ) (news : Knowledge) (page : ℕ) → Bool
is_named zero had news page = false
is_named (suc node) had news page =
    names_between (news.interval node) page (entry had node) (entry news.time node) || is_named node had news page

-- the node learns what is news to it
abbrev pub with_learned : ℕ → Knowledge → State → State
with_learned nodes news state =
    record state {
      words = λ word. with_news nodes state.knows.time news word (state.words word);
      knows = known_together state.knows news;
      stale = λ page. state.stale page || is_named nodes state.knows.time news page;
    }

-- an acquire closes an interval, and learns what was known at the lock's last release
abbrev pub acquired : ℕ → ℕ → State → Option State → State
acquired nodes node state None = closed node state
acquired nodes node state (Some released) = with_learned nodes released.knows (closed node state)

-- ---- barriers

-- what one more arrive adds
abbrev pub with_arrived : Option State → Knowledge → Knowledge
with_arrived None knows = knows
with_arrived (Some arrived) knows = known_together knows arrived.knows

-- what was known at the arrives of the first so many nodes
abbrev pub known_by_all : (nodes width : ℕ) → (ℕ → Option State) → Knowledge
known_by_all zero width arrived = nothing_known width
known_by_all (suc node) width arrived = with_arrived (arrived node) (known_by_all node width arrived)

-- whether one who arrives holds as many intervals as make a barrier collect, those dropped left out
abbrev pub asks : ℕ → Option State → Bool
asks collect None = false
asks collect (Some arrived) = nat_le (collect + weight_of arrived.dropped) (weight_of arrived.knows.time)

-- whether one of the first so many nodes does
abbrev pub some_asks : (nodes collect : ℕ) → (ℕ → Option State) → Bool
some_asks zero collect arrived = false
some_asks (suc node) collect arrived = asks collect (arrived node) || some_asks node collect arrived

abbrev pub collects : Shape → (ℕ → Option State) → Bool
collects shape arrived = nat_le 1 shape.collect && some_asks shape.nodes shape.collect arrived

-- whether one of the node's intervals that are known, and that were not dropped, names the page
abbrev pub is_writer : (dropped : List ℕ) (all : Knowledge) (page node : ℕ) → Bool
is_writer dropped all page node = names_between (all.interval node) page (entry dropped node) (entry all.time node)

-- the lowest of the first so many nodes that has such an interval; the number of nodes where none has
abbrev pub keeper_of : (nodes : ℕ) (dropped : List ℕ) (all : Knowledge) (page : ℕ) → ℕ
keeper_of zero dropped all page = 0
keeper_of (suc node) dropped all page =
    let lower = keeper_of node dropped all page in
    if nat_lt lower node then lower else (if is_writer dropped all page node then node else (suc node))

-- what the keeper has of a word, once it has learned what was known to all
abbrev pub kept_value : (nodes : ℕ) (all : Knowledge) → Option State → ℕ → ℕ
kept_value nodes all None word = 0
kept_value nodes all (Some keeper) word = (with_news nodes keeper.knows.time all word (keeper.words word)).value

-- at a barrier that collects, the node's stale pages become those of their keepers, and what was known is dropped
abbrev pub collected : Shape → Knowledge → (ℕ → Option State) → State → State
collected shape all arrived state =
    record state {
      words = λ word.
          if state.stale (page_of shape word)
          then record {
            value = kept_value shape.nodes all (arrived (keeper_of shape.nodes state.dropped all (page_of shape word))) word;
            mark = None;
          }
          else state.words word;
      dropped = all.time;
      stale = λ page. false;
    }

-- a depart learns what was known at all arrives, and goes along with a collection
abbrev pub departed : Shape → State → (ℕ → Option State) → State
departed shape state arrived =
    let all = known_by_all shape.nodes shape.nodes arrived in
    let learned = with_learned shape.nodes all state in
    if collects shape arrived then collected shape all arrived learned else learned

-- ---- the rule

-- what a deed makes of its node's state alone
abbrev pub done_alone : Shape → ℕ → Deed → State → State
done_alone shape node (Read word value) state = accessed shape (page_of shape word) state
done_alone shape node (Write word value) state = with_write shape word value (accessed shape (page_of shape word) state)
done_alone shape node (Release l) state = closed node state
done_alone shape node Arrive state = closed node state
done_alone shape node deed state = state

abbrev pub exact_rule : Shape → LocalRule State
exact_rule shape =
    record {
      start = λ node. state_at_start shape.nodes;
      acquire = acquired shape.nodes;
      depart = λ node. departed shape;
      alone = done_alone shape;
    }

-- the states are those of the exact memory at the run's positions
abbrev pub KeepsExact : Shape → List Act → List State → Type 0
KeepsExact shape run states = KeepsStates (exact_rule shape) shape.nodes run states

-- the value that the exact memory has of a word for a node before position j
abbrev pub exact_value : Shape → List Act → List State → ℕ → ℕ → ℕ → ℕ
exact_value shape run states node j word = ((state_before (exact_rule shape) run states node j).words word).value

-- Acts read exactly: each read gives the value that the exact memory has for its node.
pub record ReadsExactly (shape : Shape) (run : List Act) : Type 0 where
  pub states : List State
  pub keeps : KeepsExact shape run states
  pub reads : (j node word value : ℕ) → Does run j node (Read word value) → value ≡ exact_value shape run states node j word
