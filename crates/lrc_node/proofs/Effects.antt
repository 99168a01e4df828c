-- What a turn does, by what the text asks for.
use Rattle.std.proofs.Common.{◌≡◌, ℕ, ◌-◌, Bool, true, false, List, ◌⊎◌, inl, inr, refl, sym, ◌∙◌, ap, subst}
use Rattle.std.proofs.lemmas.Option.{same_Some}
use Rattle.std.specs.Prelude.{Option, Some, None, nat_le, option_map, if◌then◌else◌}
use Rattle.lrc_exec.specs.declared.machine.Ask.{Ask}
use Rattle.lrc_exec.specs.declared.machine.Ask.TheVariants.{Quiet as Ask_Quiet, Print as Ask_Print, Read as Ask_Read, Write as Ask_Write}
use Rattle.lrc_exec.specs.declared.machine.Ask.TheVariants.{Acquire as Ask_Acquire, Release as Ask_Release, Barrier as Ask_Barrier, Trap as Ask_Trap}
use Rattle.lrc_exec.specs.declared.machine.Ask.TheVariants.{End as Ask_End}
use Rattle.lrc_envelope.specs.Envelope.{EnvelopeRecord}
use Rattle.lrc_exec.specs.Ask.{ask_of}
use Rattle.lrc_exec.specs.Meaning.{Thread, Next, quiet, prints, reads, writes, acquires, releases, arrives, departs, traps, ends, next_of}
use Rattle.lrc_protocol.specs.Node.{Course, going, trapped, ended, is_idle, Node, Effect, acts}
use Rattle.lrc_protocol.specs.Turn.{begins_of, begins, may_begin, run_effect, charged, run_turn, turn_by, turn_or, turn_of, turn_with}
use Rattle.lrc_protocol.specs.Turn.{Outcome, not_ready, worn}
use Rattle.lrc_control.specs.Text.{asked_in, cost_to_begin}
use Rattle.lrc_node.specs.Effects.{effect_asked, begun_node, turn_asked}
use Rattle.lrc_node.specs.Effects.{CanBegin, RefusesRun, too_large, without_memory}
use Rattle.lrc_node.specs.declared.fault.NodeFault.{NodeFault}
use Rattle.lrc_node.specs.declared.fault.NodeFault.TheVariants.{Worn, NoMemory}

-- ---- what is begun

-- no departure
NotDeparting : Option Next → Type 0
NotDeparting None = Unit {0}
NotDeparting (Some (quiet after)) = Unit {0}
NotDeparting (Some (prints value after)) = Unit {0}
NotDeparting (Some (reads word after)) = Unit {0}
NotDeparting (Some (writes word value after)) = Unit {0}
NotDeparting (Some (acquires lock after)) = Unit {0}
NotDeparting (Some (releases lock after)) = Unit {0}
NotDeparting (Some (arrives after)) = Unit {0}
NotDeparting (Some (departs after)) = ⊥
NotDeparting (Some (traps cause)) = Unit {0}
NotDeparting (Some ends) = Unit {0}

either : (next : Next) → NotDeparting (Some next) → (b : Bool) → NotDeparting (if b then Some next else None)
unfolding NotDeparting
either next h true = h
either next h false = tt

begins_no_departure : (left : ℕ) (next : Next) → NotDeparting (if may_begin left next then Some next else None)
unfolding NotDeparting
begins_no_departure left (quiet after) = either (quiet after) tt (nat_le 1 left)
begins_no_departure left (prints value after) = either (prints value after) tt (nat_le 1 left)
begins_no_departure left (reads word after) = either (reads word after) tt (nat_le 1 left)
begins_no_departure left (writes word value after) = either (writes word value after) tt (nat_le 1 left)
begins_no_departure left (acquires lock after) = either (acquires lock after) tt (nat_le 1 left)
begins_no_departure left (releases lock after) = either (releases lock after) tt (nat_le 1 left)
begins_no_departure left (arrives after) = either (arrives after) tt (nat_le 1 left)
begins_no_departure left (departs after) = tt
begins_no_departure left (traps cause) = either (traps cause) tt (nat_le 1 left)
begins_no_departure left ends = either ends tt (nat_le 0 left)

begun_no_departure : (left : ℕ) (course : Course) → NotDeparting (begins_of left course)
unfolding NotDeparting
begun_no_departure left (going thread) = begins_no_departure left (next_of thread)
begun_no_departure left (trapped cause) = tt
begun_no_departure left ended = tt

by_next : (node : Node) (next : Next) → NotDeparting (Some next) → run_effect node next ≡ effect_asked node (ask_of next)
unfolding NotDeparting
by_next node (quiet after) h = refl
by_next node (prints value after) h = refl
by_next node (reads word after) h = refl
by_next node (writes word value after) h = refl
by_next node (acquires lock after) h = refl
by_next node (releases lock after) h = refl
by_next node (arrives after) h = refl
by_next node (departs after) h = absurd h
by_next node (traps cause) h = refl
by_next node ends h = refl

by_begun : (node : Node) (o : Option Next) (ask : Ask) → NotDeparting o → option_map ask_of o ≡ Some ask
    → turn_by node o ≡ turn_or worn (effect_asked (record node { left = node.left - cost_to_begin o }) ask)
unfolding NotDeparting
by_begun node None ask h e = cc
by_begun node (Some next) ask h e =
    ap (turn_or worn) (by_next (charged node next) next h ∙ ap (effect_asked (charged node next)) (same_Some _ _ e))

none_begun : (node : Node) (o : Option Next) → option_map ask_of o ≡ None → turn_by node o ≡ not_ready
none_begun node None e = refl
none_begun node (Some next) e = cc

idle_no_departure : (node : Node) (idle : Bool) → NotDeparting (if idle then begins_of node.left node.course else None)
unfolding NotDeparting
idle_no_departure node true = begun_no_departure node.left node.course
idle_no_departure node false = tt

-- the turn of a node by what it begins
pub run_asked : (node : Node) (ask : Ask) → option_map ask_of (begins node) ≡ Some ask → run_turn node ≡ turn_asked (begun_node node) ask
run_asked node ask e = by_begun node (begins node) ask (idle_no_departure node (is_idle node.mail.wait)) e

pub run_none : (node : Node) → option_map ask_of (begins node) ≡ None → run_turn node ≡ not_ready
run_none node e = none_begun node (begins node) e

-- ---- what it asks for is what its text asks for

asked_may : (thread : Thread) (b : Bool) (ask : Ask) → option_map ask_of (if b then Some (next_of thread) else None) ≡ Some ask
    → asked_in (going thread) ≡ Some ask
asked_may thread true ask e = e
asked_may thread false ask e = cc

asked_on : (left : ℕ) (course : Course) (ask : Ask) → option_map ask_of (begins_of left course) ≡ Some ask → asked_in course ≡ Some ask
asked_on left (going thread) ask e = asked_may thread (may_begin left (next_of thread)) ask e
asked_on left (trapped cause) ask e = e
asked_on left ended ask e = e

asked_if : (node : Node) (idle : Bool) (ask : Ask) → option_map ask_of (if idle then begins_of node.left node.course else None) ≡ Some ask
    → asked_in node.course ≡ Some ask
asked_if node true ask e = asked_on node.left node.course ask e
asked_if node false ask e = cc

pub begins_asked : (node : Node) (ask : Ask) → option_map ask_of (begins node) ≡ Some ask → asked_in node.course ≡ Some ask
begins_asked node ask e = asked_if node (is_idle node.mail.wait) ask e

-- what a node begins is what its text begins
begun_if : (node : Node) (idle : Bool) (ask : Ask) → option_map ask_of (if idle then begins_of node.left node.course else None) ≡ Some ask
    → (if idle then begins_of node.left node.course else None) ≡ begins_of node.left node.course
begun_if node true ask e = refl
begun_if node false ask e = cc

pub begun_text : (node : Node) (ask : Ask) → option_map ask_of (begins node) ≡ Some ask → begins node ≡ begins_of node.left node.course
begun_text node ask e = begun_if node (is_idle node.mail.wait) ask e

-- ---- turns

numbered_not_ready : (effect : Effect) (sent : Option (List EnvelopeRecord × List ℕ)) → turn_with effect sent ≡ not_ready → ⊥
numbered_not_ready effect None e = cc
numbered_not_ready effect (Some (envelopes, sent)) e = cc

turn_not_ready : (o : Option Effect) → turn_or worn o ≡ not_ready → ⊥
turn_not_ready None e = cc
turn_not_ready (Some effect) e = numbered_not_ready effect _ e

-- a node that begins something is ready
pub begun_ready : (node : Node) (ask : Ask) → option_map ask_of (begins node) ≡ Some ask → run_turn node ≡ not_ready → ⊥
begun_ready node ask e r = turn_not_ready (effect_asked (begun_node node) ask) (sym (run_asked node ask e) ∙ r)

-- to count the step changes nothing else
pub can_begun : (node : Node) (ask : Ask) → CanBegin node ask → CanBegin (begun_node node) ask
can_begun node Ask_Quiet h = h
can_begun node (Ask_Print value) h = h
can_begun node (Ask_Read word) h = h
can_begun node (Ask_Write word value) h = h
can_begun node (Ask_Acquire lock) h = h
can_begun node (Ask_Release lock) h = h
can_begun node Ask_Barrier h = h
can_begun node (Ask_Trap cause) h = h
can_begun node Ask_End h = h

-- why it doesn't go on, by what would come of what it begins
pub refuses_begun : (o : Option Effect) (fault : NodeFault) → (fault ≡ Worn × o ≡ None) ⊎ (fault ≡ NoMemory) → RefusesRun (turn_or worn o) fault
refuses_begun o fault (inl (f, none)) =
    subst (λ g. RefusesRun (turn_or worn o) g) (sym f) (subst (λ t. RefusesRun t Worn) (sym (ap (turn_or worn) none)) too_large)
refuses_begun o fault (inr f) = subst (λ g. RefusesRun (turn_or worn o) g) (sym f) without_memory

pub refuses_sent : (outcome : Outcome) (effect : Effect) (fault : NodeFault) → outcome ≡ turn_of effect
    → (fault ≡ Worn × turn_of effect ≡ worn) ⊎ (fault ≡ NoMemory) → RefusesRun outcome fault
refuses_sent outcome effect fault e (inl (f, is)) =
    subst (λ g. RefusesRun outcome g) (sym f) (subst (λ t. RefusesRun t Worn) (sym (e ∙ is)) too_large)
refuses_sent outcome effect fault e (inr f) = subst (λ g. RefusesRun outcome g) (sym f) without_memory
