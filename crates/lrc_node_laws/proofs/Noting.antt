-- Each access of a node that is reached may be noted of its trace: while an interval is open its time stands still, and later
-- intervals are larger.
use Rattle.std.proofs.Common.{◌≡◌, ℕ, ◌+◌, ◌<◌, ◌≤◌, inl, List, [], ◌∷◌, ◌++◌, Bool, true, false, length, refl, sym, ap, subst, ◌∙◌, ⊎_elim, arith}
use Rattle.std.specs.Prelude.{Option, Some, None, option_map, fold}
use Rattle.std.specs.Option.{ForSome}
use Rattle.lrc_program.specs.declared.Program.{Program}
use Rattle.lrc_trace.specs.declared.act.Act.{Act}
use Rattle.lrc_trace.specs.declared.act.Deed.{Deed}
use Rattle.lrc_trace.specs.declared.act.Deed.TheVariants.{Quiet, Print, Read, Write, Acquire, Release, Arrive, Depart, Trap, End}
use Rattle.lrc_trace.specs.declared.trace.Segment.{Segment}
use Rattle.lrc_trace.specs.Trace.{TraceRecord, MayNote, last_segment}
use Rattle.lrc_trace.proofs.SegmentLists.{noted-again}
use Rattle.lrc_page.specs.Place.{page_of, offset_of}
use Rattle.lrc_time.specs.Time.{entry, joined}
use Rattle.lrc_time.proofs.Times.{entry-set_same, entry-joined, entry-zeros}
use Rattle.lrc_exec.specs.Meaning.{Setting, Next, quiet, prints, reads, writes, acquires, releases, arrives, departs, traps, ends, next_of}
use Rattle.lrc_protocol.specs.Times.{next_time}
use Rattle.lrc_protocol.specs.Locks.{Locks}
use Rattle.lrc_protocol.specs.Node.{Course, going, trapped, ended, deed_of, Wait, nothing, grant, departure, access, upkeep, discard, Node}
use Rattle.lrc_protocol.specs.Node.{OptionsRecord, fresh_node, own_index}
use Rattle.lrc_protocol.specs.Turn.{TurnRecord, Outcome, done, not_ready, unexpected, worn}
use Rattle.lrc_protocol.specs.Run.{Input, outcome_of}
use Rattle.lrc_protocol.specs.Follows.{local_step}
use Rattle.lrc_protocol.specs.Follows.{local_after}
use Rattle.lrc_protocol.specs.Follows.{Local}
use Rattle.lrc_protocol.specs.Traced.{Traced, untraced, traced, traced_by, traced_step, with_access_by, with_deed, with_act}
use Rattle.lrc_protocol.proofs.Ruled.{by_rule}
use Rattle.lrc_protocol.proofs.Traces.{traced_node, traced_more}
use Rattle.lrc_protocol.proofs.Turned.{Turned, Turns, turns}
use Rattle.lrc_protocol.specs.Node.{next_in}
use Rattle.lrc_order_laws.proofs.Shift.{Part, part_of, Moved, deed_in, deed_made, Learnable, Shift, Shifted, ShiftedIf, shifts, plain}
use Rattle.lrc_order_laws.proofs.Shift.{misses, takes, asks, releasing, arriving, manages, forwarding, grants, departing, collecting}
use Rattle.lrc_order_laws.proofs.Shift.{clean_at_once, discarding, accessing, still_misses, still_collects, cleaning, rests}
use Rattle.lrc_order_laws.proofs.Counts.{deed_next}
use Rattle.lrc_node_laws.specs.Reached.{LeadsTo, IsReached}
use Rattle.lrc_node_laws.specs.Traced.{IsTraced, CanNoteDeed, CanNoteAct}
use Rattle.lrc_node_laws.proofs.Acted.{Known}
use Rattle.lrc_node_laws.proofs.Always.{known_at, ranged_at}
use Rattle.lrc_node_laws.proofs.Leads.{at_start, local_more, one_more}
use Rattle.lrc_node_laws.proofs.Steps.{accesses, spent, turn-spends}
use Rattle.lrc_node_laws.proofs.Words.{InWords, next-in_words}

-- ---- the open interval

-- Who waits for a grant or is inside a barrier has closed its interval: the trace has only intervals up to that one. Else an
-- access in the open interval may be noted.
abbrev pub MayNoteIn : Wait → List Segment → ℕ → ℕ → List ℕ → Type 0
MayNoteIn nothing segments episode own next = MayNote segments episode (own + 1) next
MayNoteIn (access need) segments episode own next = MayNote segments episode (own + 1) next
MayNoteIn _ segments episode own next = ForSome (last_segment segments) (λ s. s.interval < own + 1)

abbrev pub FitsIn : ℕ → List Segment → Wait → Locks → ℕ → Type 0
FitsIn me segments wait locks episode = MayNoteIn wait segments episode (entry locks.time me) (next_time me locks.time)

-- the last interval is at most the open one
at_most : (segments : List Segment) (w : Wait) (episode own : ℕ) (next : List ℕ) → MayNoteIn w segments episode own next
    → ForSome (last_segment segments) (λ s. s.interval < own + 2)
at_most segments nothing episode own next h s is = ⊎_elim (λ less. omega (arith, less)) (λ same. omega (arith, same.0)) (h s is)
at_most segments (access need) episode own next h s is = ⊎_elim (λ less. omega (arith, less)) (λ same. omega (arith, same.0)) (h s is)
at_most segments (grant lock) episode own next h s is = omega (arith, h s is)
at_most segments departure episode own next h s is = omega (arith, h s is)
at_most segments (upkeep collection needs) episode own next h s is = omega (arith, h s is)
at_most segments (discard collection) episode own next h s is = omega (arith, h s is)

-- each turn that makes no access leaves it so
module _ (p : Part) (segments : List Segment) (within : p.me < length p.locks.time)
    (h : FitsIn p.me segments p.wait p.locks p.episode) where
  now : (w : Wait) → p.wait ≡ w → FitsIn p.me segments w p.locks p.episode
  now w e = subst (λ w. FitsIn p.me segments w p.locks p.episode) e h

  ticked : entry (next_time p.me p.locks.time) p.me ≡ entry p.locks.time p.me + 1
  ticked = entry-set_same p.locks.time p.me (entry p.locks.time p.me + 1) within

  older : ForSome (last_segment segments) (λ s. s.interval < entry (next_time p.me p.locks.time) p.me + 1)
  older s is = omega (arith, at_most segments p.wait p.episode (entry p.locks.time p.me) (next_time p.me p.locks.time) h s is, ticked)

  known : (time : List ℕ) → Learnable p time → entry (joined p.locks.time time) p.me ≡ entry p.locks.time p.me
  known time k = omega (arith, entry-joined p.locks.time time p.me, k.own)

  pub shift-fits : (acts : Bool) (wait : Wait) (locks : Locks) (episode : ℕ) → Shift p acts wait locks episode → FitsIn p.me segments wait locks episode
  shift-fits _ _ _ _ (plain next w n is) = now nothing w
  shift-fits _ _ _ _ (misses w n) = now nothing w
  shift-fits _ _ _ _ (takes lock w n free) = λ s is. inl (older s is)
  shift-fits _ _ _ _ (asks w n away) = older
  shift-fits _ _ _ _ (releasing lock next w n) = λ s is. inl (older s is)
  shift-fits _ _ _ _ (arriving next w n) = older
  shift-fits _ _ _ _ (manages lock from) = h
  shift-fits _ _ _ _ (forwarding lock asker time) = h
  shift-fits _ _ _ _ (grants lock time w k) = λ s is. inl (omega (arith, now (grant lock) w s is, known time k))
  shift-fits _ _ _ _ (departing time w k) = λ s is. inl (omega (arith, now departure w s is, known time k))
  shift-fits _ _ _ _ (collecting time w k same) = λ s is. omega (arith, now departure w s is, known time k)
  shift-fits _ _ _ _ (clean_at_once time w k same) = λ s is. omega (arith, now departure w s is, known time k)
  shift-fits _ _ _ _ (discarding collection w) = λ s is. inl (now (discard collection) w s is)
  shift-fits _ _ _ _ (accessing need w) = now (access need) w
  shift-fits _ _ _ _ (still_misses before w) = now (access before) w
  shift-fits _ _ _ _ (still_collects before had w same) = now (upkeep before had) w
  shift-fits _ _ _ _ (cleaning before had w same) = now (upkeep before had) w
  shift-fits _ _ _ _ rests = h

-- ---- the access that is made

no_access : (deed : Option Deed) → deed ≡ None → accesses deed ≡ 1 → ⊥
no_access deed none one = omega (arith, ap accesses none, one)

-- who has just made an access waits for nothing
pub idle_at_access : (p : Part) (deed : Option Deed) (course : Course) (acts : Bool) (wait : Wait) (locks : Locks) (episode : ℕ)
    → Moved acts p.course deed course → Shift p acts wait locks episode → accesses deed ≡ 1 → wait ≡ nothing
idle_at_access p deed course _ _ _ _ m (plain next w n is) one = refl
idle_at_access p deed course _ _ _ _ m (misses w n) one = absurd (no_access deed m.deed_is one)
idle_at_access p deed course _ _ _ _ m (takes lock w n free) one = refl
idle_at_access p deed course _ _ _ _ m (asks w n away) one = absurd (no_access deed m.deed_is one)
idle_at_access p deed course _ _ _ _ m (releasing lock next w n) one = refl
idle_at_access p deed course _ _ _ _ m (arriving next w n) one =
    let arrives_so : deed ≡ Some Arrive = m.deed_is ∙ deed_next m.value p.course (arrives next) n in
    absurd (omega (arith, ap accesses arrives_so, one))
idle_at_access p deed course _ _ _ _ m (manages lock from) one = absurd (no_access deed m.deed_is one)
idle_at_access p deed course _ _ _ _ m (forwarding lock asker time) one = absurd (no_access deed m.deed_is one)
idle_at_access p deed course _ _ _ _ m (grants lock time w k) one = refl
idle_at_access p deed course _ _ _ _ m (departing time w k) one = refl
idle_at_access p deed course _ _ _ _ m (collecting time w k same) one = absurd (no_access deed m.deed_is one)
idle_at_access p deed course _ _ _ _ m (clean_at_once time w k same) one = absurd (no_access deed m.deed_is one)
idle_at_access p deed course _ _ _ _ m (discarding collection w) one = refl
idle_at_access p deed course _ _ _ _ m (accessing need w) one = refl
idle_at_access p deed course _ _ _ _ m (still_misses before w) one = absurd (no_access deed m.deed_is one)
idle_at_access p deed course _ _ _ _ m (still_collects before had w same) one = absurd (no_access deed m.deed_is one)
idle_at_access p deed course _ _ _ _ m (cleaning before had w same) one = absurd (no_access deed m.deed_is one)
idle_at_access p deed course _ _ _ _ m rests one = absurd (no_access deed m.deed_is one)

-- a word that is accessed is one of so many
abbrev IsInWords : ℕ → Option Deed → Type 0
IsInWords words (Some (Read word value)) = word < words
IsInWords words (Some (Write word value)) = word < words
IsInWords words _ = Unit {0}

next_deed-in : (words value : ℕ) (next : Next) → InWords words next → IsInWords words (Some (deed_of value next))
next_deed-in words value (quiet after) h = tt
next_deed-in words value (prints printed after) h = tt
next_deed-in words value (reads word after) h = h
next_deed-in words value (writes word written after) h = h
next_deed-in words value (acquires lock after) h = tt
next_deed-in words value (releases lock after) h = tt
next_deed-in words value (arrives after) h = tt
next_deed-in words value (departs after) h = tt
next_deed-in words value (traps cause) h = tt
next_deed-in words value ends h = tt

course_deed-in : (words value : ℕ) (c : Course) → ((next : Next) → next_in c ≡ Some next → InWords words next) → IsInWords words (deed_in value c)
course_deed-in words value (going thread) h = next_deed-in words value (next_of thread) (h (next_of thread) refl)
course_deed-in words value (trapped cause) h = tt
course_deed-in words value ended h = tt

moved-in : (words : ℕ) (acts : Bool) (before after : Course) (deed : Option Deed) → Moved acts before deed after
    → ((next : Next) → next_in before ≡ Some next → InWords words next) → IsInWords words deed
moved-in words true before after deed m h = subst (IsInWords words) (sym m.deed_is) (course_deed-in words m.value before h)
moved-in words false before after deed m h = subst (IsInWords words) (sym m.deed_is) tt

-- ---- a turn

-- what a node keeps of its trace, with so many steps in all
pub record Fits (node : Node) (trace : TraceRecord) : Type 0 where
  pub may : FitsIn node.setting.me trace.segments node.mail.wait node.locks node.barrier.episode
  pub paid : spent node ≤ node.options.steps

can_note : (node : Node) (trace : TraceRecord) (deed : Deed) → IsInWords node.setting.words (Some deed)
    → (accesses (Some deed) ≡ 1 → MayNote trace.segments node.barrier.episode (own_index node + 1) (next_time node.setting.me node.locks.time))
    → spent node + accesses (Some deed) ≤ node.options.steps → CanNoteDeed node trace deed
can_note node trace (Read word value) lt may paid = record { within = lt; room = omega (arith, paid); later = may refl }
can_note node trace (Write word value) lt may paid = record { within = lt; room = omega (arith, paid); later = may refl }
can_note node trace Quiet lt may paid = tt
can_note node trace (Print value) lt may paid = tt
can_note node trace (Acquire lock) lt may paid = tt
can_note node trace (Release lock) lt may paid = tt
can_note node trace Arrive lt may paid = tt
can_note node trace Depart lt may paid = tt
can_note node trace (Trap cause) lt may paid = tt
can_note node trace End lt may paid = tt

can_note_act : (node : Node) (trace : TraceRecord) (act : Option Act) → IsInWords node.setting.words (option_map (λ a. a.deed) act)
    → (accesses (option_map (λ a. a.deed) act) ≡ 1
    → MayNote trace.segments node.barrier.episode (own_index node + 1) (next_time node.setting.me node.locks.time))
    → spent node + accesses (option_map (λ a. a.deed) act) ≤ node.options.steps → CanNoteAct node trace act
can_note_act node trace None lt may paid = tt
can_note_act node trace (Some act) lt may paid = can_note node trace act.deed lt may paid

-- once an access is noted
module _ (node : Node) (trace : TraceRecord) (w : Wait) (h : FitsIn node.setting.me trace.segments w node.locks node.barrier.episode) where
  abbrev Still : TraceRecord → Type 0
  Still after = FitsIn node.setting.me after.segments w node.locks node.barrier.episode

  noted_access : (word : ℕ) (is_write : Bool) → w ≡ nothing → Still (with_access_by node word is_write trace)
  noted_access word is_write e =
      let after : TraceRecord = with_access_by node word is_write trace in
      subst (λ w. FitsIn node.setting.me after.segments w node.locks node.barrier.episode) (sym e)
      (noted-again trace.segments node.barrier.episode (own_index node + 1) (next_time node.setting.me node.locks.time)
      (page_of word trace.size) (offset_of word trace.size) is_write
      (subst (λ w. FitsIn node.setting.me trace.segments w node.locks node.barrier.episode) e h))

  noted_deed : (deed : Deed) → (accesses (Some deed) ≡ 1 → w ≡ nothing) → Still (with_deed node deed trace)
  noted_deed (Read word value) idle = noted_access word false (idle refl)
  noted_deed (Write word value) idle = noted_access word true (idle refl)
  noted_deed Quiet idle = h
  noted_deed (Print value) idle = h
  noted_deed (Acquire lock) idle = h
  noted_deed (Release lock) idle = h
  noted_deed Arrive idle = h
  noted_deed Depart idle = h
  noted_deed (Trap cause) idle = h
  noted_deed End idle = h

  noted_act : (act : Option Act) → (accesses (option_map (λ a. a.deed) act) ≡ 1 → w ≡ nothing) → Still (with_act node act trace)
  noted_act None idle = h
  noted_act (Some act) idle = noted_deed act.deed idle

-- a turn of a node that is reached, with the trace before it
module _ (node : Node) (trace : TraceRecord) (input : Input) (turn : TurnRecord) (after : Node) (reached : IsReached node)
    (e : outcome_of node input ≡ done turn after) (fits : Fits node trace) where
  known_here : Known node
  known_here = known_at node reached

  shifted : Shifted node turn after
  shifted = subst (ShiftedIf node) e (shifts node input)

  turned : Turned node turn after
  turned = subst (Turns node) e (turns node input)

  same_me : after.setting.me ≡ node.setting.me
  same_me = ap (λ (s : Setting). s.me) turned.setting

  within : node.setting.me < length node.locks.time
  within = omega (arith, (ranged_at node reached).me, (ranged_at node reached).time)

  -- before the access is noted
  goes_on : FitsIn after.setting.me trace.segments after.mail.wait after.locks after.barrier.episode
  goes_on =
      subst (λ me. FitsIn me trace.segments after.mail.wait after.locks after.barrier.episode) (sym same_me)
      (shift-fits (part_of node) trace.segments within fits.may shifted.acts after.mail.wait after.locks after.barrier.episode shifted.shift)

  idle_after : accesses (deed_made turn) ≡ 1 → after.mail.wait ≡ nothing
  idle_after one =
      idle_at_access (part_of node) (deed_made turn) after.course shifted.acts after.mail.wait after.locks after.barrier.episode shifted.moved shifted.shift one

  spends : spent after + accesses (deed_made turn) ≤ after.options.steps
  spends =
      subst (λ (o : OptionsRecord). spent after + accesses (deed_made turn) ≤ o.steps) (sym turned.options)
      (turn-spends node.options.steps node input turn after known_here.fits fits.paid (by_rule node input turn after e))

  word_is : IsInWords after.setting.words (deed_made turn)
  word_is =
      subst (λ (s : Setting). IsInWords s.words (deed_made turn)) (sym turned.setting)
      (moved-in node.setting.words shifted.acts node.course after.course (deed_made turn) shifted.moved
      (λ next n. next-in_words node.setting node.course next known_here.text n))

  pub turn-fits : Fits after (with_act after turn.act trace)
  turn-fits = record {
    may = noted_act after trace after.mail.wait goes_on turn.act idle_after;
    paid = omega (arith, spends);
  }

  pub turn-can_note : CanNoteAct after trace turn.act
  turn-can_note =
      can_note_act after trace turn.act word_is
      (λ one. subst (λ w. FitsIn after.setting.me trace.segments w after.locks after.barrier.episode) (idle_after one) goes_on) spends

-- ---- all turns

module _ (program : Program) (nodes : ℕ) (options : OptionsRecord) (me : ℕ) (among : me < nodes) where
  abbrev start : Node
  start = fresh_node program nodes options me

  -- after some inputs
  pub record Come (l : Local) (t : Traced) : Type 0 where
    pub leads : LeadsTo program nodes options me l
    pub same : t.node ≡ l.node
    pub fits : Fits l.node t.trace

  ComeIf : Option Local → Traced → Type 0
  ComeIf None t = Unit {0}
  ComeIf (Some l) t = Come l t

  reached_by : (l : Local) → LeadsTo program nodes options me l → IsReached l.node
  reached_by l leads = record { program = program; nodes = nodes; options = options; me = me; turns = l.turns; leads = leads }

  by_outcome : (l : Local) (t : Traced) (input : Input) (o : Outcome) → outcome_of l.node input ≡ o → Come l t
      → ComeIf (local_after l.turns o) (traced_by t o)
  unfolding ComeIf
  by_outcome l t input (done turn after) e c = record {
    leads = one_more program nodes options me l input turn after c.leads e;
    same = refl;
    fits = turn-fits l.node t.trace input turn after (reached_by l c.leads) e c.fits;
  }
  by_outcome l t input not_ready e c = tt
  by_outcome l t input unexpected e c = tt
  by_outcome l t input worn e c = tt

  by_step : (o : Option Local) (t : Traced) (input : Input) → ComeIf o t → ComeIf (local_step o input) (traced_step t input)
  unfolding ComeIf
  by_step None t input c = tt
  by_step (Some l) t input c =
      subst (λ (node : Node). ComeIf (local_after l.turns (outcome_of l.node input)) (traced_by t (outcome_of node input))) (sym c.same)
      (by_outcome l t input (outcome_of l.node input) refl c)

  by_inputs : (inputs : List Input) (o : Option Local) (t : Traced) → ComeIf o t → ComeIf (fold local_step o inputs) (fold traced_step t inputs)
  by_inputs [] o t c = c
  by_inputs (input ∷ inputs) o t c = by_inputs inputs (local_step o input) (traced_step t input) (by_step o t input c)

  at_first : Come (record { node = start; turns = [] }) (untraced start)
  at_first = record {
    leads = at_start program nodes options me among;
    same = refl;
    fits = record { may = λ s is. absurd (cc); paid = omega (arith, entry-zeros nodes me) };
  }

  pub come : (l : Local) (leads : LeadsTo program nodes options me l) → Come l (traced start leads.inputs)
  unfolding ComeIf
  come l leads =
      subst (λ o. ComeIf o (traced start leads.inputs)) leads.made
      (by_inputs leads.inputs (Some (record { node = start; turns = [] })) (untraced start) at_first)

-- ---- a node with its trace

pub traced_reached : (node : Node) (trace : TraceRecord) → IsTraced node trace → IsReached node
traced_reached node trace t = record {
  program = t.program;
  nodes = t.nodes;
  options = t.options;
  me = t.me;
  turns = t.turns;
  leads = t.leads;
}

traced_fits : (node : Node) (trace : TraceRecord) → IsTraced node trace → Fits node trace
traced_fits node trace t =
    subst (Fits node) (sym t.trace_is)
    (come t.program t.nodes t.options t.me t.leads.among (record { node = node; turns = t.turns }) t.leads).fits

pub traced_first : (program : Program) (nodes : ℕ) (options : OptionsRecord) (me : ℕ) → me < nodes
    → IsTraced (fresh_node program nodes options me) (untraced (fresh_node program nodes options me)).trace
traced_first program nodes options me among = record {
  program = program;
  nodes = nodes;
  options = options;
  me = me;
  turns = [];
  leads = record { among = among; inputs = []; made = refl };
  trace_is = refl;
}

-- what a turn's access may be noted of
pub can_note_turn : (node : Node) (trace : TraceRecord) (input : Input) (turn : TurnRecord) (after : Node) → IsTraced node trace
    → outcome_of node input ≡ done turn after → CanNoteAct after trace turn.act
can_note_turn node trace input turn after t e =
    turn-can_note node trace input turn after (traced_reached node trace t) e (traced_fits node trace t)

-- and the node with that trace
pub traced_turn : (node : Node) (trace : TraceRecord) (input : Input) (turn : TurnRecord) (after : Node) → IsTraced node trace
    → outcome_of node input ≡ done turn after → IsTraced after (with_act after turn.act trace)
traced_turn node trace input turn after t e =
    let l : Local = record { node = node; turns = t.turns } in
    let first : Node = fresh_node t.program t.nodes t.options t.me in
    let same : (traced first t.leads.inputs).node ≡ node = traced_node t.program t.nodes t.options t.me t.leads.inputs l t.leads.made in
    let more = traced_more first t.leads.inputs input turn after (subst (λ (n : Node). outcome_of n input ≡ done turn after) (sym same) e) in
    record {
      program = t.program;
      nodes = t.nodes;
      options = t.options;
      me = t.me;
      turns = t.turns ++ turn ∷ [];
      leads = record {
        among = t.leads.among;
        inputs = t.leads.inputs ++ input ∷ [];
        made = local_more t.program t.nodes t.options t.me t.leads.inputs l input turn after t.leads.made e;
      };
      trace_is = ap (with_act after turn.act) t.trace_is ∙ sym (ap (λ (x : Traced). x.trace) more);
    }
