-- What a node waits for fixes what its text does next.
use Rattle.std.proofs.Common.{◌≡◌, ℕ, List, [], ◌∷◌, Bool, true, false, refl, sym, ap, subst, ◌∙◌}
use Rattle.std.specs.Prelude.{Option, Some, None, if◌then◌else◌, nat_lt}
use Rattle.lrc_program.specs.declared.Statement.{Statement}
use Rattle.lrc_program.specs.declared.Statement.TheVariants.{Assign, Read, Write, Acquire, Release, Barrier, Print, If', While'}
use Rattle.lrc_trace.specs.declared.act.Cause.{Cause}
use Rattle.lrc_trace.specs.declared.act.Cause.TheVariants.{WordOutOfRange, LockOutOfRange, LockHeld, LockNotHeld}
use Rattle.lrc_trace.specs.declared.act.Deed.{Deed}
use Rattle.lrc_exec.specs.Meaning.{Thread, Next, quiet, prints, reads, writes, acquires, releases, arrives, departs, traps}
use Rattle.lrc_exec.specs.Meaning.{ends, or_trap, value_in, holds, then_holds, next_of_statement, first_act, next_of}
use Rattle.lrc_protocol.specs.Locks.{Locks}
use Rattle.lrc_protocol.specs.Node.{Course, going, trapped, ended, course_of, Wait, grant, departure, access, upkeep, discard}
use Rattle.lrc_protocol.specs.Follows.{Local}
use Rattle.lrc_order_laws.specs.Waiting.{is_departing, is_access, acquiring, FixesNext}
use Rattle.lrc_protocol.specs.Node.{next_in}
use Rattle.lrc_order_laws.proofs.Shift.{Part, part_of, Acted, Rested, Moved, is_plain, Shift, plain, misses, takes, asks, releasing, arriving, manages}
use Rattle.lrc_order_laws.proofs.Shift.{forwarding, grants, departing, collecting, clean_at_once, discarding, accessing, still_misses, still_collects}
use Rattle.lrc_order_laws.proofs.Shift.{cleaning, rests, course_in}
use Rattle.lrc_order_laws.proofs.Inputs.{KeptByShifts}

-- whether a text arrives next
abbrev pub is_arriving : Option Next → Bool
is_arriving (Some (arrives after)) = true
is_arriving _ = false

-- ---- where a thread goes on

-- a statement leads to a thread that departs next exactly where it is a barrier, and never departs itself
abbrev Leads : Next → Type 0
Leads (quiet t) = t.arrived ≡ false
Leads (prints v t) = t.arrived ≡ false
Leads (reads w t) = (v : ℕ) → (t v).arrived ≡ false
Leads (writes w v t) = t.arrived ≡ false
Leads (acquires l t) = t.arrived ≡ false
Leads (releases l t) = t.arrived ≡ false
Leads (arrives t) = t.arrived ≡ true
Leads (departs t) = ⊥
Leads (traps c) = Unit {0}
Leads ends = Unit {0}

or_trap-leads : (o : Option ℕ) (go : ℕ → Next) → ((v : ℕ) → Leads (go v)) → Leads (or_trap o go)
or_trap-leads None go h = tt
or_trap-leads (Some v) go h = h v

below-leads : (b : Bool) (cause : Cause) (next : Next) → Leads next → Leads (if b then next else traps cause)
below-leads true cause next h = h
below-leads false cause next h = tt

acquire-leads : (t : Thread) (b : Bool) (l : ℕ) (rest : List Statement) → t.arrived ≡ false
    → Leads (if b then traps LockHeld else acquires l (then_holds t rest l true))
acquire-leads t true l rest e = tt
acquire-leads t false l rest e = e

release-leads : (t : Thread) (b : Bool) (l : ℕ) (rest : List Statement) → t.arrived ≡ false
    → Leads (if b then releases l (then_holds t rest l false) else traps LockNotHeld)
release-leads t true l rest e = e
release-leads t false l rest e = tt

statement-leads : (t : Thread) (s : Statement) (rest : List Statement) → t.arrived ≡ false → Leads (next_of_statement t s rest)
statement-leads t (Assign name value) rest e = or_trap-leads (value_in t value) _ (λ v. e)
statement-leads t (Read name word) rest e =
    or_trap-leads (value_in t word) _ (λ w. below-leads (nat_lt w t.setting.words) WordOutOfRange _ (λ v. e))
statement-leads t (Write word value) rest e =
    or_trap-leads (value_in t word) _ (λ w.
    or_trap-leads (value_in t value) _ (λ v. below-leads (nat_lt w t.setting.words) WordOutOfRange _ e))
statement-leads t (Acquire lock) rest e =
    or_trap-leads (value_in t lock) _ (λ l. below-leads (nat_lt l t.setting.locks) LockOutOfRange _ (acquire-leads t (holds t l) l rest e))
statement-leads t (Release lock) rest e =
    or_trap-leads (value_in t lock) _ (λ l. below-leads (nat_lt l t.setting.locks) LockOutOfRange _ (release-leads t (holds t l) l rest e))
statement-leads t Barrier rest e = refl
statement-leads t (Print value) rest e = or_trap-leads (value_in t value) _ (λ v. e)
statement-leads t (If' condition p first q second) rest e = or_trap-leads (value_in t condition) _ (λ v. e)
statement-leads t (While' condition p body) rest e = or_trap-leads (value_in t condition) _ (λ v. e)

first-leads : (t : Thread) (rest : List Statement) → t.arrived ≡ false → Leads (first_act t rest)
first-leads t [] e = tt
first-leads t (s ∷ rest) e = statement-leads t s rest e

-- ---- what a thread does next

leads-departs : (next : Next) → Leads next → is_departing (Some next) ≡ false
leads-departs (departs t) h = absurd h
leads-departs _ h = refl

departs_by : (t : Thread) (b : Bool) → t.arrived ≡ b
    → is_departing (Some (if b then departs (record t { arrived = false }) else first_act t t.rest)) ≡ b
departs_by t true e = refl
departs_by t false e = leads-departs (first_act t t.rest) (first-leads t t.rest e)

-- a thread departs next exactly where it has arrived
pub departs_arrived : (t : Thread) → is_departing (Some (next_of t)) ≡ t.arrived
departs_arrived t = departs_by t t.arrived refl

leads-after : (value : ℕ) (next : Next) → Leads next → is_departing (next_in (course_of value next)) ≡ is_arriving (Some next)
leads-after value (quiet t) h = departs_arrived t ∙ h
leads-after value (prints v t) h = departs_arrived t ∙ h
leads-after value (reads w t) h = departs_arrived (t value) ∙ h value
leads-after value (writes w v t) h = departs_arrived t ∙ h
leads-after value (acquires l t) h = departs_arrived t ∙ h
leads-after value (releases l t) h = departs_arrived t ∙ h
leads-after value (arrives t) h = departs_arrived t ∙ h
leads-after value (departs t) h = absurd h
leads-after value (traps c) h = refl
leads-after value ends h = refl

after_by : (value : ℕ) (t : Thread) (b : Bool) → t.arrived ≡ b
    → (let next : Next = if b then departs (record t { arrived = false }) else first_act t t.rest in
    is_departing (next_in (course_of value next)) ≡ is_arriving (Some next))
after_by value t true e = departs_arrived (record t { arrived = false })
after_by value t false e = leads-after value (first_act t t.rest) (first-leads t t.rest e)

after_course : (value : ℕ) (c : Course) → is_departing (next_in (course_in value c)) ≡ is_arriving (next_in c)
after_course value (going t) = after_by value t t.arrived refl
after_course value (trapped cause) = refl
after_course value ended = refl

-- once the next act is made a text departs next exactly where that act was an arrival
pub after_act : (before after : Course) (deed : Option Deed) → Acted before deed after
    → is_departing (next_in after) ≡ is_arriving (next_in before)
after_act before after deed a = ap (λ c. is_departing (next_in c)) a.course_is ∙ after_course a.value before

-- ---- acts that are no arrivals

not_by_lock : (o : Option Next) (lock : ℕ) → acquiring o ≡ Some lock → is_arriving o ≡ false
not_by_lock (Some (arrives t)) lock e = cc
not_by_lock _ lock e = refl

not_by_departure : (o : Option Next) → is_departing o ≡ true → is_arriving o ≡ false
not_by_departure (Some (arrives t)) e = cc
not_by_departure _ e = refl

not_by_access : (o : Option Next) → is_access o ≡ true → is_arriving o ≡ false
not_by_access (Some (arrives t)) e = cc
not_by_access _ e = refl

plain_arrives : (next : Next) → is_plain next ≡ true → is_arriving (Some next) ≡ false
plain_arrives (arrives t) e = cc
plain_arrives _ e = refl

-- ---- every turn

abbrev Fits : Part → Type 0
Fits p = FixesNext p.wait (next_in p.course)

awaited : (p : Part) (w : Wait) → p.wait ≡ w → Fits p → FixesNext w (next_in p.course)
awaited p w e f = subst (λ w. FixesNext w (next_in p.course)) e f

rested : (w : Wait) (before after : Course) (deed : Option Deed) → Rested before deed after
    → FixesNext w (next_in before) → FixesNext w (next_in after)
rested w before after deed r f = subst (λ c. FixesNext w (next_in c)) (sym r.course_is) f

pub fits-kept : (p : Part) (acts : Bool) (wait : Wait) (locks : Locks) (episode : ℕ) (deed : Option Deed) (after : Course)
    → Shift p acts wait locks episode → Moved acts p.course deed after → Fits p → FixesNext wait (next_in after)
fits-kept p _ _ _ _ deed after (plain next w n is) m f = after_act p.course after deed m ∙ ap is_arriving n ∙ plain_arrives next is
fits-kept p _ _ _ _ deed after (misses {need = need} w n) m f = rested (access need) p.course after deed m n
fits-kept p _ _ _ _ deed after (takes lock w n free) m f = after_act p.course after deed m ∙ not_by_lock (next_in p.course) lock n
fits-kept p _ _ _ _ deed after (asks {lock = lock} w n away) m f = rested (grant lock) p.course after deed m n
fits-kept p _ _ _ _ deed after (releasing lock next w n) m f = after_act p.course after deed m ∙ ap is_arriving n
fits-kept p _ _ _ _ deed after (arriving next w n) m f = after_act p.course after deed m ∙ ap is_arriving n
fits-kept p _ _ _ _ deed after (manages lock from) m f = rested p.wait p.course after deed m f
fits-kept p _ _ _ _ deed after (forwarding lock asker time) m f = rested p.wait p.course after deed m f
fits-kept p _ _ _ _ deed after (grants lock time w k) m f =
    after_act p.course after deed m ∙ not_by_lock (next_in p.course) lock (awaited p (grant lock) w f)
fits-kept p _ _ _ _ deed after (departing time w k) m f =
    after_act p.course after deed m ∙ not_by_departure (next_in p.course) (awaited p departure w f)
fits-kept p _ _ _ _ deed after (collecting time {collection = c} {needs = ns} w k same) m f =
    rested (upkeep c ns) p.course after deed m (awaited p departure w f)
fits-kept p _ _ _ _ deed after (clean_at_once time {collection = c} w k same) m f = rested (discard c) p.course after deed m (awaited p departure w f)
fits-kept p _ _ _ _ deed after (discarding collection w) m f =
    after_act p.course after deed m ∙ not_by_departure (next_in p.course) (awaited p (discard collection) w f)
fits-kept p _ _ _ _ deed after (accessing need w) m f =
    after_act p.course after deed m ∙ not_by_access (next_in p.course) (awaited p (access need) w f)
fits-kept p _ _ _ _ deed after (still_misses before {need = need} w) m f = rested (access need) p.course after deed m (awaited p (access before) w f)
fits-kept p _ _ _ _ deed after (still_collects before had {collection = c} {needs = ns} w same) m f =
    rested (upkeep c ns) p.course after deed m (awaited p (upkeep before had) w f)
fits-kept p _ _ _ _ deed after (cleaning before had {collection = c} w same) m f = rested (discard c) p.course after deed m (awaited p (upkeep before had) w f)
fits-kept p _ _ _ _ deed after rests m f = rested p.wait p.course after deed m f

-- of a node
abbrev pub NodeFits : Local → Type 0
NodeFits l = FixesNext l.node.mail.wait (next_in l.node.course)

pub node-fits : KeptByShifts NodeFits
node-fits l turn after t s f = fits-kept (part_of l.node) s.acts after.mail.wait after.locks after.barrier.episode _ after.course s.shift s.moved f
