-- A node's episode counts its arrivals; and it has departed as often, or once less while it is inside a barrier.
use Rattle.std.proofs.Common.{◌≡◌, ℕ, ◌+◌, List, [], Bool, true, false, refl, sym, ap, subst, ◌∙◌, arith}
use Rattle.std.specs.Prelude.{Option, Some, slice_get, option_map}
use Rattle.lrc_program.specs.declared.Program.{Program}
use Rattle.lrc_trace.specs.declared.act.Act.{Act}
use Rattle.lrc_trace.specs.declared.act.Deed.{Deed}
use Rattle.lrc_exec.specs.Meaning.{Thread, Next, acquires, releases, arrives, departs}
use Rattle.lrc_exec.specs.Plain.{start_of}
use Rattle.lrc_exec.specs.Follows.{deeds_of}
use Rattle.lrc_protocol.specs.declared.event.Event.{Event}
use Rattle.lrc_protocol.specs.Locks.{Locks}
use Rattle.lrc_protocol.specs.Node.{Course, deed_of, Wait, nothing, grant, departure, access, upkeep, discard, OptionsRecord, fresh_node}
use Rattle.lrc_protocol.specs.Run.{Logged, World, run_of}
use Rattle.lrc_protocol.specs.Follows.{Local}
use Rattle.lrc_protocol.specs.Follows.{turns_of, deeds_in}
use Rattle.lrc_protocol.proofs.Texts.{follows_at}
use Rattle.lrc_order_laws.specs.Waiting.{FixesNext}
use Rattle.lrc_protocol.specs.Node.{next_in}
use Rattle.lrc_order_laws.specs.Counts.{is_arrive, is_depart, count, is_inside}
use Rattle.lrc_order_laws.proofs.Shift.{Part, part_of, Moved, is_plain, Shift, plain, misses, takes, asks, releasing, arriving, manages, forwarding}
use Rattle.lrc_order_laws.proofs.Shift.{grants, departing, collecting, clean_at_once, discarding, accessing, still_misses, still_collects, cleaning}
use Rattle.lrc_order_laws.proofs.Shift.{rests}
use Rattle.lrc_order_laws.proofs.Inputs.{KeptByShifts, at_each}
use Rattle.lrc_order_laws.proofs.Waiting.{NodeFits, node-fits, departs_arrived}
use Rattle.lrc_order_laws.proofs.Counts.{number, count_more, made, none_made, lock_next, departure_next, access_next}

arrive-plain : (value : ℕ) (next : Next) → is_plain next ≡ true → number is_arrive (Some (deed_of value next)) ≡ 0
arrive-plain value (arrives t) e = cc
arrive-plain value (departs t) e = cc
arrive-plain value _ e = refl

depart-plain : (value : ℕ) (next : Next) → is_plain next ≡ true → number is_depart (Some (deed_of value next)) ≡ 0
depart-plain value (departs t) e = cc
depart-plain value _ e = refl

-- what one turn adds: to the episode as many as it arrives, and it is inside as often as it has arrived and not departed
pub record Steps (p : Part) (wait : Wait) (episode : ℕ) (deed : Option Deed) : Type 0 where
  pub arrived : episode ≡ p.episode + number is_arrive deed
  pub inside : is_inside p.wait + number is_arrive deed ≡ number is_depart deed + is_inside wait

module _ (p : Part) (fits : FixesNext p.wait (next_in p.course)) where
  next_then : (w : Wait) → p.wait ≡ w → FixesNext w (next_in p.course)
  next_then w e = subst (λ w. FixesNext w (next_in p.course)) e fits

  -- by what is counted
  adds : (w wait : Wait) (episode : ℕ) (deed : Option Deed) (a d : ℕ) → p.wait ≡ w → number is_arrive deed ≡ a → number is_depart deed ≡ d
      → episode ≡ p.episode + a → is_inside w + a ≡ d + is_inside wait → Steps p wait episode deed
  adds w wait episode deed a d e na nd ep i = record {
    arrived = omega (arith, na, ep);
    inside = ap (λ w. is_inside w + number is_arrive deed) e ∙ ap (λ k. is_inside w + k) na ∙ i ∙ ap (λ k. k + is_inside wait) (sym nd);
  }

  rested : (w wait : Wait) (deed : Option Deed) (after : Course) → p.wait ≡ w → Moved false p.course deed after
      → is_inside w ≡ is_inside wait → Steps p wait p.episode deed
  rested w wait deed after e m i =
      adds w wait p.episode deed 0 0 e (none_made is_arrive p.course after deed m) (none_made is_depart p.course after deed m) (omega arith) (omega (arith, i))

  acted : (w wait : Wait) (episode : ℕ) (deed : Option Deed) (after : Course) (next : Next) (a d : ℕ) → p.wait ≡ w
      → Moved true p.course deed after → next_in p.course ≡ Some next
      → ((value : ℕ) → number is_arrive (Some (deed_of value next)) ≡ a) → ((value : ℕ) → number is_depart (Some (deed_of value next)) ≡ d)
      → episode ≡ p.episode + a → is_inside w + a ≡ d + is_inside wait → Steps p wait episode deed
  acted w wait episode deed after next a d e m n na nd ep i =
      adds w wait episode deed a d e (made is_arrive p.course after deed next a m n na) (made is_depart p.course after deed next d m n nd) ep i

  pub steps-kept : (acts : Bool) (wait : Wait) (locks : Locks) (episode : ℕ) (deed : Option Deed) (after : Course)
      → Shift p acts wait locks episode → Moved acts p.course deed after → Steps p wait episode deed
  steps-kept _ _ _ _ deed after (plain next w n is) m =
      acted nothing nothing p.episode deed after next 0 0 w m n (λ v. arrive-plain v next is) (λ v. depart-plain v next is) (omega arith) refl
  steps-kept _ _ _ _ deed after (misses {need = need} w n) m = rested nothing (access need) deed after w m refl
  steps-kept _ _ _ _ deed after (takes lock w n free) m =
      let a : (after : Thread) × (next_in p.course ≡ Some (acquires lock after)) = lock_next (next_in p.course) lock n in
      acted nothing nothing p.episode deed after (acquires lock a.0) 0 0 w m a.1 (λ v. refl) (λ v. refl) (omega arith) refl
  steps-kept _ _ _ _ deed after (asks {lock = lock} w n away) m = rested nothing (grant lock) deed after w m refl
  steps-kept _ _ _ _ deed after (releasing lock next w n) m =
      acted nothing nothing p.episode deed after (releases lock next) 0 0 w m n (λ v. refl) (λ v. refl) (omega arith) refl
  steps-kept _ _ _ _ deed after (arriving next w n) m =
      acted nothing departure (p.episode + 1) deed after (arrives next) 1 0 w m n (λ v. refl) (λ v. refl) refl refl
  steps-kept _ _ _ _ deed after (manages lock from) m = rested p.wait p.wait deed after refl m refl
  steps-kept _ _ _ _ deed after (forwarding lock asker time) m = rested p.wait p.wait deed after refl m refl
  steps-kept _ _ _ _ deed after (grants lock time w l) m =
      let a : (after : Thread) × (next_in p.course ≡ Some (acquires lock after)) = lock_next (next_in p.course) lock (next_then (grant lock) w) in
      acted (grant lock) nothing p.episode deed after (acquires lock a.0) 0 0 w m a.1 (λ v. refl) (λ v. refl) (omega arith) refl
  steps-kept _ _ _ _ deed after (departing time w l) m =
      let a : (after : Thread) × (next_in p.course ≡ Some (departs after)) = departure_next (next_in p.course) (next_then departure w) in
      acted departure nothing p.episode deed after (departs a.0) 0 1 w m a.1 (λ v. refl) (λ v. refl) (omega arith) refl
  steps-kept _ _ _ _ deed after (collecting time {collection = c} {needs = ns} w l same) m = rested departure (upkeep c ns) deed after w m refl
  steps-kept _ _ _ _ deed after (clean_at_once time {collection = c} w l same) m = rested departure (discard c) deed after w m refl
  steps-kept _ _ _ _ deed after (discarding collection w) m =
      let a : (after : Thread) × (next_in p.course ≡ Some (departs after)) = departure_next (next_in p.course) (next_then (discard collection) w) in
      acted (discard collection) nothing p.episode deed after (departs a.0) 0 1 w m a.1 (λ v. refl) (λ v. refl) (omega arith) refl
  steps-kept _ _ _ _ deed after (accessing need w) m =
      let a : (next : Next) × ((next_in p.course ≡ Some next) × (is_plain next ≡ true)) = access_next (next_in p.course) (next_then (access need) w) in
      acted (access need) nothing p.episode deed after a.0 0 0 w m a.1.0 (λ v. arrive-plain v a.0 a.1.1) (λ v. depart-plain v a.0 a.1.1) (omega arith) refl
  steps-kept _ _ _ _ deed after (still_misses before {need = need} w) m = rested (access before) (access need) deed after w m refl
  steps-kept _ _ _ _ deed after (still_collects before had {collection = c} {needs = ns} w same) m =
      rested (upkeep before had) (upkeep c ns) deed after w m refl
  steps-kept _ _ _ _ deed after (cleaning before had {collection = c} w same) m = rested (upkeep before had) (discard c) deed after w m refl
  steps-kept _ _ _ _ deed after rests m = rested p.wait p.wait deed after refl m refl

rearranged : (k was a d is : ℕ) → was + a ≡ d + is → (k + was) + a ≡ (k + d) + is
rearranged k was a d is e = omega (arith, e)

-- of a node, with what is carried beside
pub record Counted (l : Local) : Type 0 where
  pub fits : NodeFits l
  pub arrived : l.node.barrier.episode ≡ count is_arrive (deeds_in l.turns)
  pub inside : count is_arrive (deeds_in l.turns) ≡ count is_depart (deeds_in l.turns) + is_inside l.node.mail.wait

node-counted : KeptByShifts Counted
node-counted l turn after t sh h =
    let deed : Option Deed = option_map (λ (act : Act). act.deed) turn.act in
    let s : Steps (part_of l.node) after.mail.wait after.barrier.episode deed =
    steps-kept (part_of l.node) h.fits sh.acts after.mail.wait after.locks after.barrier.episode deed after.course sh.shift sh.moved in
    let arrives_more : _ = count_more is_arrive l.turns turn in
    let departs_more : _ = count_more is_depart l.turns turn in
    record {
      fits = node-fits l turn after t sh h.fits;
      arrived = s.arrived ∙ ap (λ k. k + number is_arrive deed) h.arrived ∙ sym arrives_more;
      inside = arrives_more ∙ ap (λ k. k + number is_arrive deed) h.inside
          ∙ rearranged (count is_depart (deeds_in l.turns)) (is_inside l.node.mail.wait) (number is_arrive deed)
          (number is_depart deed) (is_inside after.mail.wait) s.inside
          ∙ ap (λ k. k + is_inside after.mail.wait) (sym departs_more);
    }

fresh-counted : (program : Program) (nodes : ℕ) (options : OptionsRecord) (n : ℕ)
    → Counted (record { node = fresh_node program nodes options n; turns = [] })
fresh-counted program nodes options n = record { fits = departs_arrived (start_of program nodes n); arrived = refl; inside = refl }

module _ (program : Program) (nodes : ℕ) (options : OptionsRecord) (events : List Event) (world : World)
    (e : run_of program nodes options events ≡ Some world) (n : ℕ) (l : Logged) (at : slice_get world.nodes n ≡ Some l) where
  counted : Counted (record { node = l.node; turns = turns_of l.log })
  counted = at_each Counted node-counted program nodes options events world n l (fresh-counted program nodes options n) e at

  deeds_are : deeds_of n world.acts ≡ deeds_in (turns_of l.log)
  deeds_are = (follows_at program nodes options events world e n l at).deeds

  pub arrivals : l.node.barrier.episode ≡ count is_arrive (deeds_of n world.acts)
  arrivals = counted.arrived ∙ ap (count is_arrive) (sym deeds_are)

  pub departures : count is_arrive (deeds_of n world.acts) ≡ count is_depart (deeds_of n world.acts) + is_inside l.node.mail.wait
  departures =
      ap (count is_arrive) deeds_are ∙ counted.inside ∙ ap (λ ds. count is_depart ds + is_inside l.node.mail.wait) (sym deeds_are)
