-- What an act does to its node's time: by the kind of turn, and then at each position of a run.
use Rattle.std.proofs.Common.{◌≡◌, ℕ, ◌<◌, ◌≤◌, List, [], ◌∷◌, ◌++◌, Bool, true, length, map, refl, sym, ap, subst, ◌∙◌, inl, inr, arith, append-nil}
use Rattle.std.specs.Prelude.{Option, Some, None, option_map}
use Rattle.std.specs.Option.{option_to_list}
use Rattle.std.proofs.lemmas.List.{get_or_push}
use Rattle.std.proofs.lemmas.Option.{same_Some}
use Rattle.lrc_program.specs.declared.Program.{Program}
use Rattle.lrc_trace.specs.declared.act.Act.{Act}
use Rattle.lrc_trace.specs.declared.act.Deed.{Deed}
use Rattle.lrc_trace.specs.Run.{act_of, Does}
use Rattle.lrc_trace.proofs.Positions.{Does-cases}
use Rattle.lrc_time.specs.Time.{joined}
use Rattle.lrc_time.proofs.Times.{joined-none}
use Rattle.lrc_clock.specs.Times.{time_at, raised, time_before}
use Rattle.lrc_clock.proofs.Prefixes.{time_at-prefix, time_before-prefix}
use Rattle.lrc_exec.specs.Meaning.{Setting, Thread, Next, acquires, releases, arrives, departs}
use Rattle.lrc_exec.specs.Plain.{setting_of}
use Rattle.lrc_protocol.specs.declared.event.Event.{Event}
use Rattle.lrc_protocol.specs.Locks.{Locks}
use Rattle.lrc_protocol.specs.Node.{Course, deed_of, Wait, nothing, grant, departure, access, discard, OptionsRecord}
use Rattle.lrc_protocol.specs.Run.{World, run_of}
use Rattle.lrc_protocol.proofs.Turned.{Turned, Turns, turns}
use Rattle.lrc_protocol.proofs.Induction.{KeptByTurns, by_turns}
use Rattle.lrc_order_laws.specs.Waiting.{FixesNext}
use Rattle.lrc_protocol.specs.Node.{next_in}
use Rattle.lrc_order_laws.specs.Present.{IsPresent}
use Rattle.lrc_order_laws.specs.Rules.{FollowsRule}
use Rattle.lrc_order_laws.proofs.Shift.{Part, part_of, Acted, Rested, Moved, is_plain, Shift, Shifted, ShiftedIf, shifts, deed_made}
use Rattle.lrc_order_laws.proofs.Shift.{plain, misses, takes, asks, releasing, arriving, manages, forwarding, grants, departing}
use Rattle.lrc_order_laws.proofs.Shift.{collecting, clean_at_once, discarding, accessing, still_misses, still_collects, cleaning, rests}
use Rattle.lrc_order_laws.proofs.Counts.{deed_next, lock_next, departure_next, access_next}
use Rattle.lrc_order_laws.proofs.Present.{more_acts, more_times}
use Rattle.lrc_order_laws.proofs.PresentTimes.{AtPresent, AllPresent, all-kept, all-fresh, deed_back}

-- ---- by the kind of turn

plain-rule : (node : ℕ) (last time : List ℕ) (value : ℕ) (next : Next) → is_plain next ≡ true → time ≡ last → FollowsRule node last (deed_of value next) time
plain-rule node last time value (acquires l t) is e = cc
plain-rule node last time value (releases l t) is e = cc
plain-rule node last time value (arrives t) is e = cc
plain-rule node last time value (departs t) is e = cc
plain-rule node last time value _ is e = e

none_is_some : (d : Deed) → None ≡ Some d → ⊥
none_is_some d e = cc

module _ (p : Part) (fits : FixesNext p.wait (next_in p.course)) (last : List ℕ) (present : IsPresent p.me p.wait last p.locks.time) where
  now : (w : Wait) → p.wait ≡ w → IsPresent p.me w last p.locks.time
  now w e = subst (λ w. IsPresent p.me w last p.locks.time) e present

  next_then : (w : Wait) → p.wait ≡ w → FixesNext w (next_in p.course)
  next_then w e = subst (λ w. FixesNext w (next_in p.course)) e fits

  -- the deed made is that of what the text did next
  acted : (time : List ℕ) (deed : Option Deed) (after : Course) (next : Next) (d : Deed) → Acted p.course deed after → next_in p.course ≡ Some next
      → deed ≡ Some d → ((value : ℕ) → FollowsRule p.me last (deed_of value next) time) → FollowsRule p.me last d time
  acted time deed after next d m n e r =
      subst (λ d. FollowsRule p.me last d time)
      (same_Some (deed_of m.value next) d (sym (m.deed_is ∙ deed_next m.value p.course next n) ∙ e))
      (r m.value)

  rested : (time : List ℕ) (deed : Option Deed) (after : Course) (d : Deed) → Rested p.course deed after → deed ≡ Some d → FollowsRule p.me last d time
  rested time deed after d m e = absurd (none_is_some d (sym m.deed_is ∙ e))

  pub rule-kept : (acts : Bool) (wait : Wait) (locks : Locks) (episode : ℕ) (deed : Option Deed) (after : Course) (d : Deed)
      → Shift p acts wait locks episode → Moved acts p.course deed after → deed ≡ Some d → FollowsRule p.me last d locks.time
  rule-kept _ _ locks _ deed after d (plain next w n is) m e =
      acted locks.time deed after next d m n e (λ v. plain-rule p.me last locks.time v next is (now nothing w))
  rule-kept _ _ locks _ deed after d (misses w n) m e = rested locks.time deed after d m e
  rule-kept _ _ locks _ deed after d (takes lock w n free) m e =
      let next : (x : Thread) × (next_in p.course ≡ Some (acquires lock x)) = lock_next (next_in p.course) lock n in
      acted locks.time deed after (acquires lock next.0) d m next.1 e
      (λ v. ([], ap (λ t. raised t p.me) (now nothing w) ∙ sym (joined-none (raised last p.me))))
  rule-kept _ _ locks _ deed after d (asks w n away) m e = rested locks.time deed after d m e
  rule-kept _ _ locks _ deed after d (releasing lock next w n) m e =
      acted locks.time deed after (releases lock next) d m n e (λ v. ap (λ t. raised t p.me) (now nothing w))
  rule-kept _ _ locks _ deed after d (arriving next w n) m e =
      acted locks.time deed after (arrives next) d m n e (λ v. ap (λ t. raised t p.me) (now nothing w))
  rule-kept _ _ locks _ deed after d (manages lock from) m e = rested locks.time deed after d m e
  rule-kept _ _ locks _ deed after d (forwarding lock asker time) m e = rested locks.time deed after d m e
  rule-kept _ _ locks _ deed after d (grants lock time w k) m e =
      let next : (x : Thread) × (next_in p.course ≡ Some (acquires lock x)) = lock_next (next_in p.course) lock (next_then (grant lock) w) in
      acted locks.time deed after (acquires lock next.0) d m next.1 e (λ v. (time, ap (λ t. joined t time) (now (grant lock) w)))
  rule-kept _ _ locks _ deed after d (departing time w k) m e =
      let next : (x : Thread) × (next_in p.course ≡ Some (departs x)) = departure_next (next_in p.course) (next_then departure w) in
      acted locks.time deed after (departs next.0) d m next.1 e (λ v. (time, ap (λ t. joined t time) (now departure w)))
  rule-kept _ _ locks _ deed after d (collecting time w k same) m e = rested locks.time deed after d m e
  rule-kept _ _ locks _ deed after d (clean_at_once time w k same) m e = rested locks.time deed after d m e
  rule-kept _ _ locks _ deed after d (discarding collection w) m e =
      let next : (x : Thread) × (next_in p.course ≡ Some (departs x)) = departure_next (next_in p.course) (next_then (discard collection) w) in
      acted locks.time deed after (departs next.0) d m next.1 e (λ v. (collection.time, now (discard collection) w))
  rule-kept _ _ locks _ deed after d (accessing need w) m e =
      let next : (next : Next) × ((next_in p.course ≡ Some next) × (is_plain next ≡ true)) = access_next (next_in p.course) (next_then (access need) w) in
      acted locks.time deed after next.0 d m next.1.0 e (λ v. plain-rule p.me last locks.time v next.0 next.1.1 (now (access need) w))
  rule-kept _ _ locks _ deed after d (still_misses before w) m e = rested locks.time deed after d m e
  rule-kept _ _ locks _ deed after d (still_collects before had w same) m e = rested locks.time deed after d m e
  rule-kept _ _ locks _ deed after d (cleaning before had w same) m e = rested locks.time deed after d m e
  rule-kept _ _ locks _ deed after d rests m e = rested locks.time deed after d m e

-- ---- at each position

abbrev pub AllFollow : ℕ → List Act → List (List ℕ) → Type 0
AllFollow nodes acts times = (j node : ℕ) (deed : Deed) → Does acts j node deed → FollowsRule node (time_before nodes acts times node j) deed (time_at times j)

module _ (nodes : ℕ) (acts : List Act) (times : List (List ℕ)) (timed : length times ≡ length acts) (n : ℕ) (time : List ℕ) where
  rule-last : (d : Deed) → FollowsRule n (time_before nodes acts times n (length acts)) d time
      → FollowsRule n (time_before nodes (acts ++ act_of n d ∷ []) (times ++ time ∷ []) n (length acts)) d (time_at (times ++ time ∷ []) (length acts))
  rule-last d r =
      let within : length acts ≤ length acts = omega arith in
      subst (λ last. FollowsRule n last d (time_at (times ++ time ∷ []) (length acts)))
      (sym (time_before-prefix acts (act_of n d ∷ []) times (time ∷ []) timed nodes n (length acts) within))
      (subst (λ t. FollowsRule n (time_before nodes acts times n (length acts)) d t) (sym (get_or_push times time [] (length acts) timed)) r)

  rule-before : (more : List Act) (later : List (List ℕ)) (j node : ℕ) (deed : Deed) → j < length acts
      → FollowsRule node (time_before nodes acts times node j) deed (time_at times j)
      → FollowsRule node (time_before nodes (acts ++ more) (times ++ later) node j) deed (time_at (times ++ later) j)
  rule-before more later j node deed lt r =
      subst (λ last. FollowsRule node last deed (time_at (times ++ later) j))
      (sym (time_before-prefix acts more times later timed nodes node j (omega (arith, lt))))
      (subst (λ t. FollowsRule node (time_before nodes acts times node j) deed t) (sym (time_at-prefix acts more times later timed j lt)) r)

  rules-more : (deed : Option Deed) → ((d : Deed) → deed ≡ Some d → FollowsRule n (time_before nodes acts times n (length acts)) d time)
      → AllFollow nodes acts times → AllFollow nodes (acts ++ more_acts n deed) (times ++ more_times n time deed)
  rules-more None r all = subst (λ acts. AllFollow nodes acts (times ++ [])) (sym (append-nil acts)) (subst (AllFollow nodes acts) (sym (append-nil times)) all)
  rules-more (Some d) r all = λ j node deed h. elim (Does-cases h) [
    | inl (lt, h') ↦ rule-before (act_of n d ∷ []) (time ∷ []) j node deed lt (all j node deed h')
    | inr (at_last, own, is) ↦
        subst (λ j. FollowsRule node (time_before nodes (acts ++ act_of n d ∷ []) (times ++ time ∷ []) node j) deed
        (time_at (times ++ time ∷ []) j)) (sym at_last)
        (subst (λ node. FollowsRule node (time_before nodes (acts ++ act_of n d ∷ []) (times ++ time ∷ []) node (length acts))
        deed (time_at (times ++ time ∷ []) (length acts))) own
        (subst (λ deed. FollowsRule n (time_before nodes (acts ++ act_of n d ∷ []) (times ++ time ∷ []) n (length acts)) deed
        (time_at (times ++ time ∷ []) (length acts))) is
        (rule-last d (r d refl))))
  ]

module _ (program : Program) (nodes : ℕ) (options : OptionsRecord) where
  pub record AllRuled (world : World) : Type 0 where
    pub present : AllPresent program nodes options world
    pub ruled : AllFollow nodes world.acts world.times

  ruled-kept : KeptByTurns AllRuled
  ruled-kept world flight n l after input entry at comes i h =
      let t : Turned l.node entry.turn after.node = subst (Turns l.node) i.turn_is (turns l.node input) in
      let sh : Shifted l.node entry.turn after.node = subst (ShiftedIf l.node) i.turn_is (shifts l.node input) in
      let own : AtPresent (setting_of program nodes n) world.acts world.times l.node = h.present.each n l at in
      let last : List ℕ = time_before nodes world.acts world.times n (length world.acts) in
      let act_is : entry.turn.act ≡ option_map (act_of n) t.deed = t.act ∙ ap (λ (s : Setting). option_map (act_of s.me) t.deed) own.setting in
      let deed_is : deed_made entry.turn ≡ t.deed = ap (option_map (λ (act : Act). act.deed)) act_is ∙ deed_back program nodes options n t.deed in
      let present : IsPresent l.node.setting.me l.node.mail.wait last l.node.locks.time =
      subst (λ (x : Setting). IsPresent x.me l.node.mail.wait last l.node.locks.time) (sym own.setting) own.present in
      let rule : (d : Deed) → t.deed ≡ Some d → FollowsRule n last d after.node.locks.time = λ d e.
      subst (λ (x : Setting). FollowsRule x.me last d after.node.locks.time) own.setting
      (rule-kept (part_of l.node) own.fits last present sh.acts after.node.mail.wait after.node.locks after.node.barrier.episode
      (deed_made entry.turn) after.node.course d sh.shift sh.moved (deed_is ∙ e)) in
      record {
        present = all-kept program nodes options world flight n l after input entry at comes i h.present;
        ruled =
            subst (λ act. AllFollow nodes (world.acts ++ option_to_list act) (world.times ++ map (λ (a : Act). after.node.locks.time) (option_to_list act)))
            (sym act_is)
            (rules-more nodes world.acts world.times h.present.timed n after.node.locks.time t.deed rule h.ruled);
      }

  none_done : (j node : ℕ) (deed : Deed) → Does [] j node deed → ⊥
  none_done j node deed d = none_there (act_of node deed) d.stands
    where
      none_there : (a : Act) → None ≡ Some a → ⊥
      none_there a e = cc

  pub all_ruled : (events : List Event) (world : World) → run_of program nodes options events ≡ Some world → AllRuled world
  all_ruled events world e =
      by_turns AllRuled ruled-kept program nodes options events world
      (record { present = all-fresh program nodes options; ruled = λ j node deed d. absurd (none_done j node deed d) }) e
