-- Logs whose messages were sent can be woven.
use Rattle.std.proofs.Common.{◌≡◌, ℕ, zero, suc, ◌+◌, ◌-◌, Bool, true, false, List, [], ◌∷◌, ◌++◌, length, replicate, take, drop, refl, ◌∙◌, arith}
use Rattle.std.specs.Prelude.{Option, Some, None, remove, slice_set}
use Rattle.std.proofs.lemmas.List.{length-set, length-replicate}
use Rattle.std.proofs.lemmas.Option.{slice_get_within}
use Rattle.lrc_program.specs.declared.Program.{Program}
use Rattle.lrc_protocol.specs.declared.event.Event.{Event}
use Rattle.lrc_protocol.specs.declared.event.Event.TheVariants.{Run, Deliver, Repeat}
use Rattle.lrc_protocol.specs.Node.{OptionsRecord}
use Rattle.lrc_protocol.specs.Run.{Input, run, taken, EntryRecord, Flying, sent_by, with_mark}
use Rattle.lrc_weave.specs.Logs.{AreLogs}
use Rattle.lrc_weave.specs.Sent.{AreTakesSent}
use Rattle.lrc_weave.specs.Woven.{IsNext, is_taken_among, IsTakenAt, MakesNextTurn, runs}
use Rattle.lrc_protocol.specs.Follows.{log_of, come_of, next_entry}
use Rattle.lrc_weave.specs.Woven.{takes_last, takes_again, Woven, nothing_yet, then_one, AreWoven}
use Rattle.lrc_weave.specs.Next.{IsNextOf}
use Rattle.lrc_weave.proofs.Heads.{next_or_none}
use Rattle.lrc_weave.proofs.Holding.{Holds, holds_start, holds_more, can_take}

-- ---- how many turns are to come

abbrev pub to_come : List (List EntryRecord) → List ℕ → ℕ
to_come [] come = 0
to_come (log ∷ logs) [] = length log + to_come logs []
to_come (log ∷ logs) (c ∷ come) = (length log - c) + to_come logs come

pub one_less : (logs : List (List EntryRecord)) (come : List ℕ) (n : ℕ) (entry : EntryRecord) → length come ≡ length logs → next_entry logs come n ≡ Some entry
    → to_come logs come ≡ suc (to_come logs (slice_set come n (come_of come n + 1)))
one_less [] come n entry count at = cc
one_less (log ∷ logs) [] n entry count at = absurd (omega (arith, count))
one_less (log ∷ logs) (c ∷ come) zero entry count at = omega (arith, slice_get_within log c entry at)
one_less (log ∷ logs) (c ∷ come) (suc n) entry count at = omega (arith, one_less logs come n entry (omega (arith, count)) at)

-- ---- the whole weave

module _ (program : Program) (nodes : ℕ) (options : OptionsRecord) (logs : List (List EntryRecord)) (are : AreLogs program nodes options logs)
    (sources : AreTakesSent logs) where
  -- an event makes the next turn
  abbrev Made : List ℕ → List Flying → ℕ → EntryRecord → Type 0
  Made come flight n entry = (event : Event) × (left : List Flying)
      × MakesNextTurn n (take (come_of come n) (log_of logs n)) (drop (come_of come n + 1) (log_of logs n)) entry flight event left

  by_last : (come : List ℕ) (flight : List Flying) (n place : ℕ) (entry : EntryRecord) (flying : Flying)
      → IsTakenAt n (take (come_of come n) (log_of logs n)) entry flight place flying
      → (b : Bool) → is_taken_among flying.envelope (drop (come_of come n + 1) (log_of logs n)) ≡ b → Made come flight n entry
  by_last come flight n place entry flying t true again = (Repeat place, with_mark flight place, takes_again t again)
  by_last come flight n place entry flying t false last = (Deliver place, remove flight place, takes_last t last)

  by_input : (come : List ℕ) (flight : List Flying) (n : ℕ) (entry : EntryRecord) (input : Input) → entry.input ≡ input → IsNext logs come n entry
      → Holds logs come flight → Made come flight n entry
  by_input come flight n entry run is next holds = (Run n, flight, runs is)
  by_input come flight n entry (taken envelope) is next holds =
      let t = can_take logs program nodes options are sources come flight n entry envelope next is holds in
      by_last come flight n t.0 entry t.1 t.2 (is_taken_among t.1.envelope (drop (come_of come n + 1) (log_of logs n))) refl

  abbrev Whole : Type 0
  Whole = (events : List Event) × (flight : List Flying) × AreWoven logs events flight

  -- all turns to come are woven, so many of them
  go_on : (left : ℕ) (come : List ℕ) (flight : List Flying) (events : List Event) → to_come logs come ≡ left → length come ≡ length logs
      → Woven logs come flight events → Holds logs come flight
      → (o : Option ℕ) → IsNextOf logs come o → Whole
  go_on left come flight events remains counted woven holds None none = (events, flight, record { come = come; woven = woven; all = none })
  go_on zero come flight events remains counted woven holds (Some n) (entry, next) =
      absurd (omega (arith, remains, one_less logs come n entry counted next.next))
  go_on (suc left) come flight events remains counted woven holds (Some n) (entry, next) =
      let made = by_input come flight n entry entry.input refl next holds in
      let new = slice_set come n (come_of come n + 1) in
      go_on left new (made.1 ++ sent_by entry) (events ++ made.0 ∷ [])
      (omega (arith, remains, one_less logs come n entry counted next.next))
      (length-set come n (come_of come n + 1) ∙ counted)
      (then_one woven next made.2)
      (holds_more logs come flight made.1 made.0 n entry counted next.next made.2 holds)
      (next_or_none logs new).0 (next_or_none logs new).1

  pub whole : Whole
  whole =
      let start = replicate (length logs) 0 in
      go_on (to_come logs start) start [] [] refl (length-replicate (length logs) 0) nothing_yet (holds_start logs)
      (next_or_none logs start).0 (next_or_none logs start).1
