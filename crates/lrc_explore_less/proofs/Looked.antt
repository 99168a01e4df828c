-- What is looked for: it stays where undisputed acts come first.
use Rattle.std.proofs.Common.{◌≡◌, ℕ, List, [], ◌∷◌, ◌++◌, inl, inr, Bool, true, false, length, refl, sym, ap, ◌∙◌, subst, arith}
use Rattle.std.specs.Prelude.{Some, ◌||◌}
use Rattle.std.proofs.lemmas.Bool.{true≢false}
use Rattle.lrc_trace.specs.declared.act.Act.{Act}
use Rattle.lrc_trace.specs.declared.act.Cause.{Cause}
use Rattle.lrc_trace.specs.declared.act.Deed.{Deed}
use Rattle.lrc_trace.specs.declared.act.Deed.TheVariants.{Quiet, Print, Read, Write, Acquire, Release, Arrive, Depart, Trap, End}
use Rattle.lrc_trace.specs.Run.{act_of}
use Rattle.lrc_exec.specs.Plain.{Plain, plain_step, plain_from}
use Rattle.lrc_consistency_laws.proofs.Plainly.{one_more}
use Rattle.lrc_orders.specs.Meeting.{Meet}
use Rattle.lrc_orders.specs.Stuck.{IsAtRest}
use Rattle.lrc_orders.specs.Traps.{has_trap, is_trap}
use Rattle.lrc_orders_laws.specs.Free.{TurnsAt}
use Rattle.lrc_orders_laws.proofs.Alike.{notes_alike}
use Rattle.lrc_orders_laws.proofs.Front.{either_on}
use Rattle.lrc_orders_laws.proofs.Held.{Held}
use Rattle.lrc_orders_laws.proofs.Turning.{at_rest_none_turns, turns_still}
use Rattle.lrc_orders_undisputed.specs.Findings.{Finding, meeting, stuck, trap, outcome, IsMade, Shows}
use Rattle.lrc_orders_undisputed.specs.Searched.{Advances}
use Rattle.lrc_orders_undisputed.proofs.ToCome.{comes_ahead}
use Rattle.lrc_orders_table.proofs.Noting.{traps_again}
use Rattle.lrc_explore_less.proofs.Reduced.{GoodRun, IsLookedFor}

-- a node that turns makes acts for ever
never_rests : (machine after final : Plain) (node : ℕ) (deed : Deed) (order : List ℕ) (acts : List Act) → plain_step machine node ≡ Some (deed, after)
    → TurnsAt machine node → plain_from after order ≡ Some (acts, final) → IsAtRest final → ⊥
never_rests machine after final node deed order acts step turns run still =
    at_rest_none_turns final node still
    (turns_still (node ∷ order) machine final (act_of node deed ∷ acts) node (one_more machine after final node deed order acts step run) turns)

ahead_shows : (finding : Finding) (past made : List Act) (machine there : Plain) → Held machine → Advances machine made there → (order : List ℕ) (acts : List Act)
    (final : Plain) → plain_from machine order ≡ Some (acts, final) → Shows finding (past ++ acts) final
    → GoodRun (λ l m. Shows finding l m) (past ++ made) there (length order)
ahead_shows finding past made machine there held advances order acts final run shows =
    let c = comes_ahead advances held past finding (length order)
    (record { order = order; acts = acts; final = final; led = run; short = omega arith; shows = shows }) in
    record { order = c.order; acts = c.acts; final = c.final; led = c.led; short = c.short; good = c.shows }

meeting_kept : (old new : List Act) (final new_final : Plain) → ((p q : ℕ) → Meet final p q → Meet new_final p q) → Shows meeting old final
    → Shows meeting new new_final
meeting_kept old new final new_final on (p, q, meet) = (p, q, on p q meet)

pub meeting_looked : IsLookedFor (λ l m. Shows meeting l m)
meeting_looked = record {
  follows = λ acts new final new_final f is. meeting_kept acts new final new_final f.meets is;
  drops = λ past machine after final node deed order acts step turns run d is.
      meeting_kept (past ++ act_of node deed ∷ acts) (past ++ d.new_acts) final d.new_final d.meets is;
  ahead = ahead_shows meeting;
}

pub stuck_looked : IsLookedFor (λ l m. Shows stuck l m)
stuck_looked = record {
  follows = λ acts new final new_final f is. subst (λ m. Shows stuck new m) (sym (f.rest is.0).0) is;
  drops = λ past machine after final node deed order acts step turns run d is.
      absurd (never_rests machine after final node deed order acts step turns run is.0);
  ahead = ahead_shows stuck;
}

pub outcome_looked : (nodes : ℕ) (notes : List Act) → IsLookedFor (λ l m. Shows (outcome nodes notes) l m)
outcome_looked nodes notes = record {
  follows = λ acts new final new_final f is. (subst IsAtRest (sym (f.rest is.0).0) is.0, notes_alike (f.rest is.0).1 nodes 0 ∙ is.1);
  drops = λ past machine after final node deed order acts step turns run d is.
      absurd (never_rests machine after final node deed order acts step turns run is.0);
  ahead = ahead_shows (outcome nodes notes);
}

-- ---- traps

record HasMade (acts : List Act) : Type 0 where
  node : ℕ
  cause : Cause
  made : IsMade (act_of node (Trap cause)) acts

trap_here : (node : ℕ) (deed : Deed) (more : List Act) → is_trap deed ≡ true → HasMade (act_of node deed ∷ more)
trap_here node (Trap cause) more e = record { node = node; cause = cause; made = inl refl }
trap_here node Quiet more e = absurd (true≢false (sym e))
trap_here node (Print v) more e = absurd (true≢false (sym e))
trap_here node (Read w v) more e = absurd (true≢false (sym e))
trap_here node (Write w v) more e = absurd (true≢false (sym e))
trap_here node (Acquire l) more e = absurd (true≢false (sym e))
trap_here node (Release l) more e = absurd (true≢false (sym e))
trap_here node Arrive more e = absurd (true≢false (sym e))
trap_here node Depart more e = absurd (true≢false (sym e))
trap_here node End more e = absurd (true≢false (sym e))

made_of : (acts : List Act) → has_trap acts ≡ true → HasMade acts
made_of [] e = absurd (true≢false (sym e))
made_of (act ∷ acts) e = by_test (λ any. made_of acts any) (is_trap act.deed) refl e
  where
    by_test : (has_trap acts ≡ true → HasMade acts) → (b : Bool) → is_trap act.deed ≡ b → (is_trap act.deed || has_trap acts) ≡ true
        → HasMade (act ∷ acts)
    by_test more true here any = trap_here act.node act.deed acts here
    by_test more false here any =
        let later = more (sym (ap (λ b. b || has_trap acts) here) ∙ any) in
        record { node = later.node; cause = later.cause; made = inr later.made }

or_right : (b : Bool) → (b || true) ≡ true
or_right true = refl
or_right false = refl

trap_of : (act : Act) (node : ℕ) (cause : Cause) (acts : List Act) → act ≡ act_of node (Trap cause) → IsMade act acts → has_trap acts ≡ true
trap_of act node cause [] is made = absurd made
trap_of act node cause (first ∷ acts) is (inl same) =
    ap (λ (a : Act). is_trap a.deed || has_trap acts) (same ∙ is)
trap_of act node cause (first ∷ acts) is (inr later) =
    ap (λ b. is_trap first.deed || b) (trap_of act node cause acts is later) ∙ or_right (is_trap first.deed)

abbrev pub HasTrap : List Act → Plain → Type 0
HasTrap acts machine = has_trap acts ≡ true

pub trap_looked : IsLookedFor HasTrap
trap_looked = record {
  follows = λ acts new final new_final f is. f.traps is;
  drops = λ past machine after final node deed order acts step turns run d is.
      traps_again past d.new_acts
      ∙ either_on (has_trap past) d.traps (sym (traps_again past (act_of node deed ∷ acts)) ∙ is);
  ahead = λ past made machine there held advances order acts final run is.
      let m = made_of (past ++ acts) is in
      let a = ahead_shows (trap m.node m.cause) past made machine there held advances order acts final run m.made in
      record {
        order = a.order;
        acts = a.acts;
        final = a.final;
        led = a.led;
        short = a.short;
        good = trap_of (act_of m.node (Trap m.cause)) m.node m.cause ((past ++ made) ++ a.acts) refl a.good;
      };
}
