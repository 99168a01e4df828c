-- States that suffice show all that some order shows.
use Rattle.std.proofs.Common.{◌≡◌, ℕ, zero, suc, ◌≤◌, List, [], ◌∷◌, ◌++◌, inl, inr, length, refl, sym, ap, ◌∙◌, subst, arith, append_assoc}
use Rattle.std.specs.Prelude.{Some, Contains, ◌↔◌}
use Rattle.std.proofs.lemmas.List.{append-nil}
use Rattle.std.proofs.lemmas.Option.{some_pair_parts}
use Rattle.lrc_program.specs.declared.Program.{Program}
use Rattle.lrc_trace.specs.declared.act.Act.{Act}
use Rattle.lrc_trace.specs.Run.{act_of}
use Rattle.lrc_exec.specs.Plain.{Plain, plain_from, plain_start}
use Rattle.lrc_exec.specs.Follows.{nodes_of_acts}
use Rattle.lrc_consistency_laws.specs.Racing.{HasNoRace}
use Rattle.lrc_consistency_laws.proofs.Plainly.{stepwise}
use Rattle.lrc_orders.specs.Meeting.{IsCalm}
use Rattle.lrc_orders.specs.Outcome.{IsOutcome}
use Rattle.lrc_orders.specs.Stuck.{GetsStuck}
use Rattle.lrc_orders.proofs.Meetings.{never_meets, no_race}
use Rattle.lrc_orders_laws.proofs.Held.{Held, held_at_start}
use Rattle.lrc_orders_undisputed.specs.Findings.{Finding, meeting, stuck, outcome, Shows, Comes, SomeOrderShows}
use Rattle.lrc_orders_undisputed.specs.Searched.{Suffice, SomeStateShows}
use Rattle.lrc_orders_undisputed.proofs.ToCome.{held_along}
use Rattle.lrc_orders_undisputed.proofs.Turning.{drop, drop_shows, round_of}

module _ (program : Program) (nodes : ℕ) (finding : Finding) (states : List (List Act × Plain)) (enough : Suffice program nodes finding states) where
  by_order : (most : ℕ) (past : List Act) (machine : Plain) → Contains states (past, machine) → (order : List ℕ) (acts : List Act) (final : Plain)
      → plain_from machine order ≡ Some (acts, final) → length order ≤ most → Shows finding (past ++ acts) final → SomeStateShows states finding
  by_order most past machine among [] acts final led short shows =
      let parts = some_pair_parts [] acts machine final led in
      record {
        acts = past;
        machine = machine;
        among = among;
        shows = subst (λ l. Shows finding l machine) (append-nil past)
            (subst (λ l. Shows finding (past ++ l) machine) (sym parts.0) (subst (Shows finding (past ++ acts)) (sym parts.1) shows));
      }
  by_order zero past machine among (x ∷ order) acts final led short shows = absurd (omega (arith, short))
  by_order (suc most) past machine among (x ∷ order) acts final led short shows =
      let s = stepwise machine x order acts final led in
      elim (enough.closed past machine s.after x s.deed among s.first) [
        | inl round ↦
            let held : Held machine =
            held_along (nodes_of_acts past) (plain_start program nodes) machine past (held_at_start program nodes) (enough.led past machine among) in
            let d = drop (x ∷ order) x machine machine final acts held (round_of round) led in
            let lt = d.fewer (inl refl) in
            by_order most past machine among d.new_order d.new_acts d.there d.run (omega (arith, lt, short))
            (drop_shows x machine final (x ∷ order) acts past finding d shows)
        | inr stood ↦
            let now : Comes (past ++ act_of x s.deed ∷ []) s.after most finding = record {
              order = order;
              acts = s.more;
              final = final;
              led = s.rest;
              short = omega (arith, short);
              shows = subst (λ l. Shows finding l final) (ap (λ l. past ++ l) s.acts_are ∙ sym (append_assoc past (act_of x s.deed ∷ []) s.more)) shows;
            } in
            let c = stood.stands most now in
            by_order most stood.acts stood.there stood.among c.order c.acts c.final c.led c.short c.shows
      ]

  pub all_shown : SomeOrderShows program nodes finding ↔ SomeStateShows states finding
  all_shown = (
    λ some.
        let c = enough.start.stands (length some.order)
        (record { order = some.order; acts = some.acts; final = some.machine; led = some.led; short = omega arith; shows = some.shows }) in
        by_order (length some.order) enough.start.acts enough.start.there enough.start.among c.order c.acts c.final c.led c.short c.shows,
    λ some. record {
      order = nodes_of_acts some.acts;
      acts = some.acts;
      machine = some.machine;
      led = enough.led some.acts some.machine some.among;
      shows = some.shows;
    },
  )

-- ---- in the words of races, stuck orders and outcomes

abbrev pub AllCalm : List (List Act × Plain) → Type 0
AllCalm states = (acts : List Act) (machine : Plain) → Contains states (acts, machine) → IsCalm machine

pub races : (program : Program) (nodes : ℕ) (states : List (List Act × Plain)) → Suffice program nodes meeting states
    → (HasNoRace program nodes ↔ AllCalm states)
races program nodes states enough = (
  λ free acts machine among.
      never_meets program nodes free machine (record { order = nodes_of_acts acts; acts = acts; led = enough.led acts machine among }),
  λ calm. no_race program nodes (λ machine reached p q meet.
      let s = (all_shown program nodes meeting states enough).0 (record {
        order = reached.order;
        acts = reached.acts;
        machine = machine;
        led = reached.led;
        shows = (p, q, meet);
      }) in
      calm s.acts s.machine s.among s.shows.0 s.shows.1 s.shows.2),
)

abbrev pub SomeOrderGetsStuck : Program → ℕ → Type 0
SomeOrderGetsStuck program nodes = (order : List ℕ) × GetsStuck program nodes order

pub stucks : (program : Program) (nodes : ℕ) (states : List (List Act × Plain)) → Suffice program nodes stuck states
    → (SomeOrderGetsStuck program nodes ↔ SomeStateShows states stuck)
stucks program nodes states enough =
    let all = all_shown program nodes stuck states enough in (
      λ some. let g = some.1 in all.0 (record { order = some.0; acts = g.acts; machine = g.machine; led = g.led; shows = g.stuck }),
      λ some. let o = all.1 some in (o.order, record { acts = o.acts; machine = o.machine; led = o.led; stuck = o.shows }),
    )

pub outcomes : (program : Program) (nodes : ℕ) (notes : List Act) (states : List (List Act × Plain)) → Suffice program nodes (outcome nodes notes) states
    → (IsOutcome program nodes notes ↔ SomeStateShows states (outcome nodes notes))
outcomes program nodes notes states enough =
    let all = all_shown program nodes (outcome nodes notes) states enough in (
      λ o. all.0 (record { order = o.order; acts = o.acts; machine = o.machine; led = o.led; shows = (o.still, o.are) }),
      λ some.
          let o = all.1 some in
          record { order = o.order; acts = o.acts; machine = o.machine; led = o.led; still = o.shows.0; are = o.shows.1 },
    )
