-- From each settled state undisputed acts lead on to one from which every step was taken.
use Rattle.std.proofs.Common.{◌≡◌, ℕ, List, [], ◌++◌, Bool, true, false, length, refl, sym, ap, ◌∙◌, subst, append_assoc, append-nil}
use Rattle.std.specs.Prelude.{Some, ◌||◌, is_none, slice_get}
use Rattle.std.proofs.lemmas.Option.{slice_get_within}
use Rattle.lrc_trace.specs.declared.act.Act.{Act}
use Rattle.lrc_trace.specs.declared.act.Deed.{Deed}
use Rattle.lrc_exec.specs.Plain.{Plain, plain_step, plain_start}
use Rattle.lrc_exec.specs.States.{plain_at}
use Rattle.lrc_orders.specs.declared.noted.Noted.{Noted}
use Rattle.lrc_orders.specs.Notes.{notes_of}
use Rattle.lrc_orders.specs.Traps.{has_trap}
use Rattle.lrc_orders.proofs.Searching.{copy_same}
use Rattle.lrc_orders_laws.specs.Free.{is_contended}
use Rattle.lrc_orders_laws.specs.Settling.{Settles}
use Rattle.lrc_orders_laws.specs.Steps.{IsSettledState, Leads, beginning, onward}
use Rattle.lrc_orders_laws.proofs.GoingOn.{state_fine}
use Rattle.lrc_orders_laws.proofs.Settled.{state_settled}
use Rattle.lrc_orders_settling.specs.declared.step.Step.{Step}
use Rattle.lrc_orders_settling.specs.declared.step.Step.TheVariants.{Alone}
use Rattle.lrc_orders_settling.specs.Taking.{Takes, alone, together}
use Rattle.lrc_orders_live.specs.Like.{AreLike}
use Rattle.lrc_orders_live.proofs.Alike.{leads_takes, takes_leads}
use Rattle.lrc_orders_live.proofs.Like.{like_back, like_is, like_on, takes_like}
use Rattle.lrc_orders_table.specs.declared.rows.Rows.{Rows}
use Rattle.lrc_orders_table.specs.Nexts.{notes_on}
use Rattle.lrc_orders_table.specs.Rows.{IsRowAt}
use Rattle.lrc_orders_table.proofs.Noting.{traps_again}
use Rattle.lrc_orders_table.proofs.RowLaws.{row_copy, row_within}
use Rattle.lrc_orders_undisputed.specs.Undisputed.{IsUndisputed}
use Rattle.lrc_orders_undisputed.specs.Searched.{Advances, arrived, further}
use Rattle.lrc_explore.specs.declared.task.Task.{Task}
use Rattle.lrc_explore.specs.Reached.{AreReached}
use Rattle.lrc_explore.proofs.Reaching.{fine_key, notes_onward}
use Rattle.lrc_explore_less.specs.declared.less.Less.{Less}
use Rattle.lrc_explore_less.specs.Passing.{AreLess, Passes, Way, stays, passing}
use Rattle.lrc_explore_less.specs.Enough.{AreDone, HasBegun}
use Rattle.lrc_explore_less.proofs.Reduced.{AreKept, Onto, advances_on, settles_advances}

-- a step of one node, if its act is undisputed
pub take_advances : {machine there : Plain} {step : Step} {acts : List Act} → Takes machine step acts there → (node : ℕ) → step ≡ Alone node
    → ((deed : Deed) (mid : Plain) → plain_step machine node ≡ Some (deed, mid) → is_contended deed ≡ true → IsUndisputed machine node deed mid)
    → Advances machine acts there
take_advances (alone machine mid after own deed acts kind made settles) node is known =
    let same : own ≡ node = cc in
    let undisputed : IsUndisputed machine own deed mid =
    subst (λ n. IsUndisputed machine n deed mid) (sym same) (known deed mid (subst (λ n. plain_step machine n ≡ Some (deed, mid)) same made) kind) in
    further machine mid after own deed acts undisputed (settles_advances settles)
take_advances (together machine mid after departs acts wait led settles) node is known = cc

-- the state at a place stands for this one, with the notes of these acts if notes are kept
pub record Stood (task : Task) (all : Rows) (place : ℕ) (past : List Act) (machine : Plain) : Type 0 where
  pub key : Noted
  pub there : IsRowAt all place key
  pub alike : AreLike machine (plain_at task.flat key.state)
  pub noted : task.noting ≡ true → notes_of task.flat.nodes past ≡ key.notes.items

no_trap_more : (past made : List Act) → has_trap past ≡ false → has_trap made ≡ false → has_trap (past ++ made) ≡ false
no_trap_more past made a b = traps_again past made ∙ ap (λ x. x || has_trap made) a ∙ b

module _ (task : Task) (all : Rows) (calm : Bool) (reached : AreReached task all) where
  -- a step on
  record Passed (next : ℕ) (past : List Act) (machine : Plain) : Type 0 where
    made : List Act
    there : Plain
    advances : Advances machine made there
    state : IsSettledState task.program.now task.flat.nodes (past ++ made) there
    stood : Stood task all next (past ++ made) there
    trapless : calm ≡ true → has_trap made ≡ false

  passed : (place next : ℕ) → Passes task all calm place next → (past : List Act) (machine : Plain)
      → IsSettledState task.program.now task.flat.nodes past machine → Stood task all place past machine → Passed next past machine
  passed place next p past machine state s =
      let r = p.reaches in
      let copy = row_copy all place s.key r.before s.there r.there in
      let alike : AreLike machine (plain_at task.flat r.before.state) = like_is s.alike (copy_same task.flat s.key.state r.before.state copy.state) in
      let on = takes_like r.takes.takes (fine_key task r.before (reached.each place r.before r.there)) machine (state_fine state) (like_back alike) in
      let later = onward past r.acts machine on.there state (takes_leads on.takes) in
      record {
        made = r.acts;
        there = on.there;
        advances =
            take_advances on.takes p.node refl
            (λ deed mid made kind. p.known deed task.program.now task.flat.nodes past machine mid state alike made kind);
        state = later;
        stood = record {
          key = r.after;
          there = r.comes;
          alike = like_on on.alike r.takes.alike;
          noted = λ e.
              notes_onward task.program.now task.flat.nodes past r.acts on.there later ∙ ap (λ n. notes_on n r.acts) (s.noted e ∙ copy.notes)
              ∙ sym {A = List Act} (r.noted e);
        };
        trapless = λ e. r.shows ∙ p.trapless e;
      }

  module _ (opens : List ℕ) where
    -- a settled state that stands at a place that is open
    pub record OpenAt (past : List Act) (machine : Plain) : Type 0 where
      pub state : IsSettledState task.program.now task.flat.nodes past machine
      pub trapless : calm ≡ true → has_trap past ≡ false
      pub index : ℕ
      pub place : ℕ
      pub is_open : slice_get opens index ≡ Some place
      pub stood : Stood task all place past machine

    pub onto : {from to : ℕ} → Way task all calm from to → (index : ℕ) → slice_get opens index ≡ Some to → (past : List Act) (machine : Plain)
        → IsSettledState task.program.now task.flat.nodes past machine → (calm ≡ true → has_trap past ≡ false) → Stood task all from past machine
        → Onto OpenAt past machine
    onto (stays place) index is_open past machine state trapless s = record {
      made = [];
      there = machine;
      advances = arrived machine;
      open_there = subst (λ l. OpenAt l machine) (sym (append-nil past))
          (record { state = state; trapless = trapless; index = index; place = place; is_open = is_open; stood = s });
    }
    onto (passing place next to p way) index is_open past machine state trapless s =
        let q = passed place next p past machine state s in
        let rest = onto way index is_open (past ++ q.made) q.there q.state (λ e. no_trap_more past q.made (trapless e) (q.trapless e)) q.stood in
        record {
          made = q.made ++ rest.made;
          there = rest.there;
          advances = advances_on q.advances rest.advances;
          open_there = subst (λ l. OpenAt l rest.there) (append_assoc past q.made rest.made) rest.open_there;
        }

-- these are enough
module _ (task : Task) (less : Less) (is : AreLess task less) (begun : HasBegun task less) (done : AreDone task less (length less.opens.items)) where
  abbrev all : Rows
  all = less.found.table.rows

  abbrev calm : Bool
  calm = is_none less.trap

  abbrev pub Open : List Act → Plain → Type 0
  Open = OpenAt task less.found.table.rows (is_none less.trap) is.sound.found.reached less.opens.items

  onward_from : (past acts : List Act) (machine after : Plain) → Open past machine → Leads machine acts after → Onto Open (past ++ acts) after
  onward_from past acts machine after o leads =
      let s = o.stood in
      let key = s.key in
      let reached = is.sound.found.reached in
      let st = leads_takes leads in
      let on = takes_like st.1 (state_fine o.state) (plain_at task.flat key.state) (fine_key task key (reached.each o.place key s.there)) s.alike in
      let d = done o.index o.place (slice_get_within less.opens.items o.index o.place o.is_open) o.is_open in
      let next = d.expanded key s.there st.0 acts on.there on.takes in
      let later = onward past acts machine after o.state leads in
      let l = is.leads next.place (row_within all next.place next.key next.there) in
      onto task all calm reached less.opens.items l.way l.index l.is_open (past ++ acts) after later
      (λ e. no_trap_more past acts (o.trapless e) ((d.trapless e st.0 key s.there).each acts on.there on.takes)) (record {
        key = next.key;
        there = next.there;
        alike = like_on (like_back on.alike) next.alike;
        noted = λ e.
            notes_onward task.program.now task.flat.nodes past acts after later ∙ ap (λ n. notes_on n acts) (s.noted e)
            ∙ sym {A = List Act} (next.noted e);
      })

  begins_from : (acts : List Act) (machine : Plain) → Settles (plain_start task.program.now task.flat.nodes) acts machine → Onto Open acts machine
  begins_from acts machine settles =
      let first = begun.start acts machine settles in
      let l = is.leads first.place (row_within all first.place first.key first.there) in
      onto task all calm is.sound.found.reached less.opens.items l.way l.index l.is_open acts machine (beginning acts machine settles)
      (λ e. begun.trapless e acts machine settles)
      (record { key = first.key; there = first.there; alike = first.alike; noted = λ e. sym (first.noted e) })

  pub are_kept : AreKept task.program.now task.flat.nodes Open
  are_kept = record {
    fine = λ past machine o. state_fine o.state;
    is_settled = λ past machine o. state_settled o.state;
    onward = onward_from;
    begins = begins_from;
  }
