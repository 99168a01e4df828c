-- Steps from a row that was found.
use Rattle.std.proofs.Common.{◌≡◌, ℕ, ◌<◌, refl, sym, ap, ◌∙◌, subst, length, true}
use Rattle.std.specs.Prelude.{Option, Some, None, MatchOption, Result, Ok, Err, IfErr, IfOk, OnOk, slice_get}
use Rattle.std.proofs.lemmas.Bool.{true≢false}
use Rattle.lrc_exec.specs.States.{plain_at, IsStateOf}
use Rattle.lrc_orders.specs.declared.noted.Noted.{Noted}
use Rattle.lrc_orders.specs.declared.search.ExploreFault.{ExploreFault}
use Rattle.lrc_orders.specs.declared.search.ExploreFault.TheVariants.{TooMany}
use Rattle.lrc_orders.specs.Traps.{has_trap}
use Rattle.lrc_orders.proofs.Keeping.{grows_not}
use Rattle.lrc_orders.proofs.Searching.{copy_same}
use Rattle.lrc_orders.proofs.Stores.{before}
use Rattle.lrc_orders.proofs.Ways.{IsNotedCopy}
use Rattle.lrc_orders_laws.specs.Settling.{IsSettled}
use Rattle.lrc_orders_settling.specs.declared.step.Step.{Step}
use Rattle.lrc_orders_settling.specs.Taking.{ComputesLong, Takes}
use Rattle.lrc_orders_live.specs.Like.{TakesLike}
use Rattle.lrc_orders_live.proofs.Alike.{takes_once}
use Rattle.lrc_orders_table.specs.declared.rows.Row.{Row}
use Rattle.lrc_orders_table.specs.Rows.{IsRowAt, WidensRows, row_count}
use Rattle.lrc_orders_table.proofs.RowLaws.{row_copy, row_grown, row_store, row_within, stands_at}
use Rattle.lrc_orders_table.specs.declared.known.Means.{Means}
use Rattle.lrc_orders_table.specs.declared.table.Led.{Led}
use Rattle.lrc_orders_table.specs.declared.table.Table.{Table}
use Rattle.lrc_orders_table.specs.Tables.{CannotTakeFrom, IsKnown, IsLongFault as IsLongRowFault, IsRowOf, IsTable, IsTakenFrom, KeepsIfLong, KeepsRows, LeadsToRow}
use Rattle.lrc_explore.specs.declared.task.Task.{Task}
use Rattle.lrc_explore.specs.declared.task.Found.{Found}
use Rattle.lrc_explore.specs.Answers.{IsFault}
use Rattle.lrc_explore.specs.Cut.{StaysLong}
use Rattle.lrc_explore.specs.Traps.{ShowsTrapAt, led_traps}
use Rattle.lrc_explore.specs.Reached.{AreFound, CannotTakeAt, IsFound, IsMeansOf, IsReached, LeadsTo}
use Rattle.lrc_explore.proofs.Keys.{from_grown, next_reached}
use Rattle.lrc_explore.proofs.MeansOf.{means_are, means_of, table_of}
use Rattle.lrc_explore.proofs.Reaching.{settled_key}
use Rattle.lrc_explore.proofs.Seeking.{fault_of}

-- ---- a row at its place

module _ (task : Task) (found : Found) (place : ℕ) (row : Row) (f : AreFound task found) (within : place < row_count found.table.rows)
    (there : slice_get found.table.rows.rows.keys place ≡ Some row) where
  -- what it stands for
  abbrev pub key_at : Noted
  key_at = (f.reached.full place within).0

  pub row_at : IsRowAt found.table.rows place key_at
  row_at = (f.reached.full place within).1

  pub reached_at : IsReached task key_at
  reached_at = f.reached.each place key_at row_at

  pub row_of : (means : Means) → IsMeansOf task means → IsRowOf means found.table row key_at
  row_of means is = record {
    stands = stands_at found.table.rows place row there (f.reached.full place within);
    valid = subst (λ g. IsStateOf g key_at.state) (sym is.flat) reached_at.valid;
  }

  pub taken_from : (means : Means) → IsMeansOf task means → IsTakenFrom means found.table row key_at
  taken_from means is = record {
    of = row_of means is;
    settled = subst (λ g. IsSettled (plain_at g key_at.state)) (sym is.flat) (settled_key task key_at reached_at);
  }

  pub known_at : IsKnown found.table row
  known_at = record {
    means = means_of task;
    known = f.table (means_of task) (means_are task);
    key = key_at;
    of = row_of (means_of task) (means_are task);
  }

-- ---- the rows are kept

module _ (task : Task) (means : Means) (old new : Found) (is : IsMeansOf task means) (f : AreFound task old) (keeps : KeepsRows old.table new.table)
    (known : IsTable means new.table) (same : new.origins.items ≡ old.origins.items) where
  long : row_count new.table.rows ≡ row_count old.table.rows
  long = ap (λ l. length l) keeps.rows

  was_at : (k : ℕ) (key : Noted) → IsRowAt new.table.rows k key → IsRowAt old.table.rows k key
  was_at k key at =
      let within = subst (λ n. k < n) long (row_within new.table.rows k key at) in
      before IsRowAt row_count WidensRows IsNotedCopy row_store old.table.rows new.table.rows k key keeps.widens (f.reached.full k within) at

  from_kept : (k : ℕ) (key : Noted) → IsFound task old k key → IsFound task new k key
  from_kept k key o = record {
    origin = o.origin;
    there = ap (λ l. slice_get l k) same ∙ o.there;
    earlier = o.earlier;
    from = from_grown task old.table.rows new.table.rows o.origin key keeps.widens o.from;
  }

  pub found_kept : AreFound task new
  found_kept = record {
    reached = record {
      full = λ k lt.
          let x = f.reached.full k (subst (λ n. k < n) long lt) in
          (x.0, row_grown old.table.rows new.table.rows k x.0 keeps.widens x.1);
      nodes = keeps.widens.nodes ∙ f.reached.nodes;
      distinct = known.distinct;
      each = λ k key at. f.reached.each k key (was_at k key at);
    };
    table = table_of task means new.table is known;
    even = ap (λ l. length l) same ∙ f.even ∙ sym long;
    from = λ k key pos at. from_kept k key (f.from k key pos (was_at k key at));
    first = λ key at. f.first key (was_at 0 key at);
  }

-- ---- a step from a row

module _ (task : Task) (means : Means) (old : Found) (new : Table) (place : ℕ) (row : Row) (step : Step) (is : IsMeansOf task means) (f : AreFound task old)
    (within : place < row_count old.table.rows) (there : slice_get old.table.rows.rows.keys place ≡ Some row) where
  abbrev key : Noted
  key = key_at task old place row f within there

  at_new : WidensRows old.table.rows new.rows → IsRowAt new.rows place key
  at_new wide = row_grown old.table.rows new.rows place key wide (row_at task old place row f within there)

  leads_on : WidensRows old.table.rows new.rows → (after : Led) → LeadsToRow means new key step after → LeadsTo task new.rows place step after.row
  leads_on wide after l =
      let takes : TakesLike (plain_at task.flat key.state) step l.acts (plain_at task.flat l.next.state) =
      subst (λ g. TakesLike (plain_at g key.state) step l.acts (plain_at g l.next.state)) is.flat l.takes in
      let noted = λ (e : task.noting ≡ true). l.noted (is.noting ∙ e) in
      record {
        key = l.next;
        stands = l.of.stands;
        reached = next_reached task key step l.acts l.next (reached_at task old place row f within there) (subst (λ g. IsStateOf g l.next.state) is.flat l.of.valid)
            l.of.stands.counted takes noted (λ e. l.bare (is.noting ∙ e));
        from = record { before = key; there = at_new wide; acts = l.acts; takes = takes; noted = noted };
      }

  cannot_on : WidensRows old.table.rows new.rows → CannotTakeFrom means key step → CannotTakeAt task new.rows place step
  cannot_on wide cannot other at acts after takes =
      let copy = row_copy new.rows place other key at (at_new wide) in
      let here = subst (λ m. Takes m step acts after) (copy_same task.flat other.state key.state copy.state) takes in
      cannot acts after (subst (λ g. Takes (plain_at g key.state) step acts after) (sym is.flat) here)

  trap_there : WidensRows old.table.rows new.rows → (led : Led) → LeadsToRow means new key step led → ShowsTrapAt task new.rows place step led.traps
  trap_there wide led l other at =
      let copy = row_copy new.rows place other key at (at_new wide) in
      let same : plain_at task.flat other.state ≡ plain_at means.flat key.state =
      copy_same task.flat other.state key.state copy.state ∙ ap (λ g. plain_at g key.state) (sym is.flat) in
      record {
        each = λ acts after takes.
            let one = takes_once (subst (λ m. Takes m step acts after) same takes) l.takes.takes in
            ap has_trap one.0 ∙ sym l.traps;
        made = λ e. record {
          acts = l.acts;
          after = l.takes.there;
          takes = subst (λ m. Takes m step l.acts l.takes.there) (sym same) l.takes.takes;
          traps = sym l.traps ∙ e;
        };
      }

  pub traps_on : (r : Result (Option Led) ExploreFault) → OnOk r (KeepsRows old.table new)
      → IfOk r (λ o. (x : Noted) → IsTakenFrom means old.table row x → MatchOption o (CannotTakeFrom means x step) (LeadsToRow means new x step))
      → IfOk r (λ o. ShowsTrapAt task new.rows place step (led_traps o))
  traps_on (Ok None) keeps all = λ other at.
      let cannot = cannot_on keeps.widens (all key (taken_from task old place row f within there means is)) other at in
      record { each = λ acts after takes. absurd (cannot acts after takes); made = λ e. absurd (true≢false (sym e)) }
  traps_on (Ok (Some led)) keeps all = trap_there keeps.widens led (all key (taken_from task old place row f within there means is))
  traps_on (Err fault) keeps all = tt

  pub taken_on : (r : Result (Option Led) ExploreFault) → OnOk r (KeepsRows old.table new)
      → IfOk r (λ o. (x : Noted) → IsTakenFrom means old.table row x → MatchOption o (CannotTakeFrom means x step) (LeadsToRow means new x step))
      → IfOk r (λ o. MatchOption o (CannotTakeAt task new.rows place step) (λ led. LeadsTo task new.rows place step led.row))
  taken_on (Ok None) keeps all = cannot_on keeps.widens (all key (taken_from task old place row f within there means is))
  taken_on (Ok (Some after)) keeps all = leads_on keeps.widens after (all key (taken_from task old place row f within there means is))
  taken_on (Err fault) keeps all = tt

  pub found_on : (r : Result (Option Led) ExploreFault) → OnOk r (IsTable means new) → OnOk r (KeepsRows old.table new)
      → OnOk r (AreFound task (record { table = new; origins = old.origins }))
  found_on (Ok o) known keeps = let later : Found = record { table = new; origins = old.origins } in found_kept task means old later is f keeps known refl
  found_on (Err fault) known keeps = tt

  pub long_on : (r : Result (Option Led) ExploreFault)
      → IfErr r (λ fault. (x : Noted) → IsTakenFrom means old.table row x → IsLongRowFault means x fault)
      → IfErr r (KeepsIfLong means old.table new)
      → IfErr r (λ fault. fault ≡ TooMany → StaysLong task old (record { table = new; origins = old.origins }) place)
  long_on (Ok o) all kept = tt
  long_on (Err fault) all kept = λ e.
      let l = all key (taken_from task old place row f within there means is) in
      let k = kept e in
      let later : Found = record { table = new; origins = old.origins } in
      record {
        long = (
          key,
          at_new k.1.widens,
          subst (ComputesLong (plain_at task.flat key.state)) is.looked
              (subst (λ g. ComputesLong (plain_at g key.state) means.looked) is.flat (l.many e)),
        );
        found = found_kept task means old later is f k.1 k.0 refl;
        more = record { rows = k.1.widens; origins = grows_not old.origins.items old.origins.items refl };
        keeps = k.1;
      }

  pub faults_on : (r : Result (Option Led) ExploreFault)
      → IfErr r (λ fault. (x : Noted) → IsTakenFrom means old.table row x → IsLongRowFault means x fault) → IfErr r (IsFault task)
  faults_on (Ok o) all = tt
  faults_on (Err fault) all =
      let l = all key (taken_from task old place row f within there means is) in
      fault_of task key fault (reached_at task old place row f within there) (record {
        nodes = l.nodes;
        many = λ e. subst (ComputesLong (plain_at task.flat key.state)) is.looked (subst (λ g. ComputesLong (plain_at g key.state) means.looked) is.flat (l.many e));
      })
