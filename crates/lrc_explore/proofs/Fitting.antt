-- Where all states are expanded, there are no more than these.
use Rattle.std.proofs.Common.{◌≡◌, ℕ, ◌<◌, ◌≤◌, List, true, sym, ap, ◌∙◌, subst, arith, map}
use Rattle.std.specs.Prelude.{Result, Ok, Err, IfOk}
use Rattle.std.proofs.lemmas.List.{length-map, get_or-map}
use Rattle.std.proofs.lemmas.Option.{get_or_from_slice_get}
use Rattle.lrc_trace.specs.declared.act.Act.{Act}
use Rattle.lrc_exec.specs.declared.spot.Flat.{Flat}
use Rattle.lrc_exec.specs.Plain.{Plain}
use Rattle.lrc_orders.specs.declared.noted.Noted.{Noted}
use Rattle.lrc_orders_table.specs.declared.rows.Rows.{Rows}
use Rattle.lrc_orders_table.specs.Rows.{IsRowAt, WidensRows, row_count}
use Rattle.lrc_orders.specs.Notes.{notes_of}
use Rattle.lrc_exec.specs.States.{plain_at}
use Rattle.lrc_orders.proofs.Keeping.{item_at}
use Rattle.lrc_orders.proofs.Searching.{copy_same}
use Rattle.lrc_orders.proofs.Stores.{listed}
use Rattle.lrc_orders.proofs.Ways.{IsNotedCopy}
use Rattle.lrc_orders_table.proofs.RowLaws.{row_copy, row_store, row_within}
use Rattle.lrc_explore.specs.declared.task.Task.{Task}
use Rattle.lrc_explore.specs.Answers.{FitsSettled, FitsSettledNoted}
use Rattle.lrc_explore.specs.Reached.{AreExpanded, AreReached, HasStart}
use Rattle.lrc_explore.proofs.Reaching.{all_reached}

abbrev with_notes : Plain → List Act → Plain × List Act
with_notes machine notes = (machine, notes)

abbrev told : Flat → Noted → Plain × List Act
told flat key = with_notes (plain_at flat key.state) key.notes.items

abbrev stood : Flat → Noted → Plain
stood flat key = plain_at flat key.state

module _ (task : Task) (all : Rows) (most : ℕ) (reached : AreReached task all) (start : HasStart task all)
    (expanded : AreExpanded task all (row_count all)) (few : row_count all ≤ most) where
  pub fits_settled : FitsSettled task.program.now task.flat.nodes most
  fits_settled =
      let items = listed IsRowAt row_count WidensRows IsNotedCopy row_store all reached.full in
      let keys = items.list in
      let long = items.long in
      record {
        states = map (stood task.flat) keys;
        few = omega (arith, few, long, length-map keys (stood task.flat));
        all = λ acts machine state.
            let has = all_reached task all reached start expanded state in
            let within = subst (λ n. has.place < n) (sym long) (row_within all has.place has.key has.there) in
            let (key, there) = item_at keys has.place within in
            let copy = row_copy all has.place key has.key (items.at has.place key there) has.there in
            let like = plain_at task.flat has.key.state in (
              like,
              (
                has.place,
                omega (arith, within, length-map keys (stood task.flat)),
                get_or-map (stood task.flat) keys has.place key like within
                    ∙ ap (stood task.flat) (get_or_from_slice_get keys has.place key key there)
                    ∙ copy_same task.flat key.state has.key.state copy.state,
              ),
              has.alike,
            );
      }

  pub fits_settled_noted : task.noting ≡ true → FitsSettledNoted task.program.now task.flat.nodes most
  fits_settled_noted noting =
      let items = listed IsRowAt row_count WidensRows IsNotedCopy row_store all reached.full in
      let keys = items.list in
      let long = items.long in
      record {
        states = map (told task.flat) keys;
        few = omega (arith, few, long, length-map keys (told task.flat));
        all = λ acts machine state.
            let has = all_reached task all reached start expanded state in
            let within = subst (λ n. has.place < n) (sym long) (row_within all has.place has.key has.there) in
            let (key, there) = item_at keys has.place within in
            let copy = row_copy all has.place key has.key (items.at has.place key there) has.there in
            let like = plain_at task.flat has.key.state in (
              like,
              (
                has.place,
                omega (arith, within, length-map keys (told task.flat)),
                get_or-map (told task.flat) keys has.place key (with_notes like (notes_of task.flat.nodes acts)) within
                    ∙ ap (told task.flat) (get_or_from_slice_get keys has.place key key there)
                    ∙ ap (λ m. with_notes m key.notes.items) (copy_same task.flat key.state has.key.state copy.state)
                    ∙ ap (with_notes like) (copy.notes ∙ has.noted noting),
              ),
              has.alike,
            );
      }

-- what holds of every answer holds where there is one
pub ok_all : {T E : Type 0} (r : Result T E) (P : T → Type 0) → ((x : T) → P x) → IfOk r P
ok_all (Ok x) P all = all x
ok_all (Err e) P all = tt
