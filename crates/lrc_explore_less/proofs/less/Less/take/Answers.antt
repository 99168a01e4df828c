use Rattle.std.proofs.Common.{◌≡◌, ◌<◌, refl, sym, ap, ◌∙◌, subst, length}
use Rattle.std.specs.Prelude.{MatchOption, Option, is_none}
use Rattle.lrc_orders.specs.Kept.{IsAddedAt}
use Rattle.lrc_orders.specs.declared.search.ExploreFault.TheVariants.{TooMany}
use Rattle.lrc_orders.proofs.Faults.{fault_up}
use Rattle.lrc_orders.proofs.Keeping.{grows_not}
use Rattle.lrc_orders_table.specs.declared.table.Led.{Led}
use Rattle.lrc_orders_table.specs.Rows.{row_count}
use Rattle.lrc_orders_table.proofs.RowLaws.{rows_not}
use Rattle.lrc_explore.specs.Reached.{CannotTakeAt, IsMore, LeadsTo}
use Rattle.lrc_explore.specs.Traps.{ShowsTrapAt, led_traps}
use Rattle.lrc_explore.proofs.Keys.{more_again}
use Rattle.lrc_explore_less.specs.declared.less.Less.{Less}
use Rattle.lrc_explore.proofs.Trapless.{added_only, trapless_put, trapless_same}
use Rattle.lrc_explore_less.specs.Passing.{HasStayed, IsTrap}
use Rattle.lrc_explore_less.proofs.Steps.{reaches_of, sound_taken, trap_calm, trap_more, trap_taken, widens_put, widens_same}
use Rattle.lrc_explore_less.proofs.less.Less.take.Goals as goal

pub put-requires-clause-next : goal.put-requires-clause-next
put-requires-clause-next c =
    let task = c.args.task.now in
    let all = c.row_after.new.found.table.rows in
    let P : Option Led → Type 0 = λ o. MatchOption o (CannotTakeAt task all c.args.place c.args.step) (λ led. LeadsTo task all c.args.place c.args.step led.row) in
    subst P c.in-Some.is c.in_ok-led.ensures.taken

-- ---- where it cannot be taken

pub returns-in_default-clause-sound : goal.returns-in_default-clause-sound
returns-in_default-clause-sound c =
    let task = c.args.task.now in
    let old = c.args.self.now in
    let mid = c.row_after.new.found in
    let e = c.in_ok-led.ensures in
    sound_taken task old (record old { found = mid }) mid old.trap c.requires.sound e.keeps.widens refl e.found (rows_not mid.table.rows)
    (trap_more task old.found.table.rows mid.table.rows old.trap e.keeps.widens c.requires.sound.trap)
    (λ none. trapless_same task old.found.table.rows mid.table.rows c.requires.sound.found.reached e.keeps.widens (ap (λ l. length l) e.keeps.rows)
    (c.requires.sound.trapless none))

pub returns-in_default-clause-widens : goal.returns-in_default-clause-widens
returns-in_default-clause-widens c =
    let old = c.args.self.now in
    let mid = c.row_after.new.found in
    let more : IsMore old.found mid = record {
      rows = c.in_ok-led.ensures.keeps.widens;
      origins = grows_not old.found.origins.items mid.origins.items c.row_after.ensures.origins;
    } in
    widens_same old (record old { found = mid }) more refl refl

pub returns-in_default-clause-taken : goal.returns-in_default-clause-taken
returns-in_default-clause-taken c =
    let task = c.args.task.now in
    let all = c.row_after.new.found.table.rows in
    let P : Option Led → Type 0 = λ o. MatchOption o (CannotTakeAt task all c.args.place c.args.step) (λ led. LeadsTo task all c.args.place c.args.step led.row) in
    record { cannot = subst P c.in_default.is c.in_ok-led.ensures.taken; rows = ap (λ l. length l) c.in_ok-led.ensures.keeps.rows; trap = refl }

-- ---- where some node computes too long

pub returns-in_err-led-clause-long : goal.returns-in_err-led-clause-long
returns-in_err-led-clause-long c =
    let task = c.args.task.now in
    let old = c.args.self.now in
    let mid = c.row_after.new.found in
    let new : Less = record old { found = mid } in
    let s = c.requires.sound in
    fault_up c.from_residual.result c.in_err-led.field-0.0
    (λ fault. fault ≡ TooMany → HasStayed task old new c.args.place) c.from_residual.ensures.1 (λ is.
    let l = c.in_err-led.ensures.long is in
    let same = ap (λ l. length l) l.keeps.rows in
    let was = old.found.table.rows in
    let now = mid.table.rows in
    record {
      sound = sound_taken task old new mid old.trap s l.keeps.widens refl l.found (rows_not now)
          (trap_more task was now old.trap l.keeps.widens s.trap)
          (λ none. trapless_same task was now s.found.reached l.keeps.widens same (s.trapless none));
      widens = widens_same old new l.more refl refl;
      opens = refl;
      rows = same;
      long = l.long;
    })

-- ---- where it is

pub returns-clause-sound : goal.returns-clause-sound
returns-clause-sound c =
    let task = c.args.task.now in
    let old = c.args.self.now in
    let mid = c.row_after.new.found in
    let e = c.in_ok-led.ensures in
    let Q : Option Led → Type 0 = λ o. ShowsTrapAt task mid.table.rows c.args.place c.args.step (led_traps o) in
    let full = e.found.reached.full c.args.place
    (subst (λ n. c.args.place < n) (sym (ap (λ l. length l) e.keeps.rows)) c.requires.within) in
    let trap = trap_taken task old.found.table.rows mid.table.rows old.trap c.in-Some.led.traps c.args.place c.args.step e.keeps.widens c.requires.sound.trap
    full.0 full.1 (subst Q c.in-Some.is e.traps) in
    sound_taken task old c.put.new.self mid c.trap_then-self.result c.requires.sound e.keeps.widens c.put.ensures.others c.in_ok-put.ensures.found
    c.in_ok-put.ensures.more.rows (subst (IsTrap task mid.table.rows) (sym c.trap_then-self.ensures) trap) (λ none.
    let p = c.in_ok-put.ensures in
    let all = c.put.new.self.found.table.rows in
    let place = c.args.place in
    let step = c.args.step in
    let led = c.in-Some.led in
    let P : Option Led → Type 0 = λ o. MatchOption o (CannotTakeAt task mid.table.rows place step) (λ l. LeadsTo task mid.table.rows place step l.row) in
    let n = subst P c.in-Some.is e.taken in
    let was = trap_calm old.trap led.traps (record { parent = place; step = step }) (ap is_none (sym c.trap_then-self.ensures) ∙ none) in
    let calm = trapless_same task old.found.table.rows mid.table.rows c.requires.sound.found.reached e.keeps.widens (ap (λ l. length l) e.keeps.rows)
    (c.requires.sound.trapless was.0) in
    let shows = subst (ShowsTrapAt task mid.table.rows place step) was.1 (subst Q c.in-Some.is e.traps) in
    trapless_put task mid.table.rows all place c.in_ok-put.put.0 step led.row e.found.reached p.more.rows
    (added_only (row_count mid.table.rows) (row_count all) c.in_ok-put.put.0 c.in_ok-put.put.1 p.added) n shows (p.there n.key n.stands) calm)

pub returns-clause-taken : goal.returns-clause-taken
returns-clause-taken c =
    let task = c.args.task.now in
    let old = c.args.self.now in
    let mid = c.row_after.new.found in
    let new = c.put.new.self in
    let place = c.args.place in
    let step = c.args.step in
    let e = c.in_ok-led.ensures in
    let p = c.in_ok-put.ensures in
    let led = c.in-Some.led in
    let P : Option Led → Type 0 = λ o. MatchOption o (CannotTakeAt task mid.table.rows place step) (λ l. LeadsTo task mid.table.rows place step l.row) in
    let Q : Option Led → Type 0 = λ o. ShowsTrapAt task mid.table.rows place step (led_traps o) in
    let n = subst P c.in-Some.is e.taken in
    record {
      traps = led.traps;
      reaches = reaches_of task mid.table.rows new.found.table.rows place c.in_ok-put.put.0 step led.row led.traps p.more.rows n (subst Q c.in-Some.is e.traps)
          (p.there n.key n.stands);
      added = subst (λ k. IsAddedAt k (row_count new.found.table.rows) c.in_ok-put.put.0 c.in_ok-put.put.1) (ap (λ l. length l) e.keeps.rows) p.added;
      trap = ap (λ (l : Less). l.trap) c.put.ensures.others ∙ c.trap_then-self.ensures;
    }

pub returns-clause-opens : goal.returns-clause-opens
returns-clause-opens c = ap (λ (l : Less). l.opens.items) c.put.ensures.others

pub returns-clause-widens : goal.returns-clause-widens
returns-clause-widens c =
    let old = c.args.self.now in
    let mid = c.row_after.new.found in
    let first : IsMore old.found mid = record {
      rows = c.in_ok-led.ensures.keeps.widens;
      origins = grows_not old.found.origins.items mid.origins.items c.row_after.ensures.origins;
    } in
    widens_put old c.put.new.self c.in-Some.led.traps _ (more_again first c.in_ok-put.ensures.more) (ap (λ (l : Less). l.opens.items) c.put.ensures.others)
    (ap (λ (l : Less). l.trap) c.put.ensures.others ∙ c.trap_then-self.ensures)
