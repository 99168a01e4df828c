-- Ways by undisputed steps, where states are added.
use Rattle.std.proofs.Common.{◌≡◌, ℕ, List, Bool, true, refl}
use Rattle.lrc_orders.specs.declared.noted.Noted.{Noted}
use Rattle.lrc_orders.specs.Kept.{Grows}
use Rattle.lrc_orders.proofs.Keeping.{grows_again, grows_not, stands_on}
use Rattle.lrc_orders.proofs.Stores.{before}
use Rattle.lrc_orders.proofs.Ways.{IsNotedCopy}
use Rattle.lrc_orders_settling.specs.declared.step.Step.{Step}
use Rattle.lrc_orders_table.specs.declared.rows.Rows.{Rows}
use Rattle.lrc_orders_table.specs.Rows.{IsRowAt, IsRowPlace, WidensRows, row_count}
use Rattle.lrc_orders_table.proofs.RowLaws.{row_grown, row_store, rows_not}
use Rattle.lrc_explore.specs.declared.task.Task.{Task}
use Rattle.lrc_explore.proofs.Keys.{more_again}
use Rattle.lrc_explore_less.specs.declared.less.Less.{Less}
use Rattle.lrc_explore_less.specs.Passing.{LeadsOpen, Passes, Reaches, Way, Widens, stays, passing}

-- what stands at a place that was full stood there
pub was_at : (old new : Rows) (place : ℕ) (key : Noted) → WidensRows old new → IsRowPlace old place → IsRowAt new place key → IsRowAt old place key
was_at old new place key w full at = before IsRowAt row_count WidensRows IsNotedCopy row_store old new place key w full at

pub widens_not : (less : Less) → Widens less less
widens_not less = record {
  found = record { rows = rows_not less.found.table.rows; origins = grows_not less.found.origins.items less.found.origins.items refl };
  opens = grows_not less.opens.items less.opens.items refl;
  trap = λ e. e;
}

pub widens_again : {a b c : Less} → Widens a b → Widens b c → Widens a c
widens_again v w = record {
  found = more_again v.found w.found;
  opens = grows_again v.opens w.opens;
  trap = λ e. v.trap (w.trap e);
}

pub reaches_grown : (task : Task) (old new : Rows) (place : ℕ) (step : Step) (traps : Bool) (next : ℕ) → WidensRows old new
    → Reaches task old place step traps next → Reaches task new place step traps next
reaches_grown task old new place step traps next w r = record {
  before = r.before;
  there = row_grown old new place r.before w r.there;
  after = r.after;
  comes = row_grown old new next r.after w r.comes;
  acts = r.acts;
  takes = r.takes;
  noted = r.noted;
  shows = r.shows;
}

module _ (task : Task) (old new : Rows) (calm calm' : Bool) (w : WidensRows old new) (less_calm : calm' ≡ true → calm ≡ true) where
  passes_grown : (place next : ℕ) → Passes task old calm place next → Passes task new calm' place next
  unfolding reaches_grown
  passes_grown place next p = record {
    node = p.node;
    traps = p.traps;
    reaches = reaches_grown task old new place _ p.traps next w p.reaches;
    known = p.known;
    trapless = λ e. p.trapless (less_calm e);
  }

  pub way_grown : {from to : ℕ} → Way task old calm from to → Way task new calm' from to
  way_grown (stays place) = stays place
  way_grown (passing place next to p way) = passing place next to (passes_grown place next p) (way_grown way)

  pub leads_grown : (opens opens' : List ℕ) (place : ℕ) → Grows opens opens' → LeadsOpen task old calm opens place → LeadsOpen task new calm' opens' place
  leads_grown opens opens' place g l =
      record { to = l.to; way = way_grown l.way; index = l.index; is_open = stands_on l.index l.to g l.is_open }

module _ (task : Task) (all : Rows) (calm : Bool) where
  pub way_on : {from mid : ℕ} → Way task all calm from mid → (next : ℕ) → Passes task all calm mid next → Way task all calm from next
  way_on (stays place) next p = passing place next next p (stays next)
  way_on (passing place over mid q way) next p = passing place over next q (way_on way next p)

  pub way_open : {from mid : ℕ} → Way task all calm from mid → (opens : List ℕ) → LeadsOpen task all calm opens mid → LeadsOpen task all calm opens from
  way_open (stays place) opens l = l
  way_open (passing place next mid p way) opens l =
      let rest = way_open way opens l in
      record { to = rest.to; way = passing place next rest.to p rest.way; index = rest.index; is_open = rest.is_open }
