-- What is known of the steps of the nodes so far.
use Rattle.std.proofs.Common.{◌≡◌, ℕ, ◌+◌, ◌<◌, ◌≤◌, Bool, true, false, inl, inr, sym, subst, arith}
use Rattle.std.proofs.lemmas.Bool.{cases_eq, cases_lt, true≢false}
use Rattle.lrc_orders_settling.specs.declared.step.Step.TheVariants.{Alone, Together}
use Rattle.lrc_orders_table.specs.declared.rows.Rows.{Rows}
use Rattle.lrc_orders_table.specs.Rows.{IsRowPlace, WidensRows}
use Rattle.lrc_explore.specs.declared.task.Task.{Task}
use Rattle.lrc_explore.specs.Reached.{AreReached}
use Rattle.lrc_explore.specs.Traps.{ShowsTrapAt}
use Rattle.lrc_explore.proofs.Keys.{no_node}
use Rattle.lrc_explore.proofs.Trapping.{trap_grown}
use Rattle.lrc_explore_less.specs.Enough.{IsTraplessAt}

pub trapless_all : (task : Task) (all : Rows) (place last : ℕ) → AreReached task all → task.flat.nodes ≤ last → ShowsTrapAt task all place Together false
    → ((node : ℕ) → node < last → ShowsTrapAt task all place (Alone node) false) → IsTraplessAt task all place
trapless_all task all place last reached le together each Together = together
trapless_all task all place last reached le together each (Alone node) = λ key at. elim (cases_lt node last) [
  | inl lt ↦ each node lt key at
  | inr past ↦
      let e = (reached.each place key at).valid.spots in
      record {
        each = λ acts after takes. absurd (no_node task key.state node (omega (arith, le, past, e)) acts after takes);
        made = λ e. absurd (true≢false (sym e));
      }
]

-- of those before one; none traps, if calm
abbrev pub AreTrapless : Task → Rows → (calm : Bool) → (place node : ℕ) → Type 0
AreTrapless task all calm place node =
    calm ≡ true → ShowsTrapAt task all place Together false × ((k : ℕ) → k < node → ShowsTrapAt task all place (Alone k) false)

pub trapless_first : (task : Task) (all : Rows) (calm : Bool) (place : ℕ) → (calm ≡ true → ShowsTrapAt task all place Together false)
    → AreTrapless task all calm place 0
trapless_first task all calm place shows e = (shows e, λ k lt. absurd (omega (arith, lt)))

pub trapless_more : (task : Task) (old new : Rows) (calm calm' : Bool) (place node : ℕ) → WidensRows old new → IsRowPlace old place
    → (calm' ≡ true → calm ≡ true) → AreTrapless task old calm place node → (calm' ≡ true → ShowsTrapAt task new place (Alone node) false)
    → AreTrapless task new calm' place (node + 1)
trapless_more task old new calm calm' place node w full less_calm before here e =
    let b = before (less_calm e) in (
      trap_grown task old new place Together false w full b.0,
      λ k lt. elim (cases_eq k node) [
        | inl same ↦ subst (λ n. ShowsTrapAt task new place (Alone n) false) (sym same) (here e)
        | inr apart ↦ trap_grown task old new place (Alone k) false w full (b.1 k (omega (arith, lt, apart)))
      ],
    )
