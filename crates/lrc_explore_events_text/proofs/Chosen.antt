-- The order that is chosen of those that are told.
use Rattle.std.proofs.Common.{◌≡◌, ℕ, Bool, true, false, List, Option, Some, None, refl, sym, subst}
use Rattle.std.specs.Prelude.{IfSome, IsSome, is_some, option_map}
use Rattle.lrc_program.specs.declared.Program.{Program}
use Rattle.lrc_trace.specs.declared.act.Act.{Act}
use Rattle.lrc_exec.specs.Plain.{plain}
use Rattle.lrc_orders.specs.Verdict.{TellsStuck, TellsTrap}
use Rattle.lrc_explore.specs.Met.{IsStuckOrder, IsTrapOrder}
use Rattle.lrc_explore_text.proofs.Ending.{plain_lost}
use Rattle.lrc_explore_text.proofs.Led.{plain_stuck, plain_traps}
use Rattle.lrc_explore_events_text.specs.declared.told.Line.{Line}
use Rattle.lrc_explore_events_text.specs.declared.told.Line.TheVariants.{End, First, Stuck, Trap}
use Rattle.lrc_explore_events_text.specs.Shows.{TellsEndIf, chosen}

pub some_mapped : {X Y : Type 0} (f : X → Y) (o : Option X) → is_some o ≡ is_some (option_map f o)
some_mapped f None = refl
some_mapped f (Some x) = refl

module _ (program : Program) (nodes : ℕ) where
  -- the plain machine makes the acts of an order, if there is one
  abbrev pub IsLed : Option (List ℕ) → Type 0
  IsLed order = IfSome order (λ o. IsSome (plain program nodes o))

  led_so : (order : List ℕ) (acts : List Act) → plain program nodes order ≡ Some acts → IsSome (plain program nodes order)
  led_so order acts e = subst (λ o. IsSome o) (sym e) refl

  -- so it is of each order that is told
  pub stuck_led : (order : Option (List ℕ)) → TellsStuck program nodes order → IsLed order
  stuck_led None tells = tt
  stuck_led (Some order) gets = led_so order gets.acts (plain_stuck program nodes order gets)

  pub trap_led : (order : Option (List ℕ)) → TellsTrap program nodes order → IsLed order
  trap_led None tells = tt
  trap_led (Some order) traps = led_so order traps.acts (plain_traps program nodes order traps)

  -- and of each that was met
  pub stuck_met_led : (order : Option (List ℕ)) → IsStuckOrder program nodes order → IsLed order
  stuck_met_led None tells = tt
  stuck_met_led (Some order) gets = led_so order gets.acts (plain_stuck program nodes order gets)

  pub trap_met_led : (order : Option (List ℕ)) → IsTrapOrder program nodes order → IsLed order
  trap_met_led None tells = tt
  trap_met_led (Some order) traps = led_so order traps.acts (plain_traps program nodes order traps)

  pub end_led : (ends : Bool) (order : Option (List ℕ)) → TellsEndIf program nodes ends order → IsLed order
  end_led true None tells = tt
  end_led true (Some order) lost = led_so order lost.acts (plain_lost program nodes order lost)
  end_led false None tells = tt
  end_led false (Some order) is = cc

  -- and of the one that is chosen
  pub chosen_led : (line : Line) (stuck trap end : Option (List ℕ)) → IsLed stuck → IsLed trap → IsLed end → IsLed (chosen line stuck trap end)
  chosen_led First (Some order) trap end s t e = s
  chosen_led First None (Some order) end s t e = t
  chosen_led First None None end s t e = e
  chosen_led Stuck stuck trap end s t e = s
  chosen_led Trap stuck trap end s t e = t
  chosen_led End stuck trap end s t e = e

  pub led_there : {X : Type 0} (now : X → List ℕ) (order : Option X) → IsLed (option_map now order) → IfSome order (λ o. IsSome (plain program nodes (now o)))
  led_there now None led = tt
  led_there now (Some order) led = led
