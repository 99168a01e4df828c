-- What is told of ends.
use Rattle.std.proofs.Common.{◌≡◌, ℕ, List, ◌++◌, Bool, true, Result, Ok, Err, IfOk, append_assoc, sym, subst, ◌∙◌, ap}
use Rattle.std.specs.Prelude.{Some, codes, option_map}
use Rattle.std.specs.declared.alloc.AllocError.{AllocError}
use Rattle.std.proofs.lemmas.Option.{same_Some}
use Rattle.lrc_program.specs.declared.Program.{Program}
use Rattle.lrc_explain_waits.specs.Traps.{Wording}
use Rattle.lrc_trace.specs.declared.act.Act.{Act}
use Rattle.lrc_text.specs.Parts.{whole_text}
use Rattle.lrc_exec.specs.Plain.{Plain, plain}
use Rattle.lrc_consistency_laws.specs.Racing.{HasNoRace}
use Rattle.lrc_orders_ends.specs.Ends.{CannotEnd}
use Rattle.lrc_explore_text.specs.declared.explored.Printout.{Printout}
use Rattle.lrc_explore_text.specs.Ends.{SaysEnds, TellsEnds, ends_status, first_line, raced, some_cannot, tells_ends, through}
use Rattle.lrc_explore_text.specs.Orders.{TellsOrders, ends_text, order_text}
use Rattle.lrc_explore_text.specs.Sections.{TellsBehind}

-- an order that can no longer end is one of the plain machine
pub plain_lost : (program : Program) (nodes : ℕ) (order : List ℕ) (lost : CannotEnd program nodes order) → plain program nodes order ≡ Some lost.acts
plain_lost program nodes order lost = ap (option_map (λ (r : List Act × Plain). r.0)) lost.led

pub of_lost : (wording : Wording) (program : Program) (nodes : ℕ) (lines order : List ℕ) (acts : List Act) → plain program nodes order ≡ Some acts
    → (lost : CannotEnd program nodes order) → (out : List ℕ)
    → out ≡ codes "some order can no longer end:\n" ++ order_text program nodes lines acts ++ ends_text wording program nodes lines acts
    → SaysEnds wording program nodes lines true out
of_lost wording program nodes lines order acts led lost out is =
    let same : acts ≡ lost.acts = same_Some acts lost.acts (sym led ∙ plain_lost program nodes order lost) in
    let whole = is ∙ ap (λ a. codes "some order can no longer end:\n" ++ order_text program nodes lines a ++ ends_text wording program nodes lines a) same in
    subst (λ o. SaysEnds wording program nodes lines true o) (sym whole) (some_cannot lost)

module _ (wording : Wording) (program : Program) (nodes : ℕ) (lines : List ℕ) (races : Bool) where
  -- ends behind what is found besides
  behind : (races ≡ true → HasNoRace program nodes) → (head before last out : List ℕ) (besides status : ℕ) (lost : Bool) → head ≡ first_line races
      → TellsBehind wording program nodes lines head before besides → SaysEnds wording program nodes lines lost last → out ≡ before ++ last
      → status ≡ ends_status besides lost → TellsEnds wording program nodes lines races out status
  behind none head before last out besides status lost first b says is so =
      let whole : out ≡ first_line races ++ (b.text ++ last) =
      is ∙ ap (λ t. t ++ last) b.is ∙ append_assoc head b.text last ∙ ap (λ h. h ++ (b.text ++ last)) first in
      subst (λ o. TellsEnds wording program nodes lines races o status) (sym whole)
      (subst (λ s. TellsEnds wording program nodes lines races (first_line races ++ (b.text ++ last)) s) (sym so) (through none (tells_ends b.tells says)))

  pub of_joined : (races ≡ true → HasNoRace program nodes) → (head before last : List ℕ) (besides : ℕ) (lost : Bool) → head ≡ first_line races
      → TellsBehind wording program nodes lines head before besides → SaysEnds wording program nodes lines lost last → (r : Result Printout AllocError)
      → IfOk r (λ p. whole_text p.parts.items ≡ before ++ last) → IfOk r (λ p. p.status ≡ ends_status besides lost)
      → IfOk r (λ p. TellsEnds wording program nodes lines races (whole_text p.parts.items) p.status)
  of_joined none head before last besides lost first b says (Err fault) text status = tt
  of_joined none head before last besides lost first b says (Ok p) text status =
      behind none head before last (whole_text p.parts.items) besides p.status lost first b says text status

  pub told_raced : races ≡ true → (out : List ℕ) (status : ℕ) → TellsOrders wording program nodes lines out status → status ≡ 3
      → TellsEnds wording program nodes lines races out status
  told_raced is out status told three =
      subst (λ s. TellsEnds wording program nodes lines races out s) (sym three)
      (raced is (subst (λ s. TellsOrders wording program nodes lines out s) three told))
