-- The access on a line stands where the lesser lines end.
use Rattle.std.proofs.Common.{◌≡◌, ℕ, ◌<◌, List, length, get_or, inl, inr, subst, ap, ◌∙◌, arith}
use Rattle.std.proofs.lemmas.Bool.{cases_order}
use Rattle.std.proofs.lemmas.Option.{slice_get-get_or}
use Rattle.lrc_races_trace.specs.declared.event.Event.{Event}
use Rattle.lrc_races_trace.specs.Trace.{At}
use Rattle.lrc_races_trace.proofs.Positions.{At-one, At-within}
use Rattle.lrc_races_witness.specs.Relations.{AreByLine, HasNoAccess}
use Rattle.lrc_races_witness.proofs.Lines.{line_below}
use Rattle.lrc_races_claims.specs.Places.{IsLinePlace}

-- an event on the line stands at its place
pub on_place : (events : List Event) (line at : ℕ) → IsLinePlace events line at → AreByLine events → (p : ℕ) (a : Event) → At events p a
    → a.line ≡ line → p ≡ at
on_place events line at place by_line p a here on =
    let within = At-within here in
    let is : get_or events p a ≡ a = At-one (record { is = slice_get-get_or events p a within }) here in
    let own = ap (λ (x : Event). x.line) is in
    elim (cases_order p at) [
      | inl same ↦ same
      | inr (inl less) ↦ let below = place.below p a less in absurd (omega arith)
      | inr (inr more) ↦
          let within' : at < length events = omega arith in
          let reached = place.reached a within' in
          let less = line_below events by_line more (record { is = slice_get-get_or events at a within' }) here in
          absurd (omega arith)
    ]

-- where the place lies behind the trace, or its event is on another line, the line has none
pub none_past : (events : List Event) (line at : ℕ) → IsLinePlace events line at → AreByLine events → at ≡ length events → HasNoAccess events line
none_past events line at place by_line end p v a is =
    let same = on_place events line at place by_line p a is.at is.on in
    let within = At-within is.at in
    omega arith

pub none_there : (events : List Event) (line at : ℕ) (d : Event) → IsLinePlace events line at → AreByLine events → at < length events
    → ((get_or events at d).line ≡ line → ⊥) → HasNoAccess events line
none_there events line at d place by_line lt other p v a is =
    let same = on_place events line at place by_line p a is.at is.on in
    let e : get_or events at d ≡ a = At-one (record { is = slice_get-get_or events at d lt }) (subst (λ m. At events m a) same is.at) in
    other (ap (λ (x : Event). x.line) e ∙ is.on)
