-- Turns that are told one after another.
use Rattle.std.proofs.Common.{◌≡◌, ◌∙◌, ◌+◌, ◌<◌, ◌++◌, ◌∷◌, [], ℕ, List, Option, ap, append-nil, sym, subst, get_or, length, refl, take}
use Rattle.std.specs.Prelude.{Bool, false, true, None, if◌then◌else◌, slice_get}
use Rattle.std.proofs.lemmas.List.{take_more}
use Rattle.lrc_protocol.specs.declared.event.Event.{Event}
use Rattle.lrc_text.specs.Each.{each}
use Rattle.lrc_text.proofs.Each.{each_more}
use Rattle.lrc_turns_text.specs.Told.{holds_key}
use Rattle.lrc_turns_text.specs.Turns.{Made}
use Rattle.lrc_turns_text.specs.TurnsText.{acts_in}
use Rattle.lrc_bytes_turns.specs.declared.seen.Seen.{Seen}
use Rattle.lrc_bytes_turns.specs.Seen.{Sees}
use Rattle.lrc_bytes_turns.specs.Turns.{event_line, is_shown, shown_line}

-- nothing is known before the first turn
pub sees_none : (seen : Seen) → seen.acts ≡ 0 → seen.taken.keys ≡ [] → Sees [] seen
sees_none seen acts none = record {
  acts = acts;
  taken = λ node from number. ap (λ keys. holds_key keys node from number) none;
}

-- a turn without an event has no line
no_line : (b : Bool) (o : Option Event) (before : List Made) (place : ℕ) (turn : Made) → o ≡ None
    → (if b then event_line before place o turn else []) ≡ []
no_line true o before place turn is = ap (λ (e : Option Event). event_line before place e turn) is
no_line false o before place turn is = refl

pub eventless : (from to : Option ℕ) (events : List Event) (before after : List Made) (place : ℕ) (turn : Made) (text : List ℕ)
    → slice_get events place ≡ None → text ≡ text ++ shown_line from to events before after place turn
eventless from to events before after place turn text none =
    sym (ap (λ (l : List ℕ). text ++ l) (no_line (is_shown from to (acts_in before) (acts_in after)) (slice_get events place) before place turn none)
    ∙ append-nil text)

module _ (turns : List Made) (k : ℕ) (turn : Made) (within : k < length turns) (is : turn ≡ get_or turns k turn) where
  -- the turns so far, with one more
  pub so_far : take k turns ++ turn ∷ [] ≡ take (k + 1) turns
  so_far = ap (λ t. take k turns ++ t ∷ []) is ∙ sym (take_more turns k turn within)

  pub sees_more : (seen : Seen) → Sees (take k turns ++ turn ∷ []) seen → Sees (take (k + 1) turns) seen
  sees_more seen sees = subst (λ (t : List Made). Sees t seen) so_far sees

  pub lines_more : (from to : Option ℕ) (events : List Event) (old new : List ℕ)
      → old ≡ each (λ place t. shown_line from to events (take place turns) (take (place + 1) turns) place t) (take k turns)
      → new ≡ old ++ shown_line from to events (take k turns) (take k turns ++ turn ∷ []) k turn
      → new ≡ each (λ place t. shown_line from to events (take place turns) (take (place + 1) turns) place t) (take (k + 1) turns)
  lines_more from to events old new old_is new_is =
      let line : ℕ → Made → List ℕ = λ place t. shown_line from to events (take place turns) (take (place + 1) turns) place t in
      new_is ∙ ap (λ after. old ++ shown_line from to events (take k turns) after k turn) so_far ∙ ap (λ l. l ++ line k turn) old_is
      ∙ ap (λ t. each line (take k turns) ++ line k t) is ∙ sym (each_more line turns k turn within)
