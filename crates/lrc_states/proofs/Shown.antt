-- The turns that are shown.
use Rattle.std.proofs.Common.{◌≡◌, ◌∙◌, ◌++◌, ℕ, Bool, false, cond, List, [], ◌∷◌, Option, Some, None, ap, refl, sym, arith, append-nil, length}
use Rattle.std.specs.Prelude.{filter, slice_get, Vec}
use Rattle.std.specs.declared.alloc.Global.{Global}
use Rattle.std.proofs.lemmas.List.{length-append}
use Rattle.std.proofs.lemmas.List.Concat.{flat_map-append}
use Rattle.lrc_protocol.specs.declared.event.Event.{Event}
use Rattle.lrc_protocol.specs.declared.event.Event.TheVariants as events
use Rattle.lrc_protocol.specs.Turn.{done, not_ready, Outcome, unexpected, worn}
use Rattle.lrc_protocol.specs.Run.{Flying, Input, Logged, outcome_of, World}
use Rattle.lrc_protocol.specs.Run as log
use Rattle.lrc_replay.specs.Acts.{Plan}
use Rattle.lrc_replay.specs.Turns.{Turn, turn_by, turn_done, turn_taking, turn_with}
use Rattle.lrc_text.specs.Parts.{whole_text}
use Rattle.lrc_states.specs.declared.told.Telling.{Telling}
use Rattle.lrc_states.specs.Players.{AddsLines}
use Rattle.lrc_states.specs.States.{is_within, shown_now, turn_line, turn_lines}

one_kept : {X : Type 0} (p : X → Bool) (x : X) (b : Bool) → p x ≡ b → filter p (x ∷ []) ≡ cond b (x ∷ []) []
one_kept p x b is = ap (λ c. cond c (x ∷ []) []) is

pub shown_one : (to : Option ℕ) (number : ℕ) (turn : Turn) (b : Bool) → is_within to (length turn.before.acts) ≡ b
    → shown_now to number (turn ∷ []) ≡ cond b ((number, turn) ∷ []) []
shown_one to number turn b is = one_kept (λ (at : ℕ × Turn). is_within to (length at.1.before.acts)) (number, turn) b is

-- a turn that begins behind too many acts is not shown
hidden_done : (to : Option ℕ) (number : ℕ) (world : World) (event : Event) (n : ℕ) (input : Input) (o : Outcome)
    → is_within to (length world.acts) ≡ false → shown_now to number (turn_done world event n input o) ≡ []
hidden_done to number world event n input (done turn after) late =
    shown_one to number (record { before = world; event = event; node = n; input = input; made = turn; after = after }) false late
hidden_done to number world event n input not_ready late = refl
hidden_done to number world event n input unexpected late = refl
hidden_done to number world event n input worn late = refl

hidden_with : (to : Option ℕ) (number : ℕ) (world : World) (event : Event) (n : ℕ) (input : Input) (o : Option Logged)
    → is_within to (length world.acts) ≡ false → shown_now to number (turn_with world event n input o) ≡ []
hidden_with to number world event n input None late = refl
hidden_with to number world event n input (Some l) late = hidden_done to number world event n input (outcome_of l.node input) late

hidden_taking : (to : Option ℕ) (number : ℕ) (world : World) (event : Event) (o : Option Flying)
    → is_within to (length world.acts) ≡ false → shown_now to number (turn_taking world event o) ≡ []
hidden_taking to number world event None late = refl
hidden_taking to number world event (Some sent) late =
    hidden_with to number world event sent.envelope.to (log.taken sent.envelope) (slice_get world.nodes sent.envelope.to) late

pub hidden : (to : Option ℕ) (number : ℕ) (world : World) (event : Event) → is_within to (length world.acts) ≡ false
    → shown_now to number (turn_by world event) ≡ []
hidden to number world (events.Run n) late = hidden_with to number world (events.Run n) n log.run (slice_get world.nodes n) late
hidden to number world (events.Deliver place) late = hidden_taking to number world (events.Deliver place) (slice_get world.flight place) late
hidden to number world (events.Repeat place) late = hidden_taking to number world (events.Repeat place) (slice_get world.flight place) late

-- one line more, or none
pub lines_more : (plan : Plan) (telling : Telling) (shown : List (ℕ × Turn)) (number : ℕ) (turn : Turn) (old new : List (Vec ℕ Global)) (line : Vec ℕ Global)
    → shown ≡ (number, turn) ∷ [] → line.items ≡ turn_line plan telling number turn → new ≡ old ++ line ∷ [] → AddsLines plan telling shown old new
lines_more plan telling shown number turn old new line shown_is line_is new_is = record {
  text = ap whole_text new_is ∙ flat_map-append (λ (part : Vec ℕ Global). part.items) old (line ∷ [])
      ∙ ap (λ l. whole_text old ++ (l ++ [])) line_is ∙ ap (λ s. whole_text old ++ turn_lines plan telling s) (sym shown_is);
  many = omega (arith, ap length new_is, length-append old (line ∷ []), ap length shown_is);
}

pub lines_same : (plan : Plan) (telling : Telling) (shown : List (ℕ × Turn)) (old : List (Vec ℕ Global)) → shown ≡ []
    → AddsLines plan telling shown old old
lines_same plan telling shown old none = record {
  text = sym (append-nil (whole_text old)) ∙ ap (λ s. whole_text old ++ turn_lines plan telling s) (sym none);
  many = omega (arith, ap length none);
}
