-- What is written of events is read again.
use Rattle.std.proofs.Common.{◌≡◌, ◌∙◌, ◌≤◌, ◌==◌, false, ℕ, suc, refl, sym, ap, subst, arith, List, [], ◌∷◌, ◌++◌, get_or}
use Rattle.std.proofs.lemmas.Bool.{ne_eqb}
use Rattle.std.specs.Prelude.{All, codes, decimal}
use Rattle.std.specs.List.{AllByRecursion}
use Rattle.std.proofs.lemmas.Fmt.{decimal_is_IsNumeral}
use Rattle.std.proofs.lemmas.List.{append_assoc, get_or_default}
use Rattle.std.proofs.lemmas.List.Elements.{All-append, All-cons, All-nil}
use Rattle.std.proofs.lemmas.List.Splits.{slice_split_at}
use Rattle.std.proofs.lemmas.Str.Parse.{digit_at}
use Rattle.lrc_protocol.specs.declared.event.Event.{Event}
use Rattle.lrc_protocol.specs.declared.event.Event.TheVariants.{Run, Deliver, Repeat}
use Rattle.lrc_text.specs.Lines.{lines_of}
use Rattle.lrc_text.proofs.Numbers.{decimal_is_number}
use Rattle.lrc_events.specs.EventsText.{IsLine, NameAll, NamesEvent, empty, more, none}
use Rattle.lrc_events.specs.Writing.{AreEvents, event_text, events_text, number_in}

-- the byte is no line feed, and none of these bytes is one
abbrev NoFeed : ℕ → Type 0
NoFeed byte = (byte == 10) ≡ false

abbrev IsUnbroken : List ℕ → Type 0
IsUnbroken text = All NoFeed text

unbroken : (text : List ℕ) → AllByRecursion NoFeed text → IsUnbroken text
unbroken [] h = All-nil NoFeed
unbroken (byte ∷ text) h = All-cons NoFeed byte text h.0 (unbroken text h.1)

no_feed : (d : ℕ) → 48 ≤ d → NoFeed d
no_feed d low = ne_eqb d 10 (λ is. absurd (omega arith))

decimal_unbroken : (n : ℕ) → n ≤ 4294967295 → IsUnbroken (decimal n)
decimal_unbroken n few = λ k d lt.
    let range = digit_at (decimal n) k (decimal_is_IsNumeral n (omega arith)).0.1 lt in
    subst NoFeed (get_or_default (decimal n) k 0 d lt) (no_feed (get_or (decimal n) k 0) range.0)

event_unbroken : (event : Event) → number_in event ≤ 4294967295 → IsUnbroken (event_text event)
event_unbroken (Run n) few = All-append NoFeed (codes "run ") (decimal n) (unbroken (codes "run ") (refl, (refl, (refl, (refl, tt))))) (decimal_unbroken n few)
event_unbroken (Deliver n) few =
    All-append NoFeed (codes "deliver ") (decimal n) (unbroken (codes "deliver ") (refl, (refl, (refl, (refl, (refl, (refl, (refl, (refl, tt))))))))) (decimal_unbroken n few)
event_unbroken (Repeat n) few =
    All-append NoFeed (codes "repeat ") (decimal n) (unbroken (codes "repeat ") (refl, (refl, (refl, (refl, (refl, (refl, (refl, tt)))))))) (decimal_unbroken n few)

line_of : (word : List ℕ) (n : ℕ) → n ≤ 4294967295 → IsLine word (word ++ decimal n) n
line_of word n few = record { digits = decimal n; whole = refl; number = decimal_is_number n 4294967295 few (omega arith) }

named : (event : Event) → number_in event ≤ 4294967295 → NamesEvent (event_text event) event
named (Run n) few = line_of (codes "run ") n few
named (Deliver n) few = line_of (codes "deliver ") n few
named (Repeat n) few = line_of (codes "repeat ") n few

pub written : (events : List Event) → AreEvents events → NameAll (lines_of (events_text events)) events
written [] h = empty none
written (event ∷ events) h =
    let small = h 0 event (omega arith) in
    let rest : AreEvents events = λ k d lt. h (suc k) d (omega arith) in
    let split : lines_of (events_text (event ∷ events)) ≡ event_text event ∷ lines_of (events_text events) =
    ap lines_of (append_assoc (event_text event) (codes "\n") (events_text events))
    ∙ slice_split_at (λ byte. byte == 10) (event_text event) 10 (events_text events) (event_unbroken event small) refl in
    subst (λ (l : List (List ℕ)). NameAll l (event ∷ events)) (sym split) (more (named event small) (written events rest))
