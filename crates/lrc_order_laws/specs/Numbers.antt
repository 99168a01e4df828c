-- Numbers of messages in flight.
use Rattle.std.specs.Prelude.{ℕ, ◌+◌, ◌<◌, ◌≤◌, ◌==◌, ◌&&◌, List, [], ◌∷◌, map, filter}
use Rattle.lrc_envelope.specs.Envelope.{EnvelopeRecord}

-- the numbers of the messages from one node to another, in their order
abbrev pub numbers_between : ℕ → ℕ → List EnvelopeRecord → List ℕ
numbers_between from to envelopes = map (λ envelope. envelope.number) (filter (λ envelope. (envelope.from == from) && (envelope.to == to)) envelopes)

-- numbers that rise, one after another greater, from this least number on and below that bound
abbrev pub Rises : ℕ → ℕ → List ℕ → Type 0
Rises least bound [] = Unit {0}
Rises least bound (x ∷ xs) = (least ≤ x) × (x < bound) × Rises (x + 1) bound xs

-- numbers that are all below a bound
abbrev pub Below : ℕ → List ℕ → Type 0
Below bound [] = Unit {0}
Below bound (x ∷ xs) = (x < bound) × Below bound xs
