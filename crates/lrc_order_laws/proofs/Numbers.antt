-- Numbers of messages in flight, as messages are sent, delivered and repeated.
use Rattle.std.proofs.Common.{◌≡◌, ℕ, zero, suc, ◌+◌, ◌<◌, ◌≤◌, List, [], ◌∷◌, ◌++◌, Bool, true, false, map, refl, sym, ap, subst, ◌∙◌, arith}
use Rattle.std.specs.Prelude.{◌==◌, ◌&&◌, cond, remove, filter, if◌then◌else◌}
use Rattle.std.specs.List.{range_with_len, enumerate_from}
use Rattle.std.proofs.lemmas.Bool.{eq-eqb, ne_eqb}
use Rattle.std.proofs.lemmas.List.{map-append}
use Rattle.std.proofs.lemmas.List.Elements.{filter-append}
use Rattle.lrc_envelope.specs.Envelope.{EnvelopeRecord}
use Rattle.lrc_protocol.specs.Follows.{numbers_to}
use Rattle.lrc_protocol.specs.Run.{Input, EntryRecord, World, Flying, marked, sent_by}
use Rattle.lrc_protocol.proofs.Induction.{Comes, named, delivered, repeated}
use Rattle.lrc_order_laws.specs.Numbers.{numbers_between, Rises}
use Rattle.lrc_order_laws.proofs.Shift.{AllFrom}

-- ---- numbers that rise

rises-lower : (least lower bound : ℕ) (xs : List ℕ) → lower ≤ least → Rises least bound xs → Rises lower bound xs
rises-lower least lower bound [] le r = tt
rises-lower least lower bound (x ∷ xs) le r = let at_least : least ≤ x = r.0 in (omega (arith, at_least, le), r.1, r.2)

pub rises-append : (least middle bound : ℕ) (xs ys : List ℕ) → least ≤ middle → middle ≤ bound → Rises least middle xs → Rises middle bound ys
    → Rises least bound (xs ++ ys)
rises-append least middle bound [] ys le most r s = rises-lower middle least bound ys le s
rises-append least middle bound (x ∷ xs) ys le most r s =
    let below : x < middle = r.1 in
    (r.0, omega (arith, below, most), rises-append (x + 1) middle bound xs ys (omega (arith, below)) most r.2 s)

pub rises-range : (least more bound : ℕ) → bound ≡ least + more → Rises least bound (range_with_len least more)
rises-range least zero bound e = tt
rises-range least (suc more) bound e = (omega arith, omega (arith, e), rises-range (least + 1) more bound (omega (arith, e)))

-- ---- the envelopes in flight

abbrev pub envelopes_in : List Flying → List EnvelopeRecord
envelopes_in flight = map (λ flying. flying.envelope) flight

abbrev pub are_between : ℕ → ℕ → EnvelopeRecord → Bool
are_between a b envelope = (envelope.from == a) && (envelope.to == b)

between-append : (a b : ℕ) (xs ys : List EnvelopeRecord) → numbers_between a b (xs ++ ys) ≡ numbers_between a b xs ++ numbers_between a b ys
between-append a b xs ys =
    ap (map (λ (e : EnvelopeRecord). e.number)) (filter-append (are_between a b) xs ys)
    ∙ map-append (λ (e : EnvelopeRecord). e.number) (filter (are_between a b) xs) (filter (are_between a b) ys)

pub sent-envelopes : (stamp : ℕ) (out : List EnvelopeRecord)
    → envelopes_in (map (λ envelope. record { envelope = envelope; stamp = stamp; delivered = false }) out) ≡ out
sent-envelopes stamp [] = refl
sent-envelopes stamp (envelope ∷ out) = ap (λ es. envelope ∷ es) (sent-envelopes stamp out)

pub between-sent : (a b : ℕ) (flight : List Flying) (entry : EntryRecord)
    → numbers_between a b (envelopes_in (flight ++ sent_by entry)) ≡ numbers_between a b (envelopes_in flight) ++ numbers_between a b entry.turn.out
between-sent a b flight entry =
    ap (numbers_between a b) (map-append (λ (f : Flying). f.envelope) flight (sent_by entry)
    ∙ ap (λ es. envelopes_in flight ++ es) (sent-envelopes entry.stamp entry.turn.out))
    ∙ between-append a b (envelopes_in flight) entry.turn.out

-- ---- what comes to a node leaves the order

mark_by : (b : Bool) (f : Flying) → (if b then marked f else f).envelope ≡ f.envelope
mark_by true f = refl
mark_by false f = refl

pub marks : (k place : ℕ) (flight : List Flying)
    → envelopes_in (map (λ at. if at.0 == place then marked at.1 else at.1) (enumerate_from k flight)) ≡ envelopes_in flight
marks k place [] = refl
marks k place (f ∷ flight) =
    ap (λ e. e ∷ envelopes_in (map (λ at. if at.0 == place then marked at.1 else at.1) (enumerate_from (k + 1) flight))) (mark_by (k == place) f)
    ∙ ap (λ es. f.envelope ∷ es) (marks (k + 1) place flight)

cond_rises : (c : Bool) (least bound x : ℕ) (rest other : List ℕ) → ((least : ℕ) → Rises least bound rest → Rises least bound other)
    → Rises least bound (cond c (x ∷ rest) rest) → Rises least bound (cond c (x ∷ other) other)
cond_rises true least bound x rest other h r = (r.0, r.1, h (x + 1) r.2)
cond_rises false least bound x rest other h r = h least r

pub cond_drops : (c : Bool) (least bound x : ℕ) (rest : List ℕ) → Rises least bound (cond c (x ∷ rest) rest) → Rises least bound rest
cond_drops true least bound x rest r = let at_least : least ≤ x = r.0 in rises-lower (x + 1) least bound rest (omega (arith, at_least)) r.2
cond_drops false least bound x rest r = r

pub map_cond : (c : Bool) (e : EnvelopeRecord) (rest : List EnvelopeRecord)
    → map (λ (e : EnvelopeRecord). e.number) (cond c (e ∷ rest) rest) ≡ cond c
    (e.number ∷ map (λ (e : EnvelopeRecord). e.number) rest) (map (λ (e : EnvelopeRecord). e.number) rest)
map_cond true e rest = refl
map_cond false e rest = refl

removes : (a b : ℕ) (flight : List Flying) (place least bound : ℕ) → Rises least bound (numbers_between a b (envelopes_in flight))
    → Rises least bound (numbers_between a b (envelopes_in (remove flight place)))
removes a b [] zero least bound r = tt
removes a b [] (suc place) least bound r = tt
removes a b (f ∷ flight) zero least bound r =
    let c : Bool = are_between a b f.envelope in
    cond_drops c least bound f.envelope.number (numbers_between a b (envelopes_in flight))
    (subst (Rises least bound) (map_cond c f.envelope (filter (are_between a b) (envelopes_in flight))) r)
removes a b (f ∷ flight) (suc place) least bound r =
    let c : Bool = are_between a b f.envelope in
    subst (Rises least bound) (sym (map_cond c f.envelope (filter (are_between a b) (envelopes_in (remove flight place)))))
    (cond_rises c least bound f.envelope.number (numbers_between a b (envelopes_in flight)) (numbers_between a b (envelopes_in (remove flight place)))
    (λ least r. removes a b flight place least bound r)
    (subst (Rises least bound) (map_cond c f.envelope (filter (are_between a b) (envelopes_in flight))) r))

pub comes-rises : (world : World) (n : ℕ) (input : Input) (flight : List Flying) (a b least bound : ℕ) → Comes world n input flight
    → Rises least bound (numbers_between a b (envelopes_in world.flight)) → Rises least bound (numbers_between a b (envelopes_in flight))
comes-rises world n input flight a b least bound named r = r
comes-rises world _ _ _ a b least bound (delivered place at) r = removes a b world.flight place least bound r
comes-rises world _ _ _ a b least bound (repeated place at) r =
    subst (λ es. Rises least bound (numbers_between a b es)) (sym (marks 0 place world.flight)) r

-- ---- what a node sends

from_by : (c : Bool) (e : EnvelopeRecord) (b : ℕ) (rest other : List EnvelopeRecord) → c ≡ true
    → map (λ (e : EnvelopeRecord). e.number) rest ≡ map (λ (e : EnvelopeRecord). e.number) other
    → map (λ (e : EnvelopeRecord). e.number) (cond (c && (e.to == b)) (e ∷ rest) rest) ≡ map (λ (e : EnvelopeRecord). e.number)
    (cond (e.to == b) (e ∷ other) other)
from_by c e b rest other is same =
    ap (λ c. map (λ (e : EnvelopeRecord). e.number) (cond (c && (e.to == b)) (e ∷ rest) rest)) is
    ∙ map_cond (e.to == b) e rest
    ∙ ap (λ ns. cond (e.to == b) (e.number ∷ ns) ns) same
    ∙ sym (map_cond (e.to == b) e other)

-- all from one node are between that one and their receivers
pub between-own : (n b : ℕ) (out : List EnvelopeRecord) → AllFrom n out → numbers_between n b out ≡ numbers_to b out
between-own n b [] f = refl
between-own n b (e ∷ out) f =
    from_by (e.from == n) e b (filter (are_between n b) out) (filter (λ e. e.to == b) out) (eq-eqb e.from n f.0) (between-own n b out f.1)

pub between-other : (n m b : ℕ) (out : List EnvelopeRecord) → (n ≡ m → ⊥) → AllFrom n out → numbers_between m b out ≡ []
between-other n m b [] ne f = refl
between-other n m b (e ∷ out) ne f =
    ap (λ c. map (λ (e : EnvelopeRecord). e.number) (cond (c && (e.to == b)) (e ∷ filter (are_between m b) out) (filter (are_between m b) out)))
    (ne_eqb e.from m (λ is. ne (sym f.0 ∙ is)))
    ∙ between-other n m b out ne f.1
