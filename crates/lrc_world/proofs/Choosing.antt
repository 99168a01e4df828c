-- What may happen next, and which of it a number says.
use Rattle.std.proofs.Common.{◌≡◌, ◌∙◌, ℕ, zero, suc, ◌+◌, ◌-◌, ◌%◌, ◌<◌, ◌≤◌, ◌^◌, arith, List, [], ◌∷◌, ◌++◌, Bool, true, false, Some, None, Ok}
use Rattle.std.proofs.Common.{refl, sym, ap, subst, length, map, ⊎_elim, ◌⊎◌, append-nil}
use Rattle.std.specs.Prelude.{Result, cond, filter, min, slice_get, slice_index_or, option_map}
use Rattle.std.specs.List.{range_with_len}
use Rattle.std.proofs.Math.Nat.{eq-or-lt_of_le}
use Rattle.std.proofs.lemmas.Nat.{mod_below}
use Rattle.std.proofs.lemmas.List.{length-map, length_push}
use Rattle.std.proofs.lemmas.List.FromFn.{length-range_with_len, get_or-range_with_len, filter_of_map_range_with_len_more}
use Rattle.std.proofs.lemmas.Option.{slice_get-get_or, slice_get-map}
use Rattle.lrc_trace.proofs.Positions.{slice_get-front}
use Rattle.lrc_protocol.specs.declared.event.Event.{Event}
use Rattle.lrc_protocol.specs.declared.event.Event.TheVariants as events
use Rattle.lrc_protocol.specs.Run.{World as Run}
use Rattle.lrc_world.specs.declared.report.TurnFault.{TurnFault}
use Rattle.lrc_world.specs.declared.report.TheConstants.{MOST_EVENTS}
use Rattle.lrc_world.specs.declared.rounds.Driver.{Driver}
use Rattle.lrc_world.specs.declared.world.World.{World}
use Rattle.lrc_world.specs.Driven.{DrivesTo, IsRunOver, PlaysOne, IsFull}
use Rattle.lrc_world.specs.Random.{choices_of, drawn_event, picked, next_state, drawn_number, wandering}
use Rattle.lrc_world.specs.Rounds.{ready_at}
use Rattle.lrc_world.specs.World.{Starts, Shows}
use Rattle.lrc_world.proofs.Driven.{goes_by, is_over, none_long}
use Rattle.lrc_world.proofs.NodeTurns.{not_none}

-- ---- the one that a number says

-- a number says one of them, if there are any
picked_none : (number : ℕ) (choices : List Event) → picked number choices ≡ None → choices ≡ []
picked_none number [] e = refl
picked_none number (x ∷ xs) e =
    absurd (not_none (x ∷ xs) (number % length (x ∷ xs)) (mod_below number (length (x ∷ xs)) (omega arith)) e)

both_empty : {X : Type 0} (xs ys : List X) → xs ++ ys ≡ [] → (xs ≡ []) × (ys ≡ [])
both_empty [] ys e = (refl, e)
both_empty (x ∷ xs) ys e = cc

map_empty : {X Y : Type 0} (f : X → Y) (xs : List X) → map f xs ≡ [] → xs ≡ []
map_empty f [] e = refl
map_empty f (x ∷ xs) e = cc

head_fails : (b : Bool) (a : ℕ) (xs : List ℕ) → cond b (a ∷ xs) xs ≡ [] → b ≡ false
head_fails true a xs e = cc
head_fails false a xs e = refl

rest_empty : (b : Bool) (a : ℕ) (xs : List ℕ) → cond b (a ∷ xs) xs ≡ [] → xs ≡ []
rest_empty true a xs e = cc
rest_empty false a xs e = e

-- where no number passes a test
none_passes : (p : ℕ → Bool) (a k : ℕ) → filter p (range_with_len a k) ≡ [] → (n : ℕ) → a ≤ n → n < a + k → p n ≡ false
none_passes p a zero e n low high = absurd (omega (arith, low, high))
none_passes p a (suc k) e n low high =
    let rest : filter p (range_with_len (a + 1) k) ≡ [] = rest_empty (p a) a (filter p (range_with_len (a + 1) k)) e in
    ⊎_elim
    (λ (same : a ≡ n). ap p (sym same) ∙ head_fails (p a) a (filter p (range_with_len (a + 1) k)) e)
    (λ (later : a < n). none_passes p (a + 1) k rest n (omega (arith, later)) (omega (arith, high)))
    (eq-or-lt_of_le low)

none_in_flight : (n : ℕ) → min n (2 ^ 32) ≡ 0 → n ≤ 0
none_in_flight n e = omega (arith, e)

-- nothing is left to do where no number says anything
pub idle_where : (nodes number : ℕ) (world : World) → ((starts : Starts) (run : Run) → Shows starts world run → None ≡ drawn_event nodes number run)
    → IsRunOver nodes world
idle_where nodes number world none = λ starts run shows count.
    let all : choices_of nodes run ≡ [] = picked_none number (choices_of nodes run) (sym (none starts run shows)) in
    let apart = both_empty (map events.Run (filter (ready_at run) (range_with_len 0 nodes)))
    (map events.Deliver (range_with_len 0 (min (length run.flight) (2 ^ 32)))) all in
    let unready : filter (ready_at run) (range_with_len 0 nodes) ≡ [] =
    map_empty events.Run (filter (ready_at run) (range_with_len 0 nodes)) apart.0 in
    let landed : min (length run.flight) (2 ^ 32) ≡ 0 =
    sym (length-range_with_len 0 (min (length run.flight) (2 ^ 32)))
    ∙ ap length (map_empty events.Deliver (range_with_len 0 (min (length run.flight) (2 ^ 32))) apart.1) in
    is_over nodes run count (λ n below. none_passes (ready_at run) 0 nodes unready n (omega arith) (omega (arith, below)))
    (none_long run.flight (none_in_flight (length run.flight) landed))

-- ---- an event more

pub wanders_on : (nodes seed state after number : ℕ) (event : Event) (old new : Driver) (result : Result (Unit {0}) TurnFault) → after ≡ next_state state
    → number ≡ drawn_number after
    → ((starts : Starts) (run : Run) → Shows starts old.world run → Some event ≡ drawn_event nodes number run)
    → PlaysOne old new event result ⊎ IsFull old new result → DrivesTo (wandering nodes seed) state after old new result
wanders_on nodes seed state after number event old new result next is chooses either =
    goes_by (wandering nodes seed) state after old new event (λ starts run shows.
    (next, sym (ap (λ z. drawn_event nodes z run) is) ∙ sym (chooses starts run shows))) result either

-- where there was room there is one event more
pub one_more : (old new : Driver) (event : Event) (u : Unit {0}) → PlaysOne old new event (Ok u) ⊎ IsFull old new (Ok u)
    → length old.events.items < MOST_EVENTS → length new.events.items ≡ length old.events.items + 1
one_more old new event u either room =
    ⊎_elim
    (λ (p : PlaysOne old new event (Ok u)). ap length p.events ∙ length_push old.events.items event)
    (λ (f : IsFull old new (Ok u)). absurd (omega (arith, room, f.full)))
    either

-- ---- the choices, as a world has them

map_same : (xs : List ℕ) → map (λ x. x) xs ≡ xs
map_same [] = refl
map_same (x ∷ xs) = ap (λ more. x ∷ more) (map_same xs)

-- one number more
pub passes_more : (p : ℕ → Bool) (n : ℕ) (before after : List ℕ) → before ≡ filter p (range_with_len 0 n)
    → after ≡ before ++ cond (p n) (n ∷ []) [] → after ≡ filter p (range_with_len 0 (n + 1))
passes_more p n before after so_far is =
    is
    ∙ ap (λ xs. xs ++ cond (p n) (n ∷ []) []) (so_far ∙ ap (filter p) (sym (map_same (range_with_len 0 n))))
    ∙ sym (filter_of_map_range_with_len_more p (λ x. x) 0 n n (omega arith))
    ∙ ap (filter p) (map_same (range_with_len 0 (n + 1)))

-- a number that was added, or not
pub added : (b : Bool) (n : ℕ) (before after : List ℕ) → b ≡ true → after ≡ before ++ n ∷ [] → after ≡ before ++ cond b (n ∷ []) []
added b n before after holds is = is ∙ ap (λ x. before ++ cond x (n ∷ []) []) (sym holds)

pub not_added : (b : Bool) (n : ℕ) (before after : List ℕ) → b ≡ false → after ≡ before → after ≡ before ++ cond b (n ∷ []) []
not_added b n before after fails is = is ∙ sym (append-nil before) ∙ ap (λ x. before ++ cond x (n ∷ []) []) (sym fails)

get_back : {X : Type 0} (xs ys : List X) (k : ℕ) → length xs ≤ k → slice_get (xs ++ ys) k ≡ slice_get ys (k - length xs)
get_back [] ys k past = let same : k ≡ k - 0 = omega arith in ap (slice_get ys) same
get_back (x ∷ xs) ys zero past = absurd (omega (arith, past))
get_back (x ∷ xs) ys (suc k) past =
    let same : k - length xs ≡ suc k - suc (length xs) = omega arith in
    get_back xs ys k (omega (arith, past)) ∙ ap (slice_get ys) same

length_both : {X : Type 0} (xs ys : List X) → length (xs ++ ys) ≡ length xs + length ys
length_both [] ys = omega arith
length_both (x ∷ xs) ys = let rest : length (xs ++ ys) ≡ length xs + length ys = length_both xs ys in omega (arith, rest)

length_cond : (b : Bool) (n : ℕ) → length (cond b (n ∷ []) []) ≤ 1
length_cond true n = omega arith
length_cond false n = omega arith

pub few_more : (b : Bool) (n : ℕ) (before after : List ℕ) → after ≡ before ++ cond b (n ∷ []) [] → length before ≤ n → length after ≤ n + 1
few_more b n before after is few =
    let long : length after ≡ length before + length (cond b (n ∷ []) []) = ap length is ∙ length_both before (cond b (n ∷ []) []) in
    omega (arith, long, length_cond b n, few)

-- turns of these nodes, and so many deliveries
abbrev turns_and : List ℕ → ℕ → List Event
turns_and ready deliveries = map events.Run ready ++ map events.Deliver (range_with_len 0 deliveries)

count : (ready : List ℕ) (deliveries : ℕ) → length (turns_and ready deliveries) ≡ length ready + deliveries
count ready deliveries =
    length_both (map events.Run ready) (map events.Deliver (range_with_len 0 deliveries))
    ∙ ap (λ n. n + length (map events.Deliver (range_with_len 0 deliveries))) (length-map ready events.Run)
    ∙ ap (λ n. length ready + n) (length-map (range_with_len 0 deliveries) events.Deliver ∙ length-range_with_len 0 deliveries)

-- the one that a number says, by its place
at_place : (number deliveries place : ℕ) (ready : List ℕ) → place ≡ number % (length ready + deliveries)
    → picked number (turns_and ready deliveries) ≡ slice_get (turns_and ready deliveries) place
at_place number deliveries place ready is =
    ap (λ n. slice_get (turns_and ready deliveries) (number % n)) (count ready deliveries) ∙ ap (slice_get (turns_and ready deliveries)) (sym is)

-- a turn
pub picks_turn : (number deliveries place node : ℕ) (ready : List ℕ) → place ≡ number % (length ready + deliveries) → place < length ready
    → node ≡ slice_index_or ready place node → Some (events.Run node) ≡ picked number (turns_and ready deliveries)
picks_turn number deliveries place node ready is within there =
    let long : length (map events.Run ready) ≡ length ready = length-map ready events.Run in
    let at : slice_get ready place ≡ Some node = slice_get-get_or ready place node within ∙ ap Some (sym there) in
    sym (at_place number deliveries place ready is
    ∙ slice_get-front (map events.Run ready) (map events.Deliver (range_with_len 0 deliveries)) place (omega (arith, within, long))
    ∙ slice_get-map events.Run ready place ∙ ap (option_map events.Run) at)

-- a delivery
pub picks_delivery : (number deliveries place : ℕ) (ready : List ℕ) → place ≡ number % (length ready + deliveries) → length ready ≤ place
    → 0 < length ready + deliveries → Some (events.Deliver (place - length ready)) ≡ picked number (turns_and ready deliveries)
picks_delivery number deliveries place ready is past some =
    let long : length (map events.Run ready) ≡ length ready = length-map ready events.Run in
    let below : place < length ready + deliveries =
    subst (λ k. k < length ready + deliveries) (sym is) (mod_below number (length ready + deliveries) some) in
    let within : place - length ready < deliveries = omega (arith, below, past) in
    let spans : length (range_with_len 0 deliveries) ≡ deliveries = length-range_with_len 0 deliveries in
    let nth : slice_get (range_with_len 0 deliveries) (place - length ready) ≡ Some (place - length ready) =
    slice_get-get_or (range_with_len 0 deliveries) (place - length ready) 0 (omega (arith, within, spans))
    ∙ ap Some (get_or-range_with_len 0 deliveries (place - length ready) 0 within ∙ omega arith) in
    sym (at_place number deliveries place ready is
    ∙ get_back (map events.Run ready) (map events.Deliver (range_with_len 0 deliveries)) place (omega (arith, past, long))
    ∙ ap (λ n. slice_get (map events.Deliver (range_with_len 0 deliveries)) (place - n)) long
    ∙ slice_get-map events.Deliver (range_with_len 0 deliveries) (place - length ready)
    ∙ ap (option_map events.Deliver) nth)
