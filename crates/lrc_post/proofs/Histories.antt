-- What a put and a take do to a legal history and to what is in flight.
use Rattle.std.proofs.Common.{◌≡◌, ℕ, zero, suc, ◌+◌, ◌-◌, ◌<◌, ◌≤◌, ◌∙◌, cond, Bool, false, List, [], ◌∷◌, ◌++◌}
use Rattle.std.proofs.Common.{length, replicate, take, refl, sym, ap, subst, ⊎_elim, arith, length-append}
use Rattle.std.specs.Prelude.{Option, Some, None, slice_get}
use Rattle.std.specs.List.{count_by}
use Rattle.std.proofs.lemmas.Bool.{cases_eq, eq-eqb, ne_eqb}
use Rattle.std.proofs.lemmas.List.{append-nil, take-append-le}
use Rattle.std.proofs.Math.Seq.{take-append_seam}
use Rattle.std.proofs.lemmas.List.Sums.{sum_by_push, sum_by-cons}
use Rattle.std.proofs.lemmas.Option.{slice_get_within, same_Some}
use Rattle.lrc_envelope.specs.declared.picker.Picker.{Picker}
use Rattle.lrc_post.specs.declared.parcel.Parcel.{Parcel}
use Rattle.lrc_post.specs.declared.parcel.Wire.{Wire}
use Rattle.lrc_post.specs.declared.parcel.Wire.TheVariants.{Put, Took}
use Rattle.lrc_post.specs.Wires.{put_of, IsPutOf, IsPutFor, IsLegalAt, IsLegal, IsTakenBy, times, is_take_of, if_put, due, each_due, in_flight, given_next, without_next}
use Rattle.lrc_post.specs.Mailbox.{MailboxRecord, IsMailboxKept, IsTake}
use Rattle.lrc_post.proofs.Dues.{same_due, next_due, next_given}

-- ---- one entry more

pub get_front : {A : Type 0} (history : List A) (wire : A) (i : ℕ) → i < length history
    → slice_get (history ++ wire ∷ []) i ≡ slice_get history i
get_front [] wire i below = absurd (omega (arith, below))
get_front (w ∷ ws) wire zero below = refl
get_front (w ∷ ws) wire (suc i) below = get_front ws wire i (omega (arith, below))

pub get_last : {A : Type 0} (history : List A) (wire : A) → slice_get (history ++ wire ∷ []) (length history) ≡ Some wire
get_last [] wire = refl
get_last (w ∷ ws) wire = get_last ws wire

length_more : (history : List Wire) (more : Wire) → length (history ++ more ∷ []) ≡ suc (length history)
length_more history more = grind (arith, length-append history (more ∷ []))

stays_legal : (owner : ℕ) (history : List Wire) (more : Wire) (place : ℕ) (wire : Wire) → place ≤ length history
    → IsLegalAt owner history place wire → IsLegalAt owner (history ++ more ∷ []) place wire
stays_legal owner history more place (Put from to stamp bytes) within legal = legal
stays_legal owner history more place (Took me put) within legal = (
  legal.0,
  legal.1,
  subst (IsPutFor owner) (sym (get_front history more put (omega (arith, within, legal.1)))) legal.2,
)

legal_more : (owner : ℕ) (history : List Wire) (more : Wire) → IsLegal owner history
    → IsLegalAt owner history (length history) more → IsLegal owner (history ++ more ∷ [])
legal_more owner history more legal next place wire at =
    let within : place < length history + 1 = omega (arith, slice_get_within (history ++ more ∷ []) place wire at, length_more history more) in
    ⊎_elim
    (λ (here : place ≡ length history).
    let same : more ≡ wire =
    same_Some more wire (sym (get_last history more) ∙ ap (slice_get (history ++ more ∷ [])) (sym here) ∙ at) in
    stays_legal owner history more place wire (omega (arith, within))
    (subst (IsLegalAt owner history place) same (subst (λ p. IsLegalAt owner history p more) (sym here) next)))
    (λ (other : place ≡ length history → ⊥).
    let below : place < length history = omega (arith, within, other) in
    stays_legal owner history more place wire (omega (arith, within))
    (legal place wire (sym (get_front history more place below) ∙ at)))
    (cases_eq place (length history))

-- ---- which parcel is given

-- the put that an entry names, if it is a take, is given next
abbrev IsNext : Picker → List Wire → Wire → Type 0
IsNext picker before wire = (me put : ℕ) → wire ≡ Took me put → given_next picker (in_flight picker before) ≡ Some put

taken_more : (picker : Picker) (history : List Wire) (more : Wire) → IsTakenBy picker history → IsNext picker history more
    → IsTakenBy picker (history ++ more ∷ [])
taken_more picker history more before next place me put at =
    let within : place < length history + 1 =
    omega (arith, slice_get_within (history ++ more ∷ []) place (Took me put) at, length_more history more) in
    ⊎_elim
    (λ (here : place ≡ length history).
    let same : more ≡ Took me put =
    same_Some more (Took me put) (sym (get_last history more) ∙ ap (slice_get (history ++ more ∷ [])) (sym here) ∙ at) in
    ap (λ xs. given_next picker (in_flight picker xs)) (ap (λ n. take n (history ++ more ∷ [])) here ∙ take-append_seam history (more ∷ []))
    ∙ next me put same)
    (λ (other : place ≡ length history → ⊥).
    let below : place < length history = omega (arith, within, other) in
    ap (λ xs. given_next picker (in_flight picker xs)) (take-append-le place history (more ∷ []) (omega (arith, below)))
    ∙ before place me put (sym (get_front history more place below) ∙ at))
    (cases_eq place (length history))

-- ---- how often a parcel was given

given_more : (place : ℕ) (history : List Wire) (more : Wire)
    → count_by (is_take_of place) (history ++ more ∷ []) ≡ count_by (is_take_of place) history + cond (is_take_of place more) 1 0
given_more place history more = sum_by_push (λ w. cond (is_take_of place w) 1 0) history more

none_given : (place : ℕ) (history : List Wire)
    → ((i : ℕ) (wire : Wire) → slice_get history i ≡ Some wire → is_take_of place wire ≡ false)
    → count_by (is_take_of place) history ≡ 0
none_given place [] never = refl
none_given place (w ∷ ws) never =
    let rest : count_by (is_take_of place) ws ≡ 0 = none_given place ws (λ i wire at. never (suc i) wire at) in
    sum_by-cons (λ x. cond (is_take_of place x) 1 0) w ws
    ∙ ap (λ b. cond b 1 0 + count_by (is_take_of place) ws) (never 0 w refl)
    ∙ ap (λ n. 0 + n) rest

no_take_ahead : (owner : ℕ) (history : List Wire) (place : ℕ) (wire : Wire) → place < length history
    → IsLegalAt owner history place wire → is_take_of (length history) wire ≡ false
no_take_ahead owner history place (Put from to stamp bytes) within legal = refl
no_take_ahead owner history place (Took me put) within legal =
    ne_eqb put (length history) (λ e. omega (arith, e, within, legal.1))

none_ahead : (owner : ℕ) (history : List Wire) → IsLegal owner history → count_by (is_take_of (length history)) history ≡ 0
none_ahead owner history legal =
    none_given (length history) history
    (λ i wire at. no_take_ahead owner history i wire (slice_get_within history i wire at) (legal i wire at))

-- ---- what is due

due_front : (picker : Picker) (history : List Wire) (more : Wire) (place : ℕ) → place < length history
    → is_take_of place more ≡ false → due picker (history ++ more ∷ []) place ≡ due picker history place
due_front picker history more place below other =
    let count : count_by (is_take_of place) (history ++ more ∷ []) ≡ count_by (is_take_of place) history =
    given_more place history more ∙ ap (λ b. count_by (is_take_of place) history + cond b 1 0) other ∙ omega arith in
    ap (λ e. if_put e (times picker - count_by (is_take_of place) (history ++ more ∷ []))) (get_front history more place below)
    ∙ ap (λ n. if_put (slice_get history place) (times picker - n)) count

due_here : (picker : Picker) (history : List Wire) (more : Wire)
    → due picker (history ++ more ∷ []) (length history)
    ≡ if_put (Some more) (times picker - count_by (is_take_of (length history)) (history ++ more ∷ []))
due_here picker history more =
    ap (λ e. if_put e (times picker - count_by (is_take_of (length history)) (history ++ more ∷ []))) (get_last history more)

-- what is due was put
due_put : (entry : Option Wire) (n : ℕ) → 0 < if_put entry n → (parcel : Parcel) × IsPutOf entry parcel
due_put None n some = absurd (omega (arith, some))
due_put (Some (Put from to stamp bytes)) n some = (record { to = to; stamp = stamp; bytes = bytes }, (from, refl))
due_put (Some (Took me put)) n some = absurd (omega (arith, some))

-- a put in a legal history is for the owner
for_owner : (owner : ℕ) (history : List Wire) (place : ℕ) → IsLegal owner history
    → (parcel : Parcel) × IsPutOf (slice_get history place) parcel → IsPutFor owner (slice_get history place)
for_owner owner history place legal (parcel, put) =
    (parcel, legal place (put_of put.0 parcel) put.1, put)

less_of : (entry : Option Wire) (n m : ℕ) → 0 < if_put entry n → n ≡ suc m → if_put entry n ≡ suc (if_put entry m)
less_of None n m some is = absurd (omega (arith, some))
less_of (Some (Put from to stamp bytes)) n m some is = is
less_of (Some (Took me put)) n m some is = absurd (omega (arith, some))

few_of : (entry : Option Wire) (n : ℕ) → if_put entry n ≤ n
few_of None n = omega arith
few_of (Some (Put from to stamp bytes)) n = omega arith
few_of (Some (Took me put)) n = omega arith

-- a take leaves its parcel due once less
due_less : (picker : Picker) (owner : ℕ) (history : List Wire) (place : ℕ) → place < length history
    → 0 < due picker history place
    → due picker history place ≡ suc (due picker (history ++ Took owner place ∷ []) place)
due_less picker owner history place below some =
    let more = Took owner place in
    let count : count_by (is_take_of place) (history ++ more ∷ []) ≡ count_by (is_take_of place) history + 1 =
    given_more place history more ∙ ap (λ b. count_by (is_take_of place) history + cond b 1 0) (eq-eqb place place refl) in
    let few : due picker history place ≤ times picker - count_by (is_take_of place) history = few_of (slice_get history place) _ in
    let less : times picker - count_by (is_take_of place) history ≡ suc (times picker - count_by (is_take_of place) (history ++ more ∷ [])) =
    omega (arith, count, few, some) in
    less_of (slice_get history place) _ _ some less
    ∙ ap suc (ap (λ e. if_put e (times picker - count_by (is_take_of place) (history ++ more ∷ []))) (sym (get_front history more place below)))

-- ---- what a mailbox keeps

flight_more : (picker : Picker) (history : List Wire) (more : Wire)
    → in_flight picker (history ++ more ∷ [])
    ≡ each_due (due picker (history ++ more ∷ [])) (length history)
    ++ replicate (due picker (history ++ more ∷ []) (length history)) (length history)
unfolding each_due
flight_more picker history more = ap (each_due (due picker (history ++ more ∷ []))) (length_more history more)

-- a parcel for the owner is put, and its place lined up as often as it is to be given
pub kept_put : (owner : ℕ) (picker : Picker) (history : List Wire) (flight : List ℕ) (from : ℕ) (parcel : Parcel)
    → IsMailboxKept owner picker history flight → parcel.to ≡ owner
    → IsMailboxKept owner picker (history ++ put_of from parcel ∷ []) (flight ++ replicate (times picker) (length history))
kept_put owner picker history flight from parcel kept to =
    let more = put_of from parcel in
    let none : count_by (is_take_of (length history)) (history ++ more ∷ []) ≡ 0 =
    given_more (length history) history more ∙ ap (λ n. n + 0) (none_ahead owner history kept.legal) in
    let here : due picker (history ++ more ∷ []) (length history) ≡ times picker =
    due_here picker history more ∙ ap (λ n. times picker - n) none ∙ omega arith in
    record {
      legal = legal_more owner history more kept.legal to;
      taken_so = taken_more picker history more kept.taken_so (λ me put is. cc);
      queued =
          ap (λ xs. xs ++ replicate (times picker) (length history)) kept.queued
          ∙ sym (flight_more picker history more
          ∙ ap (λ xs. xs ++ replicate (due picker (history ++ more ∷ []) (length history)) (length history))
          (same_due (due picker history) (due picker (history ++ more ∷ [])) (length history) (λ k below. due_front picker history more k below refl))
          ∙ ap (λ m. in_flight picker history ++ replicate m (length history)) here);
    }

-- what is given next is below the end, and due
next_in_flight : (owner : ℕ) (picker : Picker) (history : List Wire) (flight : List ℕ) (place : ℕ)
    → IsMailboxKept owner picker history flight → given_next picker flight ≡ Some place
    → (place < length history) × (0 < due picker history place)
next_in_flight owner picker history flight place kept next =
    next_due picker (due picker history) (length history) place (ap (given_next picker) (sym kept.queued) ∙ next)

-- what is given next was put for the owner
pub next_is_put : (owner : ℕ) (picker : Picker) (history : List Wire) (flight : List ℕ) (place : ℕ)
    → IsMailboxKept owner picker history flight → given_next picker flight ≡ Some place → IsPutFor owner (slice_get history place)
next_is_put owner picker history flight place kept next =
    for_owner owner history place kept.legal
    (due_put (slice_get history place) _ (next_in_flight owner picker history flight place kept next).1)

-- the put that a take names
abbrev place_in : ℕ → Wire → ℕ
place_in other (Put from to stamp bytes) = other
place_in other (Took me put) = put

-- the owner takes what is given next
pub kept_take : (owner : ℕ) (picker : Picker) (history : List Wire) (flight : List ℕ) (place : ℕ)
    → IsMailboxKept owner picker history flight → given_next picker flight ≡ Some place
    → IsMailboxKept owner picker (history ++ Took owner place ∷ []) (without_next picker flight)
kept_take owner picker history flight place kept next =
    let more = Took owner place in
    let at = next_in_flight owner picker history flight place kept next in
    let left : each_due (due picker (history ++ more ∷ [])) (length history) ≡ without_next picker (in_flight picker history) =
    next_given picker (due picker history) (due picker (history ++ more ∷ [])) (length history) place
    (ap (given_next picker) (sym kept.queued) ∙ next)
    (λ k below other. due_front picker history more k below (ne_eqb place k (λ e. other (sym e))))
    (due_less picker owner history place at.0 at.1) in
    record {
      taken_so =
          taken_more picker history more kept.taken_so
          (λ me put is. ap (given_next picker) (sym kept.queued) ∙ next ∙ ap (λ w. Some (place_in place w)) is);
      legal = legal_more owner history more kept.legal (refl, at.0, next_is_put owner picker history flight place kept next);
      queued =
          ap (without_next picker) kept.queued
          ∙ sym (flight_more picker history more
          ∙ ap (λ m. each_due (due picker (history ++ more ∷ [])) (length history) ++ replicate m (length history)) (due_here picker history more)
          ∙ append-nil _ ∙ left);
    }

-- a mailbox without a history
pub kept_new : (owner : ℕ) (picker : Picker) → IsMailboxKept owner picker [] []
unfolding each_due
kept_new owner picker = record {
  legal = (λ place wire at. absurd (none_there place wire at));
  taken_so = (λ place me put at. absurd (none_there place (Took me put) at));
  queued = refl;
}
  where
    none_there : (place : ℕ) (wire : Wire) → None ≡ Some wire → ⊥
    none_there place wire at = cc

-- ---- the same of lists known by equations

pub kept_put_as : (owner : ℕ) (picker : Picker) (history after : List Wire) (flight queue : List ℕ) (from : ℕ) (parcel : Parcel)
    → IsMailboxKept owner picker history flight → parcel.to ≡ owner
    → after ≡ history ++ put_of from parcel ∷ [] → queue ≡ flight ++ replicate (times picker) (length history)
    → IsMailboxKept owner picker after queue
kept_put_as owner picker history after flight queue from parcel kept to more longer =
    subst (IsMailboxKept owner picker after) (sym longer)
    (subst (λ h. IsMailboxKept owner picker h (flight ++ replicate (times picker) (length history))) (sym more)
    (kept_put owner picker history flight from parcel kept to))

pub kept_take_as : (owner : ℕ) (picker : Picker) (history after : List Wire) (flight queue : List ℕ) (place : ℕ)
    → IsMailboxKept owner picker history flight → given_next picker flight ≡ Some place
    → after ≡ history ++ Took owner place ∷ [] → queue ≡ without_next picker flight
    → IsMailboxKept owner picker after queue
kept_take_as owner picker history after flight queue place kept next more shorter =
    subst (IsMailboxKept owner picker after) (sym shorter)
    (subst (λ h. IsMailboxKept owner picker h (without_next picker flight)) (sym more)
    (kept_take owner picker history flight place kept next))

-- what `give` did is a take
pub is_take : (owner : ℕ) (picker : Picker) (closed : Bool) (history after : List Wire) (flight : List ℕ) (place : ℕ)
    → (parcel : Parcel) (before : MailboxRecord)
    → record { owner = owner; picker = picker; closed = closed; history = history } ≡ before
    → closed ≡ false → IsMailboxKept owner picker history flight → given_next picker flight ≡ Some place
    → IsPutOf (slice_get history place) parcel → after ≡ history ++ Took owner place ∷ []
    → IsTake before parcel (record { owner = owner; picker = picker; closed = closed; history = after })
is_take owner picker closed history after flight place parcel before is open_now kept next put more =
    subst (λ b. IsTake b parcel (record { owner = owner; picker = picker; closed = closed; history = after })) is
    (record {
      place = place;
      not_closed = open_now;
      next = ap (given_next picker) (sym kept.queued) ∙ next;
      as_put = put;
      for_owner = kept.legal place (put_of put.0 parcel) put.1;
      taken = ap (λ h. record { owner = owner; picker = picker; closed = closed; history = h }) more;
    })
