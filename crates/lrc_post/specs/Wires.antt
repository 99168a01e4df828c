-- What was put into one mailbox and taken out of it, in order.
use Rattle.std.specs.Prelude.{◌≡◌, ℕ, zero, suc, ◌-◌, ◌<◌, ◌==◌, Bool, false, List, [], ◌++◌, length, replicate, take, drop, slice_get, Option, Some, None}
use Rattle.std.specs.List.{count_by}
use Rattle.lrc_envelope.specs.declared.picker.Picker.{Picker}
use Rattle.lrc_envelope.specs.declared.picker.Picker.TheVariants.{Oldest, Newest, Twice}
use Rattle.lrc_post.specs.declared.parcel.Parcel.{Parcel}
use Rattle.lrc_post.specs.declared.parcel.Wire.{Wire}
use Rattle.lrc_post.specs.declared.parcel.Wire.TheVariants.{Put, Took}

-- a node puts a parcel
abbrev pub put_of : ℕ → Parcel → Wire
put_of from parcel = Put from parcel.to parcel.stamp parcel.bytes

-- an entry of a history is the put of a parcel
abbrev pub IsPutOf : Option Wire → Parcel → Type 0
IsPutOf entry parcel = (from : ℕ) × (entry ≡ Some (put_of from parcel))

-- an entry of a history is a put for a node
abbrev pub IsPutFor : ℕ → Option Wire → Type 0
IsPutFor owner entry = (parcel : Parcel) × (parcel.to ≡ owner) × IsPutOf entry parcel

-- one entry is legal: a put is for the owner; a take is by the owner and names an earlier put for the owner
abbrev pub IsLegalAt : ℕ → List Wire → ℕ → Wire → Type 0
IsLegalAt owner history place (Put from to stamp bytes) = to ≡ owner
IsLegalAt owner history place (Took me put) = (me ≡ owner) × (put < place) × IsPutFor owner (slice_get history put)

-- a history is legal: each of its entries is
abbrev pub IsLegal : ℕ → List Wire → Type 0
IsLegal owner history = (place : ℕ) (wire : Wire) → slice_get history place ≡ Some wire → IsLegalAt owner history place wire

-- ---- what is in flight

-- how often each parcel is given
abbrev pub times : Picker → ℕ
times Oldest = 1
times Newest = 1
times Twice = 2

-- an entry is a take of the parcel that was put at a place
abbrev pub is_take_of : ℕ → Wire → Bool
is_take_of place (Put from to stamp bytes) = false
is_take_of place (Took me put) = put == place

-- a number for a put, and 0 for anything else
abbrev pub if_put : Option Wire → ℕ → ℕ
if_put None n = 0
if_put (Some (Put from to stamp bytes)) n = n
if_put (Some (Took me put)) n = 0

-- how often the parcel that was put at a place is still to be given
abbrev pub due : Picker → List Wire → ℕ → ℕ
due picker history place = if_put (slice_get history place) (times picker - count_by (is_take_of place) history)

-- the numbers below one, ascending, each as often as it is due
unfoldable pub each_due : (ℕ → ℕ) → ℕ → List ℕ
each_due f zero = []
each_due f (suc n) = each_due f n ++ replicate (f n) n

-- the places of the puts in flight, oldest first, each as often as its parcel is still to be given
abbrev pub in_flight : Picker → List Wire → List ℕ
in_flight picker history = each_due (due picker history) (length history)

-- the place of the put whose parcel is given next
abbrev pub given_next : Picker → List ℕ → Option ℕ
given_next Oldest places = slice_get places 0
given_next Newest places = slice_get places (length places - 1)
given_next Twice places = slice_get places 0

-- each take of a history is of the parcel that is given next of those in flight then
abbrev pub IsTakenBy : Picker → List Wire → Type 0
IsTakenBy picker history = (place me put : ℕ) → slice_get history place ≡ Some (Took me put)
    → given_next picker (in_flight picker (take place history)) ≡ Some put

-- the places that are left once the next is given
abbrev pub without_next : Picker → List ℕ → List ℕ
without_next Oldest places = drop 1 places
without_next Newest places = take (length places - 1) places
without_next Twice places = drop 1 places
