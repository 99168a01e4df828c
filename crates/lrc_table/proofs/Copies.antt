-- Lemmas on one copy, for the laws and for the crates above.
use Rattle.std.proofs.Common.{ℕ, cond, ◌≡◌, ◌≢◌, ◌<◌, ◌↔◌, Bool, true, false, List, length, Option, None, Some, refl, ap, get_or-set_same, get_or-set_other}
use Rattle.std.specs.Prelude.{IsSome, is_some}
use Rattle.lrc_page.specs.Changes.{changes_between}
use Rattle.lrc_page.specs.declared.size.Size.{Size}
use Rattle.lrc_table.specs.declared.slot.State.{State}
use Rattle.lrc_table.specs.declared.slot.State.TheVariants.{Valid, Written, Invalid, Absent}
use Rattle.lrc_table.specs.PageCopy.{PageCopy, IsWhole, is_written, is_readable, is_pending, pending_changes, read_at}
use Rattle.lrc_table.specs.PageCopy.{written_in, after_write, closed, settled, without_twin, dropped}

-- a copy taken apart
abbrev pub copy_of : State → List ℕ → Option (List ℕ) → Option (List ℕ) → PageCopy
copy_of state values twin base = record { state = state; values = values; twin = twin; base = base }

pub is_written-says : (state : State) → is_written state ≡ true → state ≡ Written
is_written-says Valid is = absurd (cc)
is_written-says Written is = refl
is_written-says Invalid is = absurd (cc)
is_written-says Absent is = absurd (cc)

read-written : (state : State) (values : List ℕ) (twin base : Option (List ℕ)) (offset value : ℕ)
    → is_readable state ≡ true → offset < length values
    → read_at (after_write (copy_of state values twin base) offset value) offset ≡ Some value
read-written Valid values twin base offset value readable within = ap Some (get_or-set_same values offset value 0 within)
read-written Written values twin base offset value readable within = ap Some (get_or-set_same values offset value 0 within)
read-written Invalid values twin base offset value readable within = absurd (cc)
read-written Absent values twin base offset value readable within = absurd (cc)

pub written-read : (copy : PageCopy) (offset value : ℕ) → is_readable copy.state ≡ true → offset < length copy.values
    → read_at (after_write copy offset value) offset ≡ Some value
written-read copy offset value readable within = read-written copy.state copy.values copy.twin copy.base offset value readable within

read-others : (state : State) (values : List ℕ) (twin base : Option (List ℕ)) (offset value other : ℕ) → other ≢ offset
    → read_at (after_write (copy_of state values twin base) offset value) other ≡ read_at (copy_of state values twin base) other
read-others Valid values twin base offset value other apart = ap Some (get_or-set_other values offset other value 0 apart)
read-others Written values twin base offset value other apart = ap Some (get_or-set_other values offset other value 0 apart)
read-others Invalid values twin base offset value other apart = refl
read-others Absent values twin base offset value other apart = refl

pub others-read : (copy : PageCopy) (offset value other : ℕ) → other ≢ offset
    → read_at (after_write copy offset value) other ≡ read_at copy other
others-read copy offset value other apart = read-others copy.state copy.values copy.twin copy.base offset value other apart

pub first_twin : (copy : PageCopy) (offset value : ℕ) → copy.state ≡ Valid → (after_write copy offset value).twin ≡ Some copy.values
first_twin copy offset value is = ap (λ state. (written_in state copy offset value).twin) is

pub later_twin : (copy : PageCopy) (offset value : ℕ) → copy.state ≡ Written → (after_write copy offset value).twin ≡ copy.twin
later_twin copy offset value is = ap (λ state. (written_in state copy offset value).twin) is

base-write : (state : State) (copy : PageCopy) (offset value : ℕ) → (written_in state copy offset value).base ≡ copy.base
base-write Valid copy offset value = refl
base-write Written copy offset value = refl
base-write Invalid copy offset value = refl
base-write Absent copy offset value = refl

pub base-after_write : (copy : PageCopy) (offset value : ℕ) → (after_write copy offset value).base ≡ copy.base
base-after_write copy offset value = base-write copy.state copy offset value

pub base-cond : (b : Bool) (one other : PageCopy) → one.base ≡ other.base → (cond b one other).base ≡ other.base
base-cond true one other same = same
base-cond false one other same = refl

closed_pending : (state : State) (values : List ℕ) (found base : Option (List ℕ)) (twin : List ℕ) → state ≡ Written
    → found ≡ Some twin → pending_changes (closed (copy_of state values found base)) ≡ Some (changes_between twin values)
closed_pending state values found base twin is given = rw (is, given) refl

pub pending-closed : (copy : PageCopy) (twin : List ℕ) → copy.state ≡ Written → copy.twin ≡ Some twin
    → pending_changes (closed copy) ≡ Some (changes_between twin copy.values)
pending-closed copy twin is given = closed_pending copy.state copy.values copy.twin copy.base twin is given

named-parts : (state : State) (values : List ℕ) (twin base : Option (List ℕ))
    → (is_pending (copy_of state values twin base) ≡ true) ↔ IsSome (pending_changes (copy_of state values twin base))
named-parts Valid values None base = (λ is. absurd (cc), λ is. absurd (cc))
named-parts Valid values (Some twin) base = (λ is. refl, λ is. refl)
named-parts Written values twin base = (λ is. absurd (cc), λ is. absurd (cc))
named-parts Invalid values twin base = (λ is. absurd (cc), λ is. absurd (cc))
named-parts Absent values twin base = (λ is. absurd (cc), λ is. absurd (cc))

pub pending-named : (copy : PageCopy) → (is_pending copy ≡ true) ↔ IsSome (pending_changes copy)
pending-named copy = named-parts copy.state copy.values copy.twin copy.base

valid-parts : (state : State) (values : List ℕ) (twin base : Option (List ℕ))
    → is_pending (copy_of state values twin base) ≡ true → state ≡ Valid
valid-parts Valid values twin base is = refl
valid-parts Written values twin base is = absurd (cc)
valid-parts Invalid values twin base is = absurd (cc)
valid-parts Absent values twin base is = absurd (cc)

pub pending-valid : (copy : PageCopy) → is_pending copy ≡ true → copy.state ≡ Valid
pending-valid copy is = valid-parts copy.state copy.values copy.twin copy.base is

pub pending-same : (copy : PageCopy) → is_pending copy ≡ true → pending_changes (closed copy) ≡ pending_changes copy
pending-same copy is = let valid = pending-valid copy is in rw valid refl

dropped-parts : (state : State) (values : List ℕ) (twin base : Option (List ℕ))
    → pending_changes (dropped (copy_of state values twin base)) ≡ pending_changes (copy_of state values twin base)
dropped-parts Valid values twin base = refl
dropped-parts Written values twin base = refl
dropped-parts Invalid values twin base = refl
dropped-parts Absent values twin base = refl

pub pending-dropped : (copy : PageCopy) → pending_changes (dropped copy) ≡ pending_changes copy
pending-dropped copy = dropped-parts copy.state copy.values copy.twin copy.base

settled-parts : (state : State) (values : List ℕ) (twin base : Option (List ℕ))
    → pending_changes (settled (copy_of state values twin base)) ≡ None
settled-parts Valid values None base = refl
settled-parts Valid values (Some twin) base = refl
settled-parts Written values twin base = refl
settled-parts Invalid values twin base = refl
settled-parts Absent values twin base = refl

pub pending-settled : (copy : PageCopy) → pending_changes (settled copy) ≡ None
pending-settled copy = settled-parts copy.state copy.values copy.twin copy.base

untwinned-parts : (state : State) (values : List ℕ) (twin base : Option (List ℕ))
    → pending_changes (without_twin (copy_of state values twin base)) ≡ None
untwinned-parts Valid values twin base = refl
untwinned-parts Written values twin base = refl
untwinned-parts Invalid values twin base = refl
untwinned-parts Absent values twin base = refl

pub pending-untwinned : (copy : PageCopy) → pending_changes (without_twin copy) ≡ None
pending-untwinned copy = untwinned-parts copy.state copy.values copy.twin copy.base

kept-parts : (state : State) (twin : Option (List ℕ)) → state ≡ Written
    → ((is_written state ≡ true) → is_some twin ≡ true) → IsSome twin
kept-parts state None is kept = let some : is_some {T = List ℕ} None ≡ true = kept (ap is_written is) in absurd (cc)
kept-parts state (Some twin) is kept = refl

pub whole-twin : (size : Size) (copy : PageCopy) → IsWhole size copy → copy.state ≡ Written → IsSome copy.twin
whole-twin size copy whole is = kept-parts copy.state copy.twin is whole.kept
