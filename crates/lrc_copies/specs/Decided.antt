-- Where intervals are named by numbers, whether a value fits a list can be computed.
use Rattle.std.specs.Prelude.{ℕ, ◌==◌, ◌&&◌, ◌||◌, Bool, false, not, Option, Some, None, is_some, List, filter}
use Rattle.std.specs.List.{list_all, list_any}
use Rattle.lrc_copies.specs.Word.{WordHistory}

-- the members that wrote the word
abbrev pub writers : WordHistory ℕ → List ℕ → List ℕ
writers w xs = filter (λ a. is_some (w.wrote a)) xs

-- whether the value is that of the option
abbrev pub is_value : ℕ → Option ℕ → Bool
is_value value None = false
is_value value (Some v) = v == value

-- whether any two writers are the same, or one is below the other
abbrev pub are_ordered : WordHistory ℕ → List ℕ → Bool
are_ordered w xs =
    list_all (λ a. list_all (λ b. (a == b) || (w.below a b || w.below b a)) (writers w xs)) (writers w xs)

-- whether every writer is this member, or below it
abbrev pub is_last : WordHistory ℕ → List ℕ → ℕ → Bool
is_last w xs a = list_all (λ b. (b == a) || w.below b a) (writers w xs)

-- whether there is a writer
abbrev pub has_writer : WordHistory ℕ → List ℕ → Bool
has_writer w xs = list_any (λ a. is_some (w.wrote a)) xs

-- whether the value fits the list
abbrev pub fits_list : WordHistory ℕ → ℕ → List ℕ → Bool
fits_list w value xs =
    ((value == 0) || list_any (λ a. is_value value (w.wrote a)) xs)
    && (not (are_ordered w xs)
    || ((has_writer w xs || (value == 0))
    && list_all (λ a. not (is_last w xs a) || is_value value (w.wrote a)) (writers w xs)))
