-- Changes: what a page has that its twin has not, as offsets with values.
use Rattle.std.specs.Prelude.{ℕ, ◌-◌, ◌<◌, ◌==◌, Bool, not, if◌then◌else◌, List, [], ◌∷◌, length, map, filter}
use Rattle.std.specs.Prelude.{Option, None, Some, unwrap_or, slice_index, slice_get, AllPairs}
use Rattle.std.specs.Ordering.{on, eq_of_both}
use Rattle.std.specs.Cmp.{IsEquivalence, and_equiv, on_equiv, nat_eq_equiv}
use Rattle.std.specs.Cmp.Lexicographic.{pointwise, lists_equiv}
use Rattle.std.specs.Option.{option_or}
use Rattle.std.specs.List.{enumerate_from}
use Rattle.lrc_page.specs.declared.changes.Change.{Change}

-- two changes are the same, as a test
abbrev pub same_change : Change → Change → Bool
same_change = eq_of_both (on (λ c. c.offset) ◌==◌) (on (λ c. c.value) ◌==◌)

-- the test of two lists of changes, change by change, is an equivalence
pub same_changes_equiv : IsEquivalence (pointwise same_change)
same_changes_equiv =
    lists_equiv (and_equiv (on_equiv (λ c. c.offset) nat_eq_equiv) (on_equiv (λ c. c.value) nat_eq_equiv))

-- a change of every word, to the value that the page has
abbrev pub every_word : List ℕ → List Change
every_word page = map (λ word. record { offset = word.0; value = word.1 }) (enumerate_from 0 page)

-- the offsets at which twin and page differ, ascending, each with the page's value
abbrev pub changes_between : List ℕ → List ℕ → List Change
changes_between twin page = filter (λ c. not (slice_index twin c.offset == c.value)) (every_word page)

-- the value that the changes give to the word at an offset, if they name it
abbrev pub change_at : List Change → ℕ → Option ℕ
change_at [] offset = None
change_at (c ∷ cs) offset = option_or (change_at cs offset) (if c.offset == offset then Some c.value else None)

-- the page with each word changed that the changes name
abbrev pub applied : List ℕ → List Change → List ℕ
applied page changes = map (λ c. unwrap_or (change_at changes c.offset) c.value) (every_word page)

-- the change at the greatest offset
abbrev pub last_change : List Change → Option Change
last_change changes = slice_get changes (length changes - 1)

-- each offset is below those of the changes after it
abbrev pub IsAscending : List Change → Type 0
IsAscending changes = AllPairs (λ c d. c.offset < d.offset) changes
