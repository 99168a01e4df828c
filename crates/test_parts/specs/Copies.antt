-- Small histories of one word, over intervals named by numbers; and a repair of a page of two words.
use Rattle.std.specs.Prelude.{ℕ, ◌==◌, ◌&&◌, nat_lt, Option, Some, None, List, [], ◌∷◌, slice_get, slice_index, slice_index_or}
use Rattle.lrc_page.specs.declared.changes.Change.{Change}
use Rattle.lrc_trace.specs.declared.act.Act.{Act}
use Rattle.lrc_trace.specs.declared.act.Deed.{Deed}
use Rattle.lrc_trace.specs.declared.act.Deed.TheVariants.{Read, Write, Acquire, Release}
use Rattle.lrc_copies.specs.Word.{WordHistory}
use Rattle.lrc_copies.specs.Page.{PageHistory}
use Rattle.lrc_copies.specs.Stamps.{Stamps, page_of_stamps}

-- Three intervals: the first two know nothing of each other, the third knows both and writes what the second wrote, so it
-- has no change. Their stamps are 1 0 0, 0 1 0 and 1 1 2.
abbrev pub two_and_a_silent_one : WordHistory ℕ
two_and_a_silent_one = record {
  wrote = λ a. slice_get (5 ∷ 7 ∷ 7 ∷ []) a;
  change = λ a. slice_get (5 ∷ 7 ∷ []) a;
  weight = λ a. slice_index (1 ∷ 1 ∷ 4 ∷ []) a;
  below = λ a b. nat_lt a b && (b == 2);
}

-- Three intervals, each of which knows the ones before; the last writes what it finds. Their stamps are 1 0 0, 2 2 0 and 4 2 0.
abbrev pub three_in_turn : WordHistory ℕ
three_in_turn = record {
  wrote = λ a. slice_get (5 ∷ 9 ∷ 9 ∷ []) a;
  change = λ a. slice_get (5 ∷ 9 ∷ []) a;
  weight = λ a. slice_index (1 ∷ 4 ∷ 6 ∷ []) a;
  below = λ a b. nat_lt a b;
}

-- The same, but that the last writes another value and its changes do not say so.
abbrev pub a_lost_write : WordHistory ℕ
a_lost_write = record three_in_turn { wrote = λ a. slice_get (5 ∷ 9 ∷ 4 ∷ []) a }

-- ---- a page of two words

-- Four intervals of three nodes: the three in turn write the first word, and another, which knows nothing of them, the second.
-- Those that wrote nothing are left out.
abbrev pub four : List ℕ
four = 0 ∷ 1 ∷ 2 ∷ 3 ∷ []

abbrev pub four_stamps : Stamps ℕ
four_stamps = record {
  node = λ a. slice_index (0 ∷ 2 ∷ 1 ∷ 0 ∷ []) a;
  stamp = λ a. slice_index_or ((1 ∷ 0 ∷ 0 ∷ []) ∷ (0 ∷ 0 ∷ 1 ∷ []) ∷ (2 ∷ 2 ∷ 0 ∷ []) ∷ (4 ∷ 2 ∷ 0 ∷ []) ∷ []) a [];
}

abbrev pub four_wrote : ℕ → ℕ → Option ℕ
four_wrote a offset =
    slice_index_or (slice_index_or (
    (Some 5 ∷ None ∷ Some 9 ∷ Some 9 ∷ [])
    ∷ (None ∷ Some 7 ∷ None ∷ None ∷ [])
    ∷ []
    ) offset []) a None

abbrev pub four_changes : ℕ → List Change
four_changes a =
    slice_index_or (
    (record { offset = 0; value = 5 } ∷ [])
    ∷ (record { offset = 1; value = 7 } ∷ [])
    ∷ (record { offset = 0; value = 9 } ∷ [])
    ∷ []
    ) a []

abbrev pub four_page : PageHistory ℕ
four_page = page_of_stamps four_stamps four_wrote four_changes

-- ---- a run of which these are the intervals: each of nodes 0, 1 and 0 hands the lock on, and node 2 reads what they wrote

abbrev pub act : ℕ → Deed → Act
act node deed = record { node = node; deed = deed }

abbrev pub four_run : List Act
four_run =
    act 0 (Write 0 5)
    ∷ act 0 (Acquire 0)
    ∷ act 0 (Release 0)
    ∷ act 1 (Acquire 0)
    ∷ act 1 (Write 0 9)
    ∷ act 1 (Release 0)
    ∷ act 0 (Acquire 0)
    ∷ act 0 (Write 0 9)
    ∷ act 0 (Release 0)
    ∷ act 2 (Write 1 7)
    ∷ act 2 (Acquire 0)
    ∷ act 2 (Read 0 9)
    ∷ []
