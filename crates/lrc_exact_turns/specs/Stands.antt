-- A node of the protocol machine beside a state of the exact memory, where barriers collect: its pages, its base copies, and those that came.
use Rattle.std.specs.Prelude.{◌≡◌, ℕ, ◌<◌, ◌==◌, Bool, true, All, List, Some, slice_index, if◌then◌else◌}
use Rattle.std.specs.List.{list_any}
use Rattle.lrc_page.specs.declared.size.Size.{Size}
use Rattle.lrc_page.specs.Page.{words_of}
use Rattle.lrc_store.specs.Store.{StoredRecord}
use Rattle.lrc_protocol.specs.Pages.{Memory, Need, come}
use Rattle.lrc_protocol.specs.Barriers.{base_at}
use Rattle.lrc_protocol.specs.Node.{Wait, grant, upkeep, discard, needs_of}
use Rattle.lrc_reading_laws.specs.Written.{word_on}
use Rattle.lrc_exact.specs.Rule.{Shape, Knowledge, State, closed, with_learned, keeper_of}
use Rattle.lrc_exact_made.specs.Copies.{shape_of}
use Rattle.lrc_exact_pages.specs.Pages.{HasPages}
use Rattle.lrc_exact_collecting.specs.Kept.{with_kept}

-- whether a page is among these
abbrev pub is_among : List ℕ → ℕ → Bool
is_among pages page = list_any (λ kept. kept == page) pages

-- A node that waits for a grant has closed its interval, which the exact memory closes with the acquire. One that is in a collection has
-- learned what was known to all, and then repaired the pages that it keeps, and the exact memory does so with the depart.
abbrev pub standing : Shape → ℕ → Knowledge → Wait → State → State
standing shape me all (grant lock) state = closed me state
standing shape me all (upkeep collection needs) state = with_learned shape.nodes all state
standing shape me all (discard collection) state = with_kept shape (is_among collection.kept) (with_learned shape.nodes all state)
standing shape me all _ state = state

-- these values of a page are those that were left
abbrev pub IsLeft : Size → (ℕ → ℕ) → ℕ → List ℕ → Type 0
IsLeft size left page values = (offset : ℕ) → offset < words_of size → slice_index values offset ≡ left (word_on size page offset)

abbrev pub NeedIsLeft : Size → (ℕ → ℕ) → Need → Type 0
NeedIsLeft size left need = (values : List ℕ) → need.base ≡ come values → IsLeft size left need.page values

-- a base copy has what the last collection left, or, kept anew in one that is under way, what that leaves
abbrev pub base_left : Wait → (left later : ℕ → ℕ) → ℕ → ℕ → ℕ
base_left (discard collection) left later page = if is_among collection.kept page then later else left
base_left _ left later page = left

-- in a collection a node keeps the pages of which it is the keeper
abbrev pub KeepsOwn : ℕ → List ℕ → Knowledge → ℕ → Wait → Type 0
KeepsOwn nodes dropped all me (upkeep collection needs) = (page : ℕ) → is_among collection.kept page ≡ true → keeper_of nodes dropped all page ≡ me
KeepsOwn nodes dropped all me (discard collection) = (page : ℕ) → is_among collection.kept page ≡ true → keeper_of nodes dropped all page ≡ me
KeepsOwn nodes dropped all me _ = Unit {0}

-- A node has what this state has, where the last collection left this, and the one of the episode in which it is leaves that.
pub record Stands (size : Size) (nodes collect : ℕ) (made : List StoredRecord) (left later : ℕ → ℕ) (all : Knowledge) (me : ℕ) (time : List ℕ) (wait : Wait)
    (memory : Memory) (state : State) : Type 0 where
  pub pages : HasPages size made (λ page offset. left (word_on size page offset)) time memory
      (standing (shape_of nodes size collect) me all wait state)
  pub bases : (page : ℕ) (values : List ℕ) → base_at memory page ≡ Some values → IsLeft size (base_left wait left later page) page values
  pub needs : All (NeedIsLeft size left) (needs_of wait)
  pub own : KeepsOwn nodes state.dropped all me wait
