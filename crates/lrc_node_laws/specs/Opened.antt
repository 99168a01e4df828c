-- What a node wrote in its open interval, from its own deeds, and what its copies made of it.
use Rattle.std.specs.Prelude.{◌≡◌, ◌≢◌, ℕ, ◌==◌, List, [], ◌∷◌, ◌++◌, fold, filter, slice_set}
use Rattle.lrc_trace.specs.declared.act.Deed.{Deed}
use Rattle.lrc_trace.specs.declared.act.Deed.TheVariants.{Write, Acquire, Release, Arrive}
use Rattle.lrc_page.specs.declared.size.Size.{Size}
use Rattle.lrc_page.specs.Place.{page_of, offset_of}
use Rattle.lrc_protocol.specs.Pages.{Copy, written, Memory, copy_at}
use Rattle.lrc_protocol.specs.Node.{Wait, grant}

-- the writes of the open interval, each a word with its value, after one deed more: an acquire, a release and an arrive close it
abbrev pub after_deed : List (ℕ × ℕ) → Deed → List (ℕ × ℕ)
after_deed writes (Write word value) = writes ++ (word, value) ∷ []
after_deed writes (Acquire lock) = []
after_deed writes (Release lock) = []
after_deed writes Arrive = []
after_deed writes _ = writes

-- the writes since the last of these deeds that closes an interval, in order
abbrev pub open_writes : List Deed → List (ℕ × ℕ)
open_writes deeds = fold after_deed [] deeds

-- who waits for a grant has closed its interval already
abbrev pub open_in : Wait → List (ℕ × ℕ) → List (ℕ × ℕ)
open_in (grant lock) writes = []
open_in _ writes = writes

-- those on one page
abbrev pub on_page : Size → ℕ → List (ℕ × ℕ) → List (ℕ × ℕ)
on_page size page writes = filter (λ write. page_of write.0 size == page) writes

-- the values of a page after one write more
abbrev pub put : Size → List ℕ → ℕ × ℕ → List ℕ
put size values write = slice_set values (offset_of write.0 size) write.1

-- A page with writes in the open interval is written, and its values are those of its twin after these writes. Any other has
-- none.
abbrev pub IsMadeBy : Size → ℕ → List (ℕ × ℕ) → Copy → Type 0
IsMadeBy size page writes (written values twin) =
    (values ≡ fold (put size) twin (on_page size page writes)) × (on_page size page writes ≢ [])
IsMadeBy size page writes _ = on_page size page writes ≡ []

-- of every page
abbrev pub AreMadeBy : Size → Memory → List (ℕ × ℕ) → Type 0
AreMadeBy size memory writes = (page : ℕ) → IsMadeBy size page writes (copy_at memory page)
