-- The reader of changes one by one agrees with how they are spelled.
use Rattle.std.proofs.Common.{◌≡◌, ℕ, ◌<◌, ◌≤◌, true, ltb, leb, List, length, Option, Some, None, refl, arith}
use Rattle.std.specs.Prelude.{All}
use Rattle.std.specs.List.{flat_map}
use Rattle.std.proofs.lemmas.Bool.{ltb-true, lt-ltb, leb-true, le-leb}
use Rattle.std.proofs.lemmas.List.Elements.{All-weaker}
use Rattle.lrc_page.specs.declared.changes.Change.{Change}
use Rattle.lrc_page.specs.Changes.{IsAscending}
use Rattle.lrc_wire.specs.declared.fault.WireFault.TheVariants.{BadCount, NotAscending}
use Rattle.lrc_wire.specs.declared.version.Version.TheVariants.{One}
use Rattle.lrc_wire.specs.Versions.{words_in}
use Rattle.lrc_wire.specs.Ranges.{HasBits}
use Rattle.lrc_wire.specs.Spelling.{byte, change, singly}
use Rattle.lrc_wire.specs.Reading.{byte_at, tested, is_after, elements_at, next_offset_at, next_change_at, singly_at}
use Rattle.lrc_wire.proofs.Along.{Ascends, Follow, All-from_follow, AllPairs-from_follow, follow_from_pairs, few_below, lt-trans}
use Rattle.lrc_wire.proofs.Sequences.{whole, then_fields, last_field, Agrees-counted}
use Rattle.lrc_wire.proofs.Agrees.{Agrees, Agrees-as, Agrees-tested, byte_agrees, number64_agrees, elements_agree}

-- ---- changes

abbrev InPage : ℕ → Type 0
InPage n = n < words_in One

-- a change of a word of a page
abbrev pub IsChange : Change → Type 0
IsChange c = InPage c.offset × HasBits 64 c.value

offset_agrees : Agrees (λ bytes. tested (λ n. ltb n (words_in One)) BadCount (byte_at bytes)) byte InPage
offset_agrees =
    Agrees-as _ byte (λ n. HasBits 8 n
    × (ltb n (words_in One) ≡ true)) InPage (λ n h. ltb-true n (words_in One) h.1) (λ n lt. (omega arith, lt-ltb n (words_in One) lt))
    (Agrees-tested byte_at byte (HasBits 8) (λ n. ltb n (words_in One)) BadCount byte_agrees)

next_offset_agrees : (before : Option ℕ) → Agrees (next_offset_at before) byte (Ascends ltb (λ n. n) InPage before)
unfolding next_offset_at
next_offset_agrees before =
    Agrees-tested (λ bytes. tested (λ n. ltb n (words_in One)) BadCount (byte_at bytes)) byte InPage (is_after ltb before) NotAscending offset_agrees

next_change_agrees : (before : Option ℕ) → Agrees (next_change_at before) change (Ascends ltb (λ c. c.offset) IsChange before)
unfolding next_change_at change
next_change_agrees before =
    Agrees-as _ _ (λ c. (InPage c.offset × (is_after ltb before c.offset ≡ true)) × HasBits 64 c.value) (Ascends ltb (λ c. c.offset) IsChange before)
    (λ c h. ((h.0.0, h.1), h.0.1)) (λ c h. ((h.0.0, h.1), h.0.1))
    (whole (λ (c : Change). (c.offset, c.value)) (λ r _. refl) (λ c. refl)
    (then_fields (next_offset_agrees before) (λ offset _. last_field (λ value. record { offset = offset; value = value }) number64_agrees)))

-- changes of a page, in order
abbrev pub AreSingle : List Change → Type 0
AreSingle cs = All IsChange cs × IsAscending cs

elements_of_changes : (count : ℕ)
    → Agrees (elements_at next_change_at (λ _ c. Some c.offset) count None) (flat_map change) (λ cs. (length cs ≡ count) × AreSingle cs)
unfolding is_after
elements_of_changes count =
    Agrees-as _ (flat_map change) (λ cs. (length cs ≡ count) × Follow ltb (λ c. c.offset) IsChange None cs) (λ cs. (length cs ≡ count) × AreSingle cs)
    (λ cs h. (
      h.0,
      (
        All-from_follow ltb (λ c. c.offset) IsChange None cs h.1,
        λ i j d lt within. ltb-true _ _ (AllPairs-from_follow ltb (λ c. c.offset) IsChange lt-trans None cs h.1 i j d lt within),
      ),
    ))
    (λ cs h. (h.0, follow_from_pairs ltb (λ c. c.offset) IsChange None cs h.1.0 (λ i j d lt within. lt-ltb _ _ (h.1.1 i j d lt within)) (λ k d within. refl)))
    (elements_agree next_change_at (λ _ c. Some c.offset) change (Ascends ltb (λ c. c.offset) IsChange) next_change_agrees count None)

changes_count_agrees : Agrees (λ bytes. tested (λ n. leb n (words_in One)) BadCount (byte_at bytes)) byte (λ n. n ≤ (words_in One))
changes_count_agrees =
    Agrees-as _ byte (λ n. HasBits 8 n
    × (leb n (words_in One) ≡ true)) (λ n. n ≤ (words_in One)) (λ n h. leb-true n (words_in One) h.1) (λ n le. (omega arith, le-leb n (words_in One) le))
    (Agrees-tested byte_at byte (HasBits 8) (λ n. leb n (words_in One)) BadCount byte_agrees)

pub singly_agree : Agrees singly_at singly AreSingle
unfolding singly_at singly
singly_agree =
    Agrees-as _ _ (λ cs. (length cs ≤ words_in One) × AreSingle cs) AreSingle
    (λ cs h. h.1)
    (λ cs h. (few_below (λ c. c.offset) cs h.1 (words_in One) (All-weaker IsChange (λ c. InPage c.offset) (λ c q. q.0) cs h.0), h))
    (Agrees-counted changes_count_agrees (λ count _. elements_of_changes count))
