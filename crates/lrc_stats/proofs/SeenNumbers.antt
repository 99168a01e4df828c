-- The numbers that were seen, with one turn more.
use Rattle.std.proofs.Common.{◌≡◌, ◌∙◌, ◌<◌, ◌++◌, ℕ, Bool, true, false, List, [], ◌∷◌, cond, inl, inr, refl, sym, subst, ap}
use Rattle.std.proofs.Common.{length, get_or, set, eq-eqb}
use Rattle.std.specs.Prelude.{◌==◌, ◌||◌, ◌&&◌, nat_lt}
use Rattle.std.specs.List.{list_any}
use Rattle.std.proofs.lemmas.Bool.{cases_eq, ne_eqb}
use Rattle.std.proofs.lemmas.List.{get_or-set_same, get_or-set_other, get_or_default}
use Rattle.std.proofs.lemmas.List.Folds.{list_any-append}
use Rattle.lrc_store.specs.Order.{placed}
use Rattle.lrc_envelope.specs.Envelope.{EnvelopeRecord}
use Rattle.lrc_protocol.specs.Run.{EntryRecord, taken}
use Rattle.lrc_stats.specs.Learned.{is_taking, took}
use Rattle.lrc_stats.specs.Seen.{HasSeen}
use Rattle.lrc_stats.specs.declared.seen.Seen.{Seen}

abbrev has : ℕ → List ℕ → Bool
has number xs = list_any (λ n. n == number) xs

swap : (a b c : Bool) → (a || (b || c)) ≡ (b || (a || c))
swap true true c = refl
swap true false c = refl
swap false true c = refl
swap false false c = refl

has-placed : (k number : ℕ) (xs : List ℕ) → has number (placed nat_lt k xs) ≡ ((k == number) || has number xs)
has-placed k number [] = refl
has-placed k number (y ∷ xs) = by_test (has-placed k number xs) (nat_lt k y)
  where
    by_test : has number (placed nat_lt k xs) ≡ ((k == number) || has number xs) → (b : Bool)
        → has number (cond b (k ∷ y ∷ xs) (y ∷ placed nat_lt k xs)) ≡ ((k == number) || ((y == number) || has number xs))
    by_test rest true = refl
    by_test rest false = ap (λ b. (y == number) || b) rest ∙ swap (y == number) (k == number) (has number xs)

flip : (a b : Bool) → (a || b) ≡ (b || (a || false))
flip true true = refl
flip true false = refl
flip false true = refl
flip false false = refl

with_none : (a : Bool) → a ≡ (a || (false || false))
with_none true = refl
with_none false = refl

took-more : (before : List EntryRecord) (entry : EntryRecord) (from number : ℕ)
    → took (before ++ entry ∷ []) from number ≡ (took before from number || (is_taking from number entry.input || false))
took-more before entry from number = list_any-append (λ (e : EntryRecord). is_taking from number e.input) before (entry ∷ [])

-- ---- one more

pub seen-taken : (before : List EntryRecord) (old new : Seen) (entry : EntryRecord) (e : EnvelopeRecord) → entry.input ≡ taken e
    → e.from < length old.numbers.items
    → new.numbers.items ≡ set old.numbers.items e.from (placed nat_lt e.number (get_or old.numbers.items e.from []))
    → HasSeen before old → HasSeen (before ++ entry ∷ []) new
seen-taken before old new entry e is lt grown h = record {
  numbers = λ from number.
      let more = placed nat_lt e.number (get_or old.numbers.items e.from []) in
      let took_is : took (before ++ entry ∷ []) from number
      ≡ (took before from number || (((e.from == from) && (e.number == number)) || false)) =
      took-more before entry from number ∙ ap (λ i. took before from number || (is_taking from number i || false)) is in
      elim (cases_eq from e.from) [
        | inl same ↦
            let own : (e.from == from) ≡ true = eq-eqb e.from from (sym same) in
            let there : get_or new.numbers.items from [] ≡ more =
            ap (λ l. get_or l from []) grown ∙ ap (λ k. get_or (set old.numbers.items e.from more) k []) same
            ∙ get_or-set_same old.numbers.items e.from more [] lt in
            let were : has number (get_or old.numbers.items e.from []) ≡ took before from number =
            ap (λ k. has number (get_or old.numbers.items k [])) (sym same) ∙ h.numbers from number in
            ap (has number) there ∙ has-placed e.number number (get_or old.numbers.items e.from [])
            ∙ ap (λ b. (e.number == number) || b) were ∙ flip (e.number == number) (took before from number)
            ∙ ap (λ b. took before from number || ((b && (e.number == number)) || false)) (sym own) ∙ sym took_is
        | inr other ↦
            let apart : (e.from == from) ≡ false = ne_eqb e.from from (λ x. other (sym x)) in
            let there : get_or new.numbers.items from [] ≡ get_or old.numbers.items from [] =
            ap (λ l. get_or l from []) grown ∙ get_or-set_other old.numbers.items e.from from more [] other in
            ap (has number) there ∙ h.numbers from number ∙ with_none (took before from number)
            ∙ ap (λ b. took before from number || ((b && (e.number == number)) || false)) (sym apart) ∙ sym took_is
      ];
}

-- the same of what the call reads and writes
pub seen-added : (before : List EntryRecord) (old new : Seen) (entry : EntryRecord) (e : EnvelopeRecord) (place number : ℕ)
    (found added : List ℕ) → entry.input ≡ taken e → place ≡ e.from → number ≡ e.number → place < length old.numbers.items
    → found ≡ get_or old.numbers.items place found
    → added ≡ placed nat_lt number found → new.numbers.items ≡ set old.numbers.items place added → HasSeen before old
    → HasSeen (before ++ entry ∷ []) new
seen-added before old new entry e place number found added is from numbered lt found_is added_is grown h =
    let items = old.numbers.items in
    let there : found ≡ get_or items e.from [] = found_is ∙ get_or_default items place found [] lt ∙ ap (λ k. get_or items k []) from in
    let added' : added ≡ placed nat_lt e.number (get_or items e.from []) =
    added_is ∙ ap (λ n. placed nat_lt n found) numbered ∙ ap (λ l. placed nat_lt e.number l) there in
    seen-taken before old new entry e is (subst (λ k. k < length items) from lt)
    (grown ∙ ap (λ k. set items k added) from ∙ ap (λ l. set items e.from l) added') h
