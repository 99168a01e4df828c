-- Lemmas on page tables, for the crates above too.
use Rattle.std.proofs.Common.{ℕ, replicate, take, drop, ◌++◌, zero, suc, zero-add, cond, ◌≡◌, ◌≢◌, ◌<◌, ◌+◌, ◌≤◌, ◌∙◌, ◌⊎◌, ◌↔◌, Bool, true}
use Rattle.std.proofs.Common.{false, List, [], ◌∷◌, length, map, get_or, set, refl, ap, subst, sym, inl, inr, ⊎_elim, arith}
use Rattle.std.specs.Prelude.{filter, All, Contains, Result, Ok, Err, OnOk, OnErr}
use Rattle.std.specs.List.{range_with_len}
use Rattle.std.proofs.lemmas.Bool.{and_parts, cases_eq, cases_lt, cases_Bool}
use Rattle.std.proofs.lemmas.List.{length-map, length-set, get_or-map, get_or-set_same, get_or-set_other, get_or_past, same_lists}
use Rattle.std.proofs.lemmas.List.{get_or_default, get_or-replicate, length-replicate, set-set, take_all, append-nil, drop_all}
use Rattle.std.proofs.lemmas.List.Elements.{filter_agree, filter_passes, All-filter, All-contains, All-set, All-map, All-replicate}
use Rattle.std.proofs.lemmas.Option.{same_Some}
use Rattle.std.proofs.lemmas.Grind.{get_or_default_zero}
use Rattle.std.proofs.lemmas.List.FromFn.{length-range_with_len, get_or-range_with_len}
use Rattle.std.proofs.lemmas.List.Kept.{AllPairs-filter}
use Rattle.lrc_page.specs.declared.TheConstants.{MOST_PAGES}
use Rattle.lrc_page.specs.declared.size.Size.{Size}
use Rattle.lrc_page.specs.Pages.{IsRising}
use Rattle.lrc_page.proofs.PageLists.{rising_same, length-zero_page}
use Rattle.lrc_table.specs.PageCopy.{PageCopy, IsWhole, fresh, is_valid, is_written, is_readable, is_pending, closed, opened, with_value}
use Rattle.lrc_table.specs.PageCopy.{after_write, written_in, patched, repaired, without_twin, settled, absent_if_invalid, dropped}
use Rattle.lrc_table.specs.PageCopy.{invalidated, installed, with_base, without_base}
use Rattle.lrc_table.specs.declared.slot.State.{State}
use Rattle.lrc_table.specs.declared.slot.State.TheVariants.{Valid, Written, Invalid, Absent}
use Rattle.lrc_page.specs.declared.changes.Change.{Change}
use Rattle.lrc_page.specs.Page.{words_of, zero_page}
use Rattle.lrc_page.proofs.ChangeLists.{length-applied, length-fold-applied}
use Rattle.std.specs.Prelude.{◌&&◌, is_some, Option, Some, None}
use Rattle.lrc_table.proofs.Copies.{is_written-says}
use Rattle.lrc_table.specs.Table.{Table, IsSound, copy_at, with_copy, with_each, written_pages}

true_false : true ≡ false → ⊥
true_false same = cc

-- the default that specs read past the pages
abbrev none : PageCopy
none = fresh []

-- tables of one size with the same copies
pub same_table : (m n : Size) (a b : List PageCopy) → m ≡ n → a ≡ b
    → ◌≡◌ {A = Table} (record { size = m; copies = a }) (record { size = n; copies = b })
same_table m n a b sizes copies =
    ap (λ size. record { size = size; copies = a }) sizes ∙ ap (λ list. record { size = n; copies = list }) copies

-- a list that a loop went over, back in its place
pub written_back : (n : ℕ) (xs items whole : List PageCopy) → length xs ≡ length items → length items ≤ n → xs ≡ whole
    → take n (xs ++ drop (length xs) items) ≡ whole
written_back n xs items whole same enough is =
    let none_left : drop (length xs) items ≡ [] = drop_all (length xs) items (omega arith) in
    ap (λ rest. take n (xs ++ rest)) none_left
    ∙ ap (take n) (append-nil xs)
    ∙ take_all n xs (omega arith)
    ∙ is

-- a loop that is over has changed every copy
pub over_all : (f : PageCopy → PageCopy) (seen old new : List PageCopy) (i : ℕ)
    → new ≡ map f (take i seen) ++ drop i seen → length seen ≤ i → seen ≡ old → new ≡ map f old
over_all f seen old new i is past same =
    is
    ∙ ap (λ rest. map f (take i seen) ++ rest) (drop_all i seen past)
    ∙ append-nil (map f (take i seen))
    ∙ ap (map f) (take_all i seen past ∙ same)

-- the copy of a page after another was put in its place
pub copy_at-with_copy : (table : Table) (page : ℕ) (copy : PageCopy) → page < length table.copies
    → copy_at (with_copy table page copy) page ≡ copy
copy_at-with_copy table page copy within = get_or-set_same table.copies page copy none within

-- and of another page
pub copy_at-with_copy_other : (table : Table) (page other : ℕ) (copy : PageCopy) → other ≢ page
    → copy_at (with_copy table page copy) other ≡ copy_at table other
copy_at-with_copy_other table page other copy apart = get_or-set_other table.copies page other copy none apart

-- ---- the written pages

pub rising-written : (table : Table) → IsRising (written_pages table)
rising-written table =
    AllPairs-filter (λ (p q : ℕ). p < q) (λ page. is_written (copy_at table page).state) (range_with_len 0 (length table.copies))
    (λ i j d before within.
    let long : j < length table.copies = omega (arith, length-range_with_len 0 (length table.copies)) in
    omega (arith, get_or-range_with_len 0 (length table.copies) i d (omega arith), get_or-range_with_len 0 (length table.copies) j d long))

contains-here : (x : ℕ) (xs : List ℕ) (y : ℕ) → x ≡ y → Contains (x ∷ xs) y
contains-here x xs y same = (0, omega arith, same)

contains-later : (x : ℕ) (xs : List ℕ) (y : ℕ) → Contains xs y → Contains (x ∷ xs) y
contains-later x xs y member = (suc member.0, omega (arith, member.1), member.2)

contains-filter : (p : ℕ → Bool) (xs : List ℕ) (x : ℕ) → p x ≡ true → Contains xs x → Contains (filter p xs) x
contains-filter p [] x passes member = absurd (omega (arith, member.1))
contains-filter p (y ∷ ys) x passes (zero, within, same) =
    let first : p y ≡ true = ap p same ∙ passes in
    rw first (contains-here y (filter p ys) x same)
contains-filter p (y ∷ ys) x passes (suc k, within, same) =
    let later : Contains (filter p ys) x = contains-filter p ys x passes (k, omega (arith, within), same) in
    elim (p y) as (λ b. Contains (cond b (y ∷ filter p ys) (filter p ys)) x)
    [ true ↦ contains-later y (filter p ys) x later | false ↦ later ]

below-range : (n : ℕ) → All (λ page. page < n) (range_with_len 0 n)
below-range n k d within =
    let below : k < n = omega (arith, within, length-range_with_len 0 n) in
    omega (arith, get_or-range_with_len 0 n k d below)

contains-range : (n page : ℕ) → page < n → Contains (range_with_len 0 n) page
contains-range n page below =
    (page, omega (arith, length-range_with_len 0 n), get_or-range_with_len 0 n page page below ∙ zero-add page)

-- the written pages are exactly those whose copies are written
pub contains-written : (table : Table) (page : ℕ)
    → Contains (written_pages table) page ↔ ((page < length table.copies) × (is_written (copy_at table page).state ≡ true))
contains-written table page =
    let p : ℕ → Bool = λ q. is_written (copy_at table q).state in
    let all = range_with_len 0 (length table.copies) in (
      (λ member. (
        All-contains (λ q. q < length table.copies) (filter p all) page
            (All-filter p (λ q. q < length table.copies) all (below-range (length table.copies))) member,
        All-contains (λ q. p q ≡ true) (filter p all) page (filter_passes p all) member,
      )),
      (λ facts. contains-filter p all page facts.1 (contains-range (length table.copies) page facts.0)),
    )

pub contains-state : (table : Table) (page : ℕ)
    → Contains (written_pages table) page ↔ ((page < length table.copies) × ((copy_at table page).state ≡ Written))
contains-state table page = (
  (λ member.
      let facts = (contains-written table page).0 member in
      (facts.0, is_written-says (copy_at table page).state facts.1)),
  (λ facts. (contains-written table page).1 (facts.0, ap is_written facts.1)),
)

-- tables with as many pages, and the same of them written
pub same_written : (a b : Table) → length a.copies ≡ length b.copies
    → ((page : ℕ) → is_written (copy_at a page).state ≡ is_written (copy_at b page).state) → written_pages a ≡ written_pages b
same_written a b long same =
    filter_agree (λ page. is_written (copy_at a page).state) (λ page. is_written (copy_at b page).state) same
    (range_with_len 0 (length a.copies))
    ∙ ap (λ n. filter (λ page. is_written (copy_at b page).state) (range_with_len 0 n)) long

-- a table without a written page
pub none_written : (table : Table) → ((page : ℕ) → is_written (copy_at table page).state ≡ false) → written_pages table ≡ []
none_written table none_is =
    rising_same (written_pages table) [] (rising-written table) (λ i j d before within. absurd (omega (arith, within)))
    (λ page member. absurd (true_false (sym ((contains-written table page).0 member).1 ∙ none_is page)))
    (λ page member. absurd (omega (arith, member.1)))

-- ---- whole copies

pub whole-fresh : (size : Size) → IsWhole size (fresh (zero_page size))
whole-fresh size = record {
  values = length-zero_page size;
  twin = λ x is. absurd (cc);
  base = λ x is. absurd (cc);
  kept = λ is. absurd (cc);
  none = λ is. refl;
}

pub whole-opened : (size : Size) (copy : PageCopy) → IsWhole size copy → IsWhole size (opened copy)
whole-opened size copy whole = record {
  values = whole.values;
  twin = λ x is. ap length (sym (same_Some copy.values x is)) ∙ whole.values;
  base = whole.base;
  kept = λ is. refl;
  none = λ is. absurd (cc);
}

pub whole-with_value : (size : Size) (copy : PageCopy) (offset value : ℕ) → IsWhole size copy
    → IsWhole size (with_value copy offset value)
whole-with_value size copy offset value whole = record {
  values = length-set copy.values offset value ∙ whole.values;
  twin = whole.twin;
  base = whole.base;
  kept = whole.kept;
  none = whole.none;
}

pub whole-patched : (size : Size) (copy : PageCopy) (changes : List Change) → IsWhole size copy
    → IsWhole size (patched copy changes)
whole-patched size copy changes whole = record {
  values = length-applied copy.values changes ∙ whole.values;
  twin = whole.twin;
  base = whole.base;
  kept = whole.kept;
  none = whole.none;
}

pub whole-with_base : (size : Size) (copy : PageCopy) → IsWhole size copy → IsWhole size (with_base copy)
whole-with_base size copy whole = record {
  values = whole.values;
  twin = whole.twin;
  base = λ x is. ap length (sym (same_Some copy.values x is)) ∙ whole.values;
  kept = whole.kept;
  none = whole.none;
}

pub whole-without_base : (size : Size) (copy : PageCopy) → IsWhole size copy → IsWhole size (without_base copy)
whole-without_base size copy whole = record {
  values = whole.values;
  twin = whole.twin;
  base = λ x is. absurd (cc);
  kept = whole.kept;
  none = whole.none;
}

pub whole-installed : (size : Size) (copy : PageCopy) (values : List ℕ) → length values ≡ words_of size → copy.state ≡ Absent
    → IsWhole size copy → IsWhole size (installed copy values)
whole-installed size copy values long absent whole = record {
  values = long;
  twin = whole.twin;
  base = whole.base;
  kept = λ is. absurd (cc);
  none = λ is. whole.none (ap is_readable absent);
}

pub whole-repaired : (size : Size) (copy : PageCopy) (lists : List (List Change)) → IsWhole size copy
    → IsWhole size (repaired copy lists)
whole-repaired size copy lists whole = record {
  values = length-fold-applied copy.values lists ∙ whole.values;
  twin = whole.twin;
  base = whole.base;
  kept = λ is. absurd (cc);
  none = λ is. absurd (cc);
}

pub whole-without_twin : (size : Size) (copy : PageCopy) → IsWhole size copy → is_written copy.state ≡ false
    → IsWhole size (without_twin copy)
whole-without_twin size copy whole unwritten = record {
  values = whole.values;
  twin = λ x is. absurd (cc);
  base = whole.base;
  kept = λ is. absurd (true_false (sym is ∙ unwritten));
  none = λ is. refl;
}

pub unwritten : (state : State) → state ≢ Written → is_written state ≡ false
unwritten Valid other = refl
unwritten Written other = absurd (other refl)
unwritten Invalid other = refl
unwritten Absent other = refl

valid_unwritten : (state : State) → is_valid state ≡ true → is_written state ≡ false
valid_unwritten Valid is = refl
valid_unwritten Written is = absurd (cc)
valid_unwritten Invalid is = refl
valid_unwritten Absent is = refl

twin_gone : (valid : Bool) (twin : Option (List ℕ)) → valid ≡ true → (valid && is_some twin) ≡ false → twin ≡ None
twin_gone valid None is apart = refl
twin_gone valid (Some twin) is apart = absurd (true_false (rw is at apart))

pub whole-invalidated : (size : Size) (copy : PageCopy) → is_pending copy ≡ false → IsWhole size copy → IsWhole size (invalidated copy)
whole-invalidated size copy unsettled whole =
    ⊎_elim
    (λ (is : is_valid copy.state ≡ true).
    rw is (record {
      values = whole.values;
      twin = whole.twin;
      base = whole.base;
      kept = λ now. absurd (cc);
      none = λ now. twin_gone (is_valid copy.state) copy.twin is unsettled;
    }))
    (λ (not_so : is_valid copy.state ≡ false). rw not_so whole)
    (cases_Bool (is_valid copy.state))

pub written-invalidated : (copy : PageCopy) → is_written (invalidated copy).state ≡ is_written copy.state
written-invalidated copy =
    ⊎_elim
    (λ (is : is_valid copy.state ≡ true). rw is (sym (valid_unwritten copy.state is)))
    (λ (not_so : is_valid copy.state ≡ false). rw not_so refl)
    (cases_Bool (is_valid copy.state))

pub whole-settled : (size : Size) (copy : PageCopy) → IsWhole size copy → IsWhole size (settled copy)
whole-settled size copy whole =
    ⊎_elim
    (λ (is : is_pending copy ≡ true).
    let valid : is_valid copy.state ≡ true = (and_parts (is_valid copy.state) (is_some copy.twin) is).0 in
    rw is (whole-without_twin size copy whole (valid_unwritten copy.state valid)))
    (λ (not_so : is_pending copy ≡ false). rw not_so whole)
    (cases_Bool (is_pending copy))

pub written-settled : (copy : PageCopy) → is_written (settled copy).state ≡ is_written copy.state
written-settled copy =
    elim (is_pending copy) as (λ b. is_written (cond b (without_twin copy) copy).state ≡ is_written copy.state)
    [ true ↦ refl | false ↦ refl ]

dropped_written : (state : State) → is_written (absent_if_invalid state) ≡ is_written state
dropped_written Valid = refl
dropped_written Written = refl
dropped_written Invalid = refl
dropped_written Absent = refl

dropped_readable : (state : State) → is_readable (absent_if_invalid state) ≡ is_readable state
dropped_readable Valid = refl
dropped_readable Written = refl
dropped_readable Invalid = refl
dropped_readable Absent = refl

pub whole-dropped : (size : Size) (copy : PageCopy) → IsWhole size copy → IsWhole size (dropped copy)
whole-dropped size copy whole = record {
  values = whole.values;
  twin = whole.twin;
  base = whole.base;
  kept = λ is. whole.kept (sym (dropped_written copy.state) ∙ is);
  none = λ is. whole.none (sym (dropped_readable copy.state) ∙ is);
}

pub written-dropped : (copy : PageCopy) → is_written (dropped copy).state ≡ is_written copy.state
written-dropped copy = dropped_written copy.state

closed_written : (copy : PageCopy) → is_written (closed copy).state ≡ false
closed_written copy =
    ⊎_elim
    (λ (is : is_written copy.state ≡ true). rw is refl)
    (λ (not_so : is_written copy.state ≡ false). rw not_so not_so)
    (cases_Bool (is_written copy.state))

pub whole-closed : (size : Size) (copy : PageCopy) → IsWhole size copy → IsWhole size (closed copy)
whole-closed size copy whole =
    ⊎_elim
    (λ (is : is_written copy.state ≡ true).
    rw is (record {
      values = whole.values;
      twin = whole.twin;
      base = whole.base;
      kept = λ now. absurd (cc);
      none = λ now. absurd (cc);
    }))
    (λ (not_so : is_written copy.state ≡ false). rw not_so whole)
    (cases_Bool (is_written copy.state))

-- changes within one length, of a list of which each is
pub none_past : (lists : List (List Change)) (i : ℕ) (list : List Change) (n m : ℕ)
    → All (λ changes. All (λ c. c.offset < n) changes) lists → i < length lists → list ≡ get_or lists i list → m ≡ n
    → All (λ c. c.offset < m) list
none_past lists i list n m each within is same k d inside =
    let below : All (λ c. c.offset < n) (get_or lists i list) = each i list within in
    let P : List Change → Type 0 = λ changes. All (λ c. c.offset < n) changes in
    let here : All (λ c. c.offset < n) list = subst P (sym is) below in
    omega (arith, here k d inside, same)

-- ---- one copy changed

-- the state that a copy past the pages is read in
past : (table : Table) (page : ℕ) (copy : PageCopy) → length table.copies ≤ page
    → copy_at (with_copy table page copy) page ≡ copy_at table page
past table page copy beyond =
    get_or_past (set table.copies page copy) page none (omega (arith, length-set table.copies page copy))
    ∙ sym (get_or_past table.copies page none beyond)

pub written-with_copy : (table : Table) (page : ℕ) (copy : PageCopy)
    → is_written copy.state ≡ is_written (copy_at table page).state → written_pages (with_copy table page copy) ≡ written_pages table
written-with_copy table page copy same =
    same_written (with_copy table page copy) table (length-set table.copies page copy)
    (λ q.
    ⊎_elim
    (λ (here : q ≡ page).
    rw here
    (⊎_elim
    (λ (within : page < length table.copies).
    ap (λ (c : PageCopy). is_written c.state) (copy_at-with_copy table page copy within) ∙ same)
    (λ (beyond : length table.copies ≤ page). ap (λ (c : PageCopy). is_written c.state) (past table page copy beyond))
    (cases_lt page (length table.copies))))
    (λ (other : q ≡ page → ⊥).
    ap (λ (c : PageCopy). is_written c.state) (copy_at-with_copy_other table page q copy other))
    (cases_eq q page))

-- a table stays sound where a whole copy is put in place of one that is written as much as it
pub sound-with_copy : (table : Table) (written : List ℕ) (page : ℕ) (copy : PageCopy) → IsSound table written
    → IsWhole table.size copy → is_written copy.state ≡ is_written (copy_at table page).state
    → IsSound (with_copy table page copy) written
sound-with_copy table written page copy sound whole same = record {
  whole = All-set (IsWhole table.size) table.copies page copy whole sound.whole;
  few = omega (arith, sound.few, length-set table.copies page copy);
  listed = sound.listed ∙ sym (written-with_copy table page copy same);
}

-- a copy that was read from a sound table is whole
pub whole-read : (table : Table) (written : List ℕ) (page : ℕ) (old : PageCopy) → IsSound table written
    → page < length table.copies → old ≡ get_or table.copies page old → IsWhole table.size old
whole-read table written page old sound within is =
    let P : PageCopy → Type 0 = λ copy. IsWhole table.size copy in
    subst P (sym is) (sound.whole page old within)

-- and it is the page's copy
pub read_is : (table : Table) (place page : ℕ) (old : PageCopy) → place < length table.copies → place ≡ page
    → old ≡ get_or table.copies place old → old ≡ copy_at table page
read_is table place page old within at is = is ∙ get_or_default table.copies place old none within ∙ ap (copy_at table) at

-- and it is in the state that the table says
pub invalid_read : (table : Table) (place page : ℕ) (old : PageCopy) → place < length table.copies → place ≡ page
    → old ≡ get_or table.copies place old → (copy_at table page).state ≡ Invalid → old.state ≡ Invalid
invalid_read table place page old within at is state = ap (λ (c : PageCopy). c.state) (read_is table place page old within at is) ∙ state

-- a copy changed in its place, by a change that keeps it whole and as much written
pub sound-changed : (table : Table) (written : List ℕ) (page : ℕ) (old new : PageCopy) → IsSound table written
    → page < length table.copies → old ≡ get_or table.copies page old
    → (IsWhole table.size old → IsWhole table.size new) → is_written new.state ≡ is_written old.state
    → IsSound (with_copy table page new) written
sound-changed table written page old new sound within is whole same =
    sound-with_copy table written page new sound (whole (whole-read table written page old sound within is))
    (same ∙ ap (λ (c : PageCopy). is_written c.state) (is ∙ get_or_default table.copies page old none within))

-- a call that leaves the copy as it was where it is refused
pub either : {X E : Type 0} (r : Result X E) (new done old : PageCopy) → OnOk r (new ≡ done) → OnErr r (new ≡ old)
    → (new ≡ done) ⊎ (new ≡ old)
either (Ok x) new done old ok err = inl ok
either (Err e) new done old ok err = inr err

pub sound-settled : (table : Table) (written : List ℕ) (page : ℕ) (old new : PageCopy) → IsSound table written
    → page < length table.copies → old ≡ get_or table.copies page old → (new ≡ settled old) ⊎ (new ≡ old)
    → IsSound (with_copy table page new) written
sound-settled table written page old new sound within is cases =
    sound-changed table written page old new sound within is
    (λ whole.
    ⊎_elim
    (λ (done : new ≡ settled old). rw done (whole-settled table.size old whole))
    (λ (same : new ≡ old). rw same whole)
    cases)
    (⊎_elim
    (λ (done : new ≡ settled old). ap (λ (c : PageCopy). is_written c.state) done ∙ written-settled old)
    (λ (same : new ≡ old). ap (λ (c : PageCopy). is_written c.state) same)
    cases)

pub sound-with_base : (table : Table) (written : List ℕ) (page : ℕ) (old new : PageCopy) → IsSound table written
    → page < length table.copies → old ≡ get_or table.copies page old → (new ≡ with_base old) ⊎ (new ≡ old)
    → IsSound (with_copy table page new) written
sound-with_base table written page old new sound within is cases =
    sound-changed table written page old new sound within is
    (λ whole.
    ⊎_elim
    (λ (done : new ≡ with_base old). rw done (whole-with_base table.size old whole))
    (λ (same : new ≡ old). rw same whole)
    cases)
    (⊎_elim
    (λ (done : new ≡ with_base old). ap (λ (c : PageCopy). is_written c.state) done)
    (λ (same : new ≡ old). ap (λ (c : PageCopy). is_written c.state) same)
    cases)

-- a valid copy's page is not listed
pub unlisted : (table : Table) (written : List ℕ) (page : ℕ) → IsSound table written
    → (copy_at table page).state ≡ Valid → Contains written page → ⊥
unlisted table written page sound valid member =
    let facts = (contains-written table page).0 (rw (← sound.listed) member) in
    true_false (sym facts.1 ∙ ap is_written valid)

-- and where the page is listed as written, and its copy is
pub sound-opened : (table : Table) (written more : List ℕ) (page : ℕ) (copy : PageCopy) → IsSound table written
    → IsWhole table.size copy → page < length table.copies → is_written copy.state ≡ true → IsRising more
    → ((p : ℕ) → Contains more p ↔ ((p ≡ page) ⊎ Contains written p)) → IsSound (with_copy table page copy) more
sound-opened table written more page copy sound whole within is rises members = record {
  whole = All-set (IsWhole table.size) table.copies page copy whole sound.whole;
  few = omega (arith, sound.few, length-set table.copies page copy);
  listed =
      let long = length-set table.copies page copy in
      let new = with_copy table page copy in
      let here = copy_at-with_copy table page copy within in
      rising_same more (written_pages new) rises (rising-written new)
      (λ p member.
      (contains-written new p).1
      (⊎_elim
      (λ (at : p ≡ page). rw at (omega (arith, long, within), ap (λ (c : PageCopy). is_written c.state) here ∙ is))
      (λ (before : Contains written p).
      let facts = (contains-written table p).0 (rw (← sound.listed) before) in
      ⊎_elim
      (λ (at : p ≡ page). rw at (omega (arith, long, within), ap (λ (c : PageCopy). is_written c.state) here ∙ is))
      (λ (other : p ≡ page → ⊥).
      (omega (arith, long, facts.0), ap (λ (c : PageCopy). is_written c.state) (copy_at-with_copy_other table page p copy other) ∙ facts.1))
      (cases_eq p page))
      ((members p).0 member)))
      (λ p member.
      let facts = (contains-written new p).0 member in
      (members p).1
      (⊎_elim
      (λ (at : p ≡ page). inl at)
      (λ (other : p ≡ page → ⊥).
      inr (rw sound.listed
      ((contains-written table p).1 (
        omega (arith, long, facts.0),
        ap (λ (c : PageCopy). is_written c.state) (sym (copy_at-with_copy_other table page p copy other)) ∙ facts.1,
      ))))
      (cases_eq p page)));
}

-- ---- every copy changed

copy_at-with_each : (table : Table) (f : PageCopy → PageCopy) (page : ℕ) → page < length table.copies
    → copy_at (with_each table f) page ≡ f (copy_at table page)
copy_at-with_each table f page within = get_or-map f table.copies page none none within

pub sound-with_each : (table : Table) (written : List ℕ) (f : PageCopy → PageCopy) → IsSound table written
    → All (λ copy. IsWhole table.size (f copy)) table.copies
    → ((copy : PageCopy) → is_written (f copy).state ≡ is_written copy.state) → IsSound (with_each table f) written
sound-with_each table written f sound whole same = record {
  whole = All-map (IsWhole table.size) f table.copies whole;
  few = omega (arith, sound.few, length-map table.copies f);
  listed = sound.listed
      ∙ sym
      (same_written (with_each table f) table (length-map table.copies f)
      (λ page.
      ⊎_elim
      (λ (within : page < length table.copies).
      ap (λ (c : PageCopy). is_written c.state) (copy_at-with_each table f page within) ∙ same (copy_at table page))
      (λ (beyond : length table.copies ≤ page).
      ap (λ (c : PageCopy). is_written c.state)
      (get_or_past (map f table.copies) page none (omega (arith, length-map table.copies f)) ∙ sym (get_or_past table.copies page none beyond)))
      (cases_lt page (length table.copies))));
}

-- a fresh table is sound, and no page of it is listed
pub sound-fresh : (size : Size) (n : ℕ) (copies : List PageCopy) (written : List ℕ)
    → copies ≡ replicate n (fresh (zero_page size)) → n ≤ MOST_PAGES → written ≡ []
    → IsSound (record { size = size; copies = copies }) written
sound-fresh size n copies written are few empty =
    let table : Table = record { size = size; copies = copies } in
    let long : length copies ≡ n = ap length are ∙ length-replicate n (fresh (zero_page size)) in record {
      whole = rw are (All-replicate (IsWhole size) n (fresh (zero_page size)) (whole-fresh size));
      few = omega (arith, long, few);
      listed = empty
          ∙ sym
          (none_written table
          (λ page.
          ⊎_elim
          (λ (within : page < length copies).
          ap (λ (c : PageCopy). is_written c.state)
          (ap (λ l. get_or l page none) are ∙ get_or-replicate n page (fresh (zero_page size)) none (omega (arith, within, long))))
          (λ (beyond : length copies ≤ page). ap (λ (c : PageCopy). is_written c.state) (get_or_past copies page none beyond))
          (cases_lt page (length copies))));
    }

-- a table seen by another name
pub sound-is : (table other : Table) (written : List ℕ) → other ≡ table → IsSound table written → IsSound other written
sound-is table other written same sound = rw same sound

-- ---- a write

-- what a write finds: the page was written before, or begins to be
abbrev pub IsBegun : Table → Table → ℕ → Type 0
IsBegun old mid page =
    ((mid ≡ old) × ((copy_at old page).state ≡ Written))
    ⊎ ((mid ≡ with_copy old page (opened (copy_at old page))) × ((copy_at old page).state ≡ Valid))

pub length-begun : (old mid : Table) (page : ℕ) → IsBegun old mid page → length mid.copies ≡ length old.copies
length-begun old mid page (inl found) = ap (λ (t : Table). length t.copies) found.0
length-begun old mid page (inr found) =
    ap (λ (t : Table). length t.copies) found.0 ∙ length-set old.copies page (opened (copy_at old page))

pub size-begun : (old mid : Table) (page : ℕ) → IsBegun old mid page → mid.size ≡ old.size
size-begun old mid page (inl found) = ap (λ (t : Table). t.size) found.0
size-begun old mid page (inr found) = ap (λ (t : Table). t.size) found.0

after_write-written : (copy : PageCopy) (offset value : ℕ) → copy.state ≡ Written
    → after_write copy offset value ≡ with_value copy offset value
after_write-written copy offset value is = ap (λ state. written_in state copy offset value) is

after_write-valid : (copy : PageCopy) (offset value : ℕ) → copy.state ≡ Valid
    → after_write copy offset value ≡ with_value (opened copy) offset value
after_write-valid copy offset value is = ap (λ state. written_in state copy offset value) is

pub written_begun : (old mid : Table) (page offset value : ℕ) (was now : PageCopy) → page < length old.copies
    → IsBegun old mid page → was ≡ get_or mid.copies page was → now ≡ with_value was offset value
    → with_copy mid page now ≡ with_copy old page (after_write (copy_at old page) offset value)
written_begun old mid page offset value was now within (inl found) read is =
    let here : was ≡ copy_at old page =
    read
    ∙ ap (λ (t : Table). get_or t.copies page was) found.0
    ∙ get_or_default old.copies page was none within in
    ap (λ t. with_copy t page now) found.0
    ∙ ap (with_copy old page)
    (is ∙ ap (λ c. with_value c offset value) here ∙ sym (after_write-written (copy_at old page) offset value found.1))
written_begun old mid page offset value was now within (inr found) read is =
    let copy = opened (copy_at old page) in
    let here : was ≡ copy =
    read ∙ ap (λ (t : Table). get_or t.copies page was) found.0 ∙ get_or-set_same old.copies page copy was within in
    ap (λ t. with_copy t page now) found.0
    ∙ ap (λ list. record old { copies = list }) (set-set old.copies page copy now)
    ∙ ap (with_copy old page)
    (is ∙ ap (λ c. with_value c offset value) here ∙ sym (after_write-valid (copy_at old page) offset value found.1))

-- ---- a close, page by page

-- of the first pages the copies are closed, and the others are as they were
abbrev pub IsClosedSoFar : List ℕ → ℕ → List PageCopy → List PageCopy → Type 0
IsClosedSoFar pages i old new = record {
  long : length new ≡ length old;
  done : (j : ℕ) → j < i → get_or new (get_or pages j 0) none ≡ closed (get_or old (get_or pages j 0) none);
  kept : (k : ℕ) → ((j : ℕ) → j < i → get_or pages j 0 ≢ k) → get_or new k none ≡ get_or old k none;
}

pub closed_more : (pages : List ℕ) (i : ℕ) (old new : List PageCopy) → IsRising pages → i < length pages
    → get_or pages i 0 < length old → IsClosedSoFar pages i old new
    → IsClosedSoFar pages (i + 1) old (set new (get_or pages i 0) (closed (get_or new (get_or pages i 0) none)))
closed_more pages i old new rises within inside so_far =
    let page = get_or pages i 0 in
    let apart : (j : ℕ) → j < i → get_or pages j 0 ≢ page = λ j before same. omega (arith, rises j i 0 before within, same) in record {
      long = length-set new page (closed (get_or new page none)) ∙ so_far.long;
      done = λ j before.
          ⊎_elim
          (λ (last : j ≡ i).
          rw last
          (get_or-set_same new page (closed (get_or new page none)) none (omega (arith, so_far.long, inside))
          ∙ ap closed (so_far.kept page apart)))
          (λ (earlier : j ≡ i → ⊥).
          let less : j < i = omega arith in
          get_or-set_other new page (get_or pages j 0) (closed (get_or new page none)) none (apart j less) ∙ so_far.done j less)
          (cases_eq j i);
      kept = λ k others.
          let other : k ≢ page = λ same. others i (omega arith) (sym same) in
          get_or-set_other new page k (closed (get_or new page none)) none other
          ∙ so_far.kept k (λ j before. others j (omega (arith, before)));
    }

closed-unwritten : (copy : PageCopy) → is_written copy.state ≡ false → closed copy ≡ copy
closed-unwritten copy unwritten = rw unwritten refl

-- once all written pages are closed, every copy is
pub closed_all : (table : Table) (new : List PageCopy)
    → IsClosedSoFar (written_pages table) (length (written_pages table)) table.copies new → new ≡ map closed table.copies
closed_all table new so_far =
    same_lists new (map closed table.copies) (so_far.long ∙ sym (length-map table.copies closed))
    (λ k d within.
    let inside : k < length table.copies = omega (arith, within, so_far.long) in
    let right : get_or (map closed table.copies) k d ≡ closed (copy_at table k) = get_or-map closed table.copies k none d inside in
    get_or_default new k d none within
    ∙ ⊎_elim
    (λ (is : is_written (copy_at table k).state ≡ true).
    let member = (contains-written table k).1 (inside, is) in
    let place : get_or (written_pages table) member.0 0 ≡ k =
    sym (get_or_default_zero (written_pages table) member.0 k member.1) ∙ member.2 in
    ap (λ page. get_or new page none) (sym place) ∙ so_far.done member.0 member.1 ∙ ap (λ page. closed (copy_at table page)) place)
    (λ (unwritten : is_written (copy_at table k).state ≡ false).
    so_far.kept k
    (λ j before same.
    let facts = (contains-written table k).0 (j, before, get_or_default (written_pages table) j k 0 before ∙ same) in
    true_false (sym facts.1 ∙ unwritten))
    ∙ sym (closed-unwritten (copy_at table k) unwritten))
    (cases_Bool (is_written (copy_at table k).state))
    ∙ sym right)

-- one page more, as the code closes it
pub closed_step : (pages : List ℕ) (i page : ℕ) (old new : List PageCopy) (was now : PageCopy) → IsRising pages
    → i < length pages → page ≡ get_or pages i 0 → page < length old → IsClosedSoFar pages i old new
    → was ≡ get_or new page was → now ≡ closed was → IsClosedSoFar pages (i + 1) old (set new page now)
closed_step pages i page old new was now rises within at inside so_far read is =
    let here : was ≡ get_or new page none = read ∙ get_or_default new page was none (omega (arith, so_far.long, inside)) in
    rw (is, here, at) (closed_more pages i old new rises within (omega (arith, at, inside)) so_far)

-- the pages that a close goes over are of the table
pub written_within : (table : Table) (written : List ℕ) (i page : ℕ) → IsSound table written → i < length written
    → page ≡ get_or written i 0 → page < length table.copies
written_within table written i page sound within at =
    let member : Contains written page = (i, within, get_or_default written i page 0 within ∙ sym at) in
    ((contains-written table page).0 (rw (← sound.listed) member)).0

pub rising-listed : (table : Table) (written : List ℕ) → IsSound table written → IsRising written
rising-listed table written sound = rw sound.listed (rising-written table)

-- the copies once a close is done
pub closed_is : (table : Table) (written : List ℕ) (i : ℕ) (new : List PageCopy) → IsSound table written
    → length written ≤ i → i ≤ length written → IsClosedSoFar written i table.copies new → new ≡ map closed table.copies
closed_is table written i new sound high low so_far =
    let end : i ≡ length written = omega arith in
    closed_all table new (rw (← sound.listed, ← end) so_far)

pub sound-closed : (table : Table) (written none_left : List ℕ) (new : List PageCopy) → IsSound table written
    → new ≡ map closed table.copies → none_left ≡ [] → IsSound (record { size = table.size; copies = new }) none_left
sound-closed table written none_left new sound are empty =
    let after : Table = record { size = table.size; copies = new } in
    let long : length new ≡ length table.copies = ap length are ∙ length-map table.copies closed in record {
      whole = rw are
          (All-map (IsWhole table.size) closed table.copies
          (λ k d within. whole-closed table.size (get_or table.copies k d) (sound.whole k d within)));
      few = omega (arith, long, sound.few);
      listed = empty
          ∙ sym
          (none_written after
          (λ page.
          ⊎_elim
          (λ (within : page < length new).
          ap (λ (c : PageCopy). is_written c.state)
          (ap (λ l. get_or l page none) are
          ∙ copy_at-with_each table closed page (omega (arith, within, long)))
          ∙ closed_written (copy_at table page))
          (λ (beyond : length new ≤ page). ap (λ (c : PageCopy). is_written c.state) (get_or_past new page none beyond))
          (cases_lt page (length new))));
    }

-- no page is written after a close
pub closed-none : (table : Table) (page : ℕ) → (copy_at (with_each table closed) page).state ≢ Written
closed-none table page is =
    true_false
    (sym (ap is_written is)
    ∙ ⊎_elim
    (λ (within : page < length table.copies).
    ap (λ (c : PageCopy). is_written c.state) (copy_at-with_each table closed page within) ∙ closed_written (copy_at table page))
    (λ (beyond : length table.copies ≤ page).
    ap (λ (c : PageCopy). is_written c.state)
    (get_or_past (map closed table.copies) page none (omega (arith, length-map table.copies closed))))
    (cases_lt page (length table.copies)))
