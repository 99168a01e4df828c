-- What comes for a page takes just the request for it out of what is awaited.
use Rattle.std.proofs.Common.{◌≡◌, ℕ, ◌+◌, ◌<◌, List, [], ◌∷◌, ◌++◌, Bool, true, false, cond, refl, sym, ap, subst, ◌∙◌, ⊎_elim, arith}
use Rattle.std.specs.Prelude.{Option, Some, None, All, ◌==◌, not, count_by, filter, filter_map, flat_map, map, if◌then◌else◌}
use Rattle.std.specs.List.{list_any, list_all, cons_option, range_with_len}
use Rattle.std.proofs.lemmas.Bool.{and_parts, eqb-true, eq-eqb, ne_eqb, false≢true, or_cases}
use Rattle.std.proofs.lemmas.Option.{same_Some}
use Rattle.std.proofs.lemmas.List.Elements.{All-head, All-tail, All-map}
use Rattle.lrc_store.specs.declared.key.Key.{Key}
use Rattle.lrc_envelope.specs.declared.message.Message.TheVariants.{ChangesRequest, PageRequest}
use Rattle.lrc_protocol.specs.Pages.{Memory, Base, unneeded, due, come, Asked, Need, indices_of, some_asked, asked_of, unknown_of, asks_just}
use Rattle.lrc_protocol.specs.Pages.{awaits_changes, is_due, is_due_from, awaits_page, is_empty_list, is_met, changes_came, page_came}
use Rattle.lrc_protocol.specs.Node.{Letter}
use Rattle.lrc_protocol.specs.Turn.{letter, changes_request_of, page_request_of, requests_of}
use Rattle.lrc_node_laws.specs.Needs.{FitsNeed}
use Rattle.lrc_node_laws.proofs.Tests.{same_numbers}
use Rattle.lrc_node_laws.proofs.Lists.{All-chosen}
use Rattle.lrc_node_laws.proofs.Indices.{Ascends, range-ascends}
use Rattle.lrc_node_laws.proofs.Needs.{any_fits}
use Rattle.lrc_node_laws.proofs.Awaited.{All-unmap}
use Rattle.lrc_order_laws.proofs.Flows.{count-append, count-cons}

-- ---- the makers that are asked ascend

asked-maker : (maker : ℕ) (indices : List ℕ) (a : Asked) → some_asked maker indices ≡ Some a → maker ≡ a.maker
asked-maker maker [] a e = cc
asked-maker maker (index ∷ indices) a e = ap (λ (a : Asked). a.maker) (same_Some (record { maker = maker; indices = index ∷ indices }) a e)

abbrev makers : List Asked → List ℕ
makers asked = map (λ (a : Asked). a.maker) asked

one-ascends : (maker : ℕ) (o : Option Asked) (asked : List Asked) → ((a : Asked) → o ≡ Some a → maker ≡ a.maker)
    → All (λ m. maker < m) (makers asked) → Ascends (makers asked) → Ascends (makers (cons_option o asked))
one-ascends maker None asked is above h = h
one-ascends maker (Some a) asked is above h = (subst (λ k. All (λ m. k < m) (makers asked)) (is a refl) above, h)

chosen-ascend : (keys : List Key) (among : List ℕ) → Ascends among
    → Ascends (makers (filter_map (λ maker. some_asked maker (indices_of keys maker)) among))
chosen-ascend keys [] h = tt
chosen-ascend keys (maker ∷ among) h =
    one-ascends maker (some_asked maker (indices_of keys maker)) (filter_map (λ maker. some_asked maker (indices_of keys maker)) among)
    (λ a e. asked-maker maker (indices_of keys maker) a e)
    (All-map (λ m. maker < m) (λ (a : Asked). a.maker) (filter_map (λ maker. some_asked maker (indices_of keys maker)) among)
    (All-chosen (λ m. maker < m) (λ (a : Asked). maker < a.maker) (λ maker. some_asked maker (indices_of keys maker))
    (λ m a lt e. subst (λ k. maker < k) (asked-maker m (indices_of keys m) a e) lt) among h.0))
    (chosen-ascend keys among h.1)

pub asked-ascend : (nodes : ℕ) (keys : List Key) → Ascends (makers (asked_of nodes keys))
asked-ascend nodes keys = chosen-ascend keys (range_with_len 0 nodes) (range-ascends 0 nodes)

-- ---- one maker's changes

module _ (page from : ℕ) (indices : List ℕ) (test : Letter → Bool) where
  abbrev request : Letter
  request = letter from (ChangesRequest (record { page = page; indices = indices }))

  abbrev requests : List Asked → List Letter
  requests asked = map (changes_request_of page) asked

  abbrev others : Asked → Bool
  others a = not (a.maker == from)

  none-filtered : (asked : List Asked) → All (λ m. from < m) (makers asked) → filter others asked ≡ asked
  none-filtered [] h = refl
  none-filtered (a ∷ asked) h =
      let above : from < a.maker = All-head (λ m. from < m) a.maker (makers asked) h in
      let apart : (a.maker == from) ≡ false = ne_eqb a.maker from (λ e. omega (arith, above, e)) in
      ap (λ b. cond (not b) (a ∷ filter others asked) (filter others asked)) apart
      ∙ ap (λ rest. a ∷ rest) (none-filtered asked (All-tail (λ m. from < m) a.maker (makers asked) h))

  changes-less : (asked : List Asked) → Ascends (makers asked) → list_any (asks_just from indices) asked ≡ true
      → count_by test (requests asked) ≡ cond (test request) 1 0 + count_by test (requests (filter others asked))
  changes-less [] h e = absurd (false≢true e)
  changes-less (a ∷ asked) h e =
      ⊎_elim
      (λ here.
      let parts : _ = and_parts _ _ here in
      let maker : a.maker ≡ from = eqb-true a.maker from parts.0 in
      let same : a.indices ≡ indices = same_numbers a.indices indices parts.1 in
      let gone : filter others (a ∷ asked) ≡ asked =
      ap (λ b. cond (not b) (a ∷ filter others asked) (filter others asked)) (eq-eqb a.maker from maker)
      ∙ none-filtered asked (subst (λ k. All (λ m. k < m) (makers asked)) maker h.0) in
      let is : changes_request_of page a ≡ request =
      ap (λ k. letter k (ChangesRequest (record { page = page; indices = a.indices }))) maker
      ∙ ap (λ xs. letter from (ChangesRequest (record { page = page; indices = xs }))) same in
      count-cons test (changes_request_of page a) (requests asked)
      ∙ ap (λ l. cond {A = ℕ} (test l) 1 0 + count_by test (requests asked)) is
      ∙ ap (λ rest. cond {A = ℕ} (test request) 1 0 + count_by test (requests rest)) (sym gone))
      (λ later.
      let above : a.maker < from =
      any_fits (λ (b : Asked). a.maker < b.maker) (asks_just from indices) (a.maker < from)
      (λ b lt is. subst (λ k. a.maker < k) (eqb-true b.maker from (and_parts _ _ is).0) lt) asked
      (All-unmap (λ m. a.maker < m) (λ (a : Asked). a.maker) asked h.0) later in
      let stays : filter others (a ∷ asked) ≡ a ∷ filter others asked =
      ap (λ b. cond (not b) (a ∷ filter others asked) (filter others asked)) (ne_eqb a.maker from (λ e. omega (arith, above, e))) in
      let rest : count_by test (requests asked) ≡ cond (test request) 1 0 + count_by test (requests (filter others asked)) =
      changes-less asked h.1 later in
      let x : count_by test (requests (a ∷ asked)) ≡ cond (test (changes_request_of page a)) 1 0 + count_by test (requests asked) =
      count-cons test (changes_request_of page a) (requests asked) in
      let y : count_by test (requests (filter others (a ∷ asked)))
      ≡ cond (test (changes_request_of page a)) 1 0 + count_by test (requests (filter others asked)) =
      ap (λ rest. count_by test (requests rest)) stays ∙ count-cons test (changes_request_of page a) (requests (filter others asked)) in
      omega (arith, rest, x, y))
      (or_cases (asks_just from indices a) (list_any (asks_just from indices) asked) e)

-- ---- one need

page-less : (from : ℕ) (values : List ℕ) (test : Letter → Bool) (need : Need) (b : Bool) (base : Base) → need.base ≡ base → b ≡ true
    → is_due_from from base ≡ true
    → count_by test (requests_of need)
    ≡ cond (test (letter from (PageRequest need.page))) 1 0 + count_by test (requests_of (if b then record need { base = come values } else need))
page-less from values test need false base is e d = cc
page-less from values test need true unneeded is e d = cc
page-less from values test need true (come had) is e d = cc
page-less from values test need true (due keeper) is e d =
    ap (λ base. count_by test (page_request_of need.page base ++ map (changes_request_of need.page) need.asked)) is
    ∙ count-cons test (letter keeper (PageRequest need.page)) (map (changes_request_of need.page) need.asked)
    ∙ ap (λ k. cond {A = ℕ} (test (letter k (PageRequest need.page))) 1 0 + count_by test (map (changes_request_of need.page) need.asked))
    (eqb-true keeper from d)

asked-less : (from : ℕ) (indices : List ℕ) (test : Letter → Bool) (need : Need) (b : Bool) → b ≡ true → Ascends (makers need.asked)
    → list_any (asks_just from indices) need.asked ≡ true
    → count_by test (requests_of need)
    ≡ cond (test (letter from (ChangesRequest (record { page = need.page; indices = indices })))) 1 0
    + count_by test (requests_of (if b then record need { asked = filter (λ (asked : Asked). not (asked.maker == from)) need.asked } else need))
asked-less from indices test need false e h d = cc
asked-less from indices test need true e h d =
    let left : List Letter = map (changes_request_of need.page) (filter (λ (asked : Asked). not (asked.maker == from)) need.asked) in
    let base : List Letter = page_request_of need.page need.base in
    let x : count_by test (requests_of need) ≡ count_by test base + count_by test (map (changes_request_of need.page) need.asked) =
    count-append test base (map (changes_request_of need.page) need.asked) in
    let y : count_by test (base ++ left) ≡ count_by test base + count_by test left = count-append test base left in
    let z : count_by test (map (changes_request_of need.page) need.asked)
    ≡ cond (test (letter from (ChangesRequest (record { page = need.page; indices = indices })))) 1 0 + count_by test left =
    changes-less need.page from indices test need.asked h d in
    omega (arith, x, y, z)

unchanged : (need now : Need) (b : Bool) → b ≡ false → (if b then now else need) ≡ need
unchanged need now true e = cc
unchanged need now false e = refl

-- ---- all needs

module _ (Fits : Need → Type 0) (change : Need → Need) (page : ℕ) (awaits : Need → Bool) (test : Letter → Bool) (c : ℕ)
    (stays : (need : Need) → (need.page ≡ page → ⊥) → change need ≡ need)
    (goes : (need : Need) → Fits need → awaits need ≡ true
    → (need.page ≡ page) × (count_by test (requests_of need) ≡ c + count_by test (requests_of (change need)))) where
  abbrev pages : List Need → List ℕ
  pages needs = map (λ (need : Need). need.page) needs

  same : (needs : List Need) → All (λ p. page < p) (pages needs) → map change needs ≡ needs
  same [] h = refl
  same (need ∷ needs) h =
      let above : page < need.page = All-head (λ p. page < p) need.page (pages needs) h in
      ap (λ n. n ∷ map change needs) (stays need (λ e. omega (arith, above, e)))
      ∙ ap (λ rest. need ∷ rest) (same needs (All-tail (λ p. page < p) need.page (pages needs) h))

  needs-less : (needs : List Need) → All Fits needs → Ascends (pages needs) → list_any awaits needs ≡ true
      → count_by test (flat_map requests_of needs) ≡ c + count_by test (flat_map requests_of (map change needs))
  needs-less [] f h e = absurd (false≢true e)
  needs-less (need ∷ needs) f h e =
      let x : count_by test (flat_map requests_of (need ∷ needs)) ≡ count_by test (requests_of need) + count_by test (flat_map requests_of needs) =
      count-append test (requests_of need) (flat_map requests_of needs) in
      let y : count_by test (flat_map requests_of (map change (need ∷ needs)))
      ≡ count_by test (requests_of (change need)) + count_by test (flat_map requests_of (map change needs)) =
      count-append test (requests_of (change need)) (flat_map requests_of (map change needs)) in
      ⊎_elim
      (λ here.
      let it : _ = goes need (All-head Fits need needs f) here in
      let less : count_by test (requests_of need) ≡ c + count_by test (requests_of (change need)) = it.1 in
      let rest : count_by test (flat_map requests_of (map change needs)) ≡ count_by test (flat_map requests_of needs) =
      ap (λ needs. count_by test (flat_map requests_of needs)) (same needs (subst (λ k. All (λ p. k < p) (pages needs)) it.0 h.0)) in
      omega (arith, x, y, less, rest))
      (λ later.
      let fits : All Fits needs = All-tail Fits need needs f in
      let after : All (λ (n : Need). need.page < n.page) needs = All-unmap (λ p. need.page < p) (λ (n : Need). n.page) needs h.0 in
      let above : need.page < page =
      any_fits (λ n. Fits n × (need.page < n.page)) awaits (need.page < page)
      (λ n both is. subst (λ k. need.page < k) (goes n both.0 is).0 both.1) needs (λ k d within. (fits k d within, after k d within)) later in
      let one : count_by test (requests_of (change need)) ≡ count_by test (requests_of need) =
      ap (λ n. count_by test (requests_of n)) (stays need (λ e. omega (arith, above, e))) in
      let rest : count_by test (flat_map requests_of needs) ≡ c + count_by test (flat_map requests_of (map change needs)) =
      needs-less needs fits h.1 later in
      omega (arith, x, y, one, rest))
      (or_cases (awaits need) (list_any awaits needs) e)

-- a base copy comes
pub page_comes : (from page : ℕ) (values : List ℕ) (test : Letter → Bool) (needs : List Need) → Ascends (map (λ (need : Need). need.page) needs)
    → list_any (awaits_page page from) needs ≡ true
    → count_by test (flat_map requests_of needs)
    ≡ cond (test (letter from (PageRequest page))) 1 0 + count_by test (flat_map requests_of (map (page_came page values) needs))
page_comes from page values test needs h e =
    needs-less (λ need. Unit {0}) (page_came page values) page (awaits_page page from) test (cond (test (letter from (PageRequest page))) 1 0)
    (λ need ne. unchanged need (record need { base = come values }) (need.page == page) (ne_eqb need.page page ne))
    (λ need u is.
    let parts : _ = and_parts _ _ is in
    let here : need.page ≡ page = eqb-true need.page page parts.0 in (
      here,
      page-less from values test need (need.page == page) need.base refl parts.0 parts.1
          ∙ ap (λ p. cond {A = ℕ} (test (letter from (PageRequest p))) 1 0 + count_by test (requests_of (page_came page values need))) here,
    ))
    needs (λ k d within. tt) h e

-- a maker's changes come
pub changes_come : (nodes size words : ℕ) (memory : Memory) (from page : ℕ) (indices : List ℕ) (test : Letter → Bool) (needs : List Need)
    → All (FitsNeed nodes size words memory) needs → Ascends (map (λ (need : Need). need.page) needs)
    → list_any (awaits_changes page from indices) needs ≡ true
    → count_by test (flat_map requests_of needs)
    ≡ cond (test (letter from (ChangesRequest (record { page = page; indices = indices })))) 1 0
    + count_by test (flat_map requests_of (map (changes_came page from) needs))
changes_come nodes size words memory from page indices test needs f h e =
    needs-less (FitsNeed nodes size words memory) (changes_came page from) page (awaits_changes page from indices) test
    (cond (test (letter from (ChangesRequest (record { page = page; indices = indices })))) 1 0)
    (λ need ne.
    unchanged need (record need { asked = filter (λ (asked : Asked). not (asked.maker == from)) need.asked }) (need.page == page) (ne_eqb need.page page ne))
    (λ need fits is.
    let parts : _ = and_parts _ _ is in
    let here : need.page ≡ page = eqb-true need.page page parts.0 in (
      here,
      asked-less from indices test need (need.page == page) parts.0
          (subst (λ asked. Ascends (makers asked)) (sym fits.asked) (asked-ascend nodes (unknown_of memory.store need.missing))) parts.1
          ∙ ap
          (λ p. cond {A = ℕ} (test (letter from (ChangesRequest (record { page = p; indices = indices })))) 1 0
          + count_by test (requests_of (changes_came page from need))) here,
    ))
    needs f h e

-- ---- where all has come nothing is awaited

met-base : (page : ℕ) (base : Base) → not (is_due base) ≡ true → page_request_of page base ≡ []
met-base page unneeded e = refl
met-base page (due keeper) e = cc
met-base page (come values) e = refl

met-asked : (page : ℕ) (asked : List Asked) → is_empty_list asked ≡ true → map (changes_request_of page) asked ≡ []
met-asked page [] e = refl
met-asked page (a ∷ asked) e = cc

pub met_asks : (need : Need) → is_met need ≡ true → requests_of need ≡ []
met_asks need e =
    let parts : _ = and_parts _ _ e in
    ap (λ base. base ++ map (changes_request_of need.page) need.asked) (met-base need.page need.base parts.0) ∙ met-asked need.page need.asked parts.1

pub all_met-ask : (needs : List Need) → list_all is_met needs ≡ true → flat_map requests_of needs ≡ []
all_met-ask [] e = refl
all_met-ask (need ∷ needs) e =
    let parts : (is_met need ≡ true) × (list_all is_met needs ≡ true) = and_parts _ _ e in
    ap (λ l. l ++ flat_map requests_of needs) (met_asks need parts.0) ∙ all_met-ask needs parts.1
