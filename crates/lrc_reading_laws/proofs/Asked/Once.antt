-- What a node awaits of pages, each thing at most once, is on its way exactly once: as a request or as its reply.
use Rattle.std.proofs.Common.{◌≡◌, ℕ, ◌+◌, ◌<◌, ◌≤◌, List, [], ◌∷◌, Bool, true, false, ◌&&◌, cond, refl, sym, ap, ◌∙◌, ⊎_elim, arith}
use Rattle.std.specs.Prelude.{Some, ◌==◌, not, count_by, filter, flat_map, map, slice_get, if◌then◌else◌}
use Rattle.std.specs.List.{list_any}
use Rattle.std.proofs.lemmas.Bool.{and_from, and_left, and_right, or_from, cond_both, cases_Bool, cases_lt, eq-eqb, false≢true, not-true}
use lib.Pointwise.{pointwise}
use Rattle.lrc_program.specs.declared.Program.{Program}
use Rattle.lrc_page.specs.Page.{words_of}
use Rattle.lrc_page.specs.Place.{pages_of}
use Rattle.lrc_envelope.specs.declared.message.Message.TheVariants.{ChangesRequest, PageRequest}
use Rattle.lrc_protocol.specs.Pages.{come, Asked, Need, asks_just, awaits_changes, is_due_from, awaits_page, changes_came, page_came}
use Rattle.lrc_protocol.specs.Node.{Letter, needs_of, Node, OptionsRecord}
use Rattle.lrc_protocol.specs.Turn.{letter, requests_of}
use Rattle.lrc_protocol.specs.Run.{Logged, World}
use Rattle.lrc_protocol.specs.Follows.{pending}
use Rattle.lrc_order_laws.proofs.Reached.{IsReached}
use Rattle.lrc_node_laws.specs.Reached.{IsReached as IsReachedNode}
use Rattle.lrc_node_laws.proofs.Always.{needed_at}
use Rattle.lrc_reading_laws.specs.Requested.{Wish, base_copy, changes, asks_for, brings, awaits}
use Rattle.lrc_reading_laws.proofs.Closed.Stored.{reached}
use Rattle.lrc_reading_laws.proofs.Asked.Wishes.{wanted_test, awaited}
use Rattle.lrc_reading_laws.proofs.Asked.Needs.{page_comes, changes_come}
use Rattle.lrc_reading_laws.proofs.Asked.Worlds.{all_balanced}
use Rattle.lrc_reading_laws.proofs.Asked.Laws.{same-itself, page_awaited, changes_awaited}

-- ---- once it came it is no longer awaited

none_awaits : (awaits : Need → Bool) (change : Need → Need) → ((need : Need) → awaits (change need) ≡ false) → (needs : List Need)
    → list_any awaits (map change needs) ≡ false
none_awaits awaits change h [] = refl
none_awaits awaits change h (need ∷ needs) =
    or_from (awaits (change need)) (list_any awaits (map change needs)) (h need) (none_awaits awaits change h needs)

after_page : (q page : ℕ) (values : List ℕ) (need : Need) → awaits_page page q (page_came page values need) ≡ false
after_page q page values need = by_test (need.page == page) refl
  where
    by_test : (b : Bool) → (need.page == page) ≡ b → awaits_page page q (if b then record need { base = come values } else need) ≡ false
    by_test true e = and_right (need.page == page) false refl
    by_test false e = and_left (need.page == page) (is_due_from q need.base) e

none_left : (q : ℕ) (indices : List ℕ) (asked : List Asked) → list_any (asks_just q indices) (filter (λ (a : Asked). not (a.maker == q)) asked) ≡ false
none_left q indices [] = refl
none_left q indices (a ∷ asked) =
    let rest : List Asked = filter (λ (a : Asked). not (a.maker == q)) asked in
    cond_both (not (a.maker == q)) (a ∷ rest) rest (λ l. list_any (asks_just q indices) l ≡ false)
    (λ e.
    or_from (asks_just q indices a) (list_any (asks_just q indices) rest)
    (and_left (a.maker == q) (pointwise ◌==◌ a.indices indices) (not-true (a.maker == q) e)) (none_left q indices asked))
    (λ e. none_left q indices asked)

after_changes : (q page : ℕ) (indices : List ℕ) (need : Need) → awaits_changes page q indices (changes_came page q need) ≡ false
after_changes q page indices need = by_test (need.page == page) refl
  where
    by_test : (b : Bool) → (need.page == page) ≡ b
        → awaits_changes page q indices (if b then record need { asked = filter (λ (a : Asked). not (a.maker == q)) need.asked } else need) ≡ false
    by_test true e =
        and_right (need.page == page) (list_any (asks_just q indices) (filter (λ (a : Asked). not (a.maker == q)) need.asked)) (none_left q indices need.asked)
    by_test false e = and_left (need.page == page) (list_any (asks_just q indices) need.asked) e

-- ---- how often it is awaited

-- with a request that is counted, what a change leaves of it, and what more than none says
once : (test : Letter → Bool) (awaits : Need → Bool) (change : Need → Need) (needs : List Need) (request : Letter) → test request ≡ true
    → (list_any awaits needs ≡ true
    → count_by test (flat_map requests_of needs) ≡ cond (test request) 1 0 + count_by test (flat_map requests_of (map change needs)))
    → ((need : Need) → awaits (change need) ≡ false)
    → ((some : List Need) → 1 ≤ count_by test (flat_map requests_of some) → list_any awaits some ≡ true)
    → count_by test (flat_map requests_of needs) ≡ cond (list_any awaits needs) 1 0
once test awaits change needs request passes less after says =
    ⊎_elim
    (λ (yes : list_any awaits needs ≡ true).
    let one : cond {A = ℕ} (test request) 1 0 ≡ 1 = ap (λ b. cond {A = ℕ} b 1 0) passes in
    let all : count_by test (flat_map requests_of needs) ≡ cond (test request) 1 0 + count_by test (flat_map requests_of (map change needs)) = less yes in
    let rest : count_by test (flat_map requests_of (map change needs)) ≡ 0 = none (map change needs) (none_awaits awaits change after needs) in
    let is : cond {A = ℕ} (list_any awaits needs) 1 0 ≡ 1 = ap (λ b. cond {A = ℕ} b 1 0) yes in
    omega (arith, one, all, rest, is))
    (λ (not_so : list_any awaits needs ≡ false). none needs not_so ∙ ap (λ b. cond {A = ℕ} b 1 0) (sym not_so))
    (cases_Bool (list_any awaits needs))
  where
    none : (some : List Need) → list_any awaits some ≡ false → count_by test (flat_map requests_of some) ≡ 0
    none some e =
        ⊎_elim
        (λ (lt : 0 < count_by test (flat_map requests_of some)). absurd (false≢true (sym e ∙ says some (omega (arith, lt)))))
        (λ (le : count_by test (flat_map requests_of some) ≤ 0). omega (arith, le))
        (cases_lt 0 (count_by test (flat_map requests_of some)))

passes : (q : ℕ) (w : Wish) (b : Bool) → b ≡ true → (b && (q == q)) ≡ true
passes q w b e = and_from b (q == q) e (eq-eqb q q refl)

counted : (node : Node) → IsReachedNode node → (q : ℕ) (w : Wish)
    → count_by (wanted_test q w) (awaited node.mail.wait) ≡ cond (list_any (awaits q w) (needs_of node.mail.wait)) 1 0
counted node r q (base_copy page) =
    once (wanted_test q (base_copy page)) (awaits_page page q) (page_came page []) (needs_of node.mail.wait) (letter q (PageRequest page))
    (passes q (base_copy page) (page == page) (same-itself (base_copy page)))
    (λ e. page_comes q page [] (wanted_test q (base_copy page)) (needs_of node.mail.wait) (needed_at node r).apart e)
    (after_page q page []) (λ some h. page_awaited q page some h)
counted node r q (changes page indices) =
    once (wanted_test q (changes page indices)) (awaits_changes page q indices) (changes_came page q) (needs_of node.mail.wait)
    (letter q (ChangesRequest (record { page = page; indices = indices })))
    (passes q (changes page indices) ((page == page) && pointwise ◌==◌ indices indices) (same-itself (changes page indices)))
    (λ e.
    changes_come node.setting.nodes (pages_of node.setting.words node.options.size) (words_of node.options.size) node.memory q page indices
    (wanted_test q (changes page indices)) (needs_of node.mail.wait) (needed_at node r).each (needed_at node r).apart e)
    (after_changes q page indices) (λ some h. changes_awaited q page indices some h)

pub on_its_way_once : (program : Program) (nodes : ℕ) (options : OptionsRecord) (world : World) → IsReached program nodes options world
    → (n q : ℕ) (w : Wish) (l : Logged) → slice_get world.nodes n ≡ Some l
    → count_by (asks_for n q w) (pending world) + count_by (brings n q w) (pending world) ≡ (if list_any (awaits q w) (needs_of l.node.mail.wait) then 1 else 0)
on_its_way_once program nodes options world r n q w l at =
    (all_balanced program nodes options r.events world r.runs).each n l at q w
    ∙ counted l.node (reached program nodes options r.events world r.runs n l at) q w
