-- In every run each pending request and reply of pages is awaited: the one that asked awaits it still.
use Rattle.std.proofs.Common.{◌≡◌, ℕ, ◌+◌, ◌<◌, ◌≤◌, List, [], ◌∷◌, Bool, true, false, ◌&&◌, cond, refl, sym, ap, ◌∙◌, ⊎_elim, arith}
use Rattle.std.specs.Prelude.{Option, Some, ◌==◌, Contains, count_by, flat_map, map, slice_get}
use Rattle.std.specs.List.{list_any}
use Rattle.std.proofs.lemmas.Bool.{and_parts, and_from, or_cases, or_left, or_right, cases_Bool, cases_lt, eqb-true, eq-eqb, false≢true}
use lib.Pointwise.{pointwise}
use Rattle.lrc_program.specs.declared.Program.{Program}
use Rattle.lrc_envelope.specs.Envelope.{EnvelopeRecord}
use Rattle.lrc_envelope.specs.Records.{ChangesRequestRecord, ChangesReplyRecord, IndexedChangesRecord, PageReplyRecord}
use Rattle.lrc_envelope.specs.declared.message.Message.TheVariants.{ChangesRequest, ChangesReply, PageRequest, PageReply}
use Rattle.lrc_protocol.specs.Pages.{Base, unneeded, due, come, Asked, Need, asks_just, awaits_changes, is_due_from, awaits_page}
use Rattle.lrc_protocol.specs.Node.{Letter, Wait, nothing, grant, departure, access, upkeep, discard, needs_of, Node, OptionsRecord}
use Rattle.lrc_protocol.specs.Turn.{letter, changes_request_of, page_request_of, requests_of}
use Rattle.lrc_protocol.specs.Run.{Logged, World}
use Rattle.lrc_protocol.specs.Follows.{pending}
use Rattle.lrc_order_laws.proofs.Sends.{letter_in}
use Rattle.lrc_order_laws.proofs.Flows.{count_of, count-append, count-cons}
use Rattle.lrc_order_laws.proofs.Moves.{counted_in}
use Rattle.lrc_order_laws.proofs.Reached.{IsReached}
use Rattle.lrc_node_laws.proofs.Needs.{any_fits}
use Rattle.lrc_reading_laws.proofs.Laws.{AwaitsBase, AreAwaited, RequestsLaw}
use Rattle.lrc_reading_laws.proofs.Closed.Stored.{reached}
use Rattle.lrc_reading_laws.specs.Requested.{Wish, base_copy, changes, wish_in, told_in, same_wish, is_wish}
use Rattle.lrc_reading_laws.proofs.Asked.Wishes.{wanted_test, request_test, reply_test, awaited}
use Rattle.lrc_reading_laws.proofs.Asked.Worlds.{AreBalanced, all_balanced}
use Rattle.lrc_reading_laws.proofs.Asked.Upkeep.{NoBase, no_base_at}

-- ---- a pending message is counted

same_indices : (xs : List ℕ) → pointwise ◌==◌ xs xs ≡ true
same_indices [] = refl
same_indices (x ∷ xs) = and_from (x == x) (pointwise ◌==◌ xs xs) (eq-eqb x x refl) (same_indices xs)

pub same-itself : (w : Wish) → same_wish w w ≡ true
same-itself (base_copy page) = eq-eqb page page refl
same-itself (changes page indices) = and_from (page == page) (pointwise ◌==◌ indices indices) (eq-eqb page page refl) (same_indices indices)

pub passes : (w : Wish) (o : Option Wish) (a b : ℕ) → o ≡ Some w → ((is_wish w o && (a == a)) && (b == b)) ≡ true
passes w o a b e =
    and_from (is_wish w o && (a == a)) (b == b) (and_from (is_wish w o) (a == a) (ap (is_wish w) e ∙ same-itself w) (eq-eqb a a refl)) (eq-eqb b b refl)

requested : (es : List EnvelopeRecord) (wait : Wait) (e : EnvelopeRecord) (w : Wish) → AreBalanced es e.from wait → Contains es e
    → wish_in e.message ≡ Some w → 1 ≤ count_by (wanted_test e.to w) (awaited wait)
requested es wait e w h there is =
    let some : 1 ≤ count_of (request_test e.from e.to w) es =
    counted_in (λ x. request_test e.from e.to w x.from (letter_in x)) es e there (passes w (wish_in e.message) e.to e.from is) in
    let all : count_of (request_test e.from e.to w) es + count_of (reply_test e.from e.to w) es ≡ count_by (wanted_test e.to w) (awaited wait) = h e.to w in
    omega (arith, some, all)

replied : (es : List EnvelopeRecord) (wait : Wait) (e : EnvelopeRecord) (w : Wish) → AreBalanced es e.to wait → Contains es e
    → told_in e.message ≡ Some w → 1 ≤ count_by (wanted_test e.from w) (awaited wait)
replied es wait e w h there is =
    let some : 1 ≤ count_of (reply_test e.to e.from w) es =
    counted_in (λ x. reply_test e.to e.from w x.from (letter_in x)) es e there (passes w (told_in e.message) e.from e.to is) in
    let all : count_of (request_test e.to e.from w) es + count_of (reply_test e.to e.from w) es ≡ count_by (wanted_test e.from w) (awaited wait) = h e.from w in
    omega (arith, some, all)

-- ---- what is counted is awaited

later : (test : Letter → Bool) (l : Letter) (letters : List Letter) → test l ≡ false → 1 ≤ count_by test (l ∷ letters) → 1 ≤ count_by test letters
later test l letters fails some =
    let both : count_by test (l ∷ letters) ≡ cond (test l) 1 0 + count_by test letters = count-cons test l letters in
    let none : cond {A = ℕ} (test l) 1 0 ≡ 0 = ap (λ b. cond {A = ℕ} b 1 0) fails in
    omega (arith, both, none, some)

asked_any : (q page p : ℕ) (indices : List ℕ) (asked : List Asked)
    → 1 ≤ count_by (wanted_test q (changes page indices)) (map (changes_request_of p) asked)
    → ((p == page) ≡ true) × (list_any (asks_just q indices) asked ≡ true)
asked_any q page p indices [] some =
    let none : count_by (wanted_test q (changes page indices)) [] ≡ 0 = refl in
    absurd (omega (arith, some, none))
asked_any q page p indices (a ∷ asked) some =
    ⊎_elim
    (λ here.
    let outer : _ = and_parts ((p == page) && pointwise ◌==◌ a.indices indices) (a.maker == q) here in
    let inner : _ = and_parts (p == page) (pointwise ◌==◌ a.indices indices) outer.0 in (
      inner.0,
      or_left (asks_just q indices a) (list_any (asks_just q indices) asked)
          (and_from (a.maker == q) (pointwise ◌==◌ a.indices indices) outer.1 inner.1),
    ))
    (λ fails.
    let rest : _ =
    asked_any q page p indices asked
    (later (wanted_test q (changes page indices)) (changes_request_of p a) (map (changes_request_of p) asked) fails some) in
    (rest.0, or_right (asks_just q indices a) (list_any (asks_just q indices) asked) rest.1))
    (cases_Bool (wanted_test q (changes page indices) (changes_request_of p a)))

-- a base copy isn't asked of makers, nor changes of a keeper
no_base_asked : (q page p : ℕ) (asked : List Asked) → count_by (wanted_test q (base_copy page)) (map (changes_request_of p) asked) ≡ 0
no_base_asked q page p [] = refl
no_base_asked q page p (a ∷ asked) =
    let both : count_by (wanted_test q (base_copy page)) (map (changes_request_of p) (a ∷ asked))
    ≡ cond (wanted_test q (base_copy page) (changes_request_of p a)) 1 0 + count_by (wanted_test q (base_copy page)) (map (changes_request_of p) asked) =
    count-cons (wanted_test q (base_copy page)) (changes_request_of p a) (map (changes_request_of p) asked) in
    let none : cond {A = ℕ} (wanted_test q (base_copy page) (changes_request_of p a)) 1 0 ≡ 0 = refl in
    let rest : count_by (wanted_test q (base_copy page)) (map (changes_request_of p) asked) ≡ 0 = no_base_asked q page p asked in
    omega (arith, both, none, rest)

no_changes_asked : (q page p : ℕ) (indices : List ℕ) (base : Base) → count_by (wanted_test q (changes page indices)) (page_request_of p base) ≡ 0
no_changes_asked q page p indices unneeded = refl
no_changes_asked q page p indices (due keeper) = refl
no_changes_asked q page p indices (come values) = refl

base_any : (q page p : ℕ) (base : Base) → 1 ≤ count_by (wanted_test q (base_copy page)) (page_request_of p base)
    → ((p == page) && is_due_from q base) ≡ true
base_any q page p (due keeper) some =
    ⊎_elim (λ yes. yes)
    (λ fails.
    let none : 1 ≤ count_by (wanted_test q (base_copy page)) [] =
    later (wanted_test q (base_copy page)) (letter keeper (PageRequest p)) [] fails some in
    let zero_is : count_by (wanted_test q (base_copy page)) [] ≡ 0 = refl in
    absurd (omega (arith, none, zero_is)))
    (cases_Bool ((p == page) && (keeper == q)))
base_any q page p unneeded some =
    let none : count_by (wanted_test q (base_copy page)) [] ≡ 0 = refl in
    absurd (omega (arith, some, none))
base_any q page p (come values) some =
    let none : count_by (wanted_test q (base_copy page)) [] ≡ 0 = refl in
    absurd (omega (arith, some, none))

-- of all needs
module _ (q : ℕ) (w : Wish) (awaits : Need → Bool) (says : (need : Need) → 1 ≤ count_by (wanted_test q w) (requests_of need) → awaits need ≡ true) where
  any_awaits : (needs : List Need) → 1 ≤ count_by (wanted_test q w) (flat_map requests_of needs) → list_any awaits needs ≡ true
  any_awaits [] some =
      let none : count_by (wanted_test q w) [] ≡ 0 = refl in
      absurd (omega (arith, some, none))
  any_awaits (need ∷ needs) some =
      let both : count_by (wanted_test q w) (flat_map requests_of (need ∷ needs))
      ≡ count_by (wanted_test q w) (requests_of need) + count_by (wanted_test q w) (flat_map requests_of needs) =
      count-append (wanted_test q w) (requests_of need) (flat_map requests_of needs) in
      ⊎_elim
      (λ (lt : 0 < count_by (wanted_test q w) (requests_of need)). or_left (awaits need) (list_any awaits needs) (says need (omega (arith, lt))))
      (λ (none : count_by (wanted_test q w) (requests_of need) ≤ 0).
      or_right (awaits need) (list_any awaits needs) (any_awaits needs (omega (arith, both, none, some))))
      (cases_lt 0 (count_by (wanted_test q w) (requests_of need)))

-- who awaits a base copy, and who awaits changes
pub page_awaited : (keeper page : ℕ) (needs : List Need) → 1 ≤ count_by (wanted_test keeper (base_copy page)) (flat_map requests_of needs)
    → list_any (awaits_page page keeper) needs ≡ true
page_awaited keeper page needs some =
    any_awaits keeper (base_copy page) (awaits_page page keeper)
    (λ need some.
    let both : count_by (wanted_test keeper (base_copy page)) (requests_of need)
    ≡ count_by (wanted_test keeper (base_copy page)) (page_request_of need.page need.base)
    + count_by (wanted_test keeper (base_copy page)) (map (changes_request_of need.page) need.asked) =
    count-append (wanted_test keeper (base_copy page)) (page_request_of need.page need.base) (map (changes_request_of need.page) need.asked) in
    let none : count_by (wanted_test keeper (base_copy page)) (map (changes_request_of need.page) need.asked) ≡ 0 =
    no_base_asked keeper page need.page need.asked in
    base_any keeper page need.page need.base (omega (arith, both, none, some)))
    needs some

pub changes_awaited : (maker page : ℕ) (indices : List ℕ) (needs : List Need)
    → 1 ≤ count_by (wanted_test maker (changes page indices)) (flat_map requests_of needs) → list_any (awaits_changes page maker indices) needs ≡ true
changes_awaited maker page indices needs some =
    any_awaits maker (changes page indices) (awaits_changes page maker indices)
    (λ need some.
    let both : count_by (wanted_test maker (changes page indices)) (requests_of need)
    ≡ count_by (wanted_test maker (changes page indices)) (page_request_of need.page need.base)
    + count_by (wanted_test maker (changes page indices)) (map (changes_request_of need.page) need.asked) =
    count-append (wanted_test maker (changes page indices)) (page_request_of need.page need.base) (map (changes_request_of need.page) need.asked) in
    let none : count_by (wanted_test maker (changes page indices)) (page_request_of need.page need.base) ≡ 0 =
    no_changes_asked maker page need.page indices need.base in
    let any : _ = asked_any maker page need.page indices need.asked (omega (arith, both, none, some)) in
    and_from (need.page == page) (list_any (asks_just maker indices) need.asked) any.0 any.1)
    needs some

-- ---- a base copy is awaited at a miss

due_from : (keeper : ℕ) (base : Base) → is_due_from keeper base ≡ true → base ≡ due keeper
due_from keeper (due asked) e = ap due (eqb-true asked keeper e)
due_from keeper unneeded e = cc
due_from keeper (come values) e = cc

awaits_base : (node : Node) (wait : Wait) (page keeper : ℕ) → node.mail.wait ≡ wait → NoBase wait
    → list_any (awaits_page page keeper) (needs_of wait) ≡ true → AwaitsBase node page keeper
awaits_base node nothing page keeper at none e = absurd (false≢true e)
awaits_base node (grant lock) page keeper at none e = absurd (false≢true e)
awaits_base node departure page keeper at none e = absurd (false≢true e)
awaits_base node (discard collection) page keeper at none e = absurd (false≢true e)
awaits_base node (upkeep collection needs) page keeper at none e =
    absurd
    (any_fits (λ (need : Need). need.base ≡ unneeded) (awaits_page page keeper) ⊥
    (λ need is awaits. false≢true (sym (ap (is_due_from keeper) is) ∙ (and_parts (need.page == page) (is_due_from keeper need.base) awaits).1)) needs none e)
awaits_base node (access need) page keeper at none e =
    ⊎_elim
    (λ here.
    let parts : _ = and_parts (need.page == page) (is_due_from keeper need.base) here in
    record { need = need; waits = at; page_is = eqb-true need.page page parts.0; base_is = due_from keeper need.base parts.1 })
    (λ never. absurd (false≢true never))
    (or_cases (awaits_page page keeper need) false e)

-- ---- every run

module _ (program : Program) (nodes : ℕ) (options : OptionsRecord) (world : World) (r : IsReached program nodes options world) where
  balanced : (n : ℕ) (l : Logged) → slice_get world.nodes n ≡ Some l → AreBalanced (pending world) n l.node.mail.wait
  balanced n l at = (all_balanced program nodes options r.events world r.runs).each n l at

  -- what is pending is awaited, kind by kind
  pub page_request-awaited : (e : EnvelopeRecord) (page : ℕ) (l : Logged) → Contains (pending world) e → e.message ≡ PageRequest page
      → slice_get world.nodes e.from ≡ Some l → list_any (awaits_page page e.to) (needs_of l.node.mail.wait) ≡ true
  page_request-awaited e page l there is at =
      page_awaited e.to page (needs_of l.node.mail.wait)
      (requested (pending world) l.node.mail.wait e (base_copy page) (balanced e.from l at) there (ap wish_in is))

  pub page_reply-awaited : (e : EnvelopeRecord) (m : PageReplyRecord) (l : Logged) → Contains (pending world) e → e.message ≡ PageReply m
      → slice_get world.nodes e.to ≡ Some l → list_any (awaits_page m.page e.from) (needs_of l.node.mail.wait) ≡ true
  page_reply-awaited e m l there is at =
      page_awaited e.from m.page (needs_of l.node.mail.wait)
      (replied (pending world) l.node.mail.wait e (base_copy m.page) (balanced e.to l at) there (ap told_in is))

  pub changes_request-awaited : (e : EnvelopeRecord) (m : ChangesRequestRecord) (l : Logged) → Contains (pending world) e → e.message ≡ ChangesRequest m
      → slice_get world.nodes e.from ≡ Some l → list_any (awaits_changes m.page e.to m.indices) (needs_of l.node.mail.wait) ≡ true
  changes_request-awaited e m l there is at =
      changes_awaited e.to m.page m.indices (needs_of l.node.mail.wait)
      (requested (pending world) l.node.mail.wait e (changes m.page m.indices) (balanced e.from l at) there (ap wish_in is))

  pub changes_reply-awaited : (e : EnvelopeRecord) (m : ChangesReplyRecord) (l : Logged) → Contains (pending world) e → e.message ≡ ChangesReply m
      → slice_get world.nodes e.to ≡ Some l
      → list_any (awaits_changes m.page e.from (map (λ (part : IndexedChangesRecord). part.index) m.parts)) (needs_of l.node.mail.wait) ≡ true
  changes_reply-awaited e m l there is at =
      changes_awaited e.from m.page (map (λ (part : IndexedChangesRecord). part.index) m.parts) (needs_of l.node.mail.wait)
      (replied (pending world) l.node.mail.wait e (changes m.page (map (λ (part : IndexedChangesRecord). part.index) m.parts)) (balanced e.to l at) there
      (ap told_in is))

  none_at : (n : ℕ) (l : Logged) → slice_get world.nodes n ≡ Some l → NoBase l.node.mail.wait
  none_at n l at = no_base_at l.node (reached program nodes options r.events world r.runs n l at)

  pub are_awaited : AreAwaited world
  are_awaited = record {
    request = λ e page l there is at.
        awaits_base l.node l.node.mail.wait page e.to refl (none_at e.from l at) (page_request-awaited e page l there is at);
    reply = λ e m l there is at.
        awaits_base l.node l.node.mail.wait m.page e.from refl (none_at e.to l at) (page_reply-awaited e m l there is at);
  }

pub requests_law : (program : Program) (nodes : ℕ) (options : OptionsRecord) → RequestsLaw program nodes options
requests_law program nodes options world r = are_awaited program nodes options world r
