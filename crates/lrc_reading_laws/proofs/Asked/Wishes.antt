-- What nodes ask one another for, page by page, and how a turn keeps the balance: what a node still awaits is on its way,
-- once, as a request or as its reply.
use Rattle.std.proofs.Common.{◌≡◌, ℕ, ◌+◌, List, [], ◌∷◌, ◌++◌, Bool, true, false, ◌&&◌, cond, map, refl, sym, ap, ◌∙◌, arith}
use Rattle.std.specs.Prelude.{Option, Some, None, ◌==◌, count_by, flat_map}
use Rattle.std.proofs.lemmas.Bool.{eq-eqb, ne_eqb}
use Rattle.lrc_envelope.specs.declared.message.Message.{Message}
use Rattle.lrc_protocol.specs.Pages.{Base, unneeded, due, come, Asked, Need}
use Rattle.lrc_protocol.specs.Node.{Letter, Wait, needs_of}
use Rattle.lrc_protocol.specs.Turn.{letter, changes_request_of, page_request_of, requests_of}
use Rattle.lrc_reading_laws.specs.Requested.{Wish, wish_in, told_in, is_wish}
use Rattle.lrc_order_laws.proofs.Sends.{Came, by_itself, comes}
use Rattle.lrc_order_laws.proofs.Flows.{came_count, count-cons}

-- ---- tests

-- a request for this to node q; the same of node n; and a reply to n with it, of node q
abbrev pub wanted_test : ℕ → Wish → Letter → Bool
wanted_test q w l = is_wish w (wish_in l.message) && (l.to == q)

abbrev pub request_test : ℕ → ℕ → Wish → ℕ → Letter → Bool
request_test n q w from l = (is_wish w (wish_in l.message) && (l.to == q)) && (from == n)

abbrev pub reply_test : ℕ → ℕ → Wish → ℕ → Letter → Bool
reply_test n q w from l = (is_wish w (told_in l.message) && (from == q)) && (l.to == n)

-- the requests for what a node awaits
abbrev pub awaited : Wait → List Letter
awaited wait = flat_map requests_of (needs_of wait)

-- ---- the balance of a turn

-- what comes, what is sent, and what is awaited before and after, keep the balance of the node itself and of each other
pub record Steady (me : ℕ) (came : Came) (letters before after : List Letter) : Type 0 where
  pub own : (q : ℕ) (w : Wish)
      → count_by (wanted_test q w) after + came_count (request_test me q w) me came + came_count (reply_test me q w) me came
      ≡ count_by (wanted_test q w) before + count_by (request_test me q w me) letters + count_by (reply_test me q w me) letters
  pub other : (n q : ℕ) (w : Wish) → (me ≡ n → ⊥)
      → came_count (request_test n q w) me came + came_count (reply_test n q w) me came
      ≡ count_by (request_test n q w me) letters + count_by (reply_test n q w me) letters

-- a message that asks for nothing and brings nothing
abbrev pub IsCalm : Message → Type 0
IsCalm message = (wish_in message ≡ None) × (told_in message ≡ None)

abbrev pub AreCalm : List Letter → Type 0
AreCalm [] = Unit {0}
AreCalm (l ∷ letters) = IsCalm l.message × AreCalm letters

abbrev pub ComesCalm : Came → Type 0
ComesCalm by_itself = Unit {0}
ComesCalm (comes from message) = IsCalm message

unwished : (w : Wish) (o : Option Wish) (x y : Bool) → o ≡ None → cond {A = ℕ} ((is_wish w o && x) && y) 1 0 ≡ 0
unwished w None x y e = refl
unwished w (Some v) x y e = cc

one_more : (test : Letter → Bool) (l : Letter) (letters : List Letter) → cond {A = ℕ} (test l) 1 0 ≡ 0 → count_by test letters ≡ 0
    → count_by test (l ∷ letters) ≡ 0
one_more test l letters one rest =
    let both : count_by test (l ∷ letters) ≡ cond (test l) 1 0 + count_by test letters = count-cons test l letters in
    omega (arith, both, one, rest)

calm-requests : (n q : ℕ) (w : Wish) (me : ℕ) (letters : List Letter) → AreCalm letters → count_by (request_test n q w me) letters ≡ 0
calm-requests n q w me [] h = refl
calm-requests n q w me (l ∷ letters) h =
    one_more (request_test n q w me) l letters (unwished w (wish_in l.message) (l.to == q) (me == n) h.0.0) (calm-requests n q w me letters h.1)

calm-replies : (n q : ℕ) (w : Wish) (me : ℕ) (letters : List Letter) → AreCalm letters → count_by (reply_test n q w me) letters ≡ 0
calm-replies n q w me [] h = refl
calm-replies n q w me (l ∷ letters) h =
    one_more (reply_test n q w me) l letters (unwished w (told_in l.message) (me == q) (l.to == n) h.0.1) (calm-replies n q w me letters h.1)

comes-requests : (n q : ℕ) (w : Wish) (me : ℕ) (came : Came) → ComesCalm came → came_count (request_test n q w) me came ≡ 0
comes-requests n q w me by_itself h = refl
comes-requests n q w me (comes from message) h = unwished w (wish_in message) (me == q) (from == n) h.0

comes-replies : (n q : ℕ) (w : Wish) (me : ℕ) (came : Came) → ComesCalm came → came_count (reply_test n q w) me came ≡ 0
comes-replies n q w me by_itself h = refl
comes-replies n q w me (comes from message) h = unwished w (told_in message) (from == q) (me == n) h.1

-- nothing is asked for, brought, or no longer awaited
pub calm : (me : ℕ) (came : Came) (letters before after : List Letter) → ComesCalm came → AreCalm letters → after ≡ before
    → Steady me came letters before after
calm me came letters before after c l e = record {
  own = λ q w.
      let a : came_count (request_test me q w) me came ≡ 0 = comes-requests me q w me came c in
      let b : came_count (reply_test me q w) me came ≡ 0 = comes-replies me q w me came c in
      let x : count_by (request_test me q w me) letters ≡ 0 = calm-requests me q w me letters l in
      let y : count_by (reply_test me q w me) letters ≡ 0 = calm-replies me q w me letters l in
      let s : count_by (wanted_test q w) after ≡ count_by (wanted_test q w) before = ap (count_by (wanted_test q w)) e in
      omega (arith, a, b, x, y, s);
  other = λ n q w ne.
      let a : came_count (request_test n q w) me came ≡ 0 = comes-requests n q w me came c in
      let b : came_count (reply_test n q w) me came ≡ 0 = comes-replies n q w me came c in
      let x : count_by (request_test n q w me) letters ≡ 0 = calm-requests n q w me letters l in
      let y : count_by (reply_test n q w me) letters ≡ 0 = calm-replies n q w me letters l in
      omega (arith, a, b, x, y);
}

-- ---- requests are sent

-- none of them brings anything
abbrev pub AreRequests : List Letter → Type 0
AreRequests [] = Unit {0}
AreRequests (l ∷ letters) = (told_in l.message ≡ None) × AreRequests letters

requests-append : (xs ys : List Letter) → AreRequests xs → AreRequests ys → AreRequests (xs ++ ys)
requests-append [] ys h k = k
requests-append (x ∷ xs) ys h k = (h.0, requests-append xs ys h.1 k)

page_request-asks : (page : ℕ) (base : Base) → AreRequests (page_request_of page base)
page_request-asks page unneeded = tt
page_request-asks page (due keeper) = (refl, tt)
page_request-asks page (come values) = tt

changes_requests-ask : (page : ℕ) (asked : List Asked) → AreRequests (map (changes_request_of page) asked)
changes_requests-ask page [] = tt
changes_requests-ask page (a ∷ asked) = (refl, changes_requests-ask page asked)

pub all_requests-ask : (needs : List Need) → AreRequests (flat_map requests_of needs)
all_requests-ask [] = tt
all_requests-ask (need ∷ needs) =
    requests-append (requests_of need) (flat_map requests_of needs)
    (requests-append (page_request_of need.page need.base) (map (changes_request_of need.page) need.asked)
    (page_request-asks need.page need.base) (changes_requests-ask need.page need.asked))
    (all_requests-ask needs)

requests-bring : (n q : ℕ) (w : Wish) (me : ℕ) (letters : List Letter) → AreRequests letters → count_by (reply_test n q w me) letters ≡ 0
requests-bring n q w me [] h = refl
requests-bring n q w me (l ∷ letters) h =
    one_more (reply_test n q w me) l letters (unwished w (told_in l.message) (me == q) (l.to == n) h.0) (requests-bring n q w me letters h.1)

with_true : (a b : Bool) → b ≡ true → cond {A = ℕ} (a && b) 1 0 ≡ cond a 1 0
with_true true b e = ap (λ b. cond {A = ℕ} b 1 0) e
with_true false b e = refl

with_false : (a b : Bool) → b ≡ false → cond {A = ℕ} (a && b) 1 0 ≡ 0
with_false true b e = ap (λ b. cond {A = ℕ} b 1 0) e
with_false false b e = refl

-- of the node itself, and of another
own-requests : (q : ℕ) (w : Wish) (me : ℕ) (letters : List Letter) → count_by (request_test me q w me) letters ≡ count_by (wanted_test q w) letters
own-requests q w me [] = refl
own-requests q w me (l ∷ letters) =
    let here : cond {A = ℕ} (request_test me q w me l) 1 0 ≡ cond (wanted_test q w l) 1 0 = with_true (wanted_test q w l) (me == me) (eq-eqb me me refl) in
    let rest : count_by (request_test me q w me) letters ≡ count_by (wanted_test q w) letters = own-requests q w me letters in
    let x : count_by (request_test me q w me) (l ∷ letters) ≡ cond (request_test me q w me l) 1 0 + count_by (request_test me q w me) letters =
    count-cons (request_test me q w me) l letters in
    let y : count_by (wanted_test q w) (l ∷ letters) ≡ cond (wanted_test q w l) 1 0 + count_by (wanted_test q w) letters =
    count-cons (wanted_test q w) l letters in
    omega (arith, here, rest, x, y)

other-requests : (n q : ℕ) (w : Wish) (me : ℕ) (letters : List Letter) → (me ≡ n → ⊥) → count_by (request_test n q w me) letters ≡ 0
other-requests n q w me [] ne = refl
other-requests n q w me (l ∷ letters) ne =
    one_more (request_test n q w me) l letters (with_false (wanted_test q w l) (me == n) (ne_eqb me n ne)) (other-requests n q w me letters ne)

-- a node that awaited nothing awaits what it asks for
pub begins : (me : ℕ) (came : Came) (letters before : List Letter) → ComesCalm came → AreRequests letters → before ≡ []
    → Steady me came letters before letters
begins me came letters before c r e = record {
  own = λ q w.
      let a : came_count (request_test me q w) me came ≡ 0 = comes-requests me q w me came c in
      let b : came_count (reply_test me q w) me came ≡ 0 = comes-replies me q w me came c in
      let x : count_by (request_test me q w me) letters ≡ count_by (wanted_test q w) letters = own-requests q w me letters in
      let y : count_by (reply_test me q w me) letters ≡ 0 = requests-bring me q w me letters r in
      let s : count_by (wanted_test q w) before ≡ 0 = ap (count_by (wanted_test q w)) e in
      omega (arith, a, b, x, y, s);
  other = λ n q w ne.
      let a : came_count (request_test n q w) me came ≡ 0 = comes-requests n q w me came c in
      let b : came_count (reply_test n q w) me came ≡ 0 = comes-replies n q w me came c in
      let x : count_by (request_test n q w me) letters ≡ 0 = other-requests n q w me letters ne in
      let y : count_by (reply_test n q w me) letters ≡ 0 = requests-bring n q w me letters r in
      omega (arith, a, b, x, y);
}

-- ---- a request is answered

one_counted : (test : Letter → Bool) (l : Letter) → count_by test (l ∷ []) ≡ cond (test l) 1 0
one_counted test l =
    let all : count_by test (l ∷ []) ≡ cond (test l) 1 0 + count_by test [] = count-cons test l [] in
    let none : count_by test [] ≡ 0 = refl in
    omega (arith, all, none)

-- the reply takes the place of its request
pub answers : (me from : ℕ) (request reply : Message) (before : List Letter) → told_in request ≡ None → wish_in reply ≡ None
    → told_in reply ≡ wish_in request → Steady me (comes from request) (letter from reply ∷ []) before before
answers me from request reply before r p e = record {
  own = λ q w.
      let b : came_count (reply_test me q w) me (comes from request) ≡ 0 = unwished w (told_in request) (from == q) (me == me) r in
      let s : came_count (request_test me q w) me (comes from request) ≡ count_by (reply_test me q w me) (letter from reply ∷ []) = same me q w in
      let x : count_by (request_test me q w me) (letter from reply ∷ []) ≡ 0 = none me q w in
      omega (arith, b, s, x);
  other = λ n q w ne.
      let b : came_count (reply_test n q w) me (comes from request) ≡ 0 = unwished w (told_in request) (from == q) (me == n) r in
      let s : came_count (request_test n q w) me (comes from request) ≡ count_by (reply_test n q w me) (letter from reply ∷ []) = same n q w in
      let x : count_by (request_test n q w me) (letter from reply ∷ []) ≡ 0 = none n q w in
      omega (arith, b, s, x);
}
  where
    same : (n q : ℕ) (w : Wish) → came_count (request_test n q w) me (comes from request) ≡ count_by (reply_test n q w me) (letter from reply ∷ [])
    same n q w =
        ap (λ o. cond {A = ℕ} ((is_wish w o && (me == q)) && (from == n)) 1 0) (sym e)
        ∙ sym (one_counted (reply_test n q w me) (letter from reply))

    none : (n q : ℕ) (w : Wish) → count_by (request_test n q w me) (letter from reply ∷ []) ≡ 0
    none n q w = one_counted (request_test n q w me) (letter from reply) ∙ unwished w (wish_in reply) (from == q) (me == n) p

-- ---- a reply comes

-- what it brings is no longer awaited
pub gets : (me from : ℕ) (reply : Message) (wish : Wish) (asked : Letter) (letters before after : List Letter) → wish_in reply ≡ None
    → told_in reply ≡ Some wish → wish_in asked.message ≡ Some wish → asked.to ≡ from → AreCalm letters
    → ((test : Letter → Bool) → count_by test before ≡ cond (test asked) 1 0 + count_by test after)
    → Steady me (comes from reply) letters before after
gets me from reply wish asked letters before after r t a to l less = record {
  own = λ q w.
      let b : came_count (request_test me q w) me (comes from reply) ≡ 0 = unwished w (wish_in reply) (me == q) (from == me) r in
      let s : came_count (reply_test me q w) me (comes from reply) ≡ cond (wanted_test q w asked) 1 0 =
      with_true (is_wish w (told_in reply) && (from == q)) (me == me) (eq-eqb me me refl)
      ∙ ap (λ o. cond {A = ℕ} (is_wish w o && (from == q)) 1 0) (t ∙ sym a)
      ∙ ap (λ k. cond {A = ℕ} (is_wish w (wish_in asked.message) && (k == q)) 1 0) (sym to) in
      let x : count_by (request_test me q w me) letters ≡ 0 = calm-requests me q w me letters l in
      let y : count_by (reply_test me q w me) letters ≡ 0 = calm-replies me q w me letters l in
      let z : count_by (wanted_test q w) before ≡ cond (wanted_test q w asked) 1 0 + count_by (wanted_test q w) after = less (wanted_test q w) in
      omega (arith, b, s, x, y, z);
  other = λ n q w ne.
      let b : came_count (request_test n q w) me (comes from reply) ≡ 0 = unwished w (wish_in reply) (me == q) (from == n) r in
      let s : came_count (reply_test n q w) me (comes from reply) ≡ 0 =
      with_false (is_wish w (told_in reply) && (from == q)) (me == n) (ne_eqb me n ne) in
      let x : count_by (request_test n q w me) letters ≡ 0 = calm-requests n q w me letters l in
      let y : count_by (reply_test n q w me) letters ≡ 0 = calm-replies n q w me letters l in
      omega (arith, b, s, x, y);
}
