-- What a message says of one lock, and how many of the pending ones say it.
use Rattle.std.proofs.Common.{◌≡◌, ℕ, ◌+◌, List, [], ◌∷◌, Bool, true, false, cond, map, refl, sym, ap, ◌∙◌, add-zero, zero-add}
use Rattle.std.specs.Prelude.{◌==◌, count_by, if◌then◌else◌}
use Rattle.std.proofs.lemmas.Bool.{eq-eqb, ne_eqb}
use Rattle.lrc_envelope.specs.declared.message.Message.{Message}
use Rattle.lrc_envelope.specs.declared.message.Message.TheVariants.{LockRequest, LockForward, LockGrant}
use Rattle.lrc_envelope.specs.declared.message.Message.TheVariants.{ChangesRequest, ChangesReply, PageRequest, PageReply}
use Rattle.lrc_barrier.specs.declared.departure.Departure.{Departure}
use Rattle.lrc_protocol.specs.Node.{Letter}
use Rattle.lrc_protocol.specs.Turn.{departure_of, discards_to}
use Rattle.lrc_order_laws.proofs.Sends.{is_other, AreOthers, Came, by_itself, comes}
use Rattle.lrc_order_laws.proofs.Flows.{came_count, count-cons}

-- what a message says of one lock: nothing; that its sender asks for it; that this node asks for it; or that it is granted
pub data Saying : Type 0 where
  no : Saying
  request : Saying
  forward : (asker : ℕ) → Saying
  grant : Saying

abbrev pub saying : ℕ → Message → Saying
saying l (LockRequest m) = if m.lock == l then request else no
saying l (LockForward m) = if m.lock == l then forward m.asker else no
saying l (LockGrant m) = if m.lock == l then grant else no
saying l _ = no

-- by sender, receiver and what is said: node n asks; a request of n's is passed on; one is passed on to n; n is granted it
abbrev pub Test : Type 0
Test = ℕ → ℕ → Saying → Bool

abbrev pub asks : ℕ → Test
asks n from to request = from == n
asks n from to _ = false

abbrev pub about : ℕ → Test
about n from to (forward asker) = asker == n
about n from to _ = false

abbrev pub onto : ℕ → Test
onto n from to (forward asker) = to == n
onto n from to _ = false

abbrev pub granted_to : ℕ → Test
granted_to n from to grant = to == n
granted_to n from to _ = false

abbrev pub IsTest : Test → Type 0
IsTest t = (from to : ℕ) → t from to no ≡ false

abbrev pub on_letters : ℕ → Test → ℕ → Letter → Bool
on_letters l t from x = t from x.to (saying l x.message)

-- ---- what comes and what is sent

abbrev pub AllSilent : ℕ → List Letter → Type 0
AllSilent l [] = Unit {0}
AllSilent l (x ∷ letters) = (saying l x.message ≡ no) × AllSilent l letters

-- letters that say nothing of the lock, or one that says this
pub data Says (l : ℕ) : List Letter → ℕ → Saying → Type 0 where
  silent : {letters : List Letter} → AllSilent l letters → Says l letters 0 no
  says : (x : Letter) {k : Saying} → saying l x.message ≡ k → Says l (x ∷ []) x.to k

-- what comes says this, of a sender
abbrev pub ComesSaying : ℕ → Came → ℕ → Saying → Type 0
ComesSaying l by_itself from k = k ≡ no
ComesSaying l (comes sender message) from k = (from ≡ sender) × (saying l message ≡ k)

none_silent : (l : ℕ) (t : Test) (is : IsTest t) (me : ℕ) (letters : List Letter) → AllSilent l letters → count_by (on_letters l t me) letters ≡ 0
none_silent l t is me [] h = refl
none_silent l t is me (x ∷ letters) h =
    count-cons (on_letters l t me) x letters
    ∙ ap (λ b. cond b 1 0 + count_by (on_letters l t me) letters) (ap (t me x.to) h.0 ∙ is me x.to)
    ∙ zero-add (count_by (on_letters l t me) letters)
    ∙ none_silent l t is me letters h.1

pub count-says : (l : ℕ) (t : Test) (is : IsTest t) (me : ℕ) (letters : List Letter) (to : ℕ) (k : Saying) → Says l letters to k
    → count_by (on_letters l t me) letters ≡ cond (t me to k) 1 0
count-says l t is me letters _ _ (silent h) = none_silent l t is me letters h ∙ ap (λ b. cond b 1 0) (sym (is me 0))
count-says l t is me _ _ k (says x e) =
    count-cons (on_letters l t me) x []
    ∙ add-zero (cond (on_letters l t me x) 1 0)
    ∙ ap (λ k. cond (t me x.to k) 1 0) e

pub count-comes : (l : ℕ) (t : Test) (is : IsTest t) (me : ℕ) (came : Came) (from : ℕ) (k : Saying) → ComesSaying l came from k
    → came_count (on_letters l t) me came ≡ cond (t from me k) 1 0
count-comes l t is me by_itself from k h = sym (ap (λ k. cond (t from me k) 1 0) h ∙ ap (λ b. cond b 1 0) (is from me))
count-comes l t is me (comes sender message) from k h =
    ap (λ k. cond (t sender me k) 1 0) h.1 ∙ ap (λ s. cond (t s me k) 1 0) (sym h.0)

pub asks-test : (n : ℕ) → IsTest (asks n)
asks-test n from to = refl

pub about-test : (n : ℕ) → IsTest (about n)
about-test n from to = refl

pub onto-test : (n : ℕ) → IsTest (onto n)
onto-test n from to = refl

pub granted-test : (n : ℕ) → IsTest (granted_to n)
granted-test n from to = refl

-- ---- messages that say nothing of it

pub others-silent : (l : ℕ) (m : Message) → is_other m ≡ true → saying l m ≡ no
others-silent l (ChangesRequest m) e = refl
others-silent l (ChangesReply m) e = refl
others-silent l (PageRequest page) e = refl
others-silent l (PageReply m) e = refl
others-silent l _ e = cc

pub all_others-silent : (l : ℕ) (letters : List Letter) → AreOthers letters → AllSilent l letters
all_others-silent l [] h = tt
all_others-silent l (x ∷ letters) h = (others-silent l x.message h.0, all_others-silent l letters h.1)

pub departures-silent : (l : ℕ) (departures : List Departure) → AllSilent l (map departure_of departures)
departures-silent l [] = tt
departures-silent l (d ∷ departures) = (refl, departures-silent l departures)

pub discards-silent : (l : ℕ) (nodes : List ℕ) (episode : ℕ) → AllSilent l (discards_to nodes episode)
discards-silent l [] episode = tt
discards-silent l (n ∷ nodes) episode = (refl, discards-silent l nodes episode)

-- of this lock or of another
pub said : (k l : ℕ) (s : Saying) → k ≡ l → (if k == l then s else no) ≡ s
said k l s e = ap (λ b. if b then s else no) (eq-eqb k l e)

pub unsaid : (k l : ℕ) (s : Saying) → (k ≡ l → ⊥) → (if k == l then s else no) ≡ no
unsaid k l s ne = ap (λ b. if b then s else no) (ne_eqb k l ne)
