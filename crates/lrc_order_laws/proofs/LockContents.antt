-- What the pending messages of locks contain, as far as no interval is concerned.
use Rattle.std.proofs.Common.{◌≡◌, ℕ, zero, suc, ◌+◌, ◌<◌, List, [], ◌∷◌, ◌++◌, Bool, true, false, cond, length, map, refl, sym, ap, subst, ◌∙◌, arith}
use Rattle.std.specs.Prelude.{Option, Some, None, ◌==◌, count_by, slice_get, if◌then◌else◌}
use Rattle.std.specs.List.{range_with_len}
use Rattle.std.proofs.lemmas.List.{length-set}
use Rattle.std.proofs.lemmas.Option.{same_Some}
use Rattle.lrc_time.specs.Time.{entry}
use Rattle.lrc_envelope.specs.Envelope.{EnvelopeRecord}
use Rattle.lrc_envelope.specs.declared.message.Message.{Message}
use Rattle.lrc_envelope.specs.declared.message.Message.TheVariants.{LockRequest, LockForward, LockGrant}
use Rattle.lrc_envelope.specs.declared.message.Message.TheVariants.{ChangesRequest, ChangesReply, PageRequest, PageReply}
use Rattle.lrc_barrier.specs.declared.departure.Departure.{Departure}
use Rattle.lrc_lock.specs.declared.fault.LockFault.TheVariants.{NotMine}
use Rattle.lrc_lock.specs.declared.state.Pass.{Pass}
use Rattle.lrc_lock.specs.declared.state.Waiter.{Waiter}
use Rattle.lrc_lock.specs.declared.state.LockState.{LockState}
use Rattle.lrc_lock.specs.declared.state.LockState.TheVariants.{Away, Awaited, Free, Held}
use Rattle.lrc_lock.specs.Held.{refuses, lock_at, released, released_at, forwarded, forwarded_at, pass_of, pass_to}
use Rattle.lrc_exec.specs.Meaning.{Thread, releases}
use Rattle.lrc_lock.specs.Lock.{manager_of}
use Rattle.lrc_protocol.specs.Times.{next_time}
use Rattle.lrc_protocol.specs.Locks.{Locks}
use Rattle.lrc_protocol.specs.Barriers.{Barrier}
use Rattle.lrc_protocol.specs.Node.{Letter, Wait}
use Rattle.lrc_protocol.specs.Turn.{departure_of, discards_to}
use Rattle.lrc_order_laws.specs.Waiting.{acquiring}
use Rattle.lrc_protocol.specs.Node.{next_in}
use Rattle.lrc_order_laws.proofs.Shift.{AllFrom}
use Rattle.lrc_order_laws.proofs.Pending.{Goes}
use Rattle.lrc_order_laws.proofs.Sends.{is_other, AreOthers, Grants, Came, by_itself, comes, letter_in, Site, Sends, plain, misses, takes, asks}
use Rattle.lrc_order_laws.proofs.Sends.{releasing, arriving, manages, forwarding, grants, gathers, lets_depart, departing, collecting}
use Rattle.lrc_order_laws.proofs.Sends.{clean_at_once, notes_clean, lets_discard, discarding, serves, accessing, still_misses, still_collects}
use Rattle.lrc_order_laws.proofs.Sends.{cleaning}
use Rattle.lrc_order_laws.proofs.Flows.{AllOf, count-append, count-cons}
use Rattle.lrc_order_laws.proofs.LockPasses.{recent_in}

-- a request goes to the lock's manager; a forward comes from it, for another node than its receiver
abbrev pub IsSound : ℕ → ℕ → ℕ → ℕ → Message → Type 0
IsSound nodes locks from to (LockRequest m) = (m.lock < locks) × (length m.time ≡ nodes) × (manager_of nodes m.lock ≡ to)
IsSound nodes locks from to (LockForward m) =
    (m.lock < locks) × (m.asker < nodes) × (length m.time ≡ nodes) × (manager_of nodes m.lock ≡ from) × (m.asker ≡ to → ⊥)
IsSound nodes locks from to (LockGrant m) = m.lock < locks
IsSound nodes locks from to _ = Unit {0}

abbrev pub SoundMessage : ℕ → ℕ → EnvelopeRecord → Type 0
SoundMessage nodes locks e = IsSound nodes locks e.from e.to e.message

abbrev pub SoundLetters : ℕ → ℕ → ℕ → List Letter → Type 0
SoundLetters nodes locks me [] = Unit {0}
SoundLetters nodes locks me (x ∷ letters) = IsSound nodes locks me x.to x.message × SoundLetters nodes locks me letters

-- ---- lists

all-append : (P : EnvelopeRecord → Type 0) (xs ys : List EnvelopeRecord) → AllOf P xs → AllOf P ys → AllOf P (xs ++ ys)
all-append P [] ys h k = k
all-append P (x ∷ xs) ys h k = (h.0, all-append P xs ys h.1 k)

all-without : (P : EnvelopeRecord → Type 0) (xs ys : List EnvelopeRecord) (e : EnvelopeRecord) → AllOf P (xs ++ e ∷ ys) → AllOf P (xs ++ ys)
all-without P [] ys e h = h.1
all-without P (x ∷ xs) ys e h = (h.0, all-without P xs ys e h.1)

pub all-goes : (P : EnvelopeRecord → Type 0) (o : Option EnvelopeRecord) (was out now : List EnvelopeRecord) → Goes o was out now → AllOf P was
    → AllOf P out → AllOf P now
all-goes P None was out now g h k = subst (AllOf P) (sym g) (all-append P was out h k)
all-goes P (Some e) was out now g h k =
    subst (AllOf P) (sym g.after) (all-append P (g.front ++ g.back) out (all-without P g.front g.back e (subst (AllOf P) g.before h)) k)

pub all-at : (P : EnvelopeRecord → Type 0) (es : List EnvelopeRecord) (place : ℕ) (e : EnvelopeRecord) → AllOf P es → slice_get es place ≡ Some e → P e
all-at P [] place e h at = cc
all-at P (x ∷ es) zero e h at = subst P (same_Some x e at) h.0
all-at P (x ∷ es) (suc place) e h at = all-at P es place e h.1 at

-- what stands there is counted
pub counted-at : (p : EnvelopeRecord → Bool) (es : List EnvelopeRecord) (place : ℕ) (e : EnvelopeRecord) → slice_get es place ≡ Some e → p e ≡ true
    → 0 < count_by p es
counted-at p [] place e at is = cc
counted-at p (x ∷ es) zero e at is =
    let first : count_by p (x ∷ es) ≡ cond (p x) 1 0 + count_by p es = count-cons p x es in
    let one : cond {A = ℕ} (p x) 1 0 ≡ 1 = ap (λ b. cond b 1 0) (ap p (same_Some x e at) ∙ is) in
    omega (arith, first, one)
counted-at p (x ∷ es) (suc place) e at is =
    let first : count_by p (x ∷ es) ≡ cond (p x) 1 0 + count_by p es = count-cons p x es in
    let rest : 0 < count_by p es = counted-at p es place e at is in
    omega (arith, first, rest)

pub counted-in : (p : EnvelopeRecord → Bool) (front back : List EnvelopeRecord) (e : EnvelopeRecord) → p e ≡ true → 0 < count_by p (front ++ e ∷ back)
counted-in p front back e is =
    let all : count_by p (front ++ e ∷ back) ≡ count_by p front + count_by p (e ∷ back) = count-append p front (e ∷ back) in
    let here : count_by p (e ∷ back) ≡ cond (p e) 1 0 + count_by p back = count-cons p e back in
    let one : cond {A = ℕ} (p e) 1 0 ≡ 1 = ap (λ b. cond b 1 0) is in
    omega (arith, all, here, one)

sound_in : (nodes locks me : ℕ) (out : List EnvelopeRecord) → AllFrom me out → SoundLetters nodes locks me (map letter_in out) → AllOf
    (SoundMessage nodes locks) out
sound_in nodes locks me [] f h = tt
sound_in nodes locks me (e ∷ out) f h =
    (subst (λ from. IsSound nodes locks from e.to e.message) (sym f.0) h.0, sound_in nodes locks me out f.1 h.1)

pub sound-sent : (nodes locks me : ℕ) (out : List EnvelopeRecord) (letters : List Letter) → AllFrom me out → map letter_in out ≡ letters
    → SoundLetters nodes locks me letters → AllOf (SoundMessage nodes locks) out
sound-sent nodes locks me out letters f e h = sound_in nodes locks me out f (subst (SoundLetters nodes locks me) (sym e) h)

-- ---- what is sent

other_sound : (nodes locks from to : ℕ) (m : Message) → is_other m ≡ true → IsSound nodes locks from to m
other_sound nodes locks from to (ChangesRequest m) e = tt
other_sound nodes locks from to (ChangesReply m) e = tt
other_sound nodes locks from to (PageRequest page) e = tt
other_sound nodes locks from to (PageReply m) e = tt
other_sound nodes locks from to _ e = cc

others_sound : (nodes locks me : ℕ) (letters : List Letter) → AreOthers letters → SoundLetters nodes locks me letters
others_sound nodes locks me [] h = tt
others_sound nodes locks me (x ∷ letters) h = (other_sound nodes locks me x.to x.message h.0, others_sound nodes locks me letters h.1)

departures_sound : (nodes locks me : ℕ) (departures : List Departure) → SoundLetters nodes locks me (map departure_of departures)
departures_sound nodes locks me [] = tt
departures_sound nodes locks me (d ∷ departures) = (tt, departures_sound nodes locks me departures)

discards_sound : (nodes locks me : ℕ) (all : List ℕ) (episode : ℕ) → SoundLetters nodes locks me (discards_to all episode)
discards_sound nodes locks me [] episode = tt
discards_sound nodes locks me (n ∷ all) episode = (tt, discards_sound nodes locks me all episode)

grants_sound : (nodes locks me : ℕ) (pass : Option Pass) (letters : List Letter) → ((p : Pass) → pass ≡ Some p → p.lock < locks) → Grants pass letters
    → SoundLetters nodes locks me letters
grants_sound nodes locks me None letters lt g = subst (SoundLetters nodes locks me) (sym g) tt
grants_sound nodes locks me (Some p) letters lt g = subst (SoundLetters nodes locks me) (sym g.1) (lt p refl, tt)

released_lock : (lock : ℕ) (now : List ℕ) (x : LockState) (p : Pass) → pass_of (released_at lock now x) ≡ Some p → p.lock ≡ lock
released_lock lock now Away p e = cc
released_lock lock now (Awaited next) p e = cc
released_lock lock now (Free kept) p e = cc
released_lock lock now (Held None) p e = cc
released_lock lock now (Held (Some w)) p e = ap (λ (p : Pass). p.lock) (sym (same_Some (pass_to lock w now) p e))

forwarded_lock : (lock : ℕ) (w : Waiter) (x : LockState) (b : Bool) (p : Pass) → pass_of (if b then refuses NotMine else forwarded_at lock w x) ≡ Some p
    → p.lock ≡ lock
forwarded_lock lock w x true p e = cc
forwarded_lock lock w Away false p e = cc
forwarded_lock lock w (Awaited None) false p e = cc
forwarded_lock lock w (Awaited (Some first)) false p e = cc
forwarded_lock lock w (Free kept) false p e = ap (λ (p : Pass). p.lock) (sym (same_Some (pass_to lock w kept) p e))
forwarded_lock lock w (Held None) false p e = cc
forwarded_lock lock w (Held (Some first)) false p e = cc

abbrev pub FromNode : ℕ → Came → Type 0
FromNode nodes by_itself = Unit {0}
FromNode nodes (comes from message) = from < nodes

-- who asks is not who asked last
abbrev pub AsksAnew : Site → Came → Type 0
AsksAnew s (comes from (LockRequest m)) = m.lock < s.tokens → manager_of s.nodes m.lock ≡ s.me → from ≡ recent_in s.locks m.lock → ⊥
AsksAnew s _ = Unit {0}

pub sends_sound : (s : Site) (below : (lock : ℕ) → acquiring (next_in s.course) ≡ Some lock → lock < s.tokens)
    (held_below : (lock : ℕ) (after : Thread) → next_in s.course ≡ Some (releases lock after) → lock < s.tokens) (counted : length s.locks.time ≡ s.nodes)
    (came : Came) (acts : Bool) (wait : Wait) (locks : Locks) (barrier : Barrier) (letters : List Letter) → FromNode s.nodes came → AsksAnew s came
    → Sends s came acts wait locks barrier letters → SoundLetters s.nodes s.tokens s.me letters
sends_sound s below held_below counted _ _ _ _ _ letters f k (plain next w n is o) = others_sound s.nodes s.tokens s.me letters o
sends_sound s below held_below counted _ _ _ _ _ letters f k (misses w n o) = others_sound s.nodes s.tokens s.me letters o
sends_sound s below held_below counted _ _ _ _ _ _ f k (takes lock w n free) = tt
sends_sound s below held_below counted _ _ _ _ _ _ f k (asks lock w n away) =
    ((below lock n, length-set s.locks.time s.me (entry s.locks.time s.me + 1) ∙ counted, refl), tt)
sends_sound s below held_below counted _ _ _ _ _ letters f k (releasing lock t w n g) =
    grants_sound s.nodes s.tokens s.me (pass_of (released s.locks.held lock (next_time s.me s.locks.time))) letters
    (λ p e. subst (λ k. k < s.tokens) (sym (released_lock lock (next_time s.me s.locks.time) (lock_at s.locks.held lock) p e)) (held_below lock t n)) g
sends_sound s below held_below counted _ _ _ _ _ _ f k (arriving t ask intervals w n) = (tt, tt)
sends_sound s below held_below counted _ _ _ _ _ _ f k (manages from m lt long mine) = ((lt, f, long, mine, k lt mine), tt)
sends_sound s below held_below counted _ _ _ _ _ letters f k (forwarding from m lt asker long mine t g) =
    grants_sound s.nodes s.tokens s.me (pass_of (forwarded s.locks.held m.lock m.asker m.time)) letters
    (λ p e. subst (λ k. k < s.tokens)
    (sym (forwarded_lock m.lock (record { node = m.asker; time = m.time }) (lock_at s.locks.held m.lock) (m.asker == s.locks.held.me) p e)) lt) g
sends_sound s below held_below counted _ _ _ _ _ _ f k (grants from m lt w l) = tt
sends_sound s below held_below counted _ _ _ _ _ _ f k (gathers from a before manager at long is) = tt
sends_sound s below held_below counted _ _ _ _ _ _ f k
    (lets_depart from a before manager departures at long is) = departures_sound s.nodes s.tokens s.me departures
sends_sound s below held_below counted _ _ _ _ _ _ f k (departing from d l c) = tt
sends_sound s below held_below counted _ _ _ _ _ letters f k (collecting from d l c t o) = others_sound s.nodes s.tokens s.me letters o
sends_sound s below held_below counted _ _ _ _ _ _ f k (clean_at_once from d l c t) = (tt, tt)
sends_sound s below held_below counted _ _ _ _ _ _ f k (notes_clean from episode before manager at is) = tt
sends_sound s below held_below counted _ _ _ _ _ _ f k (lets_discard from episode over before manager at is) =
    discards_sound s.nodes s.tokens s.me (range_with_len 0 s.nodes) over
sends_sound s below held_below counted _ _ _ _ _ _ f k (discarding from episode collection w z e) = tt
sends_sound s below held_below counted _ _ _ _ _ letters f k (serves from message o h) = others_sound s.nodes s.tokens s.me letters h
sends_sound s below held_below counted _ _ _ _ _ _ f k (accessing from message need o w) = tt
sends_sound s below held_below counted _ _ _ _ _ _ f k (still_misses from message before o w) = tt
sends_sound s below held_below counted _ _ _ _ _ _ f k (still_collects from message before had o w t) = tt
sends_sound s below held_below counted _ _ _ _ _ _ f k (cleaning from message before had o w t) = (tt, tt)
