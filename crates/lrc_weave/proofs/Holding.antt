-- What is still to be taken, and was sent, is in flight.
use Rattle.std.proofs.Common.{◌≡◌, ℕ, zero, suc, ◌+◌, ◌<◌, ◌≤◌, ◌⊎◌, inl, inr, Bool, true, false, cond, List, [], ◌∷◌}
use Rattle.std.proofs.Common.{◌++◌, length, map, replicate, take, drop, refl, sym, ap, subst, ◌∙◌, arith}
use Rattle.std.specs.Prelude.{Some, ◌==◌, ◌&&◌, ◌||◌, slice_get, slice_set}
use Rattle.std.specs.List.{enumerate_from}
use Rattle.std.proofs.lemmas.Bool.{cases_eq, eq-eqb}
use Rattle.std.proofs.lemmas.List.{get_or-replicate, get_or-set_same, get_or-set_other}
use Rattle.std.proofs.lemmas.Option.{slice_get-get_or, slice_get_within, same_Some}
use Rattle.lrc_program.specs.declared.Program.{Program}
use Rattle.lrc_envelope.specs.Envelope.{EnvelopeRecord}
use Rattle.lrc_protocol.specs.declared.event.Event.{Event}
use Rattle.lrc_protocol.specs.Node.{OptionsRecord}
use Rattle.lrc_protocol.specs.Run.{taken, EntryRecord, next_stamp, Flying, marked, sent_by}
use Rattle.lrc_weave.specs.Logs.{AreLogs}
use Rattle.lrc_weave.specs.Sent.{IsSent, AreTakesSent}
use Rattle.lrc_weave.specs.Woven.{IsUpTo, IsNext, takes_same, is_taken_among, IsTakenAt, MakesNextTurn, runs, takes_last, takes_again}
use Rattle.lrc_protocol.specs.Follows.{log_of, come_of, next_entry}
use Rattle.lrc_weave.proofs.Places.{within_outer, false_true}
use Rattle.lrc_weave.proofs.Members.{IsIn, in_left, in_right, of_map, stays_in, in_drop}
use Rattle.lrc_weave.proofs.Rising.{above_came, rises}

-- this message with this stamp is in flight
pub record Has (flight : List Flying) (flying : Flying) : Type 0 where
  pub place : ℕ
  pub found : Flying
  pub there : slice_get flight place ≡ Some found
  pub envelope : found.envelope ≡ flying.envelope
  pub stamp : found.stamp ≡ flying.stamp

-- ---- what is taken later

either_true : (b c : Bool) → c ≡ true → (b || c) ≡ true
either_true true c e = refl
either_true false c e = e

takes_itself : (envelope : EnvelopeRecord) → takes_same envelope (taken envelope) ≡ true
takes_itself envelope =
    ap (λ b. b && (envelope.number == envelope.number)) (eq-eqb envelope.from envelope.from refl) ∙ eq-eqb envelope.number envelope.number refl

taken_in : (log : List EntryRecord) (envelope : EnvelopeRecord) (place : ℕ) (entry : EntryRecord) → slice_get log place ≡ Some entry
    → entry.input ≡ taken envelope → is_taken_among envelope log ≡ true
taken_in [] envelope place entry at is = cc
taken_in (e ∷ log) envelope zero entry at is =
    let same : e ≡ entry = cc in
    ap (λ (x : EntryRecord). takes_same envelope x.input || is_taken_among envelope log) same
    ∙ ap (λ i. takes_same envelope i || is_taken_among envelope log) is ∙ ap (λ b. b || is_taken_among envelope log) (takes_itself envelope)
taken_in (e ∷ log) envelope (suc place) entry at is =
    either_true (takes_same envelope e.input) (is_taken_among envelope log) (taken_in log envelope place entry at is)

-- ---- what stays in flight

mark_envelope : (b : Bool) (f : Flying) → (cond b (marked f) f).envelope ≡ f.envelope
mark_envelope true f = refl
mark_envelope false f = refl

mark_stamp : (b : Bool) (f : Flying) → (cond b (marked f) f).stamp ≡ f.stamp
mark_stamp true f = refl
mark_stamp false f = refl

has_marked : (flight : List Flying) (first place p : ℕ) (flying found : Flying) → slice_get flight p ≡ Some found
    → found.envelope ≡ flying.envelope → found.stamp ≡ flying.stamp
    → Has (map (λ (at : ℕ × Flying). cond (at.0 == place) (marked at.1) at.1) (enumerate_from first flight)) flying
has_marked [] first place p flying found at e s = cc
has_marked (f ∷ flight) first place zero flying found at e s =
    let same : f ≡ found = cc in
    record {
      place = 0;
      found = cond (first == place) (marked f) f;
      there = refl;
      envelope = mark_envelope (first == place) f ∙ ap (λ (x : Flying). x.envelope) same ∙ e;
      stamp = mark_stamp (first == place) f ∙ ap (λ (x : Flying). x.stamp) same ∙ s;
    }
has_marked (f ∷ flight) first place (suc p) flying found at e s =
    let rest = has_marked flight (first + 1) place p flying found at e s in
    record { place = suc rest.place; found = rest.found; there = rest.there; envelope = rest.envelope; stamp = rest.stamp }

has_left : (flight more : List Flying) (flying : Flying) → Has flight flying → Has (flight ++ more) flying
has_left flight more flying h =
    let i = in_left flight more h.found h.place h.there in
    record { place = i.0; found = h.found; there = i.1; envelope = h.envelope; stamp = h.stamp }

has_right : (flight more : List Flying) (flying : Flying) → IsIn flying more → Has (flight ++ more) flying
has_right flight more flying i =
    let j = in_right flight more flying i in
    record { place = j.0; found = flying; there = j.1; envelope = refl; stamp = refl }

-- a turn leaves in flight what is still to be taken
has_after : (n : ℕ) (before after : List EntryRecord) (entry : EntryRecord) (flight left : List Flying) (event : Event) (flying : Flying)
    → MakesNextTurn n before after entry flight event left → (flying.envelope.to ≡ n → is_taken_among flying.envelope after ≡ true) → Has flight flying → Has left flying
has_after n before after entry flight left event flying (runs i) again h = h
has_after n before after entry flight left event flying (takes_again {place = place} t more) again h =
    has_marked flight 0 place h.place flying h.found h.there h.envelope h.stamp
has_after n before after entry flight left event flying (takes_last {place = place} {flying = f} t no_more) again h =
    let other : h.place ≡ place → ⊥ = λ e.
    let same : h.found ≡ f = same_Some h.found f (sym h.there ∙ ap (slice_get flight) e ∙ t.there) in
    let message : flying.envelope ≡ f.envelope = sym h.envelope ∙ ap (λ (x : Flying). x.envelope) same in
    let both : false ≡ true = sym no_more ∙ ap (λ m. is_taken_among m after) (sym message) ∙ again (ap (λ (m : EnvelopeRecord). m.to) message ∙ t.receiver) in
    false_true both in
    let i = stays_in flight h.place place h.found h.there other in
    record { place = i.0; found = h.found; there = i.1; envelope = h.envelope; stamp = h.stamp }

-- ---- all that is still to be taken

module _ (logs : List (List EntryRecord)) where
  -- what a turn to come takes, and a turn that has come sent, is in flight
  abbrev pub Holds : List ℕ → List Flying → Type 0
  Holds come flight = (n k sender j : ℕ) (entry turn : EntryRecord) (flying : Flying) → come_of come n ≤ k → slice_get (log_of logs n) k ≡ Some entry
      → entry.input ≡ taken flying.envelope → flying.envelope.to ≡ n → j < come_of come sender → slice_get (log_of logs sender) j ≡ Some turn
      → IsIn flying (sent_by turn) → Has flight flying

  pub holds_start : Holds (replicate (length logs) 0) []
  holds_start n k sender j entry turn flying le at is to lt there sent =
      let none : come_of (replicate (length logs) 0) sender ≡ 0 = get_or-replicate (length logs) sender 0 0 (within_outer logs sender j turn there) in
      absurd (omega (arith, lt, none))

  -- one turn more
  pub holds_more : (come : List ℕ) (flight left : List Flying) (event : Event) (m : ℕ) (now : EntryRecord) → length come ≡ length logs
      → next_entry logs come m ≡ Some now
      → MakesNextTurn m (take (come_of come m) (log_of logs m)) (drop (come_of come m + 1) (log_of logs m)) now flight event left
      → Holds come flight → Holds (slice_set come m (come_of come m + 1)) (left ++ sent_by now)
  holds_more come flight left event m now counted next makes holds n k sender j entry turn flying le at is to lt there sent =
      let new = slice_set come m (come_of come m + 1) in
      let within : m < length come = subst (λ x. m < x) (sym counted) (within_outer logs m (come_of come m) now next) in
      let here : come_of new m ≡ come_of come m + 1 = get_or-set_same come m (come_of come m + 1) 0 within in
      let still : come_of come n ≤ k = elim (cases_eq n m) [
        | inl e ↦ (let x : come_of new n ≡ come_of come n + 1 = subst (λ i. come_of new i ≡ come_of come i + 1) (sym e) here in omega (arith, le, x))
        | inr ne ↦ (let x : come_of new n ≡ come_of come n = get_or-set_other come m n (come_of come m + 1) 0 ne in omega (arith, le, x))
      ] in
      let again : flying.envelope.to ≡ m → is_taken_among flying.envelope (drop (come_of come m + 1) (log_of logs m)) ≡ true = λ e.
      let same : n ≡ m = sym to ∙ e in
      let past : come_of come m + 1 ≤ k = (let x : come_of new m ≤ k = subst (λ i. come_of new i ≤ k) same le in omega (arith, x, here)) in
      let i = in_drop (log_of logs m) (come_of come m + 1) k entry (subst (λ i. slice_get (log_of logs i) k ≡ Some entry) same at) past in
      taken_in (drop (come_of come m + 1) (log_of logs m)) flying.envelope i.0 entry i.1 is in
      let before : j < come_of come sender → Has (left ++ sent_by now) flying = λ earlier.
      has_left left (sent_by now) flying (has_after m _ _ now flight left event flying makes again
      (holds n k sender j entry turn flying still at is to earlier there sent)) in
      elim (cases_eq sender m) [
        | inl e ↦ elim (cases_eq j (come_of come m)) [
          | inl this ↦
              (let one : slice_get (log_of logs m) (come_of come m) ≡ Some turn =
              subst (λ i. slice_get (log_of logs m) i ≡ Some turn) this (subst (λ i. slice_get (log_of logs i) j ≡ Some turn) e there) in
              let same : turn ≡ now = same_Some turn now (sym one ∙ next) in
              has_right left (sent_by now) flying (subst (λ t. IsIn flying (sent_by t)) same sent))
          | inr not_this ↦
              (let x : j < come_of new m = subst (λ i. j < come_of new i) e lt in
              before (subst (λ i. j < come_of come i) (sym e) (omega (arith, x, here, not_this))))
        ]
        | inr ne ↦
            (let x : come_of new sender ≡ come_of come sender = get_or-set_other come m sender (come_of come m + 1) 0 ne in
            before (omega (arith, lt, x)))
      ]

  module _ (program : Program) (nodes : ℕ) (options : OptionsRecord) (are : AreLogs program nodes options logs)
      (sources : AreTakesSent logs) where
    rises_at : (s j k : ℕ) (x y : EntryRecord) → slice_get (log_of logs s) j ≡ Some x → slice_get (log_of logs s) k ≡ Some y → j ≤ k → x.stamp ≤ y.stamp
    rises_at s j k x y at_j at_k le =
        rises (log_of logs s) _ (are.each s (log_of logs s) (slice_get-get_or logs s [] (within_outer logs s j x at_j))) j k x y at_j at_k le

    -- the turn that sent what the next turn takes has come
    has_come : (come : List ℕ) (n : ℕ) (entry : EntryRecord) (before : List EntryRecord) (flying : Flying) → IsNext logs come n entry
        → (s : IsSent logs n before entry flying) → s.place < come_of come s.sender
    has_come come n entry before flying next s =
        elim (nat_cases s.place (come_of come s.sender)) [
          | inl lt ↦ lt
          | inr le ↦
              (let head = there_is (log_of logs s.sender) (come_of come s.sender)
              (omega (arith, le, slice_get_within (log_of logs s.sender) s.place s.turn s.there)) in
              let up : head.0.stamp ≤ s.turn.stamp = rises_at s.sender (come_of come s.sender) s.place head.0 s.turn head.1 s.there le in
              let least : entry.stamp ≤ head.0.stamp = up_to entry.stamp n head.0.stamp s.sender (next.least s.sender head.0 head.1) in
              let sent_at : flying.stamp ≡ s.turn.stamp =
              (let from = of_map (λ envelope. record { envelope = envelope; stamp = s.turn.stamp; delivered = false }) s.turn.turn.out
              flying s.sent.0 s.sent.1 in
              sym (ap (λ (f : Flying). f.stamp) from.2)) in
              let below : flying.stamp < entry.stamp = subst (λ x. flying.stamp < x) (sym s.stamp) (above_came before flying.stamp) in
              absurd (omega (arith, up, least, sent_at, below)))
        ]
      where
        nat_cases : (a b : ℕ) → (a < b) ⊎ (b ≤ a)
        nat_cases zero zero = inr (omega arith)
        nat_cases zero (suc b) = inl (omega arith)
        nat_cases (suc a) zero = inr (omega arith)
        nat_cases (suc a) (suc b) = elim (nat_cases a b) [
          | inl lt ↦ inl (omega (arith, lt))
          | inr le ↦ inr (omega (arith, le))
        ]

        there_is : (xs : List EntryRecord) (i : ℕ) → i < length xs → (x : EntryRecord) × (slice_get xs i ≡ Some x)
        there_is [] i lt = absurd (omega (arith, lt))
        there_is (x ∷ xs) zero lt = (x, refl)
        there_is (x ∷ xs) (suc i) lt = there_is xs i (omega (arith, lt))

        up_to : (a n b m : ℕ) → IsUpTo a n b m → a ≤ b
        up_to a n b m (inl lt) = omega (arith, lt)
        up_to a n b m (inr (e, le)) = omega (arith, e)

    -- what the next turn takes is in flight
    pub can_take : (come : List ℕ) (flight : List Flying) (n : ℕ) (entry : EntryRecord) (envelope : EnvelopeRecord) → IsNext logs come n entry
        → entry.input ≡ taken envelope → Holds come flight
        → (place : ℕ) × (flying : Flying) × IsTakenAt n (take (come_of come n) (log_of logs n)) entry flight place flying × (flying.envelope ≡ envelope)
    can_take come flight n entry envelope next is holds =
        let p = sources.each n (come_of come n) entry envelope next.next is in
        let s : IsSent logs n (take (come_of come n) (log_of logs n)) entry p.0 = p.2 in
        let h : Has flight p.0 = holds n (come_of come n) s.sender s.place entry s.turn p.0 (omega arith) next.next (is ∙ ap taken (sym p.1)) s.receiver
        (has_come come n entry _ p.0 next s) s.there s.sent in (
          h.place,
          h.found,
          record {
            there = h.there;
            input = is ∙ ap taken (sym (h.envelope ∙ p.1));
            receiver = ap (λ (m : EnvelopeRecord). m.to) h.envelope ∙ s.receiver;
            stamp = s.stamp ∙ ap (next_stamp (take (come_of come n) (log_of logs n))) (sym h.stamp);
          },
          h.envelope ∙ p.1,
        )
