-- One turn, a repeat too, with the messages that it takes and sends, one by one.
use Rattle.std.proofs.Common.{◌≡◌, ◌⊎◌, ℕ, ◌+◌, ◌≤◌, List, [], ◌∷◌, ◌++◌, Bool, true, false, cond, map, refl, sym, ap, subst, ◌∙◌, inl, inr, arith, append-nil}
use Rattle.std.specs.Prelude.{Option, Some, None, Contains, count_by}
use Rattle.std.proofs.lemmas.List.Elements.{Contains-append_left, Contains-append_right, Contains-append_cases}
use Rattle.lrc_exec.specs.Meaning.{Setting}
use Rattle.lrc_envelope.specs.Envelope.{EnvelopeRecord}
use Rattle.lrc_envelope.specs.declared.message.Message.{Message}
use Rattle.lrc_store.proofs.Orders.{Contains-first, Contains-later, cases_Contains, none_Contains}
use Rattle.lrc_protocol.specs.Node.{Letter, Node}
use Rattle.lrc_protocol.specs.Turn.{TurnRecord}
use Rattle.lrc_order_laws.specs.Barriers.{says_arrive, says_depart}
use Rattle.lrc_order_laws.proofs.Shift.{AllFrom, Moved, deed_made}
use Rattle.lrc_order_laws.proofs.Sends.{Came, by_itself, comes, site_of, letter_in}
use Rattle.lrc_order_laws.proofs.Flows.{Brings, IsFromNode, Stepped, again, once, count-cons}
use Rattle.lrc_order_laws.proofs.Pending.{Goes}
use Rattle.lrc_order_laws.proofs.Standing.{silent_none}
use Rattle.lrc_order_laws.proofs.Barring.{Barring, other_at, barring}
use Rattle.lrc_order_laws.proofs.Passing.{AreQuiet, Passing, serving, same_arrivals, passing}

-- ---- messages among others

pub in-now : (o : Option EnvelopeRecord) (was out now : List EnvelopeRecord) (e : EnvelopeRecord) → Goes o was out now → Contains now e
    → Contains was e ⊎ Contains out e
in-now None was out now e g there = Contains-append_cases was out e (subst (λ es. Contains es e) g there)
in-now (Some x) was out now e g there =
    elim (Contains-append_cases (g.front ++ g.back) out e (subst (λ es. Contains es e) g.after there)) [
      | inl old ↦ inl (subst (λ es. Contains es e) (sym g.before) (elim (Contains-append_cases g.front g.back e old) [
        | inl before ↦ Contains-append_left g.front (x ∷ g.back) e before
        | inr behind ↦ Contains-append_right g.front (x ∷ g.back) e (Contains-later x g.back e behind)
      ]))
      | inr new ↦ inr new
    ]

-- what came was pending
pub record Brought (me from : ℕ) (message : Message) (was : List EnvelopeRecord) : Type 0 where
  pub envelope : EnvelopeRecord
  pub among : Contains was envelope
  pub to : envelope.to ≡ me
  pub from_is : envelope.from ≡ from
  pub message_is : envelope.message ≡ message

pub brought : (me from : ℕ) (message : Message) (came : Came) (o : Option EnvelopeRecord) (was out now : List EnvelopeRecord) → came ≡ comes from message
    → Brings me came o → Goes o was out now → Brought me from message was
brought me from message came o was out now e b g = by_message o (subst (λ came. Brings me came o) e b) g
  where
    by_message : (o : Option EnvelopeRecord) → Brings me (comes from message) o → Goes o was out now → Brought me from message was
    by_message None b g = absurd b
    by_message (Some x) b g = record {
      envelope = x;
      among = subst (λ es. Contains es x) (sym g.before) (Contains-append_right g.front (x ∷ g.back) x (Contains-first x g.back));
      to = b.0;
      from_is = b.1;
      message_is = b.2;
    }

pub sent_from : (me : ℕ) (out : List EnvelopeRecord) (e : EnvelopeRecord) → AllFrom me out → Contains out e → e.from ≡ me
sent_from me [] e f there = absurd (none_Contains e there)
sent_from me (x ∷ out) e f there = elim (cases_Contains x out e there) [
  | inl is ↦ ap (λ (x : EnvelopeRecord). x.from) (sym is) ∙ f.0
  | inr later ↦ sent_from me out e f.1 later
]

pub among_letters : (out : List EnvelopeRecord) (e : EnvelopeRecord) → Contains out e → Contains (map letter_in out) (letter_in e)
among_letters [] e there = absurd (none_Contains e there)
among_letters (x ∷ out) e there = elim (cases_Contains x out e there) [
  | inl is ↦
      subst (λ (y : EnvelopeRecord). Contains (map letter_in (x ∷ out)) (letter_in y)) is (Contains-first (letter_in x) (map letter_in out))
  | inr later ↦ Contains-later (letter_in x) (map letter_in out) (letter_in e) (among_letters out e later)
]

-- a message that passes is counted
pub counted_in : {X : Type 0} (p : X → Bool) (es : List X) (e : X) → Contains es e → p e ≡ true → 1 ≤ count_by p es
counted_in p [] e there is = absurd (none_Contains e there)
counted_in p (x ∷ es) e there is =
    let both : count_by p (x ∷ es) ≡ cond (p x) 1 0 + count_by p es = count-cons p x es in
    elim (cases_Contains x es e there) [
      | inl same ↦
          let one : cond {A = ℕ} (p x) 1 0 ≡ 1 = ap (λ b. cond {A = ℕ} b 1 0) (ap p same ∙ is) in
          omega (arith, both, one)
      | inr later ↦
          let rest : 1 ≤ count_by p es = counted_in p es e later is in
          omega (arith, both, rest)
    ]

pub quiet_in : (letters : List Letter) (l : Letter) → AreQuiet letters → Contains letters l → (says_arrive l.message ≡ false) × (says_depart l.message ≡ false)
quiet_in [] l q there = absurd (none_Contains l there)
quiet_in (x ∷ letters) l q there = elim (cases_Contains x letters l there) [
  | inl is ↦ subst (λ (l : Letter). (says_arrive l.message ≡ false) × (says_depart l.message ≡ false)) is (q.0, q.1)
  | inr later ↦ quiet_in letters l q.2 later
]

-- ---- one turn

pub record Moves (node : Node) (was now : List EnvelopeRecord) (nodes : ℕ) (turn : TurnRecord) (after : Node) : Type 0 where
  pub came : Came
  pub acts : Bool
  pub letters : List Letter
  pub passes : Passing (site_of node) came acts after.mail.wait after.locks after.barrier letters
  pub bars : Barring (site_of node) came after.mail.wait after.barrier letters
  pub moved : Moved acts node.course (deed_made turn) after.course
  pub o : Option EnvelopeRecord
  pub brings : Brings node.setting.me came o
  pub sender : IsFromNode nodes came
  pub goes : Goes o was turn.out now
  pub out : map letter_in turn.out ≡ letters
  pub from : AllFrom node.setting.me turn.out

pub moves : (node : Node) (was now : List EnvelopeRecord) (nodes : ℕ) (turn : TurnRecord) (after : Node) → node.setting.nodes ≡ nodes
    → after.setting ≡ node.setting
    → Stepped node was now turn after → Moves node was now nodes turn after
moves node was now nodes _ _ nodes_is same (again e) = record {
  came = by_itself;
  acts = false;
  letters = [];
  passes = serving (site_of node) by_itself node.locks node.barrier [] tt (same_arrivals node.barrier.manager) refl refl;
  bars = other_at refl refl refl (silent_none node.setting.me);
  moved = record { deed_is = refl; course_is = refl };
  o = None;
  brings = tt;
  sender = tt;
  goes = e ∙ sym (append-nil was);
  out = refl;
  from = tt;
}
moves node was now nodes turn after nodes_is same (once came o brings from sent goes) = record {
  came = came;
  acts = sent.acts;
  letters = sent.letters;
  passes = passing (site_of node) came sent.acts after.mail.wait after.locks after.barrier sent.letters sent.sent;
  bars = barring (site_of node) came sent.acts after.mail.wait after.locks after.barrier sent.letters sent.sent;
  moved = sent.moved;
  o = o;
  brings = brings;
  sender = subst (λ n. IsFromNode n came) nodes_is from;
  goes = goes;
  out = sent.out;
  from = subst (λ (s : Setting). AllFrom s.me turn.out) same sent.from;
}
