-- In every run no message is lost: each number that a node has given to a message to another is in flight, or was taken.
use Rattle.std.proofs.Common.{◌≡◌, ◌⊎◌, ℕ, zero, suc, ◌+◌, ◌<◌, ◌≤◌, List, [], ◌∷◌, ◌++◌, Bool, true, false, length, refl, sym, ap, subst}
use Rattle.std.proofs.Common.{◌∙◌, inl, inr, arith}
use Rattle.std.specs.Prelude.{Some, ◌==◌, Contains, cond, filter, remove, replicate, slice_get, slice_set, slice_index, slice_index_or}
use Rattle.std.specs.List.{list_any, range_with_len}
use Rattle.std.proofs.lemmas.Bool.{cases_eq, cases_lt, and_parts, eqb-true, false≢true}
use Rattle.std.proofs.lemmas.List.Elements.{Contains-append_left, Contains-append_right}
use Rattle.std.proofs.lemmas.Option.{same_Some, slice_get_within}
use Rattle.lrc_program.specs.declared.Program.{Program}
use Rattle.lrc_store.proofs.Orders.{Contains-first, Contains-later, cases_Contains}
use Rattle.lrc_exec.specs.Meaning.{Setting}
use Rattle.lrc_exec.specs.Plain.{setting_of}
use Rattle.lrc_envelope.specs.Envelope.{EnvelopeRecord}
use Rattle.lrc_protocol.specs.declared.event.Event.{Event}
use Rattle.lrc_protocol.specs.Node.{Node, OptionsRecord, was_taken}
use Rattle.lrc_protocol.specs.Run.{Input, run, taken, EntryRecord, Logged, World, Flying, fresh_world, sent_by, run_of}
use Rattle.lrc_protocol.proofs.Numbers.{GoOn}
use Rattle.lrc_protocol.proofs.Worlds.{IsEntry, get_set_same, get_set_other, fresh_at}
use Rattle.lrc_protocol.proofs.Turned.{Turned, Turns, turns}
use Rattle.lrc_protocol.proofs.Induction.{Comes, named, delivered, repeated, KeptByTurns, by_turns}
use Rattle.lrc_order_laws.specs.Numbers.{numbers_between}
use Rattle.lrc_order_laws.proofs.Shift.{AllFrom, Shifted, ShiftedIf, shifts}
use Rattle.lrc_order_laws.proofs.Numbers.{envelopes_in, are_between, map_cond, marks, between-sent, between-own}
use Rattle.lrc_order_laws.proofs.InFlight.{Sends}
use Rattle.lrc_order_laws.proofs.TakenNumbers.{Takes, TakesIf, by_itself, repeats, anew, takes}
use Rattle.lrc_order_laws.proofs.TakenMessages.{taken-other, taken-itself}
use Rattle.lrc_order_laws.proofs.Pending.{AllPending, pending-kept, pending-fresh}

range_has : (least more k : ℕ) → least ≤ k → k < least + more → Contains (range_with_len least more) k
range_has least zero k ge lt = absurd (omega (arith, ge, lt))
range_has least (suc more) k ge lt = elim (cases_eq least k) [
  | inl e ↦ subst (Contains (range_with_len least (suc more))) e (Contains-first least (range_with_len (least + 1) more))
  | inr ne ↦
      Contains-later least (range_with_len (least + 1) more) k
      (range_has (least + 1) more k (omega (arith, ge, ne)) (omega (arith, lt)))
]

-- ---- one number of those in flight

cond_cases : (c : Bool) (x k : ℕ) (rest : List ℕ) → Contains (cond c (x ∷ rest) rest) k → ((c ≡ true) × (x ≡ k)) ⊎ Contains rest k
cond_cases true x k rest h = elim (cases_Contains x rest k h) [
  | inl e ↦ inl (refl, e)
  | inr later ↦ inr later
]
cond_cases false x k rest h = inr h

cond_first : (c : Bool) (x k : ℕ) (rest : List ℕ) → c ≡ true → x ≡ k → Contains (cond c (x ∷ rest) rest) k
cond_first true x k rest is e = subst (Contains (x ∷ rest)) e (Contains-first x rest)
cond_first false x k rest is e = cc

cond_later : (c : Bool) (x k : ℕ) (rest : List ℕ) → Contains rest k → Contains (cond c (x ∷ rest) rest) k
cond_later true x k rest h = Contains-later x rest k h
cond_later false x k rest h = h

-- the envelope goes from one node to another with this number
record Bears (a b k : ℕ) (e : EnvelopeRecord) : Type 0 where
  from : e.from ≡ a
  to : e.to ≡ b
  number : e.number ≡ k

module _ (a b k : ℕ) where
  -- a message that leaves is that one, or the number is still in flight
  leaves : (flight : List Flying) (place : ℕ) (f : Flying) → slice_get flight place ≡ Some f
      → Contains (numbers_between a b (envelopes_in flight)) k
      → Contains (numbers_between a b (envelopes_in (remove flight place))) k ⊎ Bears a b k f.envelope
  leaves [] place f at h = cc
  leaves (g ∷ flight) zero f at h =
      let c : Bool = are_between a b g.envelope in
      elim (cond_cases c g.envelope.number k (numbers_between a b (envelopes_in flight))
      (subst (λ ns. Contains ns k) (map_cond c g.envelope (filter (are_between a b) (envelopes_in flight))) h)) [
        | inl (is, e) ↦
            let both : (g.envelope.from == a) ≡ true × (g.envelope.to == b) ≡ true =
            and_parts (g.envelope.from == a) (g.envelope.to == b) is in
            inr (subst (λ (f : Flying). Bears a b k f.envelope) (same_Some g f at)
            (record { from = eqb-true g.envelope.from a both.0; to = eqb-true g.envelope.to b both.1; number = e }))
        | inr later ↦ inl later
      ]
  leaves (g ∷ flight) (suc place) f at h =
      let c : Bool = are_between a b g.envelope in
      let rest : List EnvelopeRecord = envelopes_in (remove flight place) in
      let others : List ℕ = numbers_between a b rest in
      let still : Contains (cond c (g.envelope.number ∷ others) others) k → Contains (numbers_between a b (g.envelope ∷ rest)) k =
      λ there. subst (λ ns. Contains ns k) (sym (map_cond c g.envelope (filter (are_between a b) rest))) there in
      elim (cond_cases c g.envelope.number k (numbers_between a b (envelopes_in flight))
      (subst (λ ns. Contains ns k) (map_cond c g.envelope (filter (are_between a b) (envelopes_in flight))) h)) [
        | inl (is, e) ↦ inl (still (cond_first c g.envelope.number k others is e))
        | inr later ↦ elim (leaves flight place f at later) [
          | inl there ↦ inl (still (cond_later c g.envelope.number k others there))
          | inr it ↦ inr it
        ]
      ]

-- the input brings that number
abbrev Brings : ℕ → Input → ℕ → ℕ → ℕ → Type 0
Brings n run a b k = ⊥
Brings n (taken e) a b k = (n ≡ b) × Bears a b k e

-- what was in flight still is, or has come
comes_or : (world : World) (n : ℕ) (input : Input) (flight : List Flying) (a b k : ℕ) → Comes world n input flight
    → Contains (numbers_between a b (envelopes_in world.flight)) k
    → Contains (numbers_between a b (envelopes_in flight)) k ⊎ Brings n input a b k
comes_or world n _ _ a b k named h = inl h
comes_or world _ _ _ a b k (delivered place {flying = f} at) h = elim (leaves a b k world.flight place f at h) [
  | inl there ↦ inl there
  | inr it ↦ inr (it.to, it)
]
comes_or world _ _ _ a b k (repeated place at) h =
    inl (subst (λ es. Contains (numbers_between a b es) k) (sym (marks 0 place world.flight)) h)

-- ---- one number of those taken

abbrev has : ℕ → List ℕ → Bool
has number xs = list_any (λ k. k == number) xs

keeps_taken : (node : Node) (input : Input) (t : List (List ℕ)) (a k : ℕ) → Takes node input t
    → has k (slice_index_or node.mail.taken a []) ≡ true → has k (slice_index_or t a []) ≡ true
keeps_taken node _ _ a k by_itself h = h
keeps_taken node _ _ a k (repeats e again) h = h
keeps_taken node _ _ a k (anew e new) h =
    taken-other node.mail.taken e.from e.number a k
    (λ from number. false≢true (sym new ∙ ap (λ x. has x (slice_index_or node.mail.taken e.from [])) number
    ∙ ap (λ x. has k (slice_index_or node.mail.taken x [])) from ∙ h)) ∙ h

-- what has come is taken
abbrev HasCome : Node → Input → List (List ℕ) → Type 0
HasCome node run t = Unit {0}
HasCome node (taken e) t = e.from < length node.mail.taken → has e.number (slice_index_or t e.from []) ≡ true

has_come : (node : Node) (input : Input) (t : List (List ℕ)) → Takes node input t → HasCome node input t
has_come node _ _ by_itself = tt
has_come node _ _ (repeats e again) = λ lt. again
has_come node _ _ (anew e new) = λ lt. taken-itself node.mail.taken e.from e.number lt

brought : (node : Node) (input : Input) (t : List (List ℕ)) (n a b k : ℕ) → HasCome node input t
    → a < length node.mail.taken → Brings n input a b k → has k (slice_index_or t a []) ≡ true
brought node run t n a b k h lt it = absurd it
brought node (taken e) t n a b k h lt it =
    ap (λ x. has x (slice_index_or t a [])) (sym it.1.number)
    ∙ ap (λ x. has e.number (slice_index_or t x [])) (sym it.1.from)
    ∙ h (subst (λ x. x < length node.mail.taken) (sym it.1.from) lt)

-- ---- every run

module _ (program : Program) (nodes : ℕ) (options : OptionsRecord) where
  -- a node before a turn, its own or another's: what it has taken since, and sent
  record Earlier (world : World) (n : ℕ) (input : Input) (entry : EntryRecord) (m : ℕ) (lm : Logged) : Type 0 where
    old : Logged
    at : slice_get world.nodes m ≡ Some old
    keeps : (a k : ℕ) → was_taken old.node.mail a k ≡ true → was_taken lm.node.mail a k ≡ true
    comes : (a k : ℕ) → a < nodes → Brings n input a m k → was_taken lm.node.mail a k ≡ true
    sends : (b k : ℕ) → b < nodes → options.first + slice_index old.node.mail.sent b ≤ k
        → k < options.first + slice_index lm.node.mail.sent b → Contains (numbers_between m b entry.turn.out) k

  pub record AllStay (world : World) : Type 0 where
    pub pending : AllPending program nodes options world
    pub stay : (a b k : ℕ) (la lb : Logged) → slice_get world.nodes a ≡ Some la → slice_get world.nodes b ≡ Some lb
        → options.first ≤ k → k < options.first + slice_index la.node.mail.sent b
        → Contains (numbers_between a b (envelopes_in world.flight)) k ⊎ (was_taken lb.node.mail a k ≡ true)

  module _ (world : World) (flight : List Flying) (n : ℕ) (l after : Logged) (input : Input) (entry : EntryRecord)
      (at : slice_get world.nodes n ≡ Some l) (i : IsEntry l input entry after) (h : AllStay world) where
    own : Earlier world n input entry n after
    own =
        let s : Sends (setting_of program nodes n) options (envelopes_in world.flight) l.node =
        h.pending.taken.sends.each n l at in
        let t : Turned l.node entry.turn after.node = subst (Turns l.node) i.turn_is (turns l.node input) in
        let sh : Shifted l.node entry.turn after.node = subst (ShiftedIf l.node) i.turn_is (shifts l.node input) in
        let k : Takes l.node input after.node.mail.taken = subst (TakesIf l.node input) i.turn_is (takes l.node input) in
        let from : AllFrom n entry.turn.out = subst (λ (s : Setting). AllFrom s.me entry.turn.out) (t.setting ∙ s.setting) sh.from in
        let first : l.node.options.first ≡ options.first = ap (λ (o : OptionsRecord). o.first) s.options in
        record {
          old = l;
          at = at;
          keeps = λ a number was. keeps_taken l.node input after.node.mail.taken a number k was;
          comes = λ a number lt it.
              brought l.node input after.node.mail.taken n a n number (has_come l.node input after.node.mail.taken k)
              (subst (λ size. a < size) (sym (h.pending.places n l at)) lt) it;
          sends = λ b number lt ge below.
              let g : GoOn l.node.options.first l.node.mail.sent entry.turn.out after.node.mail.sent b =
              t.numbers.each b (subst (λ size. b < size) (sym s.size) lt) in
              let counted : slice_index after.node.mail.sent b ≡ slice_index l.node.mail.sent b + g.more = g.counted in
              subst (λ ns. Contains ns number) (sym (between-own n b entry.turn.out from ∙ g.numbers))
              (range_has (l.node.options.first + slice_index l.node.mail.sent b) g.more number
              (omega (arith, first, ge)) (omega (arith, first, below, counted)));
        }

    earlier : (m : ℕ) (lm : Logged) → slice_get (slice_set world.nodes n after) m ≡ Some lm → Earlier world n input entry m lm
    earlier m lm is = elim (cases_eq n m) [
      | inl e ↦
          let same : after ≡ lm =
          same_Some after lm (sym (get_set_same world.nodes n l after at) ∙ ap (slice_get (slice_set world.nodes n after)) e ∙ is) in
          subst (λ m. Earlier world n input entry m lm) e (subst (Earlier world n input entry n) same own)
      | inr ne ↦ record {
        old = lm;
        at = sym (get_set_other world.nodes n m after ne) ∙ is;
        keeps = λ a k was. was;
        comes = λ a k lt it. absurd (brings_to input a m k ne it);
        sends = λ b k lt ge below. absurd (omega (arith, ge, below));
      }
    ]
      where
        brings_to : (input : Input) (a m k : ℕ) → (n ≡ m → ⊥) → Brings n input a m k → ⊥
        brings_to run a m k ne it = it
        brings_to (taken e) a m k ne it = ne it.0

  stay-kept : KeptByTurns AllStay
  stay-kept world flight n l after input entry at comes i h = record {
    pending = pending-kept program nodes options world flight n l after input entry at comes i h.pending;
    stay = λ a b k la lb at_a at_b ge below.
        let ea : Earlier world n input entry a la = earlier world flight n l after input entry at i h a la at_a in
        let eb : Earlier world n input entry b lb = earlier world flight n l after input entry at i h b lb at_b in
        let a_lt : a < nodes = subst (λ size. a < size) h.pending.taken.count (slice_get_within world.nodes a ea.old ea.at) in
        let b_lt : b < nodes = subst (λ size. b < size) h.pending.taken.count (slice_get_within world.nodes b eb.old eb.at) in
        let flying : List ℕ = numbers_between a b (envelopes_in flight) in
        let new : List ℕ = numbers_between a b entry.turn.out in
        let flies : Contains (flying ++ new) k
        → Contains (numbers_between a b (envelopes_in (flight ++ sent_by entry))) k =
        λ there. subst (λ ns. Contains ns k) (sym (between-sent a b flight entry)) there in
        elim (cases_lt k (options.first + slice_index ea.old.node.mail.sent b)) [
          | inl before ↦ elim (h.stay a b k ea.old eb.old ea.at eb.at ge before) [
            | inl there ↦ elim (comes_or world n input flight a b k comes there) [
              | inl still ↦ inl (flies (Contains-append_left flying new k still))
              | inr it ↦ inr (eb.comes a k a_lt it)
            ]
            | inr was ↦ inr (eb.keeps a k was)
          ]
          | inr since ↦
              inl (flies (Contains-append_right flying new k (ea.sends b k b_lt since below)))
        ];
  }

  none_sent : (k b : ℕ) → slice_index (replicate k 0) b ≡ 0
  none_sent zero b = refl
  none_sent (suc k) zero = refl
  none_sent (suc k) (suc b) = none_sent k b

  stay-fresh : AllStay (fresh_world program nodes options)
  stay-fresh = record {
    pending = pending-fresh program nodes options;
    stay = λ a b k la lb at_a at_b ge below.
        let none : slice_index la.node.mail.sent b ≡ 0 =
        ap (λ (x : Logged). slice_index x.node.mail.sent b) (fresh_at program nodes options 0 nodes a la at_a) ∙ none_sent nodes b in
        absurd (omega (arith, ge, below, none));
  }

  pub all_stay : (events : List Event) (world : World) → run_of program nodes options events ≡ Some world → AllStay world
  all_stay events world e = by_turns AllStay stay-kept program nodes options events world stay-fresh e
