-- One turn of a run, with the pending messages before and after it: what it takes from them and what it adds.
use Rattle.std.proofs.Common.{◌≡◌, ℕ, ◌+◌, ◌<◌, List, [], ◌∷◌, ◌++◌, Bool, true, false, cond, map, refl, sym, ap, subst, ◌∙◌, arith, append-nil}
use Rattle.std.specs.Prelude.{Option, Some, None, count_by, slice_get, if◌then◌else◌}
use Rattle.std.proofs.lemmas.List.Sums.{sum_by-append, sum_by-cons}
use Rattle.lrc_program.specs.declared.Program.{Program}
use Rattle.lrc_exec.specs.Plain.{setting_of}
use Rattle.lrc_envelope.specs.Envelope.{EnvelopeRecord}
use Rattle.lrc_envelope.specs.declared.message.Message.{Message}
use Rattle.lrc_protocol.specs.Node.{Letter, Node, OptionsRecord}
use Rattle.lrc_protocol.specs.Turn.{letter, TurnRecord, is_repeat, empty_turn}
use Rattle.lrc_protocol.specs.Run.{Input, EntryRecord, Logged, World, Flying, with_turn}
use Rattle.lrc_protocol.specs.Follows.{pending}
use Rattle.lrc_protocol.proofs.Worlds.{IsEntry}
use Rattle.lrc_protocol.proofs.Induction.{Comes}
use Rattle.lrc_order_laws.specs.Shape.{HasShape}
use Rattle.lrc_order_laws.proofs.Shift.{AllFrom}
use Rattle.lrc_order_laws.proofs.Shape.{NodeShape, shape_at}
use Rattle.lrc_order_laws.proofs.Sends.{Came, by_itself, comes, letter_in, Sent, Sending, alone, repeats, anew, SendingIf, sendings}
use Rattle.lrc_order_laws.proofs.Pending.{new_of, Goes, pending-goes, all_pending}
use Rattle.lrc_order_laws.proofs.Reached.{IsReached}

-- ---- one turn

-- the message that brings what comes to a node
abbrev pub Brings : ℕ → Came → Option EnvelopeRecord → Type 0
Brings me by_itself None = Unit {0}
Brings me by_itself (Some e) = ⊥
Brings me (comes from message) None = ⊥
Brings me (comes from message) (Some e) = (e.to ≡ me) × (e.from ≡ from) × (e.message ≡ message)

-- its sender is one of so many nodes
abbrev pub IsFromNode : ℕ → Came → Type 0
IsFromNode nodes by_itself = Unit {0}
IsFromNode nodes (comes from message) = from < nodes

-- a turn with the messages that were pending and those that are then: a repeat changes nothing; else the message that came
-- is no longer pending, and what the turn sends is
pub data Stepped (node : Node) (was now : List EnvelopeRecord) : TurnRecord → Node → Type 0 where
  again : now ≡ was → Stepped node was now empty_turn node
  once : {turn : TurnRecord} {after : Node} (came : Came) (o : Option EnvelopeRecord) → Brings node.setting.me came o
      → IsFromNode node.setting.nodes came → Sent node came turn after
      → Goes o was turn.out now → Stepped node was now turn after

repeated : (node : Node) (e : EnvelopeRecord) (was now : List EnvelopeRecord) (b : Bool) → b ≡ true
    → Goes (if b then None else Some e) was [] now → now ≡ was
repeated node e was now true is g = g ∙ append-nil was
repeated node e was now false is g = cc

fresh : (e : EnvelopeRecord) (was out now : List EnvelopeRecord) (b : Bool) → b ≡ false → Goes (if b then None else Some e) was out now
    → Goes (Some e) was out now
fresh e was out now true is g = cc
fresh e was out now false is g = g

steps : (node : Node) (input : Input) (turn : TurnRecord) (after : Node) (was now : List EnvelopeRecord) → Sending node input turn after
    → Goes (new_of node input) was turn.out now → Stepped node was now turn after
steps node _ _ _ was now (alone k) g = once by_itself None tt tt k g
steps node _ _ _ was now (repeats e is) g = again (repeated node e was now (is_repeat node e) is g)
steps node _ _ _ was now (anew e {turn = turn} to from new k) g =
    once (comes e.from e.message) (Some e) (to, refl, refl) from k (fresh e was turn.out now (is_repeat node e) new g)

module _ (program : Program) (nodes : ℕ) (options : OptionsRecord) where
  -- each turn of each run is one of these
  pub stepped : (world : World) (flight : List Flying) (n : ℕ) (l after : Logged) (input : Input) (entry : EntryRecord)
      → slice_get world.nodes n ≡ Some l → Comes world n input flight → IsEntry l input entry after → IsReached program nodes options world
      → Stepped l.node (pending world) (pending (with_turn world flight n entry after)) entry.turn after.node
  stepped world flight n l after input entry at come i r =
      let own : NodeShape (setting_of program nodes n) options _ = shape_at program nodes options r.events world n l r.runs at in
      let shape : HasShape l.node.setting l.node.locks = subst (λ s. HasShape s l.node.locks) (sym own.setting) own.shape in
      let sending : Sending l.node input entry.turn after.node = subst (SendingIf l.node input) i.turn_is (sendings l.node input shape) in
      steps l.node input entry.turn after.node (pending world) _ sending
      (pending-goes program nodes options world flight n l after input entry at come i (all_pending program nodes options r.events world r.runs))

-- ---- how many pass

-- whether what comes passes
abbrev pub came_count : (ℕ → Letter → Bool) → ℕ → Came → ℕ
came_count test me by_itself = 0
came_count test me (comes from message) = cond (test from (letter me message)) 1 0

-- how many messages pass a test of their sender and what they bring
abbrev pub count_of : (ℕ → Letter → Bool) → List EnvelopeRecord → ℕ
count_of test es = count_by (λ e. test e.from (letter_in e)) es

pub count-append : {X : Type 0} (p : X → Bool) (xs ys : List X) → count_by p (xs ++ ys) ≡ count_by p xs + count_by p ys
count-append p xs ys = sum_by-append (λ x. cond (p x) 1 0) xs ys

pub count-cons : {X : Type 0} (p : X → Bool) (x : X) (xs : List X) → count_by p (x ∷ xs) ≡ cond (p x) 1 0 + count_by p xs
count-cons p x xs = sum_by-cons (λ x. cond (p x) 1 0) x xs

-- of what one node sends
sent-count : (test : ℕ → Letter → Bool) (me : ℕ) (out : List EnvelopeRecord) → AllFrom me out → count_of test out ≡ count_by (test me) (map letter_in out)
sent-count test me [] f = refl
sent-count test me (e ∷ out) f =
    count-cons (λ e. test e.from (letter_in e)) e out
    ∙ ap (λ k. cond (test k (letter_in e)) 1 0 + count_of test out) f.0
    ∙ ap (λ k. cond (test me (letter_in e)) 1 0 + k) (sent-count test me out f.1)
    ∙ sym (count-cons (test me) (letter_in e) (map letter_in out))

came-is : (test : ℕ → Letter → Bool) (me : ℕ) (from : ℕ) (message : Message) (e : EnvelopeRecord) → e.to ≡ me → e.from ≡ from → e.message ≡ message
    → cond (test e.from (letter_in e)) 1 0 ≡ came_count test me (comes from message)
came-is test me from message e to is says =
    ap (λ k. cond (test k (letter_in e)) 1 0) is ∙ ap (λ k. cond (test from (letter k e.message)) 1 0) to ∙ ap (λ m. cond (test from (letter me m)) 1 0) says

pub counts : (test : ℕ → Letter → Bool) (me : ℕ) (came : Came) (o : Option EnvelopeRecord) (was now out : List EnvelopeRecord) (letters : List Letter)
    → Brings me came o → Goes o was out now → AllFrom me out → map letter_in out ≡ letters
    → count_of test now + came_count test me came ≡ count_of test was + count_by (test me) letters
counts test me by_itself None was now out letters b g f m =
    let total : count_of test now ≡ count_of test was + count_of test out = ap (count_of test) g ∙ count-append (λ e. test e.from (letter_in e)) was out in
    let sent : count_of test out ≡ count_by (test me) letters = sent-count test me out f ∙ ap (count_by (test me)) m in
    omega (arith, total, sent)
counts test me by_itself (Some e) was now out letters b g f m = absurd b
counts test me (comes from message) None was now out letters b g f m = absurd b
counts test me (comes from message) (Some e) was now out letters b g f m =
    let p : EnvelopeRecord → Bool = λ e. test e.from (letter_in e) in
    let total : count_of test now ≡ (count_of test g.front + count_of test g.back) + count_of test out =
    ap (count_of test) g.after ∙ count-append p (g.front ++ g.back) out ∙ ap (λ k. k + count_of test out) (count-append p g.front g.back) in
    let before : count_of test was ≡ count_of test g.front + (cond (p e) 1 0 + count_of test g.back) =
    ap (count_of test) g.before ∙ count-append p g.front (e ∷ g.back) ∙ ap (λ k. count_of test g.front + k) (count-cons p e g.back) in
    let sent : count_of test out ≡ count_by (test me) letters = sent-count test me out f ∙ ap (count_by (test me)) m in
    let came : cond (p e) 1 0 ≡ came_count test me (comes from message) = came-is test me from message e b.0 b.1 b.2 in
    omega (arith, total, before, sent, came)

-- ---- what holds of each message

abbrev pub AllOf : (EnvelopeRecord → Type 0) → List EnvelopeRecord → Type 0
AllOf P [] = Unit {0}
AllOf P (e ∷ es) = P e × AllOf P es
