-- The pending grants of a lock, as messages come and are sent.
use Rattle.std.proofs.Common.{◌≡◌, ℕ, List, [], ◌∷◌, ◌++◌, Bool, true, false, map, refl, sym, ap, subst, ◌∙◌}
use Rattle.std.specs.Prelude.{Option, Some, None, cond}
use Rattle.std.proofs.lemmas.Bool.{eq-eqb}
use Rattle.std.proofs.lemmas.List.Elements.{filter-append}
use Rattle.lrc_envelope.specs.Envelope.{EnvelopeRecord}
use Rattle.lrc_envelope.specs.Records.{LockGrantRecord}
use Rattle.lrc_envelope.specs.declared.message.Message.{Message}
use Rattle.lrc_envelope.specs.declared.message.Message.TheVariants.{LockGrant}
use Rattle.lrc_protocol.specs.Node.{Letter}
use Rattle.lrc_protocol.specs.Turn.{letter}
use Rattle.lrc_order_laws.specs.Tokens.{is_grant_of, grants_of_lock}
use Rattle.lrc_order_laws.proofs.Pending.{Lost, Goes}
use Rattle.lrc_order_laws.proofs.Sends.{Came, by_itself, comes, letter_in}
use Rattle.lrc_order_laws.proofs.LockMoves.{brings, NoGrants, OneGrant}

-- what comes to a node with the message that it takes anew, if it takes one
pub data Brings : Option EnvelopeRecord → Came → Type 0 where
  none : Brings None by_itself
  one : (e : EnvelopeRecord) → Brings (Some e) (comes e.from e.message)

single : (xs ys : List EnvelopeRecord) (e x : EnvelopeRecord) → xs ++ e ∷ ys ≡ x ∷ [] → (e ≡ x) × (xs ++ ys ≡ [])
single [] ys e x is = (cc, cc)
single (y ∷ []) ys e x is = cc
single (y ∷ z ∷ xs) ys e x is = cc

some_there : (xs ys : List EnvelopeRecord) (e : EnvelopeRecord) → xs ++ e ∷ ys ≡ [] → ⊥
some_there [] ys e is = cc
some_there (x ∷ xs) ys e is = cc

cond_in : (c : Bool) (e : EnvelopeRecord) (rest : List EnvelopeRecord) → c ≡ true → cond c (e ∷ rest) rest ≡ e ∷ rest
cond_in true e rest is = refl
cond_in false e rest is = cc

cond_out : (c : Bool) (e : EnvelopeRecord) (rest : List EnvelopeRecord) → c ≡ false → cond c (e ∷ rest) rest ≡ rest
cond_out true e rest is = cc
cond_out false e rest is = refl

message_is : (from from' : ℕ) (m m' : Message) → comes from m ≡ comes from' m' → m ≡ m'
message_is from from' m m' e = cc

alone_comes : (from : ℕ) (m : Message) → by_itself ≡ comes from m → ⊥
alone_comes from m e = cc

module _ (l : ℕ) where
  abbrev test : EnvelopeRecord → Bool
  test e = is_grant_of l e.message

  abbrev grants : List EnvelopeRecord → List EnvelopeRecord
  grants es = grants_of_lock l es

  grants-append : (xs ys : List EnvelopeRecord) → grants (xs ++ ys) ≡ grants xs ++ grants ys
  grants-append xs ys = filter-append test xs ys

  -- with no grant of the lock the pending ones gain what is sent
  pub grants-stay : (new : Option EnvelopeRecord) (came : Came) (was out now : List EnvelopeRecord) → Brings new came → Goes new was out now
      → brings l came ≡ false → grants now ≡ grants was ++ grants out
  grants-stay _ _ was out now none g b = ap grants g ∙ grants-append was out
  grants-stay _ _ was out now (one e) g b =
      ap grants g.after
      ∙ grants-append (g.front ++ g.back) out
      ∙ ap (λ es. es ++ grants out)
      (grants-append g.front g.back
      ∙ ap (λ es. grants g.front ++ es) (sym (cond_out (test e) e (grants g.back) b))
      ∙ sym (grants-append g.front (e ∷ g.back))
      ∙ ap grants (sym g.before))

  -- a grant that comes was pending
  is_it : (e : EnvelopeRecord) (from : ℕ) (m : LockGrantRecord) → comes e.from e.message ≡ comes from (LockGrant m) → m.lock ≡ l → test e ≡ true
  is_it e from m is lock = ap (is_grant_of l) (message_is e.from from e.message (LockGrant m) is) ∙ eq-eqb m.lock l lock

  there : (e : EnvelopeRecord) (was out now : List EnvelopeRecord) (g : Lost e was out now) → test e ≡ true → grants was ≡ grants g.front ++ e ∷ grants g.back
  there e was out now g is =
      ap grants g.before
      ∙ grants-append g.front (e ∷ g.back)
      ∙ ap (λ es. grants g.front ++ es) (cond_in (test e) e (grants g.back) is)

  pub grants-some : (new : Option EnvelopeRecord) (came : Came) (was out now : List EnvelopeRecord) → Brings new came → Goes new was out now
      → (from : ℕ) (m : LockGrantRecord) → came ≡ comes from (LockGrant m) → m.lock ≡ l → grants was ≡ [] → ⊥
  grants-some _ _ was out now none g from m is lock empty = alone_comes from (LockGrant m) is
  grants-some _ _ was out now (one e) g from m is lock empty =
      some_there (grants g.front) (grants g.back) e (sym (there e was out now g (is_it e from m is lock)) ∙ empty)

  -- and where it was the only one, no other is pending any more
  pub grants-lose : (new : Option EnvelopeRecord) (came : Came) (was out now : List EnvelopeRecord) → Brings new came → Goes new was out now
      → (from : ℕ) (m : LockGrantRecord) (x : EnvelopeRecord) → came ≡ comes from (LockGrant m) → m.lock ≡ l → grants was ≡ x ∷ []
      → (x.message ≡ LockGrant m) × (grants now ≡ grants out)
  grants-lose _ _ was out now none g from m x is lock sole = absurd (alone_comes from (LockGrant m) is)
  grants-lose _ _ was out now (one e) g from m x is lock sole =
      let it : (e ≡ x) × (grants g.front ++ grants g.back ≡ []) =
      single (grants g.front) (grants g.back) e x (sym (there e was out now g (is_it e from m is lock)) ∙ sole) in (
        ap (λ (e : EnvelopeRecord). e.message) (sym it.0) ∙ message_is e.from from e.message (LockGrant m) is,
        ap grants g.after
            ∙ grants-append (g.front ++ g.back) out
            ∙ ap (λ es. es ++ grants out) (grants-append g.front g.back ∙ it.1),
      )

  -- ---- what is sent

  none_in : (out : List EnvelopeRecord) → NoGrants l (map letter_in out) → grants out ≡ []
  none_in [] h = refl
  none_in (e ∷ out) h = cond_out (test e) e (grants out) h.0 ∙ none_in out h.1

  pub none-sent : (out : List EnvelopeRecord) (letters : List Letter) → map letter_in out ≡ letters → NoGrants l letters → grants out ≡ []
  none-sent out letters is h = none_in out (subst (NoGrants l) (sym is) h)

  one_in : (out : List EnvelopeRecord) (to : ℕ) (m : LockGrantRecord) → m.lock ≡ l → map letter_in out ≡ letter to (LockGrant m) ∷ []
      → (e : EnvelopeRecord) × ((grants out ≡ e ∷ []) × (e.message ≡ LockGrant m))
  one_in [] to m lock is = cc
  one_in (e ∷ []) to m lock is =
      let same : e.message ≡ LockGrant m = ap (λ (x : Letter). x.message) (first (letter_in e) (letter to (LockGrant m)) is) in
      (e, (cond_in (test e) e [] (ap (is_grant_of l) same ∙ eq-eqb m.lock l lock), same))
    where
      first : (a b : Letter) → a ∷ [] ≡ b ∷ [] → a ≡ b
      first a b is = cc
  one_in (e ∷ f ∷ out) to m lock is = cc

  pub one-sent : (out : List EnvelopeRecord) (letters : List Letter) → map letter_in out ≡ letters → (time : List ℕ) (g : OneGrant l time letters)
      → (e : EnvelopeRecord) × ((grants out ≡ e ∷ []) × (e.message ≡ LockGrant g.m))
  one-sent out letters is time g = one_in out g.to g.m g.lock_is (is ∙ g.letters_are)
