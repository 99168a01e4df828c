-- What is said of two events: which of them conflict, and the lines of a chain.
use Rattle.std.proofs.Common.{◌≡◌, ℕ, zero, suc, ◌+◌, ◌-◌, ◌<◌, ◌≤◌, List, [], ◌∷◌, ◌++◌, drop, get_or, length, inl, inr, refl, sym, subst, ◌∙◌, ap, arith, append_assoc, append-nil}
use Rattle.std.specs.Prelude.{◌≢◌, ◌↔◌, IsTrue, true, false, Bool, Option, Some, None, MatchOption}
use Rattle.std.proofs.lemmas.Bool.{true≢false}
use Rattle.std.proofs.lemmas.Bool.{cases_eq, cases_lt}
use Rattle.lrc_races_trace.specs.declared.event.Event.{Event}
use Rattle.lrc_races_trace.specs.Trace.{At}
use Rattle.lrc_races_trace.specs.Order.{Precedes, program, lock, fork, join, fork_join, barrier, HappensBefore}
use Rattle.lrc_races_trace.specs.Races.{Conflict, Races}
use Rattle.lrc_races_trace.proofs.Positions.{At-one, At-within}
use Rattle.lrc_races_trace.proofs.HappensBefore.{Precedes-forward}
use Rattle.lrc_chains.specs.Chains.{IsChain, step, longer, IsTold}
use Rattle.lrc_races_text.specs.declared.form.Form.{Form}
use Rattle.lrc_races_text.specs.Naming.{Naming}
use Rattle.lrc_races_witness.specs.Spelled.{text_at}
use Rattle.lrc_races_witness.specs.Relations.{AreByLine}
use Rattle.lrc_races_witness.proofs.Lines.{line_below}
use Rattle.lrc_races_why.specs.declared.link.Link.{Link}
use Rattle.lrc_races_why.specs.Links.{IsBy}
use Rattle.lrc_races_why.specs.Spelled.{event_line, step_line, one_thread_line, order_line, race_line, held_line, neither_line}
use Rattle.lrc_races_why.specs.Held.{AreHeld}
use Rattle.lrc_races_why.specs.Answers.{Line, AreSteps, last_step, step_more, IsStepAdded, AreStepsAdded, IsOn, one_thread, ordered, race, neither, IsWhyAdded}

-- ---- lines

-- what is on a lesser line stands before
pub positions_ascend : (events : List Event) → AreByLine events → (first second i j : ℕ) (a b : Event) → first < second → IsOn events first i a
    → IsOn events second j b → i < j
positions_ascend events by_line first second i j a b lt one other =
    let on = one.on in
    let on' = other.on in
    elim (cases_lt i j) [
      | inl below ↦ below
      | inr above ↦
          elim (cases_eq j i) [
            | inl same ↦
                let e : b ≡ a = At-one (subst (λ (m : ℕ). At events m b) same other.at) one.at in
                let f = ap (λ (x : Event). x.line) e in
                absurd (omega arith)
            | inr apart ↦
                let below = line_below events by_line (let l : j < i = omega arith in l) other.at one.at in
                absurd (omega arith)
          ]
    ]

-- ---- chains

first_at : {events : List Event} {i j : ℕ} → Precedes events i j → (a : Event) × At events i a
first_at (program {a = a} lt at there e) = (a, at)
first_at (lock {a = a} lt at there e f) = (a, at)
first_at (fork {a = a} lt at there e) = (a, at)
first_at (join {a = a} lt at there e) = (a, at)
first_at (fork_join {a = a} lt at there e f) = (a, at)
first_at (barrier {a = a} lt at there e f g) = (a, at)

second_at : {events : List Event} {i j : ℕ} → Precedes events i j → (b : Event) × At events j b
second_at (program {b = b} lt at there e) = (b, there)
second_at (lock {b = b} lt at there e f) = (b, there)
second_at (fork {b = b} lt at there e) = (b, there)
second_at (join {b = b} lt at there e) = (b, there)
second_at (fork_join {b = b} lt at there e f) = (b, there)
second_at (barrier {b = b} lt at there e f g) = (b, there)

pub precedes_within : {events : List Event} {i j : ℕ} → Precedes events i j → j < length events
precedes_within p = let (b, at) = second_at p in At-within at

chain-front : {P : ℕ → ℕ → Type 0} {i j : ℕ} {chain : List ℕ} → IsChain P i j chain → get_or chain 0 0 ≡ i
chain-front (step p) = refl
chain-front (longer p c) = refl

pub chain-long : {P : ℕ → ℕ → Type 0} {i j : ℕ} {chain : List ℕ} → IsChain P i j chain → 2 ≤ length chain
chain-long (step p) = omega arith
chain-long (longer p c) = let long = chain-long c in omega arith

-- each position of a chain comes right before the next
pub chain-step : {P : ℕ → ℕ → Type 0} {i j : ℕ} {chain : List ℕ} → IsChain P i j chain → (k : ℕ) → k + 1 < length chain
    → P (get_or chain k 0) (get_or chain (k + 1) 0)
chain-step (step p) zero lt = p
chain-step (step p) (suc k) lt = absurd (omega (arith, lt))
chain-step {P} (longer {i = i} {chain = rest} p c) zero lt = subst (λ (m : ℕ). P i m) (sym (chain-front c)) p
chain-step {P} (longer {i = i} {chain = rest} p c) (suc k) lt =
    let again : k + 1 + 1 ≡ suc k + 1 = omega arith in
    let on = chain-step c k (omega (arith, lt)) in
    subst (λ (m : ℕ). P (get_or rest k 0) (get_or (i ∷ rest) m 0)) (suc_next k) on
  where
    suc_next : (k : ℕ) → suc (k + 1) ≡ suc k + 1
    suc_next k = omega arith

drop_front : (xs : List ℕ) (k : ℕ) → k < length xs → drop k xs ≡ get_or xs k 0 ∷ drop (k + 1) xs
drop_front [] k lt = absurd (omega (arith, lt))
drop_front (x ∷ xs) zero lt = refl
drop_front (x ∷ xs) (suc k) lt = drop_front xs k (omega (arith, lt)) ∙ ap (λ (m : ℕ). get_or xs k 0 ∷ drop m (x ∷ xs)) (suc_next k)
  where
    suc_next : (k : ℕ) → suc (k + 1) ≡ suc k + 1
    suc_next k = omega arith

drop_all : (xs : List ℕ) (k : ℕ) → length xs ≤ k → drop k xs ≡ []
drop_all [] zero le = refl
drop_all [] (suc k) le = refl
drop_all (x ∷ xs) zero le = absurd (omega (arith, le))
drop_all (x ∷ xs) (suc k) le = drop_all xs k (omega (arith, le))

module _ (form : Form) (naming : Naming) (events : List Event) (lines : List Line) (chain : List ℕ) where
  -- one step more in front of the lines of those behind it
  pub step_front : (k : ℕ) → k + 1 < length chain → (a b : Event) (link : Link) → At events (get_or chain k 0) a → At events (get_or chain (k + 1) 0) b
      → IsBy a b link → (rest : List ℕ) → AreSteps form naming events lines (drop (k + 1) chain) rest
      → AreSteps form naming events lines (drop k chain) (step_line form naming link (text_at lines (get_or chain (k + 1) 0)) b ++ rest)
  step_front k lt a b link at there by rest steps =
      let whole = drop_front chain k (omega arith) in
      let behind = drop_front chain (k + 1) lt in
      subst (λ (l : List ℕ). AreSteps form naming events lines l (step_line form naming link (text_at lines (get_or chain (k + 1) 0)) b ++ rest))
      (sym (whole ∙ ap (λ (l : List ℕ). get_or chain k 0 ∷ l) behind))
      (step_more at there by (subst (λ (l : List ℕ). AreSteps form naming events lines l rest) behind steps))

  pub steps_end : (k : ℕ) → k + 1 ≡ length chain → AreSteps form naming events lines (drop k chain) []
  steps_end k e =
      let whole = drop_front chain k (omega arith) in
      let none = drop_all chain (k + 1) (omega arith) in
      subst (λ (l : List ℕ). AreSteps form naming events lines l []) (sym (whole ∙ ap (λ (l : List ℕ). get_or chain k 0 ∷ l) none)) last_step

  -- the lines of the steps from one place on follow those so far
  pub record Follows (k : ℕ) (before now : List ℕ) : Type 0 where
    pub all : (rest : List ℕ) → AreSteps form naming events lines (drop k chain) rest
        → (steps : List ℕ) × AreSteps form naming events lines chain steps × (before ++ steps ≡ now ++ rest)

  pub follows_none : (text : List ℕ) → Follows 0 text text
  follows_none text = record { all = λ rest steps. (rest, steps, refl) }

  pub follows_more : (k place : ℕ) → place ≡ k + 1 → place < length chain → (before now next : List ℕ)
      → IsStepAdded form naming events lines (get_or chain k 0) (get_or chain place 0) now next → Follows k before now → Follows (place + 1 - 1) before next
  follows_more k place is lt before now next s old = record {
    all = λ rest steps.
        let here : place + 1 - 1 ≡ k + 1 = omega arith in
        let behind = subst (λ (m : ℕ). AreSteps form naming events lines (drop m chain) rest) here steps in
        let second = subst (λ (m : ℕ). At events (get_or chain m 0) s.b) is s.second in
        let line = step_line form naming s.link (text_at lines (get_or chain (k + 1) 0)) s.b in
        let (all, are, e) = old.all (line ++ rest) (step_front k (omega (arith, is, lt)) s.a s.b s.link s.first second s.by rest behind) in
        let added : next ≡ now ++ line =
        s.added ∙ ap (λ (m : ℕ). now ++ step_line form naming s.link (text_at lines (get_or chain m 0)) s.b) is in
        (all, are, e ∙ sym (append_assoc now line rest) ∙ ap (λ (t : List ℕ). t ++ rest) (sym added));
  }

  pub follows_all : (k : ℕ) → k + 1 ≡ length chain → (before now : List ℕ) → Follows k before now → AreStepsAdded form naming events lines chain before now
  follows_all k e before now old =
      let (steps, are, same) = old.all [] (steps_end k e) in
      record { steps = steps; are = are; added = sym (append-nil now) ∙ sym same }

-- the positions of a chain are those of events
pub chain-within : {events : List Event} {i j : ℕ} {chain : List ℕ} → IsChain (Precedes events) i j chain → (k place : ℕ) → place ≡ k + 1 → place < length chain
    → (get_or chain k 0 < length events) × (get_or chain place 0 < length events) × Precedes events (get_or chain k 0) (get_or chain place 0)
chain-within {events} {chain = chain} c k place is lt =
    let p : Precedes events (get_or chain k 0) (get_or chain place 0) =
    subst (λ (m : ℕ). Precedes events (get_or chain k 0) (get_or chain m 0)) (sym is) (chain-step c k (omega (arith, is, lt))) in
    let after = Precedes-forward p in
    let within = precedes_within p in
    (omega arith, within, p)

-- ---- what is said

module _ (form : Form) (naming : Naming) (events : List Event) (lines : List Line) (i j : ℕ) (a b : Event) (at : At events i a) (there : At events j b) where
  pub neither_added : (x y : Event) (r : Bool) → (IsTrue r ↔ Conflict x y) → At events i x → At events j y → r ≡ false → a.thread ≢ b.thread
      → (HappensBefore events i j → ⊥) → (before after : List ℕ) → after ≡ before ++ neither_line → IsWhyAdded form naming events lines i j a b before after
  neither_added x y r says at' there' unset apart unordered before after e = record {
    why = neither_line;
    is = neither apart unordered no_race;
    added = e;
  }
    where
      no_race : Races events i j → ⊥
      no_race h =
          let one : h.a ≡ x = At-one h.first at' in
          let other : h.b ≡ y = At-one h.second there' in
          let c = subst (λ (z : Event). Conflict x z) other (subst (λ (z : Event). Conflict z h.b) one h.conflict) in
          true≢false (sym (says.1 c) ∙ unset)

  pub race_added : (x y : Event) (r : Bool) → (IsTrue r ↔ Conflict x y) → At events i x → At events j y → i < j → r ≡ true
      → (HappensBefore events i j → ⊥) → (held others : List ℕ) → AreHeld events x.thread i held → AreHeld events y.thread j others
      → (before between after : List ℕ) → between ≡ before ++ race_line form naming x → after ≡ between ++ held_line naming x.line held y.line others
      → IsWhyAdded form naming events lines i j a b before after
  race_added x y r says at' there' lt set unordered held others h k before between after e f =
      let one : x ≡ a = At-one at' at in
      let other : y ≡ b = At-one there' there in
      let conflict = subst (λ (z : Event). Conflict a z) other (subst (λ (z : Event). Conflict z y) one (says.0 set)) in
      record {
        why = race_line form naming a ++ held_line naming a.line held b.line others;
        is = race (record { a = a; b = b; earlier = lt; first = at; second = there; conflict = conflict; unordered = unordered })
            (subst (λ (z : Event). AreHeld events z.thread i held) one h) (subst (λ (z : Event). AreHeld events z.thread j others) other k);
        added = f ∙ ap (λ (t : List ℕ). t ++ held_line naming x.line held y.line others) e
            ∙ append_assoc before (race_line form naming x) (held_line naming x.line held y.line others)
            ∙ ap (λ (z : Event). before ++ (race_line form naming z ++ held_line naming z.line held y.line others)) one
            ∙ ap (λ (z : Event). before ++ (race_line form naming a ++ held_line naming a.line held z.line others)) other;
      }

  pub ordered_added : (x y : Event) → At events i x → At events j y → a.thread ≢ b.thread → (chain read : List ℕ) → IsTold (Precedes events) i j chain
      → read ≡ chain → (before between after : List ℕ) → between ≡ before ++ order_line x.line y.line
      → AreStepsAdded form naming events lines read between after → IsWhyAdded form naming events lines i j a b before after
  ordered_added x y at' there' apart chain read told same before between after e s =
      let one : x ≡ a = At-one at' at in
      let other : y ≡ b = At-one there' there in
      record {
        why = order_line a.line b.line ++ s.steps;
        is = ordered apart told (subst (λ (l : List ℕ). AreSteps form naming events lines l s.steps) same s.are);
        added = s.added ∙ ap (λ (t : List ℕ). t ++ s.steps) e ∙ append_assoc before (order_line x.line y.line) s.steps
            ∙ ap (λ (z : Event). before ++ (order_line z.line y.line ++ s.steps)) one
            ∙ ap (λ (z : Event). before ++ (order_line a.line z.line ++ s.steps)) other;
      }

  pub one_thread_added : (x y : Event) → At events i x → At events j y → x.thread ≡ y.thread → (before after : List ℕ)
      → after ≡ before ++ one_thread_line naming x.thread → IsWhyAdded form naming events lines i j a b before after
  one_thread_added x y at' there' same before after e =
      let one : x ≡ a = At-one at' at in
      let other : y ≡ b = At-one there' there in
      record {
        why = one_thread_line naming a.thread;
        is = one_thread (ap (λ (z : Event). z.thread) (sym one) ∙ same ∙ ap (λ (z : Event). z.thread) other);
        added = e ∙ ap (λ (z : Event). before ++ one_thread_line naming z.thread) one;
      }

  pub two_threads : (x y : Event) → At events i x → At events j y → x.thread ≢ y.thread → a.thread ≢ b.thread
  two_threads x y at' there' apart same =
      let one : x ≡ a = At-one at' at in
      let other : y ≡ b = At-one there' there in
      apart (ap (λ (z : Event). z.thread) one ∙ same ∙ ap (λ (z : Event). z.thread) (sym other))

  -- both events are added before it
  pub shown_before : (x y : Event) → At events i x → At events j y → (before one two after : List ℕ)
      → one ≡ before ++ event_line form naming (text_at lines i) x → two ≡ one ++ event_line form naming (text_at lines j) y
      → IsWhyAdded form naming events lines i j a b two after
      → IsWhyAdded form naming events lines i j a b
      ((before ++ event_line form naming (text_at lines i) a) ++ event_line form naming (text_at lines j) b) after
  shown_before x y at' there' before one two after e f w =
      let first : x ≡ a = At-one at' at in
      let second : y ≡ b = At-one there' there in
      let whole : two ≡ (before ++ event_line form naming (text_at lines i) a) ++ event_line form naming (text_at lines j) b =
      f ∙ ap (λ (t : List ℕ). t ++ event_line form naming (text_at lines j) y) e
      ∙ ap (λ (z : Event). (before ++ event_line form naming (text_at lines i) z) ++ event_line form naming (text_at lines j) y) first
      ∙ ap (λ (z : Event). (before ++ event_line form naming (text_at lines i) a) ++ event_line form naming (text_at lines j) z) second in
      subst (λ (t : List ℕ). IsWhyAdded form naming events lines i j a b t after) whole w

-- an option that is one
pub match_some : {X : Type 0} (A : Type 0) (B : X → Type 0) (o : Option X) (x : X) → o ≡ Some x → MatchOption o A B → B x
match_some A B o x e m = subst (λ p. MatchOption p A B) e m

pub match_none : {X : Type 0} (A : Type 0) (B : X → Type 0) (o : Option X) → o ≡ None → MatchOption o A B → A
match_none A B o e m = subst (λ p. MatchOption p A B) e m

-- the lists of locks, as they are read
pub held_same : (naming : Naming) (before after : List ℕ) (first second : ℕ) (held held' others others' : List ℕ)
    → after ≡ before ++ held_line naming first held second others → held ≡ held' → others ≡ others'
    → after ≡ before ++ held_line naming first held' second others'
held_same naming before after first second held held' others others' e f g =
    e ∙ ap (λ (l : List ℕ). before ++ held_line naming first l second others) f
    ∙ ap (λ (l : List ℕ). before ++ held_line naming first held' second l) g

-- the line of an event, as it is read
pub event_same : (form : Form) (naming : Naming) (events : List Event) (position : ℕ) (a x : Event) (line text before after : List ℕ) → At events position a
    → At events position x → line ≡ text → after ≡ before ++ event_line form naming line x → after ≡ before ++ event_line form naming text a
event_same form naming events position a x line text before after at at' same e =
    e ∙ ap (λ (l : List ℕ). before ++ event_line form naming l x) same
    ∙ ap (λ (z : Event). before ++ event_line form naming text z) (At-one at' at)

-- the line of one step, as it is read
pub step_added : (form : Form) (naming : Naming) (events : List Event) (lines : List Line) (i j : ℕ) (a b : Event) (link : Link) (line before after : List ℕ)
    → after ≡ before ++ step_line form naming link line b → line ≡ text_at lines j → At events i a → At events j b → IsBy a b link
    → IsStepAdded form naming events lines i j before after
step_added form naming events lines i j a b link line before after e same at there by = record {
  a = a;
  b = b;
  link = link;
  first = at;
  second = there;
  by = by;
  added = e ∙ ap (λ (l : List ℕ). before ++ step_line form naming link l b) same;
}
