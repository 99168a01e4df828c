-- Tests of keys and of places, put together.
use Rattle.std.proofs.Common.{◌≡◌, ◌∙◌, ℕ, List, [], ◌∷◌, ◌++◌, Bool, true, false, refl, sym, subst, ap, inl, inr}
use Rattle.std.specs.Prelude.{◌↔◌, ◌⊎◌, ◌&&◌, not, IsTrue, Contains, Option, Some, None}
use Rattle.std.proofs.lemmas.Bool.{true≢false}
use Rattle.std.proofs.lemmas.Option.{same_Some}
use Rattle.lrc_races_trace.specs.declared.event.Event.{Event}
use Rattle.lrc_races_trace.specs.declared.event.Pair.{Pair}
use Rattle.lrc_races_trace.specs.Trace.{Accesses}
use Rattle.lrc_races_claims.specs.Firsts.{line_of}
use Rattle.lrc_races_claims.specs.declared.judging.Facts.{Facts}
use Rattle.lrc_races_claims.specs.declared.places.TwoPlaces.{TwoPlaces}
use Rattle.lrc_races_claims.proofs.Noting.{same_variable}
use Rattle.lrc_races_missed.specs.declared.key.Key.{Key}
use Rattle.lrc_races_missed.specs.declared.key.Key.TheVariants.{Places}
use Rattle.lrc_races_missed.specs.declared.variables.Racing.{Racing}
use Rattle.lrc_races_missed.specs.Locating.{IsMet, IsNew, IsNoted, missed, nameless, passed, turned}
use Rattle.lrc_races_missed.specs.Racings.{GivesRacing}

-- one of two things is so
pub one_is : {A B : Type 0} (one : Bool) → one ≡ true → (IsTrue one ↔ A) → IsTrue false ↔ ((A → ⊥) × (B → ⊥))
one_is one set test = (λ t. absurd (true≢false (sym t)), λ free. absurd (free.0 (test.0 set)))

-- the one is not, and so it is the other that decides
pub neither_is : {A B : Type 0} (one two : Bool) → one ≡ false → (IsTrue one ↔ A) → (IsTrue two ↔ B) → IsTrue (not two) ↔ ((A → ⊥) × (B → ⊥))
neither_is one true unset test test' = (λ t. absurd (true≢false (sym t)), λ free. absurd (free.1 (test'.0 refl)))
neither_is one false unset test test' = (
  λ t. (λ a. true≢false (sym (test.1 a) ∙ unset), λ b. true≢false (sym (test'.1 b))),
  λ free. refl,
)

-- the one is so, and the other not
pub one_alone : {B : Type 0} (one two : Bool) → (IsTrue two ↔ B) → IsTrue (one && not two) ↔ (IsTrue one × (B → ⊥))
one_alone true true test = (λ t. absurd (true≢false (sym t)), λ both. absurd (both.1 (test.0 refl)))
one_alone true false test = (λ t. (refl, λ b. true≢false (sym (test.1 b))), λ both. refl)
one_alone false two test = (λ t. absurd (true≢false (sym t)), λ both. absurd (true≢false (sym both.0)))

-- two places are new
pub stale : (met : List TwoPlaces) (keys : List Key) (both : TwoPlaces) → (IsNew met keys both → ⊥) → IsTrue false ↔ IsNew met keys both
stale met keys both old = (λ t. absurd (true≢false (sym t)), λ new. absurd (old new))

pub fresh : (met : List TwoPlaces) (keys : List Key) (both : TwoPlaces) (one two three four : Bool) → one ≡ false → two ≡ false → three ≡ false
    → (IsTrue one ↔ Contains met both) → (IsTrue two ↔ Contains met (turned both)) → (IsTrue three ↔ Contains keys (Places both.earlier both.later))
    → (IsTrue four ↔ Contains keys (Places both.later both.earlier)) → IsTrue (not four) ↔ IsNew met keys both
fresh met keys both one two three true e f g test test' test'' last =
    (λ t. absurd (true≢false (sym t)), λ new. absurd (new.unclaimed_crossed (last.0 refl)))
fresh met keys both one two three false e f g test test' test'' last = (
  λ t. record {
    straight = λ has. true≢false (sym (test.1 has) ∙ e);
    crossed = λ has. true≢false (sym (test'.1 has) ∙ f);
    unclaimed = λ has. true≢false (sym (test''.1 has) ∙ g);
    unclaimed_crossed = λ has. true≢false (sym (last.1 has));
  },
  λ new. refl,
)

-- a pair is looked at
pub nothing_noted : (keys : List Key) (pair : Pair) (met : List TwoPlaces) (old : List Pair) (found : Option TwoPlaces)
    → ((both : TwoPlaces) → found ≡ Some both → ⊥) → IsNoted keys pair met met old old found
nothing_noted keys pair met old None none = nameless refl refl
nothing_noted keys pair met old (Some both) none = absurd (none both refl)

pub looked_at : (keys : List Key) (pair : Pair) (before after : List TwoPlaces) (old new : List Pair) (found : Option TwoPlaces) (both : TwoPlaces)
    → found ≡ Some both → (IsNew before keys both × (new ≡ old ++ pair ∷ [])) ⊎ ((IsNew before keys both → ⊥) × (new ≡ old)) → IsMet both before after
    → IsNoted keys pair before after old new found
looked_at keys pair before after old new found both is (inl (fresh, e)) met =
    subst (λ (o : Option TwoPlaces). IsNoted keys pair before after old new o) (sym is) (missed fresh met e)
looked_at keys pair before after old new found both is (inr (old_ones, e)) met =
    subst (λ (o : Option TwoPlaces). IsNoted keys pair before after old new o) (sym is) (passed old_ones met e)

-- ---- a variable that races

no_racing : {X : Type 0} (x : X) → None ≡ Some x → ⊥
no_racing x e = let never : ⊥ = cc in never

pub racing_here : (variable line first : ℕ) (kept : Option ℕ) → kept ≡ Some first → first ≡ line → (other : Racing)
    → ((other.variable ≡ variable) × (other.line ≡ line) × (kept ≡ Some line)) ↔ (Some (record { variable = variable; line = line }) ≡ Some other)
racing_here variable line first kept is same other = (
  λ (e, f, g). sym (ap (λ (v : ℕ). Some (record { variable = v; line = other.line })) e ∙ ap (λ (l : ℕ). Some (record { variable = variable; line = l })) f),
  λ own.
      let e : record { variable = variable; line = line } ≡ other = same_Some (record { variable = variable; line = line }) other own in (
        sym (ap (λ (r : Racing). r.variable) e),
        sym (ap (λ (r : Racing). r.line) e),
        is ∙ ap Some same,
      ),
)

pub racing_elsewhere : (variable line first : ℕ) (kept : Option ℕ) → kept ≡ Some first → (first ≡ line → ⊥) → (other : Racing)
    → ((other.variable ≡ variable) × (other.line ≡ line) × (kept ≡ Some line)) ↔ (None ≡ Some other)
racing_elsewhere variable line first kept is apart other =
    (λ (e, f, g). absurd (apart (same_Some first line (sym is ∙ g))), λ own. absurd (no_racing other own))

pub racing_nowhere : (variable line : ℕ) (kept : Option ℕ) → kept ≡ None → (other : Racing)
    → ((other.variable ≡ variable) × (other.line ≡ line) × (kept ≡ Some line)) ↔ (None ≡ Some other)
racing_nowhere variable line kept is other = (λ (e, f, g). absurd (no_racing line (sym is ∙ g)), λ own. absurd (no_racing other own))

-- by an event that accesses it
pub gives_on : (facts : Facts) (is : Event) (variable : ℕ) (found : Option Racing) → Accesses is variable
    → ((other : Racing) → ((other.variable ≡ variable) × (other.line ≡ is.line) × (line_of facts.firsts.marked variable ≡ Some is.line)) ↔ (found ≡ Some other))
    → (racing : Racing) → GivesRacing facts is racing ↔ (found ≡ Some racing)
gives_on facts is variable found accesses test racing = (
  λ gives.
      let e : racing.variable ≡ variable = same_variable is variable racing.variable accesses gives.accesses in
      (test racing).0 (
        e,
        sym gives.on,
        subst (λ v. line_of facts.firsts.marked v ≡ Some is.line) e (gives.first ∙ ap Some (sym gives.on)),
      ),
  λ own.
      let (e, f, g) = (test racing).1 own in
      record {
        accesses = subst (λ v. Accesses is v) (sym e) accesses;
        on = sym f;
        first = subst (λ v. line_of facts.firsts.marked v ≡ Some racing.line) (sym e) (g ∙ ap Some (sym f));
      },
)

pub gives_none : (facts : Facts) (is : Event) → ((v : ℕ) → Accesses is v → ⊥) → (racing : Racing) → GivesRacing facts is racing ↔ (None ≡ Some racing)
gives_none facts is none racing = (λ gives. absurd (none racing.variable gives.accesses), λ own. absurd (no_racing racing own))
