-- Sets of writes that are the same, and what is kept of them.
use Rattle.std.proofs.Common.{◌≡◌, ℕ, ◌⊎◌, List, [], arith, Bool, true, false, inl, inr, refl, sym, subst, ◌∙◌}
use Rattle.std.specs.Prelude.{◌&&◌, ◌||◌}
use Rattle.lrc_lazy_known.specs.declared.known.Last.{Last}
use Rattle.lrc_lazy_known.specs.declared.known.Last.TheVariants.{Nothing, Value, Unordered}
use Rattle.lrc_lazy_known.specs.declared.known.Known.{Known}
use Rattle.lrc_lazy_known.specs.Word.{last_of, IsLastOf, IsLast, HasLast, Describes, IsSame}

pub or_and_parts : (a b c : Bool) → (a || (b && c)) ≡ true → (a ≡ true) ⊎ ((b ≡ true) × (c ≡ true))
or_and_parts true b c e = inl refl
or_and_parts false true true e = inr (refl, refl)
or_and_parts false true false e = cc
or_and_parts false false c e = cc

pub or_and_left : (a b c : Bool) → a ≡ true → (a || (b && c)) ≡ true
or_and_left true b c e = refl
or_and_left false b c e = cc

pub or_and_right : (a b c : Bool) → b ≡ true → c ≡ true → (a || (b && c)) ≡ true
or_and_right true b c e f = refl
or_and_right false true true e f = refl
or_and_right false true false e f = cc
or_and_right false false c e f = cc

-- both orders say the same of the members
module _ (before after : ℕ → ℕ → Type 0) (A B : ℕ → ℕ → Type 0) (to : (i v : ℕ) → A i v → B i v) (from : (i v : ℕ) → B i v → A i v)
    (on : (i k u v : ℕ) → A i u → A k v → before i k → after i k) (back : (i k u v : ℕ) → A i u → A k v → after i k → before i k) where
  pub last_of_moved : {i v : ℕ} → IsLastOf before A i v → IsLastOf after B i v
  last_of_moved {i} {v} l = record {
    written = to i v l.written;
    last = λ k u b. l.last k u (from k u b);
    chained = λ i k u v a b lt. on i k u v (from i u a) (from k v b) (l.chained i k u v (from i u a) (from k v b) lt);
  }

  pub last_moved : (x : Last) → IsLast before A x → IsLast after B x
  last_moved Nothing none = λ i v b. none i v (from i v b)
  last_moved (Value v) last = (last.0, last_of_moved last.1)
  last_moved Unordered un = λ chained. un (λ i k u v a b lt. back i k u v a b (chained i k u v (to i u a) (to k v b) lt))

module _ (before A B : ℕ → ℕ → Type 0) (to : (i v : ℕ) → A i v → B i v) (from : (i v : ℕ) → B i v → A i v) where
  pub last_of_same : {i v : ℕ} → IsLastOf before A i v → IsLastOf before B i v
  last_of_same l = last_of_moved before before A B to from (λ i k u v a b h. h) (λ i k u v a b h. h) l

  pub last_same : (x : Last) → IsLast before A x → IsLast before B x
  last_same x l = last_moved before before A B to from (λ i k u v a b h. h) (λ i k u v a b h. h) x l

  pub has_last_same : (S : ℕ → ℕ → Type 0) → HasLast before A S → HasLast before B S
  has_last_same S h = record { i = h.i; v = h.v; last = last_of_same h.last; has = h.has }

-- what is kept of the same sets, under an order that says the same of them
module _ (before after : ℕ → ℕ → Type 0) (known later : ℕ → ℕ → ℕ → Type 0)
    (to : (k i v : ℕ) → known k i v → later k i v) (from : (k i v : ℕ) → later k i v → known k i v)
    (on : (z k i m u v : ℕ) → known z i u → known k m v → before i m → after i m)
    (back : (z k i m u v : ℕ) → known z i u → known k m v → after i m → before i m) (word kept : List Known) where
  has_on : (k z : ℕ) → HasLast before (known z) (known k) → HasLast after (later z) (later k)
  has_on k z h = record {
    i = h.i;
    v = h.v;
    last = last_of_moved before after (known z) (later z) (to z) (from z) (λ i m u v. on z z i m u v) (λ i m u v. back z z i m u v) h.last;
    has = to k h.i h.v h.has;
  }

  has_back : (k z : ℕ) → HasLast after (later z) (later k) → HasLast before (known z) (known k)
  has_back k z h = record {
    i = h.i;
    v = h.v;
    last = last_of_moved after before (later z) (known z) (from z) (to z)
        (λ i m u v a b. back z z i m u v (from z i u a) (from z m v b)) (λ i m u v a b. on z z i m u v (from z i u a) (from z m v b)) h.last;
    has = from k h.i h.v h.has;
  }

  pub describes_moved : Describes before known word → IsSame word kept → Describes after later kept
  describes_moved d e = record {
    lasts = λ k. subst (λ x. IsLast after (later k) x) (sym (e.lasts k))
        (last_moved before after (known k) (later k) (to k) (from k) (λ i m u v. on k k i m u v) (λ i m u v. back k k i m u v) (last_of word k) (d.lasts k));
    values = λ k v. (
      λ c. let found = (d.values k v).0 ((e.values k v).0 c) in (found.0, to k found.0 v found.1),
      λ found. (e.values k v).1 ((d.values k v).1 (found.0, from k found.0 v found.1)),
    );
    above = λ k z. (
      λ t. has_on k z ((d.above k z).0 (sym (e.above k z) ∙ t)),
      λ h. e.above k z ∙ (d.above k z).1 (has_back k z h),
    );
  }

-- nothing was kept and nothing is known
pub describes_nothing : (before : ℕ → ℕ → Type 0) (known : ℕ → ℕ → ℕ → Type 0) → ((k i v : ℕ) → known k i v → ⊥) → Describes before known []
describes_nothing before known none = record {
  lasts = λ k i v h. none k i v h;
  values = λ k v. (λ c. absurd (omega (arith, c.1)), λ found. absurd (none k found.0 v found.1));
  above = λ k z. (λ e. cc, λ h. absurd (none k h.i h.v h.has));
}
