-- Steps of reading that did not fail.
use Rattle.std.proofs.Common.{◌≡◌, ◌∙◌, ℕ, Bool, true, false, cond, List, Result, Ok, Err, refl, ap, subst}
use Rattle.lrc_wire.specs.declared.fault.WireFault.{WireFault}
use Rattle.lrc_wire.specs.Reading.{◌>>=◌, Field, tested}

-- the value of a step that did not fail
pub bind_ok : {A B : Type 0} (r : Result A WireFault) (f : A → Result B WireFault) (y : B) → (r >>= f) ≡ Ok y → (x : A) × (r ≡ Ok x) × (f x ≡ Ok y)
bind_ok (Ok x) f y e = (x, refl, e)
bind_ok (Err fault) f y e = absurd cc

-- a test that did not fail
pub guard_ok : {A : Type 0} (b : Bool) (fault : WireFault) (x y : A) → cond b (Ok x) (Err fault) ≡ Ok y → (b ≡ true) × (x ≡ y)
guard_ok true fault x y e = (refl, cc)
guard_ok false fault x y e = absurd cc

-- a test whose failure did not come
pub unless_ok : {A : Type 0} (b : Bool) (fault : WireFault) (r : Result A WireFault) (y : A) → cond b (Err fault) r ≡ Ok y → (b ≡ false) × (r ≡ Ok y)
unless_ok true fault r y e = absurd cc
unless_ok false fault r y e = (refl, e)

abbrev done : {A : Type 0} → A → Result A WireFault
done x = Ok x

pub ok_is : {A : Type 0} (x y : A) → done x ≡ done y → x ≡ y
ok_is x y e = cc

-- a tested field that was read passed its test
pub tested_ok : {A : Type 0} (test : A → Bool) (fault : WireFault) (field : Field A) (y : A × List ℕ) → tested test fault field ≡ Ok y → (field ≡ Ok y)
    × (test y.0 ≡ true)
unfolding tested
tested_ok {A} test fault field y e =
    let a = bind_ok field (λ x. cond (test x.0) (Ok x) (Err fault)) y e in
    let g = guard_ok (test a.0.0) fault a.0 y a.2 in
    (a.1 ∙ ap (λ x. Ok x) g.1, subst (λ (z : A × List ℕ). test z.0 ≡ true) g.1 g.0)

-- a field that is read and passes its test
pub tested_again : {A : Type 0} (test : A → Bool) (fault : WireFault) (field : Field A) (y : A × List ℕ) → field ≡ Ok y → test y.0 ≡ true
    → tested test fault field ≡ Ok y
unfolding tested
tested_again test fault field y e passes = rw (e, passes) refl
