-- What leads to an event.
use Rattle.std.proofs.Common.{ℕ, ◌<◌, List, inl, inr, refl, subst, sym, arith}
use Rattle.lrc_races_trace.specs.declared.event.Event.{Event}
use Rattle.lrc_races_trace.specs.Order.{HappensBefore, base, further}
use Rattle.lrc_races_trace.proofs.HappensBefore.{Precedes-forward, forward}
use Rattle.lrc_races_sure.specs.Leading.{LeadsOn, ordered, read, LeadsTo, one, more, Leads, IsByWay}

pub on-forward : {events : List Event} {i j : ℕ} → LeadsOn events i j → i < j
on-forward (ordered p) = Precedes-forward p
on-forward (read at is last) = last.before

pub to-forward : {events : List Event} {i j : ℕ} → LeadsTo events i j → i < j
to-forward (one s) = on-forward s
to-forward (more h s) = let a = to-forward h in let b = on-forward s in omega arith

pub to-transitive : {events : List Event} {i j k : ℕ} → LeadsTo events i j → LeadsTo events j k → LeadsTo events i k
to-transitive h (one s) = more h s
to-transitive h (more l s) = more (to-transitive h l) s

pub to-ordered : {events : List Event} {i j : ℕ} → HappensBefore events i j → LeadsTo events i j
to-ordered (base p) = one (ordered p)
to-ordered (further h p) = more (to-ordered h) (ordered p)

module _ {events : List Event} where
  -- what leads to an event that leads to another leads to that
  pub leads-extends : {i j k : ℕ} → LeadsTo events i j → Leads events j k → LeadsTo events i k
  leads-extends {i} {j} {k} h (inl same) = subst (λ m. LeadsTo events i m) same h
  leads-extends h (inr l) = to-transitive h l

  pub leads-further : {i j k : ℕ} → Leads events i j → LeadsTo events j k → LeadsTo events i k
  leads-further {i} {j} {k} (inl same) h = subst (λ m. LeadsTo events m k) (sym same) h
  leads-further (inr l) h = to-transitive l h

  pub way-forward : {i j : ℕ} → IsByWay events i j → i < j
  way-forward w =
      let lt = forward w.before in
      elim w.leads [
        | inl same ↦ omega arith
        | inr h ↦ let less = to-forward h in omega arith
      ]

  -- what happens before an event is on the way to it
  pub way-ordered : {i j : ℕ} → HappensBefore events i j → IsByWay events i j
  way-ordered {i} h = record { through = i; leads = inl refl; before = h }

  -- what leads to an event on the way is on the way
  pub way-led : {i k j : ℕ} → LeadsTo events i k → IsByWay events k j → IsByWay events i j
  way-led h w = record { through = w.through; leads = inr (leads-extends h w.leads); before = w.before }
