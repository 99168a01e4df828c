-- What comes of threads that stand at places.
use Rattle.std.proofs.Common.{◌≡◌, ℕ, ◌+◌, ◌-◌, ◌<◌, ◌⊎◌, List, [], ◌∷◌, inl, inr, length, get_or, refl, sym, ap, ◌∙◌, subst, arith}
use Rattle.std.specs.Prelude.{Option, Some, None}
use Rattle.std.proofs.lemmas.List.{get_or_past}
use Rattle.std.proofs.lemmas.Option.{slice_get-get_or}
use Rattle.lrc_program.specs.declared.Statement.{Statement}
use Rattle.lrc_trace.specs.declared.act.Deed.{Deed}
use Rattle.lrc_exec.specs.declared.code.Instruction.{Instruction}
use Rattle.lrc_exec.specs.declared.spot.Flat.{Flat}
use Rattle.lrc_exec.specs.Flat.{rest_at, rests_from, IsSoundAt, where_it_fails, where_it_holds}
use Rattle.lrc_exec.specs.Meaning.{Thread, ends, first_act, next_of}
use Rattle.lrc_exec.specs.Spots.{IsFlat}
use Rattle.lrc_exec.proofs.Flat.{length-rests_from, rest_at-end, rest_at-instruction}
use Rattle.lrc_exec.specs.Follows.{Goes}
use Rattle.lrc_ranges.specs.declared.range.Range.{Range}
use Rattle.lrc_orders_reach.specs.declared.ahead.Ahead.{Ahead}
use Rattle.lrc_orders_reach.specs.declared.ahead.Follower.{Follower}
use Rattle.lrc_orders_reach.specs.declared.standing.Standing.{Standing}
use Rattle.lrc_orders_reach.specs.Standing.{IsPast, IsPut, IsStep, LeadsOn, Stands, StandsSome, setting_at}
use Rattle.lrc_orders_reach.proofs.Afterwards.{no_act_after, next_going}

-- at the end of the code, and past it, nothing is still to do
rest_past : (code : List Instruction) (place : ℕ) → length code < place → rest_at code place ≡ []
unfolding rest_at
rest_past code place past = get_or_past (rests_from ([] ∷ []) code) place [] (omega (arith, past, length-rests_from ([] ∷ []) code))

pub rest_none : (code : List Instruction) (place : ℕ) → (place ≡ 0) ⊎ (length code < place) → rest_at code place ≡ []
rest_none code place (inl at_end) = ap (rest_at code) at_end ∙ rest_at-end code
rest_none code place (inr past) = rest_past code place past

-- where nothing is still to do, nothing comes
nothing_comes : (flat : Flat) (me : ℕ) (standing : Standing) (before after : Thread) (deed : Deed) → rest_at flat.code.now standing.place ≡ []
    → Stands flat me standing before → Goes (next_of before) deed (Some after) → ⊥
nothing_comes flat me standing before after deed is stands goes =
    let next : next_of before ≡ ends = next_going before stands.among.going ∙ ap (first_act before) (stands.rest_is ∙ is) in
    no_act_after goes next after refl

pub no_step : (follower : Follower) (standing : Standing) → (standing.place ≡ 0) ⊎ (length follower.flat.code.now < standing.place)
    → IsStep follower standing None None
no_step follower standing where_is before after deed stands goes may =
    absurd (nothing_comes follower.flat follower.me standing before after deed (rest_none follower.flat.code.now standing.place where_is) stands goes)

-- a thread that has come to a place stands there
put_stands : (flat : Flat) (me place : ℕ) (names : Option (List Range)) (result : Option Standing) (rest : List Statement) (thread : Thread)
    → IsPut place names result → rest_at flat.code.now place ≡ rest → IsPast (setting_at flat me) rest names thread → StandsSome flat me result thread
put_stands flat me place None result rest thread put leads past = absurd past.values
put_stands flat me place (Some names) result rest thread put leads past =
    let stands : Stands flat me (record { place = place; names = names }) thread = record {
      rest_is = past.rest_is ∙ sym leads;
      among = record { setting_is = past.setting_is; size = past.size; values = past.values; going = past.going };
    } in
    subst (λ r. StandsSome flat me r thread) (sym put) stands

module _ (flat : Flat) (index : ℕ) (d : Instruction) (sound : IsFlat flat) (within : index < length flat.code.now) where
  pub sound_there : IsSoundAt flat.code.now index (get_or flat.code.now index d)
  sound_there = sound.sound index (get_or flat.code.now index d) (omega arith) (slice_get-get_or flat.code.now index d within)

  -- the statement there comes first
  pub rest_there : (place : ℕ) → place ≡ index + 1
      → rest_at flat.code.now place
      ≡ (get_or flat.code.now index d).statement.now ∷ rest_at flat.code.now (get_or flat.code.now index d).next
  rest_there place is =
      ap (rest_at flat.code.now) is
      ∙ rest_at-instruction flat.code.now index (get_or flat.code.now index d) (slice_get-get_or flat.code.now index d within) sound_there.next_below

-- what comes of the statement at a place stands at one of its two places
pub step_there : (follower : Follower) (standing : Standing) (index : ℕ) (own : Instruction) (ahead : Ahead) (first second : Option Standing)
    → IsSoundAt follower.flat.code.now index own
    → rest_at follower.flat.code.now standing.place ≡ own.statement.now ∷ rest_at follower.flat.code.now own.next
    → ((rest : List Statement) → LeadsOn follower own.statement.now rest standing.names ahead) → IsPut own.then ahead.holds first
    → IsPut own.otherwise ahead.fails second → IsStep follower standing first second
step_there follower standing index own ahead first second sound at leads then otherwise before after deed stands goes may =
    let flat = follower.flat in
    let rest = rest_at flat.code.now own.next in
    elim (leads rest before after deed (stands.rest_is ∙ at) stands.among goes may) [
      | inl waits ↦ inl waits
      | inr on ↦ inr (elim on [
        | inl met ↦
            inl (put_stands flat follower.me own.then ahead.holds first (where_it_holds own.statement.now rest) after then sound.then_leads met)
        | inr unmet ↦
            inr (put_stands flat follower.me own.otherwise ahead.fails second (where_it_fails own.statement.now rest) after otherwise sound.otherwise_leads unmet)
      ])
    ]
