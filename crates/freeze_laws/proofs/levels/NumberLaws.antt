-- the laws of the transitions, of the sync word as a number
use Rattle.std.{proofs.Common.{ap, arith, refl, subst, sym, true, ℕ, ◌+◌, ◌<◌, ◌≡◌}, specs.Prelude.{None, Option, Some, if◌then◌else◌, nat_lt}}
use Rattle.finite_sums.specs.Sums.{total, update}
use Rattle.percpu_rwsem.{proofs.SyncWords.unpack_pack, specs.{Graces.started, SyncWords.{emptied_state, entered_state, is_queued, on_callback}}}
use Rattle.percpu_rwsem.specs.{SyncWords.{on_claim, on_enter, on_exit, pack, unpack}, declared.sync_word.{GpState.GpState, SyncWord.SyncWord}}
use Rattle.freeze_laws.{proofs.levels.TransitionLaws.{claims_defined, enters}, specs.levels.Changes.{Leaves, put_by, role_entered, role_found}}
use Rattle.freeze_laws.specs.levels.{Changes.{state_found, state_found_in, transition, transition_of}, Numbers.{CanGoOn, TransitionsAreAlwaysDefined}}
use Rattle.freeze_laws.specs.levels.{Numbers.TransitionsAreDefined, Roles.{Claimed, Entered, Out, Past, Ready, SyncHolds, SyncNumberHolds, SyncRole}}
use Rattle.freeze_laws.specs.levels.Roles.{entered}
use Rattle.freeze_laws.proofs.levels.EventLaws

puts : (P : SyncWord → Type 0) (o : Option SyncWord) → Leaves o P → (put : ℕ) × (put_by o ≡ Some put)
puts P None h = absurd h
puts P (Some w) h = (pack w, refl)

-- what holds of the word that a transition makes, of the number that it puts
put_holds : (P : SyncWord → Type 0) (tasks block full : ℕ) (section : ℕ → ℕ) (at : ℕ → SyncRole) (o : Option SyncWord) (put : ℕ) →
    Leaves o (λ w. P w × SyncHolds tasks w block full section at) → put_by o ≡ Some put →
    (new : SyncNumberHolds tasks put block full section at) × P new.word
put_holds P tasks block full section at None put h e = absurd h
put_holds P tasks block full section at (Some w) put h e =
    let p : pack w ≡ put = cc in
    subst (λ n. (new : SyncNumberHolds tasks n block full section at) × P new.word) p
    (record { word = w; packed = unpack_pack w record { fits = h.1.lawful; few = omega (arith, h.1.once) }; holds = h.1 }, h.0)

put_from : (o : Option SyncWord) (put : ℕ) → put_by o ≡ Some put → (w : SyncWord) × (o ≡ Some w)
put_from o put e = grind arith

pub state_is : (n : ℕ) (w : SyncWord) (s : GpState) → unpack n ≡ Some w → state_found n ≡ Some s → w.state ≡ s
state_is n w s e h = let f : state_found n ≡ Some w.state = ap state_found_in e in cc

module _ (tasks sync block full : ℕ) (section : ℕ → ℕ) (at : ℕ → SyncRole) (level : SyncNumberHolds tasks sync block full section at) where
  can_go_on : (on : SyncWord → Option SyncWord) (P : SyncWord → Type 0) → Leaves (on level.word) P → CanGoOn on sync
  can_go_on on P h = subst (λ o. (put : ℕ) × (transition_of on o ≡ Some put)) (sym level.packed) (puts P (on level.word) h)

  -- the compare-exchange that found what was loaded
  pub exchanged : (on : SyncWord → Option SyncWord) (P : SyncWord → Type 0) (block' full' : ℕ) (at' : ℕ → SyncRole) →
      Leaves (on level.word) (λ w. P w × SyncHolds tasks w block' full' section at') →
      (put : ℕ) → transition on sync ≡ Some put → (new : SyncNumberHolds tasks put block' full' section at') × P new.word
  exchanged on P block' full' at' h put e = put_holds P tasks block' full' section at' (on level.word) put h
      (subst (λ o. transition_of on o ≡ Some put) level.packed e)

  -- a step that leaves the word
  pub unchanged : (block' full' : ℕ) (section' : ℕ → ℕ) (at' : ℕ → SyncRole) →
      (SyncHolds tasks level.word block full section at → SyncHolds tasks level.word block' full' section' at') →
      SyncNumberHolds tasks sync block' full' section' at'
  unchanged block' full' section' at' f = record { word = level.word; packed = level.packed; holds = f level.holds }

  none_entered : total tasks (λ x. entered (at x)) + full ≡ 0 → level.word.count ≡ 0
  none_entered none = omega (arith, level.holds.count)

  pub goes_on : TransitionsAreDefined tasks sync full at
  goes_on = record {
    enters = λ none. can_go_on on_enter (λ w. Unit {0})
        (subst (λ o. Leaves o (λ w. Unit {0}))
        (sym (enters tasks level.word.state level.word.taken level.word.count (none_entered none) level.holds.lawful).puts) tt);
    passes = λ t lt here. can_go_on on_callback _ (EventLaws.pass_keeps tasks level.word block full section at level.holds t lt here);
    exits = λ t lt here. can_go_on on_exit _ (EventLaws.exit_keeps tasks level.word block full section at level.holds t lt here);
    calls = λ t lt here. can_go_on on_callback _ (EventLaws.call_keeps tasks level.word block full section at level.holds t lt here);
  }

  module _ (t : ℕ) (lt : t < tasks) (put : ℕ) where
    pub enters_exchanged : at t ≡ Out → total tasks (λ x. entered (at x)) + full ≡ 0 → transition on_enter sync ≡ Some put →
        (new : SyncNumberHolds tasks put block full section (update at t (role_found tasks (state_found sync)))) ×
        (new.word.state ≡ entered_state level.word.state)
    enters_exchanged out none e =
        let r : role_entered tasks level.word.state ≡ role_found tasks (state_found sync) =
        sym (ap (λ o. role_found tasks (state_found_in o)) level.packed) in
        subst (λ q. (new : SyncNumberHolds tasks put block full section (update at t q)) ×
        (new.word.state ≡ entered_state level.word.state)) r
        (exchanged on_enter (λ w. w.state ≡ entered_state level.word.state) block full (update at t (role_entered tasks level.word.state))
        (EventLaws.enter_keeps tasks level.word block full section at level.holds t lt out (none_entered none)) put e)

    -- the exchange of a writer past its grace period
    pub passes_exchanged : at t ≡ Past → transition on_callback sync ≡ Some put →
        (new : SyncNumberHolds tasks put block full section (update at t Entered)) × (new.word.state ≡ GpState.Passed)
    passes_exchanged here e = exchanged on_callback (λ w. w.state ≡ GpState.Passed) block full (update at t Entered)
        (EventLaws.pass_keeps tasks level.word block full section at level.holds t lt here) put e

    pub exits_exchanged : at t ≡ Entered → transition on_exit sync ≡ Some put →
        (new : SyncNumberHolds tasks put block full section (update at t Out)) × ((new.word.count ≡ 0) × (is_queued new.word.state ≡ true))
    exits_exchanged here e = exchanged on_exit (λ w. (w.count ≡ 0) × (is_queued w.state ≡ true)) block full (update at t Out)
        (EventLaws.exit_keeps tasks level.word block full section at level.holds t lt here) put e

    pub claims_exchanged : at t ≡ Out → transition on_claim sync ≡ Some put →
        (new : SyncNumberHolds tasks put block full section (update at t (Claimed (started tasks)))) × (new.word.state ≡ level.word.state)
    claims_exchanged here e =
        let d = put_from (on_claim level.word) put (subst (λ o. transition_of on_claim o ≡ Some put) level.packed e) in
        let q = claims_defined level.word.state level.word.taken level.word.count d.0 d.1 in
        exchanged on_claim (λ w. w.state ≡ level.word.state) block full (update at t (Claimed (started tasks)))
        (EventLaws.claim_keeps tasks level.word block full section at level.holds t lt here q.0 q.1) put e

    -- the exchange of a callback past its grace period
    pub calls_exchanged : at t ≡ Ready → transition on_callback sync ≡ Some put →
        (new : SyncNumberHolds tasks put block full section (update at t Out)) ×
        (new.word.state ≡ (if nat_lt 0 level.word.count then GpState.Passed else emptied_state level.word.state))
    calls_exchanged here e =
        exchanged on_callback (λ w. w.state ≡ (if nat_lt 0 level.word.count then GpState.Passed else emptied_state level.word.state)) block full
        (update at t Out)
        (EventLaws.call_keeps tasks level.word block full section at level.holds t lt here) put e

pub always_goes_on : TransitionsAreAlwaysDefined
always_goes_on tasks sync block full section at level = goes_on tasks sync block full section at level
