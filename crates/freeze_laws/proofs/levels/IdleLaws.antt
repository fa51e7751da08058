-- a state becomes GP_IDLE only by a callback
use Rattle.std.{proofs.Common.{ap, false, refl, sym, true, ℕ, ◌<◌, ◌∙◌, ◌≡◌}, specs.Prelude.Some}
use Rattle.percpu_rwsem.specs.{SyncWords.is_queued, declared.sync_word.GpState.GpState}
use Rattle.freeze_laws.{proofs.levels.TransitionLaws.{calls_idle, entered_not_idle}, specs.levels.Changes.{state_found, state_found_in}}
use Rattle.freeze_laws.specs.levels.Events.{Calls, Claims, Enters, Exits, FindsIdle, Happens, Looks, LooksClaimed, Passes, Stays, SyncEvent}
use Rattle.freeze_laws.specs.levels.{Events.{SyncLevel, SyncLevelHolds, Thaws}, Laws.OnlyCallbacksIdle, Roles.Ready}
use Rattle.freeze_laws.proofs.levels.EventLaws
use Rattle.freeze_laws.proofs.levels.NumberLaws

found_is : (tasks : ℕ) (l : SyncLevel) → (right : SyncLevelHolds tasks l) → state_found l.sync ≡ Some right.level.word.state
found_is tasks l right = ap state_found_in right.level.packed

-- of all kinds of step only a callback's transition leaves GP_IDLE where it was not
event_idle : (tasks t : ℕ) → t < tasks → (l l' : SyncLevel) (k : SyncEvent) → SyncLevelHolds tasks l → Happens tasks t l l' k →
    (state_found l.sync ≡ Some GpState.Idle → ⊥) → state_found l'.sync ≡ Some GpState.Idle →
    (k ≡ Calls) × (l.at t ≡ Ready) × (state_found l.sync ≡ Some GpState.Exit)
event_idle tasks t lt l l' FindsIdle right h ne i = absurd (ne (sym (ap (λ (x : SyncLevel). state_found x.sync) h.3) ∙ i))
event_idle tasks t lt l l' Looks right h ne i = absurd (ne (sym (ap (λ (x : SyncLevel). state_found x.sync) h.2) ∙ i))
event_idle tasks t lt l l' LooksClaimed right h ne i = absurd (ne (sym (ap (λ (x : SyncLevel). state_found x.sync) h.2) ∙ i))
event_idle tasks t lt l l' Thaws right h ne i = absurd (ne (sym (ap (λ (x : SyncLevel). state_found x.sync) h.2) ∙ i))
event_idle tasks t lt l l' Stays right h ne i = absurd (ne (sym (ap (λ (x : SyncLevel). state_found x.sync) h) ∙ i))
event_idle tasks t lt l l' Enters right h ne i =
    let p = NumberLaws.enters_exchanged tasks l.sync l.block l.full l.section l.at right.level t lt l'.sync h.0 h.1 h.2 in
    absurd (entered_not_idle right.level.word.state (sym p.1 ∙ NumberLaws.state_is l'.sync p.0.word GpState.Idle p.0.packed i))
event_idle tasks t lt l l' Passes right h ne i =
    let p = NumberLaws.passes_exchanged tasks l.sync l.block l.full l.section l.at right.level t lt l'.sync h.0 h.1 in
    let e : GpState.Passed ≡ GpState.Idle = sym p.1 ∙ NumberLaws.state_is l'.sync p.0.word GpState.Idle p.0.packed i in cc
event_idle tasks t lt l l' Exits right h ne i =
    let p = NumberLaws.exits_exchanged tasks l.sync l.block l.full l.section l.at right.level t lt l'.sync h.0 h.1 in
    let e : false ≡ true = sym (ap is_queued (NumberLaws.state_is l'.sync p.0.word GpState.Idle p.0.packed i)) ∙ p.1.1 in cc
event_idle tasks t lt l l' Claims right h ne i =
    let p = NumberLaws.claims_exchanged tasks l.sync l.block l.full l.section l.at right.level t lt l'.sync h.0 h.1 in
    absurd (ne (found_is tasks l right ∙ ap (λ (x : GpState). Some x) (sym p.1 ∙ NumberLaws.state_is l'.sync p.0.word GpState.Idle p.0.packed i)))
event_idle tasks t lt l l' Calls right h ne i =
    let p = NumberLaws.calls_exchanged tasks l.sync l.block l.full l.section l.at right.level t lt l'.sync h.0 h.1 in
    let e = EventLaws.ready_finds tasks right.level.word l.block l.full l.section l.at right.level.holds t lt h.0 in
    let s : right.level.word.state ≡ GpState.Exit = calls_idle right.level.word.state right.level.word.count e.queued right.level.holds.once
    (sym p.1 ∙ NumberLaws.state_is l'.sync p.0.word GpState.Idle p.0.packed i) in
    (refl, h.0, found_is tasks l right ∙ ap (λ (x : GpState). Some x) s)
event_idle tasks t lt l l' other right h ne i = absurd (ne (sym (ap (λ (x : SyncLevel). state_found x.sync) h.1) ∙ i))

pub only_callbacks_idle : OnlyCallbacksIdle
only_callbacks_idle tasks l l' right s ne i = event_idle tasks s.task s.there l l' s.kind right s.happens ne i
