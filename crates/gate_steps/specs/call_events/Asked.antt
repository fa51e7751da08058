-- What a call has asked of the file system that was granted, or refused.
use Rattle.std.specs.Prelude.{◌≡◌, ◌≤◌, ◌⊎◌, ℕ, ◌==◌, ◌||◌, Bool, true, false, Ok, Err, List, [], ◌∷◌, ◌++◌}
use Rattle.access_model.specs.declared.actions.Action.{Action, TheVariants.{Stage as StageAction}}
use Rattle.access_model.specs.declared.errors.GateError.{GateError, TheVariants.{Hook}}
use Rattle.freeze_levels.specs.declared.hooks.HookCall.{HookCall, TheVariants.{Sync as SyncCall, FreezeFs as FreezeCall, KeepWaiting as KeepWaitingCall}}
use Rattle.gate_steps.specs.{Seating.{DealtNumbers}, call_events.Asking.{Ask}}

-- a hook that was asked at this moment, and has agreed
abbrev pub agreed : HookCall → DealtNumbers → Ask
agreed call at = record { call = call; at = at; answer = Ok tt }

-- this hook was asked once, and has agreed
abbrev pub OnceAsked : HookCall → List Ask → Type 0
OnceAsked call asks = (at : DealtNumbers) × (asks ≡ agreed call at ∷ [])

-- none was asked, or this one once, which has agreed
abbrev pub AtMostAsked : HookCall → List Ask → Type 0
AtMostAsked call asks = (asks ≡ []) ⊎ OnceAsked call asks

-- `keep_waiting` was asked of one of these levels, and has agreed
abbrev pub HasWaited : ℕ → ℕ → Ask → Type 0
HasWaited lowest highest a =
    (level : ℕ) × (at : DealtNumbers) × (lowest ≤ level) × (level ≤ highest) × (a ≡ agreed (KeepWaitingCall level) at)

-- nothing but that was asked, any number of times
abbrev pub OnlyWaited : ℕ → ℕ → List Ask → Type 0
OnlyWaited lowest highest [] = Unit {0}
OnlyWaited lowest highest (a ∷ earlier) = HasWaited lowest highest a × OnlyWaited lowest highest earlier

-- A freeze that has not asked for `sync` yet has asked at most whether to wait, at the levels 1 and 2, and that was agreed each time.
abbrev pub AskedBeforeSync : List Ask → Type 0
AskedBeforeSync asks = OnlyWaited 1 2 asks

-- `sync` was asked once, and has agreed; beside it only whether to wait, at the levels 1 and 2 before it and at level 3 after it, and that was
-- agreed each time.
abbrev pub AskedSinceSync : List Ask → Type 0
AskedSinceSync asks = (first : DealtNumbers) × (later earlier : List Ask) × (asks ≡ later ++ (agreed SyncCall first ∷ earlier))
    × OnlyWaited 3 3 later × AskedBeforeSync earlier

-- `sync` was asked once, and then `freeze_fs` once, as the last one, and both have agreed; beside them only whether to wait
abbrev pub BothAsked : List Ask → Type 0
BothAsked asks = (last : DealtNumbers) × (before : List Ask) × (asks ≡ agreed FreezeCall last ∷ before) × AskedSinceSync before

-- whether stage 3 was stored
abbrev pub is_third_stage : Action → Bool
is_third_stage (StageAction stage) = stage == 3
is_third_stage action = false

abbrev pub stored_third_stage : List Action → Bool
stored_third_stage [] = false
stored_third_stage (action ∷ earlier) = is_third_stage action || stored_third_stage earlier

-- What a freeze has asked that was granted: both where it has stored stage 3, and else, of a superblock that is read-only or of one that is
-- frozen already, none. Where it has found somebody inside a level, it has asked besides whether to wait, and each time that was agreed.
abbrev pub AskedByFreeze : List Action → List Ask → Type 0
AskedByFreeze added asks =
    ((stored_third_stage added ≡ true) × BothAsked asks) ⊎ ((stored_third_stage added ≡ false) × (asks ≡ []))

-- a hook that was asked at this moment, and has failed with this code
abbrev pub failed : HookCall → ℕ → DealtNumbers → Ask
failed call code at = record { call = call; at = at; answer = Err code }

-- this hook was asked once, and has failed with this code
abbrev pub OnceFailed : HookCall → ℕ → List Ask → Type 0
OnceFailed call code asks = (at : DealtNumbers) × (asks ≡ failed call code at ∷ [])

-- Before `sync` has agreed, the last hook that a freeze has asked has failed with this code: `sync`, or `keep_waiting` at level 1 or 2.
abbrev pub FailedUpToSync : ℕ → List Ask → Type 0
FailedUpToSync code asks = (call : HookCall) × (last : DealtNumbers) × (before : List Ask) × (asks ≡ failed call code last ∷ before)
    × ((call ≡ SyncCall) ⊎ ((call ≡ KeepWaitingCall 1) ⊎ (call ≡ KeepWaitingCall 2))) × AskedBeforeSync before

-- And after it has: `freeze_fs`, or `keep_waiting` at level 3.
abbrev pub FailedSinceSync : ℕ → List Ask → Type 0
FailedSinceSync code asks = (call : HookCall) × (last : DealtNumbers) × (before : List Ask) × (asks ≡ failed call code last ∷ before)
    × ((call ≡ FreezeCall) ⊎ (call ≡ KeepWaitingCall 3)) × AskedSinceSync before

-- What a call has asked that was refused, of those that ask one hook: by a hook's code this one, which has failed with it; else none.
abbrev pub AskedByRefused : HookCall → GateError → List Ask → Type 0
AskedByRefused call (Hook code) asks = OnceFailed call code asks
AskedByRefused call refusal asks = asks ≡ []

-- What a freeze has asked that was refused: by a hook's code one that has failed with it, as the last one, and all before it have agreed: where
-- it has stored stage 3, `freeze_fs` or `keep_waiting` after `sync`, and else `sync` or `keep_waiting`; by another refusal none.
abbrev pub AskedByRefusedFreeze : GateError → List Action → List Ask → Type 0
AskedByRefusedFreeze (Hook code) added asks =
    ((stored_third_stage added ≡ true) × FailedSinceSync code asks) ⊎ ((stored_third_stage added ≡ false) × FailedUpToSync code asks)
AskedByRefusedFreeze refusal added asks = asks ≡ []
