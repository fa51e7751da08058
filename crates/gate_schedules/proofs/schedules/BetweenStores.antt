-- A freeze or a thaw is between its two stores just where its newest step is the first of them: what its role says, its trace says too.
use Rattle.gate_schedules.proofs.Prelude.{Bool, Config, DownWrite, DownWriteStep, Entry, Err, Fits, Fitting, Freeze, FreezeStep, GateError, Holding}
use Rattle.gate_schedules.proofs.Prelude.{HookAnswer, IsGood, Known, List, Next, None, Ok, Op, Option, Phase, Some, Steps, Thaw, ThawStep, Touch}
use Rattle.gate_schedules.proofs.Prelude.{Traced, UpWrite, UpWriteStep, View, WordName, Words, World, after_of, after_step, ap, arith, begin_of}
use Rattle.gate_schedules.proofs.Prelude.{cases_lt, down_write_next, each_updated, event_of, false, found_at, happens, held_of, holder_role_of}
use Rattle.gate_schedules.proofs.Prelude.{if◌then◌else◌, inl, inr, le-ltb, left, lt-ltb, map_next, next_of, phase_after, put, read, refl, step_of}
use Rattle.gate_schedules.proofs.Prelude.{subst, sym, total_updated, true, up_write_next, value_at, view_after, with_hook, words_after, ℕ, ◌<◌, ◌==◌}
use Rattle.gate_schedules.proofs.Prelude.{◌∙◌, ◌∷◌, ◌≡◌}
use Rattle.access_model.specs.Holders.{with_holder}
use Rattle.freeze_levels.{proofs.holder_laws.{HolderLaws.held_exactly, Words.held_word}, specs.{Freezes.{freeze_after, freeze_next}, Holders.word_of}}
use Rattle.freeze_levels.specs.{Thaws.thaw_next, declared.freezes.FreezeStep.TheVariants.Closes}
use Rattle.freeze_levels.specs.holder_laws.Roles.{HoldersHold, between, is_four, is_held}
use Rattle.gate_world.specs.{Headline.{HoldersAreTold, is_between, stores_nobody}, Worlds.{begin_refusal, opening}}
use Rattle.gate_world.specs.{declared.{entries.Entry.TheVariants.Begins, work.Phase.TheVariants.Closes}, traces.Found.stores_stage}
use Rattle.gate_schedules.proofs.frames.Holders.{holders_at}

abbrev bit : Bool → ℕ
bit b = if b then 1 else 0

-- of a phase after this trace, the role and the newest step say the same
abbrev RoleMatchesTrace : Option Phase → List Traced → Type 0
RoleMatchesTrace p trace = between (holder_role_of p) ≡ bit (is_between p trace)

-- so it is of each task
abbrev pub AllTold : World → Type 0
AllTold w = (t : ℕ) → RoleMatchesTrace (w.views t).phase (w.views t).trace

-- an operation that is neither a freeze nor a thaw is never between two stores
quiet : {A : Type 0} (to : A → Phase) → ((x : A) (trace : List Traced) → RoleMatchesTrace (Some (to x)) trace) → (next : Next A) (trace : List Traced) →
    RoleMatchesTrace (phase_after (map_next to next)) trace
quiet to each next trace = grind arith

-- a step leaves the stage and the holders as they are, and is the first of no two stores
abbrev Spares : Words → WordName × Touch → Type 0
Spares w n =
    ((put w n.0 (left n.1 (read w n.0))).stage ≡ w.stage) × ((put w n.0 (left n.1 (read w n.0))).holders ≡ w.holders) ×
    (stores_stage 4 n.0 n.1 ≡ false) × (stores_nobody n.0 n.1 ≡ false)

down_write_spares : (w : Words) (d : DownWrite) (s : DownWriteStep) → Spares w (down_write_next d s)
down_write_spares w d s = grind arith

up_write_spares : (w : Words) (u : UpWrite) (s : UpWriteStep) → Spares w (up_write_next u s)
up_write_spares w u s = grind arith

-- a freeze, or a thaw, that is not between two stores after a step that is the first of none
freeze_unstored : (next : Next Freeze) (e : Traced) (trace : List Traced) → stores_stage 4 e.event.word e.event.touch ≡ false →
    between (holder_role_of (phase_after (map_next Phase.Freezes next))) ≡ 0 → RoleMatchesTrace (phase_after (map_next Phase.Freezes next)) (e ∷ trace)
freeze_unstored next e trace none zero_is = grind arith

not_nobody : (word : ℕ) → is_held word ≡ 1 → (word == 0) ≡ false
not_nobody word some = grind arith

module _ (c : Config) (w : World) (good : IsGood c w) (t : ℕ) (lt : t < c.tasks) where
  -- of the view after the next step of a phase, the role and the newest step say the same
  abbrev IsToldAfter : Phase → HookAnswer → Type 0
  IsToldAfter phase hook = RoleMatchesTrace (view_after (w.views t) phase (value_at w.words phase hook) hook).phase
      (view_after (w.views t) phase (value_at w.words phase hook) hook).trace

  -- a step that spares the stage and the holders leaves its task between two stores or not
  stays : (phase : Phase) (hook : HookAnswer) → (w.views t).phase ≡ Some phase → IsGood c (after_step w t phase hook) →
      Spares w.words (next_of phase hook) →
      between (holder_role_of (phase_after (after_of phase (found_at w.words phase hook) hook).0)) ≡ between (holder_role_of (Some phase))
  stays phase hook e after spares =
      let before_holds : HoldersHold c.tasks w.words.stage w.words.holders (λ y. holder_role_of (w.views y).phase) = good Holding in
      let v : View = view_after (w.views t) phase (value_at w.words phase hook) hook in
      let changes = total_updated (λ (u : View). between (holder_role_of u.phase)) c.tasks t w.views v lt in
      let held_same : is_held (words_after w.words phase hook).holders ≡ is_held w.words.holders = ap is_held spares.1 in
      let four_same : is_four (words_after w.words phase hook).stage ≡ is_four w.words.stage = ap is_four spares.0 in
      let was : between (holder_role_of (w.views t).phase) ≡ between (holder_role_of (Some phase)) =
      ap (λ p. between (holder_role_of p)) e in
      omega (arith, before_holds.held, (after Holding).held, changes, held_same, four_same, was)

  -- a step of a freeze that is not between two stores, and doesn't come to be
  freeze_spares : (x : Freeze) (hook : HookAnswer) → (w.views t).phase ≡ Some (Phase.Freezes x) → IsGood c (after_step w t (Phase.Freezes x) hook) →
      Spares w.words (freeze_next x x.step hook) → between (holder_role_of (Some (Phase.Freezes x))) ≡ 0 → IsToldAfter (Phase.Freezes x) hook
  freeze_spares x hook e after spares apart =
      freeze_unstored (freeze_after x x.step (found_at w.words (Phase.Freezes x) hook) hook).0
      (with_hook (event_of (freeze_next x x.step hook).0 (freeze_next x x.step hook).1 (value_at w.words (Phase.Freezes x) hook)) hook)
      (w.views t).trace spares.2 (stays (Phase.Freezes x) hook e after spares ∙ apart)

  thaw_spares : (x : Thaw) (hook : HookAnswer) → (w.views t).phase ≡ Some (Phase.Thaws x) → IsGood c (after_step w t (Phase.Thaws x) hook) →
      Spares w.words (thaw_next x x.step hook) → between (holder_role_of (Some (Phase.Thaws x))) ≡ 0 → IsToldAfter (Phase.Thaws x) hook
  thaw_spares x hook e after spares apart = grind arith

  -- each step of a freeze
  freeze_told : (x : Freeze) (s : FreezeStep) (hook : HookAnswer) → (w.views t).phase ≡ Some (Phase.Freezes (record x { step = s })) →
      IsGood c (after_step w t (Phase.Freezes (record x { step = s })) hook) → IsToldAfter (Phase.Freezes (record x { step = s })) hook
  freeze_told x s hook e after = grind (arith, freeze_spares, down_write_spares, up_write_spares)

  -- and of a thaw: who leaves others stores that these hold a freeze
  thaw_told : (x : Thaw) (s : ThawStep) (hook : HookAnswer) → (w.views t).phase ≡ Some (Phase.Thaws (record x { step = s })) →
      IsGood c (after_step w t (Phase.Thaws (record x { step = s })) hook) → IsToldAfter (Phase.Thaws (record x { step = s })) hook
  thaw_told x ThawStep.Locks hook e after = thaw_spares (record x { step = ThawStep.Locks }) hook e after (refl, refl, refl, refl) refl
  thaw_told x ThawStep.LoadsStage hook e after = thaw_spares (record x { step = ThawStep.LoadsStage }) hook e after (refl, refl, refl, refl) refl
  thaw_told x ThawStep.LoadsHolders hook e after = thaw_spares (record x { step = ThawStep.LoadsHolders }) hook e after (refl, refl, refl, refl) refl
  thaw_told x (ThawStep.Leaves held) hook e after =
      let fits = subst (λ p. Fits c t (held_of (w.views t)) p) e (good Fitting t lt) in
      let others = with_holder x.holder false held in
      ap bit (sym (not_nobody (word_of others) (held_word others fits.2.1)))
  thaw_told x ThawStep.LoadsSuperblock hook e after =
      thaw_spares (record x { step = ThawStep.LoadsSuperblock }) hook e after (refl, refl, refl, refl) refl
  thaw_told x ThawStep.LeavesLast (Ok answer) e after = refl
  thaw_told x ThawStep.LeavesLast (Err code) e after = refl
  thaw_told x (ThawStep.Reopens u) hook e after =
      thaw_spares (record x { step = ThawStep.Reopens u }) hook e after (up_write_spares w.words u u.step) refl
  thaw_told x other hook e after = refl

  phase_told : (phase : Phase) (hook : HookAnswer) → (w.views t).phase ≡ Some phase → IsGood c (after_step w t phase hook) →
      IsToldAfter phase hook
  phase_told (Phase.Mounts phase) hook e after = quiet Phase.Mounts (λ x trace. refl) _ _
  phase_told (Phase.Remounts x) hook e after = quiet Phase.Remounts (λ x trace. refl) _ _
  phase_told (Phase.DownReads r) hook e after = quiet Phase.DownReads (λ x trace. refl) _ _
  phase_told (Phase.UpReads u) hook e after = refl
  phase_told (Phase.Callbacks b) hook e after = quiet Phase.Callbacks (λ x trace. refl) _ _
  phase_told (Phase.Writes x) hook e after = quiet Phase.Writes (λ x trace. refl) _ _
  phase_told (Phase.Freezes x) hook e after = freeze_told x x.step hook e after
  phase_told (Phase.Thaws x) hook e after = thaw_told x x.step hook e after
  phase_told (Phase.Trees phase) hook e after = quiet Phase.Trees (λ x trace. refl) _ _
  phase_told (Closes phase) hook e after = quiet Closes (λ x trace. refl) _ _

  step_told : (hook : HookAnswer) (p : Option Phase) → (w.views t).phase ≡ p → IsGood c (step_of w t hook p) → AllTold w →
      AllTold (step_of w t hook p)
  step_told hook None e after told x = told x
  step_told hook (Some phase) e after told x =
      each_updated (λ y (v : View). RoleMatchesTrace v.phase v.trace) w.views t
      (view_after (w.views t) phase (value_at w.words phase hook) hook) x (phase_told phase hook e after) (λ ne. told x)

begin_told : (c : Config) (w : World) (t : ℕ) (op : Op) (refused : Option GateError) → AllTold w → AllTold (begin_of c w t op refused)
begin_told c w t op refused told x = grind arith

pub entry_told : (c : Config) (w : World) (e : Entry) → IsGood c w → IsGood c (happens c w e) → AllTold w → AllTold (happens c w e)
entry_told c w (Begins t op) good after told = begin_told c w t op (begin_refusal c w t op) told
entry_told c w (Steps t hook) good after told =
    elim (cases_lt t c.tasks) [
      | inl l ↦
          let there = lt-ltb t c.tasks l in
          let left_good : IsGood c (step_of w t hook (w.views t).phase) =
          subst (λ (b : Bool). IsGood c (if b then step_of w t hook (w.views t).phase else w)) there after in
          rw there (step_told c w good t l hook (w.views t).phase refl left_good told)
      | inr l ↦ rw (le-ltb t c.tasks l) told
    ]

pub opening_told : AllTold opening
opening_told t = refl

-- who is between two stores or not, by its role
bit_none : (b : Bool) → 0 ≡ bit b → b ≡ false
bit_none true e = absurd (omega (arith, e))
bit_none false e = refl

-- so some freeze is held exactly where all is frozen, but between two stores of one freeze or thaw
pub holders_told : (c : Config) (w : World) → IsGood c w → AllTold w → HoldersAreTold c w
holders_told c w good told =
    let exactly = held_exactly c.tasks (holders_at w) (good Holding) in
    record {
      held_where_frozen = λ some. ((exactly.0 some).0, λ t lt. bit_none _ (sym ((exactly.0 some).1 t lt) ∙ told t));
      frozen_where_held = λ four none. exactly.1 four (λ t lt. told t ∙ ap bit (none t lt));
      as_shown = (good Holding).lawful;
      as_found = λ t lt own value left. good Known t lt own WordName.Holders value left;
    }
