-- Each freeze level of an execution is a run of it, so its grace periods are kept.
use Rattle.gate_schedules.proofs.Prelude.{Config, Entry, GateError, HookAnswer, IsGood, IsWithin, List, None, Op, Option, Phase, Some, SyncStep}
use Rattle.gate_schedules.proofs.Prelude.{World, [], ap, arith, cases_Bool, happens, held_of, inl, inr, inside, is_some, length, level_in, ltb-true}
use Rattle.gate_schedules.proofs.Prelude.{nat_lt, refl, step_of, suc, sym, sync_role_of, zero, ℕ, ◌<◌, ◌∙◌, ◌∷◌, ◌≡◌, ◌≤◌}
use Rattle.std.specs.Prelude.{take}
use Rattle.freeze_laws.proofs.levels.{CitedLaws.idle_is_earned, GraceLaws.graces_are_whole, IdleLaws.only_callbacks_idle, SlowLaws.stays_slow}
use Rattle.freeze_laws.specs.levels.Events.{SyncLevelHolds, SyncRun}
use Rattle.gate_world.specs.{Beginnings.{first_phase, view_refusal}, LevelRuns.{GracesAreKept, IsLevelRun, LevelsAreRuns, level_after}}
use Rattle.gate_world.specs.{Views.begun_view, Worlds.{begin_of, opening, run}, declared.entries.Entry.TheVariants.{Begins, Steps}}
use Rattle.gate_schedules.proofs.{levels.{Steps.{level_kept, level_stays}, Worlds.level_right}, operations.AllOperations.{op_keeps, phase_keeps}}
use Rattle.gate_schedules.proofs.schedules.{Beginnings.may_begin, HeadlineProof.whole_rule, Schedule.{happens_keeps, idle_is}}

module _ (c : Config) (lim : IsWithin c) (i : ℕ) (one : 1 ≤ i) (three : i ≤ 3) where
  still : (w next : World) → level_in next i ≡ level_in w i → SyncStep c.tasks (level_in w i) (level_in next i)
  still w next e = level_stays c.tasks 0 (omega (arith, lim.some_task)) (level_in w i) (level_in next i) e

  -- a beginning leaves it, refused or not
  begins : (w : World) (t : ℕ) (op : Op) (r : Option GateError) → view_refusal c (w.views t) op ≡ r →
      SyncStep c.tasks (level_in w i) (level_in (begin_of c w t op r) i)
  begins w t op (Some refused) e = still w w refl
  begins w t op None e =
      let idle : (w.views t).phase ≡ None = idle_is (w.views t).phase
      (may_begin c (is_some (w.views t).phase) (held_of (w.views t)) op e).idle in
      still w (begin_of c w t op None)
      (level_kept w t i w.words (begun_view (w.views t) op (first_phase c t op)) refl refl refl refl
      ((λ j. ((op_keeps c op).starts_aside t j).inside) ∙ sym (ap inside idle))
      ((λ j. ((op_keeps c op).starts_aside t j).sync i) ∙ sym (ap (sync_role_of i) idle)))

  -- a step of its task is one of the level
  steps : (w : World) → IsGood c w → (t : ℕ) → t < c.tasks → (hook : HookAnswer) (p : Option Phase) → (w.views t).phase ≡ p →
      SyncStep c.tasks (level_in w i) (level_in (step_of w t hook p) i)
  steps w good t lt hook None e = still w w refl
  steps w good t lt hook (Some phase) e = (phase_keeps c phase).runs lim w good t lt hook e i one three

  -- so each transition is
  entry_steps : (w : World) → IsGood c w → (e : Entry) → SyncStep c.tasks (level_in w i) (level_in (happens c w e) i)
  entry_steps w good (Begins t op) =
      elim (cases_Bool (nat_lt t c.tasks)) [
        | inl h ↦ rw h (begins w t op (view_refusal c (w.views t) op) refl)
        | inr h ↦ rw h (still w w refl)
      ]
  entry_steps w good (Steps t hook) =
      elim (cases_Bool (nat_lt t c.tasks)) [
        | inl h ↦ rw h (steps w good t (ltb-true t c.tasks h) hook (w.views t).phase refl)
        | inr h ↦ rw h (still w w refl)
      ]

  -- and so is what comes between the first transitions of an execution, so many, and one more
  moment_steps : (es : List Entry) (w : World) → IsGood c w → (k : ℕ) → k < length es →
      SyncStep c.tasks (level_in (run c w (take k es)) i) (level_in (run c w (take (suc k) es)) i)
  moment_steps [] w good k lt = absurd (omega (arith, lt))
  moment_steps (e ∷ es) w good zero lt = entry_steps w good e
  moment_steps (e ∷ es) w good (suc k) lt = moment_steps es (happens c w e) (happens_keeps c lim w good e).0 k (omega (arith, lt))

  moment_right : (es : List Entry) (w : World) → IsGood c w → (k : ℕ) → k ≤ length es → SyncLevelHolds c.tasks (level_in (run c w (take k es)) i)
  moment_right [] w good zero le = level_right c w good i one three
  moment_right [] w good (suc k) le = level_right c w good i one three
  moment_right (e ∷ es) w good zero le = level_right c w good i one three
  moment_right (e ∷ es) w good (suc k) le = moment_right es (happens c w e) (happens_keeps c lim w good e).0 k (omega (arith, le))

  module _ (entries : List Entry) where
    pub level_runs : IsLevelRun c entries i
    level_runs = record {
      steps = record {
        right = level_right c opening (whole_rule c lim []) i one three;
        steps = moment_steps entries opening (whole_rule c lim []);
      };
      begins = λ t lt. refl;
    }

    pub level_graces : GracesAreKept c entries i
    level_graces =
        let r : SyncRun c.tasks (length entries) (level_after c entries i) = level_runs.steps in
        record {
          whole = λ k t le lt past. (graces_are_whole c.tasks (length entries) (level_after c entries i) r level_runs.begins k t le lt).0 past;
          slow = λ j k t lt le last past never.
              stays_slow c.tasks (length entries) (level_after c entries i) r j k t lt le last past never;
          idle = λ k lt was then.
              let earned = idle_is_earned c.tasks (length entries) (level_after c entries i) r level_runs.begins k lt was then in
              let only = only_callbacks_idle c.tasks (level_after c entries i k) (level_after c entries i (suc k))
              (moment_right entries opening (whole_rule c lim []) k (omega (arith, lt))) (r.steps k lt) was then in
              ((r.steps k lt).task, (r.steps k lt).there, only.1, earned.1, earned.2);
        }

pub whole_levels : (c : Config) → IsWithin c → (entries : List Entry) → LevelsAreRuns c entries
whole_levels c lim entries i one three = (level_runs c lim i one three entries, level_graces c lim i one three entries)
