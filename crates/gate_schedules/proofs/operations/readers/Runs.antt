-- Each step of a down-read, of an up-read and of a callback is one of each level's kinds of step.
use Rattle.gate_schedules.proofs.Prelude.{Callback, Config, DownRead, DownReadStep, DownReads, Fits, Fitting, HookAnswer, IsGood, Some, SyncStep}
use Rattle.gate_schedules.proofs.Prelude.{Touch, View, WordName, World, after_step, ap, arith, common_steps, down_read_after, down_read_next}
use Rattle.gate_schedules.proofs.Prelude.{eqb_tells, found_by, held_of, inl, inr, inside, is_frozen_whole, left, left_by, level_in, map_next}
use Rattle.gate_schedules.proofs.Prelude.{phase_after, put, read, refl, subst, sym, sync_role_if, sync_role_of, update, update_same, view_after}
use Rattle.gate_schedules.proofs.Prelude.{wrap_add, ℕ, ◌-◌, ◌<◌, ◌==◌, ◌∙◌, ◌≡◌, ◌≤◌}
use Rattle.cpu_words.specs.declared.names.WordName.TheVariants.{Section}
use Rattle.freeze_laws.specs.levels.{Events.TurnsSection, Operations.{down_read_inside, down_read_role}, Roles.{Out as IsApart, fast}}
use Rattle.gate_world.specs.declared.work.Phase.TheVariants.{Callbacks, UpReads}
use Rattle.percpu_rwsem.specs.{Callbacks.callback_next, Readers.at_down_read}
use Rattle.percpu_rwsem.specs.declared.readers.DownReadStep.TheVariants.{CountsDown, CountsUpFast, CountsUpSlow, EntersSection, LeavesAdmitted}
use Rattle.percpu_rwsem.specs.declared.readers.{DownReadStep.TheVariants.{LeavesBlocked, LoadsBlock, LoadsSync}, UpRead.UpRead}
use Rattle.gate_schedules.proofs.levels.{Steps.{level_kept, level_moved, level_stays}, Worlds.{IsEventAt, IsOfLevel, sync_off}}
use Rattle.gate_schedules.proofs.operations.callback.Events.{event_of_level, seen_after as callback_seen, stays_apart, stays_outside}
use Rattle.gate_schedules.proofs.operations.callback.Events.{steps_there as callback_steps, word_of_level as callback_word}
use Rattle.gate_schedules.proofs.operations.readers.Levels.{apart_if, blocked_apart, blocked_outside, keeps_level, role_elsewhere, seen_after}
use Rattle.gate_schedules.proofs.operations.readers.Levels.{steps_there, word_of_level}

module _ (w : World) (t : ℕ) (v : View) where
  -- a level with one of its words put, and the task's part in it, is the level of the state with these
  put_there : (i : ℕ) (name : WordName) → IsOfLevel i name → (touch : Touch) →
      (record (left_by (level_in w i) t (name, touch) (read w.words name) (sync_role_of i v.phase)) {
        inside = update (level_in w i).inside t (inside v.phase);
      }) ≡ level_in (record { words = put w.words name (left touch (read w.words name)); views = update w.views t v }) i
  put_there i name e touch = grind arith

  -- a step at one level leaves another one, where the task's part in that is the same
  stays_there : (i j : ℕ) → (j ≡ i → ⊥) → (name : WordName) (touch : Touch) → IsEventAt i name touch →
      inside v.phase ≡ inside (w.views t).phase → sync_role_of j v.phase ≡ sync_role_of j (w.views t).phase →
      level_in (record { words = put w.words name (left touch (read w.words name)); views = update w.views t v }) j ≡ level_in w j
  stays_there i j ne name touch is same role = grind (arith, common_steps)

  -- so a step at one level is one of each level's
  runs_at : (tasks : ℕ) → t < tasks → (i : ℕ) (name : WordName) (touch : Touch) → IsOfLevel i name → IsEventAt i name touch →
      inside v.phase ≡ inside (w.views t).phase →
      ((j : ℕ) → (j ≡ i → ⊥) → sync_role_of j v.phase ≡ sync_role_of j (w.views t).phase) →
      SyncStep tasks (level_in w i)
      (record (left_by (level_in w i) t (name, touch) (read w.words name) (sync_role_of i v.phase)) {
        inside = update (level_in w i).inside t (inside v.phase);
      }) → (j : ℕ) → SyncStep tasks (level_in w j)
      (level_in (record { words = put w.words name (left touch (read w.words name)); views = update w.views t v }) j)
  runs_at tasks lt i name touch of is same roles there j =
      elim (eqb_tells j i) [
        | inl q ↦
            subst (λ k. SyncStep tasks (level_in w k)
            (level_in (record { words = put w.words name (left touch (read w.words name)); views = update w.views t v }) k)) (sym q.1)
            (subst (SyncStep tasks (level_in w i)) (put_there i name of touch) there)
        | inr q ↦ level_stays tasks t lt (level_in w j) _ (stays_there i j q.1 name touch is same (roles j q.1))
      ]

  -- an addition to the task's own section word is one of each level's, by a task that is on the fast path of none
  runs_turned : (tasks : ℕ) → t < tasks → ((i : ℕ) → fast (sync_role_of i (w.views t).phase) ≡ 0) →
      ((i : ℕ) → sync_role_of i v.phase ≡ sync_role_of i (w.views t).phase) → inside v.phase ≡ 1 - inside (w.views t).phase →
      (i : ℕ) → SyncStep tasks (level_in w i)
      (level_in (record { words = put w.words (Section t) (wrap_add (w.words.section t) 1); views = update w.views t v }) i)
  runs_turned tasks lt slow still turns i = record {
    task = t;
    there = lt;
    kind = TurnsSection;
    happens = (
      slow i,
      level_moved w t i (put w.words (Section t) (wrap_add (w.words.section t) 1)) v ∙
          (λ q. record {
            sync = w.words.sync i;
            block = w.words.block i;
            full = is_frozen_whole w.words;
            section = update w.words.section t (wrap_add (w.words.section t) 1);
            inside = update (λ x. inside (w.views x).phase) t (turns q);
            at = (ap (update (λ x. sync_role_of i (w.views x).phase) t) (still i) ∙
                update_same (λ x. sync_role_of i (w.views x).phase) t) q;
          }),
    );
  }

-- a step of a down-read that changes no section word leaves it inside its section
stays_inside : (r : DownRead) (s : DownReadStep) (found : ℕ) → IsEventAt r.level (down_read_next r s).0 (down_read_next r s).1 →
    inside (phase_after (map_next DownReads (down_read_after r s found).0)) ≡ down_read_inside s
stays_inside r s found is = grind arith

module _ (c : Config) (w : World) (good : IsGood c w) (hook : HookAnswer) (r : DownRead) (lt : r.task < c.tasks) (one : 1 ≤ r.level)
    (three : r.level ≤ 3) where
  -- the step of this program point is one of each level's
  abbrev Runs : DownReadStep → Type 0
  Runs s = (w.views r.task).phase ≡ Some (DownReads (at_down_read r s)) → (i : ℕ) →
      SyncStep c.tasks (level_in w i) (level_in (after_step w r.task (DownReads (at_down_read r s)) hook) i)

  -- so is one that changes no section word
  runs_unturned : (s : DownReadStep) → IsEventAt r.level (down_read_next r s).0 (down_read_next r s).1 → Runs s
  runs_unturned s is e =
      let found : ℕ = found_by (down_read_next r s).1 (read w.words (down_read_next r s).0) in
      runs_at w r.task (seen_after c w good hook r lt one three s e) c.tasks lt r.level (down_read_next r s).0 (down_read_next r s).1
      (word_of_level r s) is (stays_inside r s found is ∙ sym (ap inside e))
      (λ j ne. role_elsewhere r.level j ne (down_read_after r s found).0 (keeps_level r s found) ∙
      sym (ap (sync_role_of j) e ∙ sync_off j r.level (down_read_role s) ne)) (steps_there c w good hook r lt one three s e)

  -- and one that turns its section word
  runs_turns : (s : DownReadStep) (v : View) → (w.views r.task).phase ≡ Some (DownReads (at_down_read r s)) → down_read_role s ≡ IsApart →
      ((i : ℕ) → sync_role_of i v.phase ≡ IsApart) → inside v.phase ≡ 1 - down_read_inside s → (i : ℕ) →
      SyncStep c.tasks (level_in w i) (level_in (record {
        words = put w.words (Section r.task) (wrap_add (w.words.section r.task) 1);
        views = update w.views r.task v;
      }) i)
  runs_turns s v e apart off turns =
      let now : (i : ℕ) → sync_role_of i (w.views r.task).phase ≡ IsApart =
      λ i. ap (sync_role_of i) e ∙ (ap (sync_role_if (i == r.level)) apart ∙ apart_if (i == r.level)) in
      runs_turned w r.task v c.tasks lt (λ i. ap fast (now i)) (λ i. off i ∙ sym (now i)) (turns ∙ sym (ap (λ p. 1 - inside p) e))

  -- by cases on its step
  runs_step : (s : DownReadStep) → Runs s
  runs_step EntersSection e =
      runs_turns EntersSection (seen_after c w good hook r lt one three EntersSection e) e refl (λ i. apart_if (i == r.level)) refl
  runs_step LoadsSync e = runs_unturned LoadsSync refl e
  runs_step CountsUpFast e = runs_unturned CountsUpFast refl e
  runs_step CountsUpSlow e = runs_unturned CountsUpSlow refl e
  runs_step LoadsBlock e = runs_unturned LoadsBlock refl e
  runs_step CountsDown e = runs_unturned CountsDown refl e
  runs_step LeavesAdmitted e =
      runs_turns LeavesAdmitted (seen_after c w good hook r lt one three LeavesAdmitted e) e refl (λ i. refl) refl
  runs_step LeavesBlocked e =
      runs_turns LeavesBlocked (seen_after c w good hook r lt one three LeavesBlocked e) e refl (blocked_apart r r.wait)
      (blocked_outside r r.wait)

-- each step of a down-read is one of each level's
pub read_runs : (c : Config) (w : World) → IsGood c w → (t : ℕ) → t < c.tasks → (hook : HookAnswer) (r : DownRead) →
    (w.views t).phase ≡ Some (DownReads r) → (i : ℕ) → SyncStep c.tasks (level_in w i) (level_in (after_step w t (DownReads r) hook) i)
read_runs c w good t lt hook r e =
    let f : Fits c t (held_of (w.views t)) (Some (DownReads r)) =
    subst (Fits c t (held_of (w.views t))) e (good Fitting t lt) in
    subst (λ x. x < c.tasks → (w.views x).phase ≡ Some (DownReads r) → (i : ℕ) →
    SyncStep c.tasks (level_in w i) (level_in (after_step w x (DownReads r) hook) i)) f.3
    (λ lx ex. runs_step c w good hook r lx f.0 f.1 r.step ex) lt e

-- that of an up-read writes a count only, so each level stays
pub end_runs : (c : Config) (w : World) (t : ℕ) → t < c.tasks → (hook : HookAnswer) (u : UpRead) →
    (w.views t).phase ≡ Some (UpReads u) → (i : ℕ) → SyncStep c.tasks (level_in w i) (level_in (after_step w t (UpReads u) hook) i)
end_runs c w t lt hook u e i =
    let v : View = view_after (w.views t) (UpReads u) (w.words.level u.level u.cpu) hook in
    level_stays c.tasks t lt (level_in w i) (level_in (after_step w t (UpReads u) hook) i)
    (level_kept w t i (after_step w t (UpReads u) hook).words v refl refl refl refl (sym (ap inside e)) (sym (ap (sync_role_of i) e)))

-- each step of a callback is one of each level's
pub callback_runs : (c : Config) (w : World) → IsGood c w → (t : ℕ) → t < c.tasks → (hook : HookAnswer) (b : Callback) →
    (w.views t).phase ≡ Some (Callbacks b) → (i : ℕ) → SyncStep c.tasks (level_in w i) (level_in (after_step w t (Callbacks b) hook) i)
callback_runs c w good t lt hook b e =
    runs_at w t (callback_seen c w good t lt hook b b.step e) c.tasks lt b.level (callback_next b b.step).0 (callback_next b b.step).1
    (callback_word b b.step) (event_of_level b b.step) (stays_outside c w good t lt hook b b.step e)
    (stays_apart c w good t lt hook b b.step e) (callback_steps c w good t lt hook b b.step e)
