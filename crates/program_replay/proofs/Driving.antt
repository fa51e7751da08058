-- The calls of the gates that one thread drives, in the state that they show.
use Rattle.std.proofs.Common.{Err, List, None, Ok, OnErr, OnOk, Option, Result, Some, ap, arith, inl, inr, length, refl, slice_index_or, slice_set}
use Rattle.std.proofs.{Common.{subst, suc, sym, zero, ℕ, ◌-◌, ◌<◌, ◌∙◌, ◌∷◌, ◌≡◌}, lemmas.{Bool.{Decides.eqb_tells, lt-ltb}, List.get_or_default}}
use Rattle.{access_model.specs.declared.errors.GateError.GateError, cpu_words.specs.{Hooks.HookAnswer, Names.place, declared.events.Event.Event}}
use Rattle.gate_steps.specs.call_events.Stepped.{Stepped}
use Rattle.gate_transitions.specs.{Answers.{asked_by, begin_answer, idle_step, step_answer, unless_refused, wanted_hook}, declared.steps.Step.Step}
use Rattle.gate_world.specs.{Worlds.{World, happens}, declared.{config.Config.Config, entries.Entry.TheVariants.{Begins, Steps}, operations.Op.Op}}
use Rattle.gate_world.specs.declared.work.Phase.{Phase}
use Rattle.vfs_gates.specs.TaskStates.{SeatedTask, refusal_at}
use Rattle.program_replay.proofs.{Advancing.{step_answered, step_shown}, Beginning.{begin_answered, begin_shown, refused_shown}, Idle.idle_steps}
use Rattle.program_replay.specs.{Driven.{AreOthersKept, GatesShow, task_in, tasks_of}, Noted.words_after, Shown.{IsShown, TasksShow}}
use Rattle.program_replay.specs.{Standing.{AreGathered, with_begun}, declared.gates_driver.GatesDriver.GatesDriver}

-- a step that touches a word is not that of an idle task
not_idle : {B : Type 0} (done : Step) (event : Event) → done ≡ idle_step → done.event ≡ Some event → B
not_idle done event is its = absurd (let no : None ≡ Some event = sym (ap (λ (s : Step). s.event) is) ∙ its in let never : ⊥ = cc in never)

-- nor is that of a phase one that has none
not_still : {B : Type 0} (phase : Phase) (hook : HookAnswer) (old left : SeatedTask) (done : Step) → Stepped phase hook old done left → done.event ≡ None → B
not_still phase hook old left done s none =
    absurd (let no = sym none ∙ ap (λ (x : Step). x.event) s.step in let never : ⊥ = cc in never)

module _ (c : Config) (w : World) (driver : GatesDriver) (shows : GatesShow driver c w) (t : ℕ) (lt : t < c.tasks) where
  abbrev d : SeatedTask
  d = driver.first

  abbrev its : SeatedTask
  its = task_in driver t d

  pub wants : wanted_hook c w t ≡ asked_by its.phase
  wants = rw (lt-ltb t c.tasks lt) (ap asked_by (shows.shows.shown t d lt).phase)

  -- where no task has changed, nor a word
  still : (left : GatesDriver) → AreOthersKept t driver left → task_in left t d ≡ its → left.words ≡ driver.words → GatesShow left c w
  still left others same words =
      let kept : (k : ℕ) → task_in left k d ≡ task_in driver k d =
      λ k. elim (eqb_tells k t) [ inl is ↦ subst (λ n. task_in left n d ≡ task_in driver n d) (sym is.1) same | inr ne ↦ others.3 k d ne.1 ] in
      let count : length (tasks_of left) ≡ c.tasks =
      (let many = shows.shows.count in let others_many = others.2 in omega (arith, many, others_many)) in
      record {
        config = others.0 ∙ shows.config;
        shows = subst (λ (l : List ℕ). TasksShow (tasks_of left) l c w) (sym (ap (λ v. v.items) words)) (record {
          within = shows.shows.within;
          count = count;
          long = shows.shows.long;
          entries = shows.shows.entries;
          words = shows.shows.words;
          shown = λ k e lk. subst (IsShown c shows.shows.entries w k)
              (sym (kept k) ∙ get_or_default (tasks_of left) k d e (omega (arith, count, lk))) (shows.shows.shown k d lk);
          listed = shows.shows.listed;
        });
      }

  module _ (left : GatesDriver) (op : Op) (result : Result (Unit {0}) GateError)
      (answer : (s : SeatedTask) → result ≡ unless_refused (refusal_at op (task_in driver t s)))
      (begun : (s : SeatedTask) → OnOk result (task_in left t s ≡ with_begun op (task_in driver t s)))
      (refused : (s : SeatedTask) → OnErr result (task_in left t s ≡ task_in driver t s))
      (others : AreOthersKept t driver left) (words : left.words ≡ driver.words) where
    pub begin_told : result ≡ begin_answer c w t op
    begin_told = answer d ∙ begin_answered c w (tasks_of driver) (tasks_of left) driver.words.items shows.shows t lt op d

    begin_by : (r : Option GateError) → refusal_at op its ≡ r → GatesShow left c (happens c w (Begins t op))
    begin_by None none =
        let done : result ≡ Ok tt = answer d ∙ ap unless_refused none in
        let count : length (tasks_of left) ≡ length (tasks_of driver) = (let others_many = others.2 in omega (arith, others_many)) in
        record {
          config = others.0 ∙ shows.config;
          shows = subst (λ (l : List ℕ). TasksShow (tasks_of left) l c (happens c w (Begins t op))) (sym (ap (λ v. v.items) words))
              (begin_shown c w (tasks_of driver) (tasks_of left) driver.words.items shows.shows t lt op d none
              (subst (λ (r : Result (Unit {0}) GateError). OnOk r (task_in left t d ≡ with_begun op its)) done (begun d))
              (λ k ne. others.3 k d ne) count);
        }
    begin_by (Some e) is =
        let not_done : result ≡ Err e = answer d ∙ ap unless_refused is in
        let same : task_in left t d ≡ its = subst (λ (r : Result (Unit {0}) GateError). OnErr r (task_in left t d ≡ its)) not_done (refused d) in
        subst (GatesShow left c)
        (sym (refused_shown c w (tasks_of driver) (tasks_of left) driver.words.items shows.shows t lt op d e is))
        (still left others same words)

    pub begin_drives : GatesShow left c (happens c w (Begins t op))
    begin_drives = begin_by (refusal_at op its) refl

  module _ (mid : GatesDriver) (hook : HookAnswer) (done : Step)
      (stepped : (s : SeatedTask) (phase : Phase) → (task_in driver t s).phase ≡ Some phase →
      Stepped phase hook (task_in driver t s) done (task_in mid t s))
      (idle : (s : SeatedTask) → (task_in driver t s).phase ≡ None → (done ≡ idle_step) × (task_in mid t s ≡ task_in driver t s))
      (others : AreOthersKept t driver mid) (words : mid.words ≡ driver.words) where
    idle_by : done.event ≡ None → (p : Option Phase) → its.phase ≡ p →
        (done ≡ step_answer c w t hook) × GatesShow mid c (happens c w (Steps t hook))
    idle_by none None e =
        let was = idle_steps c w t hook lt ((shows.shows.shown t d lt).phase ∙ e) in
        let here = idle d e in (
          here.0 ∙ sym was.0,
          subst (GatesShow mid c) (sym was.1) (still mid others here.1 words),
        )
    idle_by none (Some phase) e = not_still phase hook its (task_in mid t d) done (stepped d phase e) none

    pub idle_drives : done.event ≡ None → (done ≡ step_answer c w t hook) × GatesShow mid c (happens c w (Steps t hook))
    idle_drives none = idle_by none its.phase refl

    module _ (event : Event) (has : done.event ≡ Some event) (noted left : GatesDriver)
        (noted_tasks : tasks_of noted ≡ tasks_of mid) (noted_config : noted.config ≡ mid.config)
        (noted_words : noted.words.items ≡ words_after (Some event) mid.words.items)
        (gathered : AreGathered t (tasks_of noted) (tasks_of left)) (left_config : left.config ≡ noted.config) (left_words : left.words ≡ noted.words) where
      step_by : (p : Option Phase) → its.phase ≡ p → (done ≡ step_answer c w t hook) × GatesShow left c (happens c w (Steps t hook))
      step_by None e = not_idle done event (idle d e).0 has
      step_by (Some phase) e =
          let met : AreGathered t (tasks_of mid) (tasks_of left) = subst (λ (l : List SeatedTask). AreGathered t l (tasks_of left)) noted_tasks gathered in
          let count : length (tasks_of mid) ≡ length (tasks_of driver) = (let others_many = others.2 in omega (arith, others_many)) in
          let list : left.words.items ≡ slice_set driver.words.items (place event.word) event.left =
          ap (λ v. v.items) left_words ∙ (noted_words ∙ ap (λ v. words_after (Some event) v.items) words) in (
            step_answered c w (tasks_of driver) (tasks_of mid) (tasks_of left) driver.words.items shows.shows t lt phase hook done d e (stepped d phase e)
                (λ k ne. others.3 k d ne) count met,
            record {
              config = left_config ∙ (noted_config ∙ (others.0 ∙ shows.config));
              shows = subst (λ (l : List ℕ). TasksShow (tasks_of left) l c (happens c w (Steps t hook))) (sym list)
                  (step_shown c w (tasks_of driver) (tasks_of mid) (tasks_of left) driver.words.items shows.shows t lt phase hook done d e
                  (stepped d phase e) (λ k ne. others.3 k d ne) count met event has);
            },
          )

      pub step_drives : (done ≡ step_answer c w t hook) × GatesShow left c (happens c w (Steps t hook))
      step_drives = step_by its.phase refl

-- the task of a number above 0 is one of the others
pub later_task : (first : SeatedTask) (others : List SeatedTask) (t : ℕ) → (t ≡ 0 → ⊥) → (d : SeatedTask) →
    slice_index_or (first ∷ others) t d ≡ slice_index_or others (t - 1) d
later_task first others zero ne d = absurd (ne refl)
later_task first others (suc j) ne d = let same : j ≡ suc j - 1 = omega arith in ap (λ k. slice_index_or others k d) same
