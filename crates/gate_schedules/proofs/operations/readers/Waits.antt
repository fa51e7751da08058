-- A down-read waits only where it found the level closed; a callback only where another task is inside a read-side section.
use Rattle.gate_schedules.proofs.Prelude.{Callback, Config, Done, DownRead, DownReadStep, DownReads, Err, Go, HasReason, HookAnswer, IsGood, List}
use Rattle.gate_schedules.proofs.Prelude.{Next, Ok, Sections, Some, TransitionNext, Wait, World, after_of, ap, arith, cases_Bool, down_read_after}
use Rattle.gate_schedules.proofs.Prelude.{found_at, inl, inr, inside, map_next, nat_lt, sym, ℕ, ◌%◌, ◌+◌, ◌<◌, ◌∙◌, ◌∷◌, ◌≡◌}
use Rattle.gate_world.specs.{Fits.GraceFits, declared.work.Phase.TheVariants.Callbacks, refusals.Causes.{WasClosed, last_asked}}
use Rattle.gate_world.specs.refusals.{KeptCauses.ReadCause, Waits.HasCulprit}
use Rattle.percpu_rwsem.specs.{Callbacks.{at_callback, callback_looked, called_back, claimed}, Graces.passed_on}
use Rattle.percpu_rwsem.specs.declared.{callbacks.CallbackStep.{CallbackStep, TheVariants.AwaitsSections}, grace.Grace.Grace}

-- this, where a wait or a refusal comes next
abbrev pub WhereRefused : Type 0 → Next DownRead → Type 0
WhereRefused X (Go r) = Unit {0}
WhereRefused X (Wait r) = X
WhereRefused X (Done (Ok reply)) = Unit {0}
WhereRefused X (Done (Err refusal)) = X

module _ (c : Config) (w : World) (earlier : List World) (t : ℕ) where
  -- where a step of a down-read is a wait or a refusal, the level was closed when the task last asked: the cause that is kept says so
  pub read_waits : (r : DownRead) (s : DownReadStep) (found : ℕ) → ReadCause c t w earlier r.level s →
      WhereRefused (WasClosed c t r.level (last_asked t (w ∷ earlier))) (down_read_after r s found).0
  read_waits r s found h = grind arith

  -- so a down-read that stands alone waits for another task
  pub start_waits : (r : DownRead) (n : Next DownRead) → WhereRefused (WasClosed c t r.level (last_asked t (w ∷ earlier))) n →
      HasReason c w earlier t (DownReads r) (map_next DownReads n)
  start_waits r n h = grind arith

  module _ (good : IsGood c w) (b : Callback) where
    -- what is said of the wait of a callback that is at this step
    abbrev Waits : CallbackStep → Next Callback → Type 0
    Waits s n = HasReason c w earlier t (Callbacks (at_callback b s)) (map_next Callbacks n)

    -- no step of its claim is one
    claim_waits : (s : CallbackStep) (n : TransitionNext) → Waits s (claimed b n)
    claim_waits s n = grind arith

    -- nor of its own transition
    call_waits : (s : CallbackStep) (n : TransitionNext) → Waits s (called_back b n)
    call_waits s n = grind arith

    -- nor the passing of a task
    passed_waits : (s : CallbackStep) (g : Grace) → Waits s (callback_looked b (passed_on g))
    passed_waits s g = elim (cases_Bool (nat_lt (g.task + 1) g.tasks)) [ inl f ↦ rw f tt | inr f ↦ rw f tt ]

    -- a section word that is odd is one of another task, which is inside a section
    inside_found : (g : Grace) → g.task < c.tasks → (w.views t).phase ≡ Some (Callbacks (at_callback b (AwaitsSections g))) →
        w.words.section g.task % 2 ≡ 1 → HasCulprit c w t (Callbacks (at_callback b (AwaitsSections g)))
    inside_found g lt e odd =
        let is_in : inside (w.views g.task).phase ≡ 1 = sym (good Sections g.task lt) ∙ odd in
        record {
          task = g.task;
          there = lt;
          other = λ same. omega (arith, is_in, ap (λ y. inside (w.views y).phase) same ∙ ap inside e);
          stands = is_in;
        }

    -- each step of a callback
    pub callback_waits : (hook : HookAnswer) (s : CallbackStep) → (w.views t).phase ≡ Some (Callbacks (at_callback b s)) →
        GraceFits c.tasks s →
        HasReason c w earlier t (Callbacks (at_callback b s))
        (after_of (Callbacks (at_callback b s)) (found_at w.words (Callbacks (at_callback b s)) hook) hook).0
    callback_waits hook s e f = grind (arith, claim_waits, found_at, inside_found, passed_waits, call_waits)
