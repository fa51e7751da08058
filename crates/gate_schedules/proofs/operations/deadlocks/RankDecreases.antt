-- A phase whose way is free runs out: each of its steps lowers its rank and leaves its way free, so alone it comes to its reply.
use Rattle.gate_schedules.proofs.Prelude.{Config, EventsKeepRule, HookAnswer, IsGood, IsUnblocked, IsWithin, Next, Phase, PhaseEnds, RankDecreases}
use Rattle.gate_schedules.proofs.Prelude.{Some, Touch, View, WordName, Words, World, [], after_of, after_step, ap, arith, found_at, happens, inl, inr}
use Rattle.gate_schedules.proofs.Prelude.{left, lt-ltb, map_next, phase_after, put, rank, read, step_of, suc, update_at, value_at, zero, ℕ, ◌<◌, ◌≡◌}
use Rattle.gate_schedules.proofs.Prelude.{◌≤◌, ◌⊎◌}
use Rattle.gate_world.specs.{Views.view_after_with_others, declared.entries.Entry.TheVariants.Steps}
use Rattle.gate_schedules.specs.operations.Progress.{HasReply, ReplyWithin}

-- the words after a step of this word and touch
abbrev pub after_event : Words → WordName × Touch → Words
after_event w event = put w event.0 (left event.1 (read w event.0))

-- the same of a layer's own phases
pub falls_as : {A B : Type 0} (to : A → B) (rank_of : B → ℕ) (free : B → Type 0) (n : ℕ) (next : Next A) →
    RankDecreases (λ a. rank_of (to a)) (λ a. free (to a)) n next → RankDecreases rank_of free n (map_next to next)
falls_as to rank_of free n next h = grind arith

module _ (c : Config) (w : World) (t : ℕ) (lt : t < c.tasks) (hook : HookAnswer) (phase : Phase) (at : (w.views t).phase ≡ Some phase) where
  pub happens_is : happens c w (Steps t hook) ≡ after_step w t phase hook
  happens_is = rw (lt-ltb t c.tasks lt) (ap (step_of w t hook) at)

  pub stands_after : ((after_step w t phase hook).views t).phase ≡ phase_after (after_of phase (found_at w.words phase hook) hook).0
  stands_after =
      ap (λ (v : View). v.phase) (update_at w.views t (view_after_with_others [] (w.views t) phase (value_at w.words phase hook) hook))

pub no_further : (c : Config) (n m : ℕ) (w : World) → n ≤ m → ReplyWithin c n w → ReplyWithin c m w
no_further c zero m w le h = absurd h
no_further c (suc n) zero w le h = absurd (omega arith)
no_further c (suc n) (suc m) w le h = (
  h.0,
  h.1,
  h.2,
  λ hook. elim (h.3 hook) [
    | inl r ↦ inl r
    | inr r ↦ inr (no_further c n m (happens c w (Steps h.0 hook)) (omega arith) r)
  ],
)

-- a step of a task after which, whatever the hook answers, it has its reply or a reply is near
pub near_after : (c : Config) (n : ℕ) (w : World) (t : ℕ) → t < c.tasks → (phase : Phase) → (w.views t).phase ≡ Some phase →
    ((hook : HookAnswer) → HasReply (after_step w t phase hook) t ⊎ ReplyWithin c n (after_step w t phase hook)) → ReplyWithin c (suc n) w
near_after c n w t lt phase at h = grind arith

-- the same, with another number
pub near_by : (c : Config) (n m : ℕ) → n < m → (w : World) (t : ℕ) → t < c.tasks → (phase : Phase) → (w.views t).phase ≡ Some phase →
    ((hook : HookAnswer) → HasReply (after_step w t phase hook) t ⊎ ReplyWithin c n (after_step w t phase hook)) → ReplyWithin c m w
near_by c n m le w t lt phase at h = no_further c (suc n) m w le (near_after c n w t lt phase at h)

-- where the next phase, if there is one, comes to a reply, so does its task
goes_on : (c : Config) (n m : ℕ) (next : World) (t : ℕ) (coming : Next Phase) → (next.views t).phase ≡ phase_after coming → m ≤ n →
    RankDecreases (rank next.words) (IsUnblocked c next.words) m coming →
    ((q : Phase) → (next.views t).phase ≡ Some q → IsUnblocked c next.words q → rank next.words q < n → ReplyWithin c n next) →
    HasReply next t ⊎ ReplyWithin c n next
goes_on c n m next t coming is le f again = grind arith

module _ (c : Config) (lim : IsWithin c)
    (keeps : EventsKeepRule c)
    (ends : (phase : Phase) → PhaseEnds c phase) where
  -- A task whose way is free comes to its reply by its own steps alone, of which there are no more than its rank and one.
  pub runs_out : (n : ℕ) (w : World) → IsGood c w → (t : ℕ) → t < c.tasks → (phase : Phase) → (w.views t).phase ≡ Some phase →
      IsUnblocked c w.words phase → rank w.words phase < n → ReplyWithin c n w
  runs_out zero w good t lt phase at free le = absurd (omega (arith, le))
  runs_out (suc n) w good t lt phase at free le =
      near_after c n w t lt phase at (λ hook.
      goes_on c n (rank w.words phase) (after_step w t phase hook) t (after_of phase (found_at w.words phase hook) hook).0
      (stands_after c w t lt hook phase at) (omega (arith, le)) ((ends phase).falls lim w good t lt hook at free)
      (λ q is f r. runs_out n (after_step w t phase hook) (keeps w good t lt hook phase at) t lt q is f r))
