-- What is proved of an operation: of each of its phases, and of its beginning and its trace.
use Rattle.gate_schedules.proofs.Prelude.{Action, ActionFits, Agree, Bool, CauseOf, Config, Err, Fits, GateError, HasFile, HasReason, Holdings}
use Rattle.gate_schedules.proofs.Prelude.{HookAnswer, IsGood, IsWithin, IsWord, List, None, Op, Option, Phase, PhaseFits, Some, StepKeeps, SyncStep}
use Rattle.gate_schedules.proofs.Prelude.{Traced, WordName, World, actions_of, after_of, after_step, all_counted, arith, extents_of, false, file_of}
use Rattle.gate_schedules.proofs.Prelude.{first_phase, found_at, held_after, held_of, holdings_of, level_in, most_events, next_of, no_roles}
use Rattle.gate_schedules.proofs.Prelude.{phase_after, roles_of, true, ℕ, ◌+◌, ◌-◌, ◌<◌, ◌∷◌, ◌≡◌, ◌≤◌}
use Rattle.std.proofs.Common.{◌++◌}
use Rattle.cpu_words.specs.Names.{Extents}
use Rattle.gate_world.specs.{Beginnings.{is_in_order, is_in_range, is_within_room}, Configs.extents_among, Moments.CompletesNow}
use Rattle.gate_world.specs.refusals.Causes.{all_inside}
use Rattle.gate_schedules.proofs.traces.TraceInvariant.{TraceLaws}

pub by_bool : (b : Bool) (P : Bool → Type 0) → P true → P false → P b
by_bool true P x y = x
by_bool false P x y = y

-- the words that steps may touch, among so many tasks: those of the nodes, and those of 64 nodes, which the word of a node may name
abbrev pub extents_touched : ℕ → Config → Extents
extents_touched n c = record { tasks = n; processors = c.processors; mounts = c.mounts; nodes = 64 + (c.nodes - 64) }

-- a word that is there is one of them
pub word_among : (c : Config) (n : ℕ) → c.tasks ≤ n → (name : WordName) → IsWord (extents_of c) name → IsWord (extents_touched n c) name
word_among c n le name h = grind arith

-- and within the limits they are those that are kept
pub word_kept : (c : Config) → IsWithin c → (n : ℕ) (name : WordName) → IsWord (extents_touched n c) name → IsWord (extents_among n c) name
word_kept c within n name h = grind arith

-- where nothing is counted at a gate in two states, its counts are the same in both
pub record IsQuiet (c : Config) (w next : World) : Type 0 where
  pub mounts : (m : ℕ) → all_counted c m w ≡ 0 → all_counted c m next ≡ 0 → next.words.count m ≡ w.words.count m
  pub levels : (i : ℕ) → all_inside c i w ≡ 0 → all_inside c i next ≡ 0 → next.words.level i ≡ w.words.level i

-- of one phase
pub record PhaseLaws (c : Config) (phase : Phase) : Type 0 where
  -- its step keeps the invariant, and moves the shown state by its action
  pub step : IsWithin c → (w : World) → IsGood c w → (t : ℕ) → t < c.tasks → (hook : HookAnswer) → (w.views t).phase ≡ Some phase →
      StepKeeps c w t hook phase
  -- its step is one of each level's
  pub runs : IsWithin c → (w : World) → IsGood c w → (t : ℕ) → t < c.tasks → (hook : HookAnswer) → (w.views t).phase ≡ Some phase →
      (i : ℕ) → 1 ≤ i → i ≤ 3 → SyncStep c.tasks (level_in w i) (level_in (after_step w t phase hook) i)
  -- a snapshot that its step completes is of the present tree
  pub completes : IsWithin c → (w : World) → IsGood c w → (t : ℕ) → t < c.tasks → (hook : HookAnswer) → (w.views t).phase ≡ Some phase →
      CompletesNow c w t hook phase
  -- the word of its step is one of these, among however many tasks its own number is one of
  pub word : (n : ℕ) → c.tasks ≤ n → (t : ℕ) → t < n → (held : Holdings) (hook : HookAnswer) →
      PhaseFits c t held phase → IsWord (extents_touched n c) (next_of phase hook).0
  -- its action can be done
  pub acts : IsWithin c → (t : ℕ) (held : Holdings) (found : ℕ) (hook : HookAnswer) → PhaseFits c t held phase →
      ActionFits held (after_of phase found hook).1
  -- what comes after it fits
  pub goes : IsWithin c → (t : ℕ) (held : Holdings) (found : ℕ) (hook : HookAnswer) → PhaseFits c t held phase →
      Fits c t (held_after (after_of phase found hook).1 held) (phase_after (after_of phase found hook).0)
  -- it fits holdings that agree
  pub agrees : (t : ℕ) (held seen : Holdings) → Agree c held seen → PhaseFits c t held phase → PhaseFits c t seen phase
  -- its cause stays while others step
  pub stays : (w next : World) (earlier : List World) → IsGood c next → (t : ℕ) →
      Fits c t (held_of (w.views t)) (Some phase) → (next.views t).phase ≡ Some phase →
      (w.views t).phase ≡ Some phase → IsQuiet c w next →
      CauseOf c t w earlier (Some phase) → CauseOf c t next (w ∷ earlier) (Some phase)
  -- what comes after it has its cause
  pub causes : (w : World) (earlier : List World) → IsGood c w → (t : ℕ) → t < c.tasks → (hook : HookAnswer) →
      (w.views t).phase ≡ Some phase → IsGood c (after_step w t phase hook) →
      ((after_step w t phase hook).views t).phase ≡ phase_after (after_of phase (found_at w.words phase hook) hook).0 →
      CauseOf c t w earlier (Some phase) →
      CauseOf c t (after_step w t phase hook) (w ∷ earlier) (phase_after (after_of phase (found_at w.words phase hook) hook).0)
  -- where its step is a wait, another task has what it waits for, or had it when that was found; where it is a refusal, that has its cause
  pub reasons : IsWithin c → (w : World) (earlier : List World) → IsGood c w → (t : ℕ) → t < c.tasks → (hook : HookAnswer) →
      (w.views t).phase ≡ Some phase → CauseOf c t w earlier (Some phase) →
      HasReason c w earlier t phase (after_of phase (found_at w.words phase hook) hook).0

-- the most steps of any operation that has a most number of them
abbrev pub most_events_of_all : ℕ
most_events_of_all = 132

-- where there is a most number of steps, it is no more
abbrev pub IsSmall : Option ℕ → Type 0
IsSmall None = Unit {0}
IsSmall (Some most) = most ≤ most_events_of_all

-- of one operation
pub record OpLaws (c : Config) (op : Op) : Type 0 where
  -- where it may begin, its first phase fits
  pub fits : (t : ℕ) (held : Holdings) → is_in_range c op ≡ true → is_in_order c held op ≡ true →
      is_within_room held op ≡ true → Fits c t held (Some (first_phase c t op))
  -- which has no role, but that it may rely on a file, and has no cause
  pub starts_aside : (t : ℕ) → roles_of (Some (first_phase c t op)) ≡ record no_roles { file = file_of (Some (first_phase c t op)) }
  pub cause : (t : ℕ) (w : World) (earlier : List World) → CauseOf c t w earlier (Some (first_phase c t op))
  -- whether it may begin is the same with holdings that agree
  pub order_agrees : (held seen : Holdings) → Agree c held seen → is_in_range c op ≡ true → is_in_order c held op ≡ is_in_order c seen op
  pub room_agrees : (held seen : Holdings) → Agree c held seen → is_in_range c op ≡ true → is_within_room held op ≡ is_within_room seen op
  -- where it is refused, its task holds what it held when it began
  pub restores : (refusal : GateError) (trace : List Traced) (before : List Action) →
      is_in_order c (holdings_of before) op ≡ true → holdings_of (actions_of op (Err refusal) trace ++ before) ≡ holdings_of before
  -- its first phase relies on its file to be open, or not, only where it may begin with it so
  pub file : (t : ℕ) (held : Holdings) → is_in_order c held op ≡ true → is_within_room held op ≡ true →
      HasFile held.files (file_of (Some (first_phase c t op)))
  -- its traces tell what is to be told, and are short
  pub traces : IsWithin c → TraceLaws c op
  -- its most number of steps is small, where it has one
  pub most_small : IsWithin c → IsSmall (most_events c op)
