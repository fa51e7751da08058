-- What a step that doesn't wait leaves: fewer steps that nobody can undo; or those of a start, with each `block` as it was; or those of an exchange or
-- a sum, with all words as they were.
use Rattle.progress_laws.proofs.Prelude.{Bool, Config, Err, FreezeStep, HookAnswer, IsGood, IsWithin, KeepWaiting, Next, Ok, Phase, Some, Words}
use Rattle.progress_laws.proofs.Prelude.{World, after_of, ap, arith, false, found_at, freeze_waits, hook_of, is_outside, map_next, must_wait, refl}
use Rattle.progress_laws.proofs.Prelude.{start_steps, steps_left, tries_left, true, words_after, ℕ, ◌<◌, ◌∙◌, ◌≡◌, ◌≤◌, ◌⊎◌}
use Rattle.{freeze_levels.specs.Freezes.freeze_hook, gate_schedules.specs.operations.Unblocked.RankDecreases}

-- a freeze that has to wait does so with this answer: with an error it gives its level up
abbrev pub freeze_waits_on : Words → FreezeStep → HookAnswer → Bool
freeze_waits_on w (FreezeStep.Waits d) (Err code) = false
freeze_waits_on w s hook = freeze_waits w s

-- the same of a phase of any layer
abbrev pub waits_on : Words → Phase → HookAnswer → Bool
waits_on w (Phase.Freezes x) hook = freeze_waits_on w x.step hook
waits_on w phase hook = must_wait w phase

-- what need not wait does so with no answer
freeze_goes_on : (w : Words) (s : FreezeStep) (hook : HookAnswer) → freeze_waits w s ≡ false → freeze_waits_on w s hook ≡ false
freeze_goes_on w s hook free = grind arith

pub goes_on : (w : Words) (phase : Phase) (hook : HookAnswer) → must_wait w phase ≡ false → waits_on w phase hook ≡ false
goes_on w (Phase.Freezes x) hook free = freeze_goes_on w x.step hook free
goes_on w phase hook free = free

freeze_on : (w : Words) (s : FreezeStep) (hook : HookAnswer) → freeze_waits_on w s hook ≡ true → freeze_waits w s ≡ true
freeze_on w s hook waits = grind arith

pub on_waits : (w : Words) (phase : Phase) (hook : HookAnswer) → waits_on w phase hook ≡ true → must_wait w phase ≡ true
on_waits w (Phase.Freezes x) hook waits = freeze_on w x.step hook waits
on_waits w phase hook waits = waits

-- what has to wait does so where `keep_waiting` says to
freeze_patient : (w : Words) (s : FreezeStep) (hook : HookAnswer) → (freeze_hook s ≡ Some KeepWaiting → hook ≡ Ok tt) → freeze_waits w s ≡ true →
    freeze_waits_on w s hook ≡ true
freeze_patient w (FreezeStep.Waits d) hook patient waits = ap (freeze_waits_on w (FreezeStep.Waits d)) (patient refl) ∙ waits
freeze_patient w s hook patient waits = waits

pub patient_waits : (w : Words) (phase : Phase) (hook : HookAnswer) → (hook_of phase ≡ Some KeepWaiting → hook ≡ Ok tt) → must_wait w phase ≡ true →
    waits_on w phase hook ≡ true
patient_waits w (Phase.Freezes x) hook patient waits = freeze_patient w x.step hook patient waits
patient_waits w phase hook patient waits = waits

-- of what comes next, by these numbers of it, where those before it are these
abbrev pub NearsBy : {P : Type 0} (left starts tries : P → ℕ) (a b d : ℕ) (same_block same_words : Type 0) → Next P → Type 0
NearsBy left starts tries a b d same_block same_words (Next.Go q) =
    (left q < a) ⊎ (((left q ≤ a) × (starts q < b) × same_block) ⊎ ((left q ≤ a) × (starts q ≤ b) × (tries q < d) × same_words))
NearsBy left starts tries a b d same_block same_words (Next.Wait q) =
    (left q < a) ⊎ (((left q ≤ a) × (starts q < b) × same_block) ⊎ ((left q ≤ a) × (starts q ≤ b) × (tries q < d) × same_words))
NearsBy left starts tries a b d same_block same_words (Next.Done answer) = Unit {0}

-- the same of a phase of any layer
abbrev pub ComesNearer : Words → Words → Phase → Next Phase → Type 0
ComesNearer w after p next =
    NearsBy steps_left (start_steps after) (tries_left after) (steps_left p) (start_steps w p) (tries_left w p) (after.block ≡ w.block) (after ≡ w)
    next

-- what comes after a step that has to wait is that, with all words as they were
abbrev pub StaysBy : {P : Type 0} (waits : P → Type 0) (left starts tries : P → ℕ) (a b d : ℕ) → Next P → Type 0
StaysBy waits left starts tries a b d (Next.Go q) = waits q × (left q ≡ a) × (starts q ≡ b) × (tries q ≡ d)
StaysBy waits left starts tries a b d (Next.Wait q) = waits q × (left q ≡ a) × (starts q ≡ b) × (tries q ≡ d)
StaysBy waits left starts tries a b d (Next.Done answer) = ⊥

abbrev pub StaysWaiting : Words → Phase → Next Phase → Type 0
StaysWaiting w p next =
    StaysBy (λ q. must_wait w q ≡ true) steps_left (start_steps w) (tries_left w) (steps_left p) (start_steps w p) (tries_left w p) next

-- of each phase
pub record NearsPhase (c : Config) (phase : Phase) : Type 0 where
  pub nears : IsWithin c → (w : World) → IsGood c w → (t : ℕ) → t < c.tasks → (hook : HookAnswer) → (w.views t).phase ≡ Some phase →
      waits_on w.words phase hook ≡ false →
      ComesNearer w.words (words_after w.words phase hook) phase (after_of phase (found_at w.words phase hook) hook).0
  pub stays : IsWithin c → (w : World) → IsGood c w → (t : ℕ) → t < c.tasks → (hook : HookAnswer) → (w.views t).phase ≡ Some phase →
      waits_on w.words phase hook ≡ true → is_outside w.words phase ≡ false →
      (words_after w.words phase hook ≡ w.words) × StaysWaiting w.words phase (after_of phase (found_at w.words phase hook) hook).0

-- fewer steps that nobody can undo
abbrev pub FewerLeft : {P : Type 0} → (P → ℕ) → ℕ → Next P → Type 0
FewerLeft left a (Next.Go q) = left q < a
FewerLeft left a (Next.Wait q) = left q < a
FewerLeft left a (Next.Done answer) = Unit {0}

-- into the phases of all layers
pub phase_nears : {A : Type 0} (to : A → Phase) (w after : Words) (a b d : ℕ) (next : Next A) →
    NearsBy (λ x. steps_left (to x)) (λ x. start_steps after (to x)) (λ x. tries_left after (to x)) a b d (after.block ≡ w.block) (after ≡ w) next →
    NearsBy steps_left (start_steps after) (tries_left after) a b d (after.block ≡ w.block) (after ≡ w) (map_next to next)
phase_nears to w after a b d next h = grind arith

pub phase_fewer : {A : Type 0} (to : A → Phase) (w after : Words) (a b d : ℕ) (next : Next A) → FewerLeft (λ x. steps_left (to x)) a next →
    NearsBy steps_left (start_steps after) (tries_left after) a b d (after.block ≡ w.block) (after ≡ w) (map_next to next)
phase_fewer to w after a b d next h = grind arith

pub phase_falls : {A : Type 0} (to : A → Phase) (w after : Words) (rank_of : Phase → ℕ) (free : Phase → Type 0) (a b d : ℕ) (next : Next A) →
    ((x : A) → steps_left (to x) ≡ rank_of (to x)) → RankDecreases rank_of free a (map_next to next) →
    NearsBy steps_left (start_steps after) (tries_left after) a b d (after.block ≡ w.block) (after ≡ w) (map_next to next)
phase_falls to w after rank_of free a b d next same h = grind arith

pub phase_stays : {A : Type 0} (to : A → Phase) (w : Words) (a b d : ℕ) (next : Next A) →
    StaysBy (λ x. must_wait w (to x) ≡ true) (λ x. steps_left (to x)) (λ x. start_steps w (to x)) (λ x. tries_left w (to x)) a b d next →
    StaysBy (λ q. must_wait w q ≡ true) steps_left (start_steps w) (tries_left w) a b d (map_next to next)
phase_stays to w a b d next h = grind arith
