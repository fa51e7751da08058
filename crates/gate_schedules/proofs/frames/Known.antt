-- What the owner of `umount` has found or left is still there: nobody else changes such a word.
use Rattle.gate_schedules.proofs.Prelude.{Config, Event, Holds, HookAnswer, IsGood, Known, List, None, Owner, Phase, Some, Touch, Traced, View}
use Rattle.gate_schedules.proofs.Prelude.{WordName, Words, World, [], after_of, after_step, ap, arith, cases_Bool, each_updated, event_of, false}
use Rattle.gate_schedules.proofs.Prelude.{found_at, inl, inr, is_some, left, next_of, owns, phase_after, put, read, sym, true, true≢false, value_at}
use Rattle.gate_schedules.proofs.Prelude.{view_after, words_after, ℕ, ◌<◌, ◌∙◌, ◌∷◌, ◌≡◌, ◌⊎◌}
use Rattle.gate_world.specs.{Owners.{KnowsWords, is_owned, is_owned_word, last_left, takes_lock}, traces.Found.is_load}

none_is_none : {A : Type 0} {B : Type 0} (x : A) → None ≡ Some x → B
none_is_none x h = absurd (true≢false (ap is_some (sym h)))

pub owned_first : (word other : WordName) → is_owned_word word other ≡ true → is_owned word ≡ true
owned_first word other h = grind (arith, h)

pub owned_second : (word other : WordName) → is_owned_word word other ≡ true → is_owned other ≡ true
owned_second word other h = grind (arith, h)

-- a write of an owned word leaves its value there
put_owned : (w : Words) (word other : WordName) (value : ℕ) → is_owned_word word other ≡ true → read (put w other value) word ≡ value
put_owned w word other value h = grind (arith, h)

put_other : (w : Words) (word other : WordName) (value : ℕ) → is_owned word ≡ true → is_owned_word word other ≡ false →
    read (put w other value) word ≡ read w word
put_other w word other value h k = grind (arith, h, k)

load_leaves : (w : Words) (word other : WordName) (touch : Touch) → is_load touch ≡ true →
    read (put w other (left touch (read w other))) word ≡ read w word
load_leaves w word other touch h = grind arith

-- only an owned word is known
known_owned : (word : WordName) (trace : List Traced) (value : ℕ) → last_left word trace ≡ Some value → is_owned word ≡ true
known_owned word [] value h = none_is_none value h
known_owned word (e ∷ earlier) value h =
    elim (cases_Bool (takes_lock e.event)) [
      | inl f ↦ none_is_none value (rw f at h)
      | inr f ↦ elim (cases_Bool (is_owned_word word e.event.word)) [
        | inl g ↦ owned_first word e.event.word g
        | inr g ↦ known_owned word earlier value (rw (f, g) at h)
      ]
    ]

read_same : (old new : Words) → (new.stage ≡ old.stage) × (new.sb ≡ old.sb) × (new.remount ≡ old.remount) × (new.flags ≡ old.flags) ×
    (new.holders ≡ old.holders) →
    (word : WordName) → is_owned word ≡ true → read new word ≡ read old word
read_same old new same word h = grind (arith, h)

pub known_same : (old new : Words) → (new.stage ≡ old.stage) × (new.sb ≡ old.sb) × (new.remount ≡ old.remount) × (new.flags ≡ old.flags) ×
    (new.holders ≡ old.holders) →
    (trace : List Traced) → KnowsWords old trace → KnowsWords new trace
known_same old new same trace h word value k = read_same old new same word (known_owned word trace value k) ∙ h word value k

-- the step of a phase, on a word that held this value
abbrev pub event_on : Phase → ℕ → HookAnswer → Event
event_on phase value hook = event_of (next_of phase hook).0 (next_of phase hook).1 value

-- Who changes an owned word owns `umount`, and nobody comes to own it but by taking it.
pub record IsOwnersWork (w : World) (phase : Phase) (hook : HookAnswer) : Type 0 where
  pub changes : is_owned (next_of phase hook).0 ≡ true → (is_load (next_of phase hook).1 ≡ true) ⊎ (owns (Some phase) ≡ 1)
  pub comes_to_own : owns (phase_after (after_of phase (found_at w.words phase hook) hook).0) ≡ 1 →
      (owns (Some phase) ≡ 1) ⊎ (takes_lock (event_on phase (value_at w.words phase hook) hook) ≡ true)

module _ (c : Config) (w : World) (t : ℕ) (phase : Phase) (hook : HookAnswer) (good : IsGood c w) (lt : t < c.tasks)
    (e : (w.views t).phase ≡ Some phase) (work : IsOwnersWork w phase hook) where
  -- what the task itself knew, and what its step found or left
  own_known : owns (phase_after (after_of phase (found_at w.words phase hook) hook).0) ≡ 1 →
      KnowsWords (words_after w.words phase hook) (view_after (w.views t) phase (value_at w.words phase hook) hook).trace
  own_known o word value h =
      elim (cases_Bool (takes_lock (event_on phase (value_at w.words phase hook) hook))) [
        | inl f ↦ none_is_none value (rw f at h)
        | inr f ↦ elim (work.comes_to_own o) [
          | inr g ↦ absurd (true≢false (sym g ∙ f))
          | inl g ↦ elim (cases_Bool (is_owned_word word (next_of phase hook).0)) [
            | inl k ↦
                let is : Some (left (next_of phase hook).1 (value_at w.words phase hook)) ≡ Some value = rw (f, k) at h in
                put_owned w.words word (next_of phase hook).0 (left (next_of phase hook).1 (value_at w.words phase hook)) k ∙ cc
            | inr k ↦
                let was : last_left word (w.views t).trace ≡ Some value = rw (f, k) at h in
                put_other w.words word (next_of phase hook).0 (left (next_of phase hook).1 (value_at w.words phase hook))
                (known_owned word (w.views t).trace value was) k ∙
                good Known t lt (ap owns e ∙ g) word value was
          ]
        ]
      ]

  -- what another owner knew: the step changes no owned word
  other_known : (y : ℕ) → y < c.tasks → (y ≡ t → ⊥) → owns (w.views y).phase ≡ 1 →
      KnowsWords (words_after w.words phase hook) (w.views y).trace
  other_known y ly ne o word value h =
      let there : read (words_after w.words phase hook) word ≡ read w.words word =
      elim (cases_Bool (is_owned_word word (next_of phase hook).0)) [
        | inl k ↦ elim (work.changes (owned_second word (next_of phase hook).0 k)) [
          | inl f ↦ load_leaves w.words word (next_of phase hook).0 (next_of phase hook).1 f
          | inr f ↦ absurd (ne (omega (arith, (good Owner).locked y ly o, (good Owner).locked t lt (ap owns e ∙ f))))
        ]
        | inr k ↦ put_other w.words word (next_of phase hook).0 (left (next_of phase hook).1 (value_at w.words phase hook))
            (known_owned word (w.views y).trace value h) k
      ] in
      there ∙ good Known y ly o word value h

  pub known_after : Holds c (after_step w t phase hook) Known
  known_after x lx =
      each_updated (λ y (u : View). owns u.phase ≡ 1 → KnowsWords (words_after w.words phase hook) u.trace) w.views t
      (view_after (w.views t) phase (value_at w.words phase hook) hook) x own_known (λ ne. other_known x lx ne)
