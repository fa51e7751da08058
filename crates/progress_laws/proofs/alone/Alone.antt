-- One task alone: its own numbers fall with each step that needn't wait.
use Rattle.progress_laws.proofs.Prelude.{Config, Holdings, HookAnswer, IsGood, IsWithin, Next, None, Ok, Option, Phase, PhaseFits, Some, Words, World}
use Rattle.progress_laws.proofs.Prelude.{after_of, after_step, ap, arith, eqb_tells, false, fits_at, found_at, happens_is, held_of, inl, inr}
use Rattle.progress_laws.proofs.Prelude.{must_wait, phase_after, refl, stands_after, start_steps, steps_left, subst, suc, sym, tries_left, true≢false}
use Rattle.progress_laws.proofs.Prelude.{zero, ℕ, ◌*◌, ◌+◌, ◌<◌, ◌∙◌, ◌≡◌, ◌≤◌}
use Rattle.progress_laws.proofs.nearer.{AllNearer.{RoomFalls, phase_comes, room_falls, starts_small, steps_small, tries_small}, Changes.CountsChanges}
use Rattle.progress_laws.proofs.{nearer.{Changes.{changes_count, changes_small}, Nearer.{ComesNearer, goes_on}}, rounds.Potentials.as_one_small}
use Rattle.progress_laws.{proofs.rounds.{Potentials.{moves_fall, steps_fall, tries_fall}, Settling.{step_good, wait_or_go}}, specs.Alone.SettlesAlone}
use Rattle.progress_laws.specs.{Alone.{all_but, alone_left, most_turns_alone, turns_alone}, LostTasks.SettlesAmong, StepsLeft.changes_left}
use Rattle.progress_laws.specs.StepsLeft.{most_steps, start_room_of, start_steps_of, tries_of, try_room_of}

-- one step, by what it leaves
module _ (starts tries : ℕ) (w after : Words) (phase : Phase) where
  abbrev turn : ℕ
  turn = starts + 1

  fewer : (q : Phase) → ComesNearer w after phase (Next.Go q) → steps_left q + 1 ≤ steps_left phase + 1
  fewer q h = grind arith

  goes : (q : Phase) → ComesNearer w after phase (Next.Go q) → CountsChanges turn w after phase (Next.Go q) → start_steps after q ≤ starts →
      tries_left after q ≤ tries → alone_left starts tries after (Some q) < alone_left starts tries w (Some phase)
  goes q nears (inl k) few tried =
      moves_fall tries (steps_left phase + 1) (steps_left q + 1) (changes_left turn phase) (changes_left turn q) (start_steps w phase)
      (start_steps after q) (tries_left w phase) (tries_left after q) (fewer q nears) (omega (arith, k, few)) tried
  goes q nears (inr (inl m)) few tried =
      moves_fall tries (steps_left phase + 1) (steps_left q + 1) (changes_left turn phase) (changes_left turn q) (start_steps w phase)
      (start_steps after q) (tries_left w phase) (tries_left after q) (fewer q nears) (omega (arith, m.0)) tried
  goes q (inl a) (inr (inr m)) few tried =
      steps_fall tries (steps_left phase + 1) (steps_left q + 1) (changes_left turn phase) (changes_left turn q) (start_steps w phase)
      (start_steps after q) (tries_left w phase) (tries_left after q) (omega (arith, a)) (omega (arith, m.0, m.1)) (m.2 a)
  goes q (inr (inl h)) (inr (inr m)) few tried =
      moves_fall tries (steps_left phase + 1) (steps_left q + 1) (changes_left turn phase) (changes_left turn q) (start_steps w phase)
      (start_steps after q) (tries_left w phase) (tries_left after q) (omega (arith, h.0)) (omega (arith, m.0, h.1)) tried
  goes q (inr (inr h)) (inr (inr m)) few tried =
      tries_fall tries (steps_left phase + 1) (steps_left q + 1) (changes_left turn phase) (changes_left turn q) (start_steps w phase)
      (start_steps after q) (tries_left w phase) (tries_left after q) (omega (arith, h.0)) (omega (arith, m.0, m.1)) h.2

  falls : (coming : Next Phase) → ComesNearer w after phase coming → CountsChanges turn w after phase coming →
      (start_steps_of after (phase_after coming) ≤ starts) × (tries_of after (phase_after coming) ≤ tries) →
      alone_left starts tries after (phase_after coming) < alone_left starts tries w (Some phase)
  falls coming nears counts few = grind (arith, goes, steps_fall, moves_fall)

module _ (c : Config) (lim : IsWithin c) (t : ℕ) (lt : t < c.tasks) where
  -- what it is at, and what comes after, has no more room than this
  abbrev pub HasRoom : (starts tries : ℕ) → Option Phase → Type 0
  HasRoom starts tries p = (start_room_of p ≤ starts) × (try_room_of c.processors p ≤ tries)

  few_at : (starts tries : ℕ) (w : World) → IsGood c w → (p : Option Phase) → (w.views t).phase ≡ p → HasRoom starts tries p →
      (start_steps_of w.words p ≤ starts) × (tries_of w.words p ≤ tries)
  few_at starts tries w good None at room = (omega arith, omega arith)
  few_at starts tries w good (Some phase) at room = (
    omega (arith, starts_small w.words phase, room.0),
    omega (arith, tries_small c w.words t (held_of (w.views t)) phase (fits_at c w good t lt phase at), room.1),
  )

  room_after : (starts tries : ℕ) (phase : Phase) (coming : Next Phase) → RoomFalls c phase coming → HasRoom starts tries (Some phase) →
      HasRoom starts tries (phase_after coming)
  room_after starts tries phase coming h room = grind arith

  pub step_alone : (starts tries : ℕ) (w : World) → IsGood c w → (phase : Phase) → (w.views t).phase ≡ Some phase → must_wait w.words phase ≡ false →
      HasRoom starts tries (Some phase) → (hook : HookAnswer) →
      (alone_left starts tries (after_step w t phase hook).words ((after_step w t phase hook).views t).phase < alone_left starts tries w.words (Some phase)) ×
      HasRoom starts tries ((after_step w t phase hook).views t).phase
  step_alone starts tries w good phase at free room hook =
      let next : World = after_step w t phase hook in
      let coming : Next Phase = (after_of phase (found_at w.words phase hook) hook).0 in
      let is : (next.views t).phase ≡ phase_after coming = stands_after c w t lt hook phase at in
      let more : HasRoom starts tries (phase_after coming) =
      room_after starts tries phase coming (room_falls c phase (found_at w.words phase hook) hook) room in
      subst (λ (p : Option Phase). (alone_left starts tries next.words p < alone_left starts tries w.words (Some phase)) × HasRoom starts tries p) (sym is) (
        falls starts tries w.words next.words phase coming ((phase_comes c phase).nears lim w good t lt hook at (goes_on w.words phase hook free))
            (changes_count (starts + 1) c lim w good t lt hook phase at (goes_on w.words phase hook free))
            (few_at starts tries next (step_good c lim w good t lt hook phase at) (phase_after coming) is more),
        more,
      )

  it_is : (x : ℕ) → all_but t x ≡ false → x ≡ t
  it_is x live = elim (eqb_tells x t) [ inl e ↦ e.1 | inr ne ↦ absurd (true≢false (rw ne.0 at live)) ]

  alone_by : (starts tries n : ℕ) (w : World) → IsGood c w → HasRoom starts tries (w.views t).phase →
      alone_left starts tries w.words (w.views t).phase ≤ n → SettlesAmong c (all_but t) n w
  alone_by starts tries zero w good room le =
      elim (wait_or_go c lim (all_but t) w) [
        | inl s ↦
            let at : (w.views t).phase ≡ Some s.3 = ap (λ y. (w.views y).phase) (sym (it_is s.0 s.2)) ∙ s.4 in
            let h = step_alone starts tries w good s.3 at s.5 (subst (HasRoom starts tries) at room) (Ok tt) in
            absurd (omega (arith, le, h.0, ap (alone_left starts tries w.words) at))
        | inr all ↦ all
      ]
  alone_by starts tries (suc n) w good room le =
      elim (wait_or_go c lim (all_but t) w) [
        | inl s ↦
            let at : (w.views t).phase ≡ Some s.3 = ap (λ y. (w.views y).phase) (sym (it_is s.0 s.2)) ∙ s.4 in
            inr (
              t,
              lt,
              subst (λ x. all_but t x ≡ false) (it_is s.0 s.2) s.2,
              (s.3, at),
              λ hook.
                  let h = step_alone starts tries w good s.3 at s.5 (subst (HasRoom starts tries) at room) hook in
                  subst (SettlesAmong c (all_but t) n) (sym (happens_is c w t lt hook s.3 at))
                  (alone_by starts tries n (after_step w t s.3 hook) (step_good c lim w good t lt hook s.3 at) h.1
                  (omega (arith, le, h.0, ap (alone_left starts tries w.words) at))),
            )
        | inr all ↦ inl all
      ]

  -- none has more changes, with the steps of its start, than a freeze
  moves_alone : (w : Words) (held : Holdings) (phase : Phase) → PhaseFits c t held phase →
      changes_left (start_room_of (Some phase) + 1) phase + start_steps w phase ≤ 15
  moves_alone w held phase f = grind (arith, changes_small)

  try_room_most : (p : Option Phase) → try_room_of c.processors p ≤ 2 * c.processors + 2
  try_room_most p = grind arith

  few_alone : (w : World) → IsGood c w → (p : Option Phase) → (w.views t).phase ≡ p →
      alone_left (start_room_of p) (try_room_of c.processors p) w.words p ≤ most_turns_alone c
  few_alone w good None at = omega arith
  few_alone w good (Some phase) at =
      let fits : PhaseFits c t (held_of (w.views t)) phase = fits_at c w good t lt phase at in
      omega (
        arith,
        as_one_small (try_room_of c.processors (Some phase)) (2 * c.processors + 2) (most_steps c) 15 (steps_left phase + 1)
            (changes_left (start_room_of (Some phase) + 1) phase) (start_steps w.words phase) (tries_left w.words phase)
            (try_room_most (Some phase)) (steps_small c lim w.words t (held_of (w.views t)) phase fits)
            (moves_alone w.words (held_of (w.views t)) phase fits) (tries_small c w.words t (held_of (w.views t)) phase fits),
      )

pub settles_alone : (c : Config) → IsWithin c → (w : World) → IsGood c w → SettlesAlone c w
settles_alone c lim w good t lt = (
  alone_by c lim t lt (start_room_of (w.views t).phase) (try_room_of c.processors (w.views t).phase) (turns_alone c w t) w good
      (omega arith, omega arith) (omega arith),
  few_alone c lim t lt w good (w.views t).phase refl,
)
