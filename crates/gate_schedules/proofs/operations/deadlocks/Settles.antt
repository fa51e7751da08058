-- All that is under way comes to its reply, one after the other, until what is left is blocked.
use Rattle.gate_schedules.proofs.Prelude.{Config, EventsKeepRule, HookAnswer, IsGood, IsWithin, None, Option, Phase, ReplyWithin, Some, Steps, View}
use Rattle.gate_schedules.proofs.Prelude.{World, [], after_step, ap, arith, happens, inl, inr, subst, suc, sym, total, total_at, total_bound}
use Rattle.gate_schedules.proofs.Prelude.{total_updated, update_at, value_at, zero, ℕ, ◌*◌, ◌+◌, ◌<◌, ◌≡◌, ◌≤◌}
use Rattle.gate_world.specs.Views.{view_after_with_others}
use Rattle.gate_schedules.proofs.operations.{AllOperations.phase_ends, deadlocks.{BlockedOrProgress.world_goes, RankDecreases.happens_is}}
use Rattle.gate_schedules.specs.operations.{Progress.{AllAreBlocked, Progresses, SettlesWithin}, Ranks.{most_events_to_reply, most_events_to_settle}}

-- 1 where an operation is under way
abbrev is_going : Option Phase → ℕ
is_going None = 0
is_going (Some phase) = 1

going_at_most : (p : Option Phase) → is_going p ≤ 1
going_at_most p = grind arith

-- of how many tasks one is
abbrev going_in : Config → World → ℕ
going_in c w = total c.tasks (λ t. is_going (w.views t).phase)

-- what is blocked has settled
settled_now : (c : Config) (n : ℕ) (w : World) → AllAreBlocked c w → SettlesWithin c n w
settled_now c zero w kept = kept
settled_now c (suc n) w kept = inl kept

settles_further : (c : Config) (n m : ℕ) (w : World) → n ≤ m → SettlesWithin c n w → SettlesWithin c m w
settles_further c zero m w le kept = settled_now c m w kept
settles_further c (suc n) zero w le h = absurd (omega arith)
settles_further c (suc n) (suc m) w le (inl kept) = inl kept
settles_further c (suc n) (suc m) w le (inr h) =
    inr (h.0, h.1, h.2, λ hook. settles_further c n m (happens c w (Steps h.0 hook)) (omega arith) (h.3 hook))

-- with none under way nothing is left to be blocked
none_going : (c : Config) (w : World) → going_in c w ≤ 0 → AllAreBlocked c w
none_going c w none t lt phase at =
    let one : is_going (w.views t).phase ≡ 1 = ap is_going at in
    absurd (omega (arith, total_at c.tasks t (λ x. is_going (w.views x).phase) lt))

module _ (c : Config) (keeps : EventsKeepRule c) (w : World) (good : IsGood c w) (t : ℕ) (lt : t < c.tasks) (phase : Phase)
    (at : (w.views t).phase ≡ Some phase) (hook : HookAnswer) where
  -- a step leaves as many under way, but for its own task
  going_after : going_in c (after_step w t phase hook) + 1 ≡ going_in c w + is_going ((after_step w t phase hook).views t).phase
  going_after =
      let v : View = view_after_with_others [] (w.views t) phase (value_at w.words phase hook) hook in
      let one : is_going (w.views t).phase ≡ 1 = ap is_going at in
      let sum : total c.tasks (λ x. is_going ((after_step w t phase hook).views x).phase) + is_going (w.views t).phase ≡
      going_in c w + is_going v.phase = total_updated (λ (u : View). is_going u.phase) c.tasks t w.views v lt in
      let here : is_going ((after_step w t phase hook).views t).phase ≡ is_going v.phase =
      ap (λ (u : View). is_going u.phase) (update_at w.views t v) in
      omega arith

  -- of the state that the transition leaves
  going_then : going_in c (happens c w (Steps t hook)) + 1 ≡ going_in c w + is_going ((happens c w (Steps t hook)).views t).phase
  going_then =
      subst (λ (next : World). going_in c next + 1 ≡ going_in c w + is_going (next.views t).phase) (sym (happens_is c w t lt hook phase at))
      going_after

  good_then : IsGood c (happens c w (Steps t hook))
  good_then = subst (IsGood c) (sym (happens_is c w t lt hook phase at)) (keeps w good t lt hook phase at)

-- of one more under way than settle within so many steps, one comes to its reply first
after_reply : (c : Config) → EventsKeepRule c → (k m : ℕ) → ((w : World) → IsGood c w → going_in c w ≤ k → SettlesWithin c m w) → (n : ℕ)
    (w : World) → IsGood c w → going_in c w ≤ k + 1 → ReplyWithin c n w → SettlesWithin c (n + m) w
after_reply c keeps k m rest zero w good few h = absurd h
after_reply c keeps k m rest (suc n) w good few h =
    let more : suc (n + m) ≡ suc n + m = omega arith in
    subst (λ j. SettlesWithin c j w) more
    (inr (
      h.0,
      h.1,
      h.2,
      λ hook.
          let next : World = happens c w (Steps h.0 hook) in
          let good' : IsGood c next = good_then c keeps w good h.0 h.1 h.2.0 h.2.1 hook in
          let going = going_then c keeps w good h.0 h.1 h.2.0 h.2.1 hook in
          elim (h.3 hook) [
            | inl r ↦
                let none : is_going (next.views h.0).phase ≡ 0 = ap is_going r in
                settles_further c m (n + m) next (omega arith) (rest next good' (omega arith))
            | inr r ↦
                let most : is_going (next.views h.0).phase ≤ 1 = going_at_most (next.views h.0).phase in
                after_reply c keeps k m rest n next good' (omega arith) r
          ],
    ))

-- so with each of them
settles : (c : Config) → EventsKeepRule c → (n : ℕ) → ((w : World) → IsGood c w → Progresses c n w) → (k : ℕ) (w : World) → IsGood c w →
    going_in c w ≤ k → SettlesWithin c (k * n) w
settles c keeps n goes zero w good few = settled_now c (zero * n) w (none_going c w few)
settles c keeps n goes (suc k) w good few =
    elim (goes w good) [
      | inl near ↦ settles_further c (n + k * n) (suc k * n) w (omega arith)
          (after_reply c keeps k (k * n) (settles c keeps n goes k) n w good (omega arith) near)
      | inr kept ↦ settled_now c (suc k * n) w kept
    ]

pub world_settles : (c : Config) → IsWithin c → EventsKeepRule c → (w : World) → IsGood c w → SettlesWithin c (most_events_to_settle c) w
world_settles c lim keeps w good =
    settles c keeps (most_events_to_reply c) (world_goes c lim keeps (phase_ends c)) c.tasks w good
    (let most : going_in c w ≤ c.tasks * 1 = total_bound c.tasks 1 _ (λ x lx. going_at_most (w.views x).phase) in omega arith)
