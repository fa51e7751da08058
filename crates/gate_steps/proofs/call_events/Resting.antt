-- While an operation is under way, a number of whose steps none is new has had no transition.
use Rattle.gate_steps.proofs.Prelude.{Config, Entry, List, Phase, Some, View, World, [], ap, arith, ℕ, ◌++◌, ◌<◌, ◌∙◌, ◌∷◌, ◌≡◌, ◌≤◌}
use Rattle.std.proofs.Common.{length, ◌+◌}
use Rattle.gate_world.specs.Worlds.{happens, run, task_of}
use Rattle.gate_steps.{proofs.call_events.Moments.entry_quiet, specs.{Histories.{BeginsIdle, IsWellFormed}, Seating.NoneOf}}

-- the rest of a well-formed schedule
pub formed_rest : (c : Config) (a b : List Entry) (w : World) → IsWellFormed c w (a ++ b) → IsWellFormed c (run c w a) b
formed_rest c [] b w formed = formed
formed_rest c (e ∷ a) b w formed = formed_rest c a b (happens c w e) formed.1

-- how many steps a number has had
abbrev events_at : World → ℕ → ℕ
events_at w n = length (w.views n).events

-- no transition takes steps away
entry_grows : (c : Config) (n : ℕ) (w : World) (e : Entry) → events_at w n ≤ events_at (happens c w e) n
entry_grows c n w e = grind (arith, length)

run_grows : (c : Config) (n : ℕ) (es : List Entry) (w : World) → events_at w n ≤ events_at (run c w es) n
run_grows c n [] w = omega arith
run_grows c n (e ∷ es) w =
    let one = entry_grows c n w e in
    let more = run_grows c n es (happens c w e) in
    omega arith

module _ (c : Config) (n : ℕ) (task : n < c.tasks) (phase : Phase) where
  -- a transition of its own has one more
  own_grows : (w : World) (e : Entry) → BeginsIdle w e → (w.views n).phase ≡ Some phase → task_of e ≡ n →
      events_at w n + 1 ≤ events_at (happens c w e) n
  own_grows w e idle at its = grind (arith, length)

  pub no_entry : (es : List Entry) (w : World) → IsWellFormed c w es → (w.views n).phase ≡ Some phase →
      events_at (run c w es) n ≤ events_at w n → NoneOf n es
  no_entry [] w formed at few = tt
  no_entry (e ∷ es) w formed at few =
      let more = run_grows c n es (happens c w e) in
      let other : task_of e ≡ n → ⊥ = λ its. let own = own_grows w e formed.0 at its in absurd (omega arith) in
      let same : (happens c w e).views n ≡ w.views n = entry_quiet c w n e other in
      let still : events_at (happens c w e) n ≡ events_at w n = ap (λ (v : View). length v.events) same in
      (other, no_entry es (happens c w e) formed.1 (ap (λ (v : View). v.phase) same ∙ at) (omega arith))
