-- The action of each step of a call at the tree can be done.
use Rattle.gate_schedules.proofs.Prelude.{ActionFits, Config, Holdings, HookAnswer, IsWithin, Phase, PhaseFits, TreePhase, after_of, arith, ℕ}

module _ (held : Holdings) where
  pub tree_acts : (c : Config) → IsWithin c → (t : ℕ) (x : TreePhase) (found : ℕ) (hook : HookAnswer) →
      PhaseFits c t held (Phase.Trees x) → ActionFits held (after_of (Phase.Trees x) found hook).1
  tree_acts c within t x found hook f = grind arith
