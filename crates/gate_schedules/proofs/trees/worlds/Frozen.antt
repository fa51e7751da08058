-- Where the file system is frozen nobody has charged anything, so the tree is sound and clean. It is sound, too, where nobody is at work.
use Rattle.gate_schedules.proofs.Prelude.{Config, Fits, Fitting, HasNoCharge, Holdings, IsGood, IsWithin, List, None, Option, Phase, Traced, Tree}
use Rattle.gate_schedules.proofs.Prelude.{World, arith, held_of, refl, removal, subst, sym, tree_bounds, tree_of, tree_role_of, tree_roles, true, ℕ}
use Rattle.gate_schedules.proofs.Prelude.{◌<◌, ◌≡◌}
use Rattle.gate_world.specs.{Headline.{FrozenTreeIsWhole, TreeIsSound}, Operations.is_writer}
use Rattle.gate_schedules.proofs.{operations.close.Events.{closer_thawed, removal_counted}, trees.{Clearings.exact, worlds.Holders.writer_not_frozen}}
use Rattle.gate_schedules.proofs.trees.worlds.Trees.{sealed_frozen}

-- so only a writer, or a close inside level 3, has charged anything
phase_charges_none : (c : Config) (trace : List Traced) (t : ℕ) (held : Holdings) (p : Option Phase) →
    Fits c t held p → (is_writer c held ≡ true → ⊥) → (held.levels 3 ≡ true → removal (tree_role_of trace p) ≡ 1 → ⊥) →
    HasNoCharge (tree_role_of trace p)
phase_charges_none c trace t held p fits none shut = grind arith

-- and at stage 4 nobody has
pub frozen_quiet : (c : Config) → IsWithin c → (w : World) → IsGood c w → w.words.stage ≡ 4 → (t : ℕ) → t < c.tasks → HasNoCharge (tree_roles w t)
frozen_quiet c within w good frozen t lt =
    phase_charges_none c (w.views t).trace t (held_of (w.views t)) (w.views t).phase (good Fitting t lt)
    (λ writes. writer_not_frozen c w good t lt writes frozen)
    (λ inside removed. closer_thawed c within w good t lt inside (removal_counted c within w good t lt removed) frozen)

pub frozen_whole : (c : Config) → IsWithin c → (w : World) → IsGood c w → FrozenTreeIsWhole c w
frozen_whole c within w good frozen = (
  exact (tree_bounds c) (tree_of w) (good Tree) (frozen_quiet c within w good frozen),
  (good Tree).clean (sealed_frozen w.words.sb w.words.stage (omega (arith, frozen))),
)

idle_quiet : (trace : List Traced) (p : Option Phase) → p ≡ None → HasNoCharge (tree_role_of trace p)
idle_quiet trace p idle =
    subst (λ q. HasNoCharge (tree_role_of trace q)) (sym idle) (record { blocks = refl; removed = refl; children = λ d. refl })

pub idle_sound : (c : Config) (w : World) → IsGood c w → ((t : ℕ) → t < c.tasks → (w.views t).phase ≡ None) → TreeIsSound c w
idle_sound c w good idle =
    exact (tree_bounds c) (tree_of w) (good Tree) (λ t lt. idle_quiet (w.views t).trace (w.views t).phase (idle t lt))
