-- What a sum in progress says, by the invariant. While a freeze sums a level's words, nobody is on the level's fast path, so what is held there is all that is
-- admitted.
use Rattle.gate_schedules.proofs.Prelude.{AtLevel, AtMount, Config, IsGood, LevelRole, MountHoldsIn, SyncRole, World, ap, arith, at_level, at_mount}
use Rattle.gate_schedules.proofs.Prelude.{level_role_of, role_of, subst, sync_role_of, total, total_at, total_none, ℕ, ◌+◌, ◌<◌, ◌∙◌, ◌≡◌, ◌≤◌}
use Rattle.cpu_words.specs.gate_counts.{Gates.{BarringHolds, admitted, bars}, Levels.{Summing as SumsLevel, barring_of, level_as_gate}}
use Rattle.{finite_sums.proofs.Totals.{total_add, total_same}, freeze_laws.specs.levels.Roles.{Fast, fast}}
use Rattle.gate_world.specs.{Headline.{LevelsLead, admitted_at}, Rules.LevelHoldsIn}
use Rattle.mount_counts.specs.Roles.{Role, Summing, admitted as admitted_there, barring_of as barring_there, mount_as_gate}
use Rattle.gate_schedules.{proofs.levels.Worlds.fast_finds_open, specs.Leads.{MountsLead, SumsLead, to_come_at_level, to_come_at_mount}}

not_fast : (r : SyncRole) → (r ≡ Fast → ⊥) → fast r ≡ 0
not_fast r h = grind arith

module _ (c : Config) (w : World) (good : IsGood c w) (t : ℕ) (lt : t < c.tasks) where
  -- what a freeze that sums a level's words says of them
  level_says : (i read sum : ℕ) → 1 ≤ i → i ≤ 3 → level_role_of i (w.views t).phase ≡ SumsLevel read sum →
      BarringHolds c.processors (w.words.level i) (total c.tasks (λ x. admitted (level_as_gate (at_level i (w.views x)))))
      (to_come_at_level c w i) (barring_of (SumsLevel read sum))
  level_says i read sum one three e =
      let g : LevelHoldsIn c w i = good (AtLevel i) one three in
      subst (λ (r : LevelRole). BarringHolds c.processors (w.words.level i)
      (total c.tasks (λ x. admitted (level_as_gate (at_level i (w.views x))))) (to_come_at_level c w i) (barring_of r)) e (g.gate.sums t lt)

  -- and a change or a remount that sums a mount's
  mount_says : (m read sum : ℕ) → m < c.mounts → role_of m (w.views t).phase ≡ Summing read sum →
      BarringHolds c.processors (w.words.count m) (total c.tasks (λ x. admitted_there (at_mount m (w.views x))))
      (to_come_at_mount c w m) (barring_there (Summing read sum))
  mount_says m read sum there e =
      let g : MountHoldsIn c w m = good (AtMount m) there in
      subst (λ (r : Role). BarringHolds c.processors (w.words.count m)
      (total c.tasks (λ x. admitted_there (at_mount m (w.views x)))) (to_come_at_mount c w m) (barring_there r)) e (g.gate.sums t lt)

levels_lead : (c : Config) (w : World) → IsGood c w → LevelsLead c w
levels_lead c w good t i read sum lt one three e =
    let g : LevelHoldsIn c w i = good (AtLevel i) one three in
    let bar : bars (level_as_gate (at_level i (w.views t))).barring ≡ 1 = ap (λ r. bars (barring_of r)) e in
    let closed : w.words.block i ≡ 1 =
    omega (arith, total_at c.tasks t (λ x. bars (level_as_gate (at_level i (w.views x))).barring) lt, bar, g.gate.flag, g.known) in
    let slow : total c.tasks (λ x. fast (sync_role_of i (w.views x).phase)) ≡ 0 =
    total_none c.tasks _ (λ x lx. not_fast (sync_role_of i (w.views x).phase)
    (λ here. omega (arith, closed, fast_finds_open c w good i one three x lx here))) in
    let says = level_says c w good t lt i read sum one three e in
    let parts : total c.tasks (λ x. admitted_at i (w.views x)) ≡
    total c.tasks (λ x. admitted (level_as_gate (at_level i (w.views x)))) + total c.tasks (λ x. fast (sync_role_of i (w.views x).phase)) =
    total_same c.tasks _ _ (λ x lx. omega arith) ∙ total_add c.tasks _ _ in
    (closed, omega (arith, says.1, slow, parts))

mounts_lead : (c : Config) (w : World) → IsGood c w → MountsLead c w
mounts_lead c w good t m read sum lt there e =
    let g : MountHoldsIn c w m = good (AtMount m) there in
    let bar : bars (mount_as_gate (at_mount m (w.views t))).barring ≡ 1 = ap (λ r. bars (barring_there r)) e in (
      omega (arith, total_at c.tasks t (λ x. bars (mount_as_gate (at_mount m (w.views x))).barring) lt, bar, g.gate.flag, g.bits),
      (mount_says c w good t lt m read sum there e).1,
    )

pub sums_lead : (c : Config) (w : World) → IsGood c w → SumsLead c w
sums_lead c w good = record {
  levels = levels_lead c w good;
  mounts = mounts_lead c w good;
  level_bound = λ t i read sum lt one three e. (level_says c w good t lt i read sum one three e).2;
  mount_bound = λ t m read sum lt there e. (mount_says c w good t lt m read sum there e).2;
}
