-- What a task's step leaves: a changed role beside changed words.
use Rattle.std.proofs.Common.{ap, arith, inl, inr, ℕ, ◌*◌, ◌+◌, ◌<◌, ◌∙◌, ◌≡◌, ◌≤◌, ◌⊎◌}
use Rattle.finite_sums.{proofs.Totals.{each_updated, total_at, total_updated, update_off}, specs.Sums.{total, update}}
use Rattle.freeze_laws.{proofs.stages.Positions.{other_owns, passed_is}, specs.stages.Roles.{Aside, KnowsStage, StageRole, StagesHold, closes}}
use Rattle.freeze_laws.specs.stages.{Roles.{freezes, is_full, owns, passed_by, remounts, under_way}, Shown.passed_shown}

-- who doesn't own `umount` relies at most on the stage that it stored
free_knows : (stage sb stage' sb' : ℕ) (r : StageRole) → owns r ≡ 0 → (freezes r ≡ 0) ⊎ (stage' ≡ stage) → KnowsStage stage sb r →
    KnowsStage stage' sb' r
free_knows stage sb stage' sb' r o h k = grind arith

module _ (tasks stage sb remount : ℕ) (block : ℕ → ℕ) (at : ℕ → StageRole) (good : StagesHold tasks stage sb remount block at) (t : ℕ)
    (lt : t < tasks) where
  -- what a step's words and role after it have to agree on with those before it
  pub record Agrees (old new : StageRole) (stage' sb' remount' : ℕ) (block' : ℕ → ℕ) : Type 0 where
    pub stages : stage' ≤ 4
    pub superblock : sb' ≤ 1
    pub alone : total tasks (λ u. owns (at u)) + owns new ≤ owns old + 1
    pub freezing : freezes new + under_way stage ≡ freezes old + under_way stage'
    pub writable : under_way stage' ≡ 1 → sb' ≡ 0
    pub remounting : remounts new + remount ≡ remounts old + remount'
    pub blocks : (i : ℕ) → 1 ≤ i → i ≤ 3 → block' i + (closes i old + is_full stage sb) ≡ block i + (closes i new + is_full stage' sb')
    pub others : (u : ℕ) → u < tasks → (u ≡ t → ⊥) → KnowsStage stage' sb' (at u)
    pub own : KnowsStage stage' sb' new

  pub any_event : (old new : StageRole) (stage' sb' remount' : ℕ) (block' : ℕ → ℕ) → at t ≡ old →
      Agrees old new stage' sb' remount' block' →
      StagesHold tasks stage' sb' remount' block' (update at t new)
  any_event old new stage' sb' remount' block' e agrees = record {
    stages = agrees.stages;
    superblock = agrees.superblock;
    alone = omega (arith, agrees.alone, good.alone, total_updated owns tasks t at new lt, ap owns e);
    freezing = omega (arith, agrees.freezing, good.freezing, total_updated freezes tasks t at new lt, ap freezes e);
    writable = agrees.writable;
    remounting = omega (arith, agrees.remounting, good.remounting, total_updated remounts tasks t at new lt, ap remounts e);
    blocks = λ i low high.
        omega (arith, agrees.blocks i low high, good.blocks i low high, total_updated (closes i) tasks t at new lt, ap (closes i) e);
    knows = λ u lu. each_updated (λ y r. KnowsStage stage' sb' r) at t new u agrees.own (λ ne. agrees.others u lu ne);
  }

  -- beside a task that is in the freeze, or where there is none, nobody is in a freeze
  other_freezes : (old : StageRole) → at t ≡ old → freezes old ≡ under_way stage → (u : ℕ) → u < tasks → (u ≡ t → ⊥) → freezes (at u) ≡ 0
  other_freezes old e w u lu ne =
      let a : total tasks (λ y. freezes (update at t Aside y)) + freezes (at t) ≡ total tasks (λ y. freezes (at y)) + 0 =
      total_updated freezes tasks t at Aside lt in
      let b : freezes (update at t Aside u) ≤ total tasks (λ y. freezes (update at t Aside y)) =
      total_at tasks u (λ y. freezes (update at t Aside y)) lu in
      omega (arith, a, b, w, ap freezes e, good.freezing, ap freezes (update_off at t Aside u ne))

  -- what other tasks rely on, where an owner changes the flags or, with no other freeze under way, the stage
  pub others_know : (old : StageRole) (stage' sb' : ℕ) → at t ≡ old → owns old ≡ 1 → (freezes old ≡ under_way stage) ⊎ (stage' ≡ stage) →
      (u : ℕ) → u < tasks → (u ≡ t → ⊥) → KnowsStage stage' sb' (at u)
  others_know old stage' sb' e o h u lu ne =
      let f : (freezes old ≡ under_way stage) → freezes (at u) ≡ 0 = λ w. other_freezes old e w u lu ne in
      free_knows stage sb stage' sb' (at u) (other_owns tasks stage sb remount block at good t lt (ap owns e ∙ o) u lu ne)
      (elim h [ inl w ↦ inl (f w) | inr s ↦ inr s ]) (good.knows u lu)

  -- what is passed after a step, beside what was
  pub passed_moves : (old new : StageRole) (stage' sb' remount' : ℕ) (block' : ℕ → ℕ) → at t ≡ old →
      StagesHold tasks stage' sb' remount' block' (update at t new) →
      passed_shown tasks block' (update at t new) + (passed_by old + 3 * is_full stage sb) ≡
      passed_shown tasks block at + (passed_by new + 3 * is_full stage' sb')
  passed_moves old new stage' sb' remount' block' e good' =
      omega (
        arith,
        ap passed_by e,
        passed_is tasks stage sb remount block at good,
        passed_is tasks stage' sb' remount' block' (update at t new) good',
        total_updated passed_by tasks t at new lt,
      )
