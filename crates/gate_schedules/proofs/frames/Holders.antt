-- Who holds a freeze, as the laws of the holders have it: what holds of it in a state, and what a step of a task leaves of it.
use Rattle.gate_schedules.proofs.Prelude.{Config, Holding, Holds, IsGood, Option, Owner, Phase, View, Words, World, ap, arith, eqb_tells}
use Rattle.gate_schedules.proofs.Prelude.{holder_role_of, inl, inr, owns, subst, sym, total, total_none, update, update_map, update_same, ℕ, ◌<◌, ◌∙◌}
use Rattle.gate_schedules.proofs.Prelude.{◌≡◌, ◌≤◌}
use Rattle.freeze_levels.{proofs.holder_laws.HolderLaws.events_keep, specs.holder_laws.Events.{Happens, HolderEvent, HolderMoment, Moves, Stays}}
use Rattle.freeze_levels.specs.holder_laws.Roles.{HoldersHold, minds}
use Rattle.gate_world.specs.Rules.{holder_roles}
use Rattle.gate_schedules.proofs.frames.Owners.{owns_le}

pub holder_owner : (p : Option Phase) → minds (holder_role_of p) ≤ owns p
holder_owner p = grind arith

-- the holders of a state
abbrev pub holders_at : World → HolderMoment
holders_at w = record { stage = w.words.stage; holders = w.words.holders; at = holder_roles w }

module _ (c : Config) (w : World) (good : IsGood c w) (t : ℕ) (lt : t < c.tasks) where
  -- beside an owner that relies on nothing nobody does
  pub nobody_minds : owns (w.views t).phase ≡ 1 → minds (holder_roles w t) ≡ 0 → total c.tasks (λ y. minds (holder_roles w y)) ≡ 0
  nobody_minds own none = total_none c.tasks (λ y. minds (holder_roles w y)) (λ y ly.
      elim (eqb_tells y t) [
        | inl q ↦ subst (λ z. minds (holder_roles w z) ≡ 0) (sym q.1) none
        | inr q ↦
            let other : owns (w.views y).phase ≡ 1 → ⊥ =
            λ o. q.1 (omega (arith, (good Owner).locked y ly o, (good Owner).locked t lt own)) in
            omega (arith, other, owns_le (w.views y).phase, holder_owner (w.views y).phase)
      ])

  module _ (ws : Words) (v : View) where
    -- what is there of the holders where the step is one of these
    abbrev pub IsHolderEvent : HolderEvent → Type 0
    IsHolderEvent kind = Happens c.tasks t (holders_at w) record {
      stage = ws.stage;
      holders = ws.holders;
      at = update (holder_roles w) t (holder_role_of v.phase);
    } kind

    -- so what holds of them holds again
    pub holders_after : (kind : HolderEvent) → IsHolderEvent kind → Holds c (record { words = ws; views = update w.views t v }) Holding
    holders_after kind happens =
        subst (HoldersHold c.tasks ws.stage ws.holders) (sym (update_map (λ (u : View). holder_role_of u.phase) w.views t v))
        (events_keep c.tasks t (holders_at w) _ kind (good Holding) lt happens)

    -- a task that has to do with them what it had, where the stage and they are as they were, or the stage was not 4 and isn't
    pub holders_stay : ws.stage ≡ w.words.stage → ws.holders ≡ w.words.holders →
        holder_role_of v.phase ≡ holder_role_of (w.views t).phase → Holds c (record { words = ws; views = update w.views t v }) Holding
    holders_stay es eh role = holders_after Stays (λ j. record {
      stage = es j;
      holders = eh j;
      at = (ap (update (holder_roles w) t) role ∙ update_same (holder_roles w) t) j;
    })

    pub holders_move : (w.words.stage ≡ 4 → ⊥) → (ws.stage ≡ 4 → ⊥) → ws.holders ≡ w.words.holders →
        holder_role_of v.phase ≡ holder_role_of (w.views t).phase → Holds c (record { words = ws; views = update w.views t v }) Holding
    holders_move off off' eh role = holders_after (Moves ws.stage) (
      off,
      off',
      λ j. record {
        stage = ws.stage;
        holders = eh j;
        at = (ap (update (holder_roles w) t) role ∙ update_same (holder_roles w) t) j;
      },
    )
