-- A thaw that finds `umount` free runs out.
use Rattle.gate_schedules.proofs.Prelude.{Config, Err, Fits, Fitting, HookAnswer, IsGood, IsUnblocked, Next, Ok, Phase, PhaseEnds, PhaseFits}
use Rattle.gate_schedules.proofs.Prelude.{RankDecreases, Thaw, ThawStep, UpWrite, Words, World, ap, arith, cases_Bool, eq-eqb, eqb_tells, false}
use Rattle.gate_schedules.proofs.Prelude.{found_at, found_by, held_by, held_of, holders_in, inl, inr, nat_lt, position_sync, rank, read, refl, subst}
use Rattle.gate_schedules.proofs.Prelude.{sync_role_of, up_write_after, up_write_next, words_after, ℕ, ◌*◌, ◌+◌, ◌-◌, ◌<◌, ◌∙◌, ◌≡◌}
use Rattle.{access_model.specs.Holders.{is_unheld, with_holder}, freeze_laws.specs.levels.Operations.up_write_role}
use Rattle.{freeze_levels.specs.Thaws.{after_opening, thaw_after, thaw_next}, gate_world.specs.{Fits.ThawFits, Roles.{sync_beside, thaw_position}}}
use Rattle.gate_schedules.proofs.{operations.deadlocks.RankDecreases.{after_event, falls_as}, writers.Progress.up_falls}
use Rattle.gate_schedules.specs.operations.{Ranks.{reopens_rank, thaw_rank, up_rank}, Unblocked.ThawIsUnblocked}

-- after a step of the reopening of a level: those below it are still to be reopened
opens_falls : (after : Words) (x : Thaw) (level r : ℕ) (next : Next UpWrite) →
    RankDecreases (reopens_rank after) (λ (y : UpWrite). Unit {0}) (r + 3 * (level - 1) + 1) next →
    RankDecreases (λ (y : Thaw). thaw_rank after y.step) (λ (y : Thaw). ThawIsUnblocked after y.step) (r + 3 * (level - 1) + 1)
    (after_opening x level next)
opens_falls after x level r next h = grind arith

module _ (c : Config) (w : World) (good : IsGood c w) (t : ℕ) (lt : t < c.tasks) (x : Thaw) where
  thaw_falls : (hook : HookAnswer) (s : ThawStep) → ((i : ℕ) → sync_role_of i (w.views t).phase ≡ position_sync i (thaw_position s)) →
      ThawFits x.holder s → ThawIsUnblocked w.words s →
      RankDecreases (λ (y : Thaw). thaw_rank (after_event w.words (thaw_next x s hook)) y.step)
      (λ (y : Thaw). ThawIsUnblocked (after_event w.words (thaw_next x s hook)) y.step) (thaw_rank w.words s)
      (thaw_after x s (found_by (thaw_next x s hook).1 (read w.words (thaw_next x s hook).0)) hook).0
  thaw_falls hook ThawStep.Locks role fits free = rw free (omega arith, tt)
  thaw_falls hook ThawStep.LoadsStage role fits free =
      elim (eqb_tells w.words.stage 4) [ inl h ↦ rw h.0 (omega arith, tt) | inr h ↦ rw h.0 (omega arith, tt) ]
  thaw_falls hook ThawStep.LoadsHolders role fits free =
      elim (cases_Bool (held_by (holders_in w.words.holders) x.holder)) [
        | inl h ↦ elim (cases_Bool (is_unheld (with_holder x.holder false (holders_in w.words.holders)))) [
          | inl q ↦ rw (h, q) (omega arith, tt)
          | inr q ↦ rw (h, q) (omega arith, tt)
        ]
        | inr h ↦ rw h (omega arith, tt)
      ]
  thaw_falls hook ThawStep.LoadsSuperblock role fits free =
      elim (eqb_tells w.words.sb 0) [ inl h ↦ rw h.0 (omega arith, tt) | inr h ↦ rw h.0 (omega arith, tt) ]
  thaw_falls (Ok answer) ThawStep.LeavesLast role fits free = (omega arith, tt)
  thaw_falls (Err code) ThawStep.LeavesLast role fits free = tt
  thaw_falls hook (ThawStep.Reopens u) role fits free =
      let here : position_sync u.level (thaw_position (ThawStep.Reopens u)) ≡ up_write_role u.step =
      ap (λ q. sync_beside q (nat_lt u.level u.level) (up_write_role u.step)) (eq-eqb u.level u.level refl) in
      opens_falls (after_event w.words (up_write_next u u.step)) x u.level (up_rank (w.words.sync u.level) u.step)
      (up_write_after u u.step (found_by (up_write_next u u.step).1 (read w.words (up_write_next u u.step).0))).0
      (up_falls c w good t lt u fits.0 fits.1 u.step (role u.level ∙ here))
  thaw_falls hook (ThawStep.Releases answer) role fits free = tt
  thaw_falls hook other role fits free = (omega arith, tt)

pub thaw_ends : (c : Config) (x : Thaw) → PhaseEnds c (Phase.Thaws x)
thaw_ends c x = record {
  falls = λ lim w good t lt hook at free.
      let f : PhaseFits c t (held_of (w.views t)) (Phase.Thaws x) =
      subst (Fits c t (held_of (w.views t))) at (good Fitting t lt) in
      let after : Words = words_after w.words (Phase.Thaws x) hook in
      falls_as Phase.Thaws (rank after) (IsUnblocked c after) (thaw_rank w.words x.step)
      (thaw_after x x.step (found_at w.words (Phase.Thaws x) hook) hook).0
      (thaw_falls c w good t lt x hook x.step (λ i. ap (sync_role_of i) at) f.2 free);
}
