-- Whole operations, step by step: what one step leaves is what the next one asks for.
use Rattle.std.{proofs.Common.{List, arith, false, refl, suc, true, zero, ℕ, ◌≡◌}, specs.Prelude.{None, Option, Some}}
use Rattle.access_model.specs.declared.actions.{Action.Action, Holder.Holder}
use Rattle.freeze_laws.specs.stages.Events.{Advances, Begins, ClearsBlock, ClearsMark, Completes, Happens, HoldsOne, LeavesOne, LetsGo, LoadsSb}
use Rattle.freeze_laws.specs.stages.Events.{LoadsStage, Locks, LocksAgain, MarksNode, Passes, Releases, ReleasesOpen, SameDuties, SetsBlock}
use Rattle.freeze_laws.specs.stages.{Events.{StageEvent, Stages, Syncs, Thaws, action_of}, Laws.{Ends, FreezeAndThawHappen, Goes, StageRun, with_one}}
use Rattle.freeze_laws.specs.stages.Roles.{Before, CleanBelow, HasPassed, Owning}

-- one step, and the rest of a run of one task and two nodes
goes : {x x' last : Stages} {actions : List Action} (kind : StageEvent) → Happens 1 2 0 x x' kind → StageRun 1 2 x' actions last →
    StageRun 1 2 x (with_one (action_of kind x) actions) last
goes kind happens rest = Goes _ _ _ _ kind happens rest

root_clean : (dirty : ℕ → ℕ) → dirty 0 ≡ 0 → CleanBelow 1 dirty
root_clean dirty e zero lt = e
root_clean dirty e (suc n) lt = absurd (omega (arith, lt))

owners_alike : {stage sb stage' sb' : Option ℕ} → SameDuties (Owning stage sb) (Owning stage' sb')
owners_alike = record { owns_same = refl; freezes_same = refl; remounts_same = refl; closed_same = refl; passed_same = refl }

pub freeze_and_thaw_happen : FreezeAndThawHappen
freeze_and_thaw_happen = (
  _,
  _,
  refl,
  refl,
  refl,
  refl,
  goes (MarksNode 1 1) (omega arith, refl, refl, refl) (
      goes Locks (refl, refl, refl) (
      goes (LoadsStage None None) (refl, refl) (
      goes (LoadsSb (Some 0) None) (refl, refl) (
      goes Begins (refl, refl) (
      goes (LetsGo 1 Before) (refl, refl) (
      goes (SetsBlock 1 false) (refl, refl) (
      goes (Passes 1 0 false) (refl, (λ m lt. absurd (omega (arith, lt))), refl) (
      goes (LocksAgain 1 (HasPassed 0)) (refl, refl, refl) (
      goes (Advances 0) (refl, refl) (
      goes (SetsBlock 2 true) (refl, refl) (
      goes (Passes 2 1 true) (refl, root_clean _ refl, refl) (
      goes (ClearsMark 1) (refl, refl) (
      goes (Syncs 2) (refl, omega arith, refl) (
      goes (SetsBlock 3 true) (refl, refl) (
      goes (Passes 3 0 true) (refl, (λ m lt. absurd (omega (arith, lt))), refl) (
      goes (Completes 0) (refl, refl) (
      goes (HoldsOne Holder.User None (Owning None None)) (refl, owners_alike, (tt, tt), (λ m lt. absurd (omega (arith, lt))), refl) (
      goes (Releases None None) (refl, refl) (Ends _))))))))))))))))))),
  goes Locks (refl, refl, refl) (
      goes (LoadsStage None None) (refl, refl) (
      goes (LoadsSb (Some 4) None) (refl, refl) (
      goes (LeavesOne Holder.User (Some 0) (Owning (Some 4) (Some 0)))
      (refl, owners_alike, (refl, refl), (λ m lt. absurd (omega (arith, lt))), refl) (
      goes Thaws (refl, refl) (
      goes (ClearsBlock 2) (refl, refl) (
      goes (ClearsBlock 1) (refl, refl) (
      goes (ClearsBlock 0) (refl, refl) (
      goes ReleasesOpen (refl, refl) (Ends _))))))))),
)
