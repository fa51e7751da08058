-- The causes of a remount's refusals, along an execution.
use Rattle.gate_schedules.proofs.Prelude.{Bool, CauseOf, Config, Err, GateError, HookAnswer, IsGood, List, MountSet, None, Ok, Option, Phase, Remount}
use Rattle.gate_schedules.proofs.Prelude.{RemountFits, RemountStep, Reply, Result, Some, Sum, WordName, Words, World, after_of, all_counted, ap}
use Rattle.gate_schedules.proofs.Prelude.{arith, at_remount, cases_Bool, eqb_tells, false, found_at, give_up, has_flag, if◌then◌else◌, inl, inr}
use Rattle.gate_schedules.proofs.Prelude.{leave_holds, let_go, ltb-false, nat_lt, ne_eqb, not, past_mount, phase_after, refl, subst, suc, sym, true}
use Rattle.gate_schedules.proofs.Prelude.{words_after, wrap_add, ℕ, ◌+◌, ◌<◌, ◌==◌, ◌∙◌, ◌∷◌, ◌≡◌}
use Rattle.gate_world.specs.refusals.Causes.{AreOfMount, SomeWasCounted, last_removed, looks_at_removed, moments_of_sum, mount_summed, was_removed}
use Rattle.gate_world.specs.refusals.{Causes.words_read, KeptCauses.{RemountAnswerCause, RemountCause}}
use Rattle.mount_counts.specs.{Remounts.{past_node, remount_from, remount_summed}, Sets.{with_mount, without_lowest}}
use Rattle.gate_schedules.proofs.{frames.{OperationLaws.by_bool, Words.load_same}, mounts.SumCauses.{counted_stays, sum_ends, sum_starts, sum_stays}}
use Rattle.gate_schedules.proofs.{mounts.SumCauses.sum_takes, traces.Moments.{sum_begins, sum_skips}}

-- a task whose next step is a load of `removed` looks at it, any other doesn't
removed_skips : (t : ℕ) (w : World) (earlier : List World) → looks_at_removed (w.views t).phase ≡ false →
    last_removed t (w ∷ earlier) ≡ last_removed t earlier
removed_skips t w earlier h = rw h refl

removed_stands : (t : ℕ) (w : World) (earlier : List World) → looks_at_removed (w.views t).phase ≡ true →
    last_removed t (w ∷ earlier) ≡ Some w
removed_stands t w earlier h = rw h refl

-- where no word of a sum is to be loaded, what was counted at some mount stays so
some_stays : (c : Config) (t : ℕ) (w : World) (earlier : List World) → words_read (w.views t).phase ≡ None → SomeWasCounted c t earlier →
    SomeWasCounted c t (w ∷ earlier)
some_stays c t w earlier e h =
    (h.0, h.1, subst (AreOfMount t h.0) (sym (sum_skips t w earlier e)) h.2, counted_stays c t h.0 w earlier e h.3)

-- the states of a sum of a mount are of that mount: where it begins
of_mount_begins : (t m : ℕ) (w : World) (earlier : List World) → words_read (w.views t).phase ≡ Some 0 →
    mount_summed (w.views t).phase ≡ Some m → AreOfMount t m (moments_of_sum t (w ∷ earlier))
of_mount_begins t m w earlier e at = subst (AreOfMount t m) (sym (sum_begins t w earlier e)) (at, tt)

of_mount_goes : (t m k : ℕ) (w : World) (earlier : List World) → words_read (w.views t).phase ≡ Some k →
    mount_summed (w.views t).phase ≡ Some m → AreOfMount t m (moments_of_sum t earlier) → AreOfMount t m (moments_of_sum t (w ∷ earlier))
of_mount_goes t m k w earlier e at h = grind arith

-- a task whose view another transition leaves alone
module _ (c : Config) (t : ℕ) (w next : World) (earlier : List World) (good : IsGood c next) (x : Remount) where
  answer_stays : (answer : Result Reply GateError) → (next.views t).phase ≡ Some (Phase.Remounts (at_remount x (RemountStep.Releases answer))) →
      RemountAnswerCause c t w earlier answer → RemountAnswerCause c t next (w ∷ earlier) answer
  answer_stays answer e h r = grind arith

  pub remount_stays : (s : RemountStep) → RemountFits c s → (next.views t).phase ≡ Some (Phase.Remounts (at_remount x s)) →
      (w.views t).phase ≡ Some (Phase.Remounts (at_remount x s)) →
      ((m : ℕ) → all_counted c m w ≡ 0 → all_counted c m next ≡ 0 → next.words.count m ≡ w.words.count m) → RemountCause c t w earlier s →
      RemountCause c t next (w ∷ earlier) s
  remount_stays s f e was quiet h = grind (arith, sum_stays, of_mount_goes, some_stays, removed_skips, answer_stays)

-- the task that steps: what its next phase says, in the state after the step
module _ (c : Config) (t : ℕ) (w next : World) (earlier : List World) (after : IsGood c next) (x : Remount) where
  -- what a step says there
  abbrev CauseAfter : RemountStep → Type 0
  CauseAfter s = RemountCause c t next (w ∷ earlier) s

  done_own : CauseAfter (RemountStep.Releases (Ok Reply.Unit))
  done_own r = absurd (cc)

  hook_own : (code : ℕ) → CauseAfter (RemountStep.Releases (Err (GateError.Hook code)))
  hook_own code r = absurd (cc)

  from_own : (wanted found : Bool) → CauseAfter (remount_from wanted found)
  from_own wanted found = grind (arith, done_own)

  past_mount_own : (m : ℕ) (held : MountSet) → CauseAfter (past_mount x.mounts m held)
  past_mount_own m held =
      by_bool (nat_lt (m + 1) x.mounts) (λ b. CauseAfter (if b then RemountStep.LoadsFlags (m + 1) held else RemountStep.LoadsRemovedAgain held)) tt tt

  let_go_own : (held : MountSet) → CauseAfter (let_go held)
  let_go_own held = by_bool (held.bits == 0) (λ b. CauseAfter (if b then RemountStep.ClearsMark 1 else RemountStep.ClearsHold held)) tt tt

  past_node_own : (n : ℕ) → CauseAfter (past_node x.nodes n)
  past_node_own n = by_bool (nat_lt (n + 1) x.nodes) (λ b. CauseAfter (if b then RemountStep.ClearsMark (n + 1) else RemountStep.SetsReadOnly)) tt tt

  -- a remount that gives up loads no word of a sum, so what was counted stays so
  give_up_own : (m : ℕ) (held : MountSet) → (next.views t).phase ≡ Some (Phase.Remounts (at_remount x (give_up m held))) →
      SomeWasCounted c t (w ∷ earlier) → CauseAfter (give_up m held)
  give_up_own m held e h = grind arith

  -- nor does one that leaves its holds look at `removed` again
  leave_holds_own : (held : MountSet) → (next.views t).phase ≡ Some (Phase.Remounts (at_remount x (leave_holds held))) →
      was_removed (last_removed t (w ∷ earlier)) ≡ true → CauseAfter (leave_holds held)
  leave_holds_own held e h = grind arith

  -- where a removed file was found, there was one when the remount looked
  removed_was : (s : RemountStep) → (w.views t).phase ≡ Some (Phase.Remounts (at_remount x s)) →
      looks_at_removed (Some (Phase.Remounts (at_remount x s))) ≡ true → (w.words.removed ≡ 0 → ⊥) →
      was_removed (last_removed t (w ∷ earlier)) ≡ true
  removed_was s e looks some =
      ap was_removed (removed_stands t w earlier (ap looks_at_removed e ∙ looks)) ∙ ap not (ne_eqb w.words.removed 0 some)

  -- a sum with one word more: it goes on, the loop does, or the remount gives up
  sum_own : (m : ℕ) (held : MountSet) (sum : Sum) → m < c.mounts → sum.words < c.processors → x.processors ≡ c.processors →
      next.words.count m ≡ w.words.count m → RemountCause c t w earlier (RemountStep.Sums m held sum) →
      (next.views t).phase ≡ Some (Phase.Remounts (at_remount x (remount_summed x m held sum (w.words.count m sum.words)))) →
      CauseAfter (remount_summed x m held sum (w.words.count m sum.words))
  sum_own m held sum lm there sp same h e =
      let k : ℕ = sum.words in
      let total : ℕ = wrap_add sum.total (w.words.count m k) in
      let now : MountSet = with_mount held m in
      elim (cases_Bool (nat_lt (k + 1) x.processors)) [
        | inl more ↦ rw more (
          sum_takes c t m w next earlier sum h.0 there same (ap words_read (rw more at e)),
          of_mount_goes t m (k + 1) next (w ∷ earlier) (ap words_read (rw more at e)) (ap mount_summed (rw more at e)) h.1,
        )
        | inr less ↦
            elim (eqb_tells total 0) [
              | inl z ↦ rw (less, z.0) (past_mount_own m now)
              | inr z ↦
                  let last : suc k ≡ c.processors = omega (arith, there, ltb-false (k + 1) x.processors less, sp) in
                  rw (less, z.0) (give_up_own m now (rw (less, z.0) at e) (m, lm, h.1, sum_ends c t m w next earlier sum h.0 there last z.1))
            ]
      ]

  -- where the stage was found other than 0, it was so when the remount looked
  stage_own : (w.views t).phase ≡ Some (Phase.Remounts (at_remount x RemountStep.LoadsStage)) → (w.words.stage ≡ 0 → ⊥) →
      (next.views t).phase ≡ Some (Phase.Remounts (at_remount x (RemountStep.Releases (Err GateError.Busy)))) →
      CauseAfter (RemountStep.Releases (Err GateError.Busy))
  stage_own e frozen e' r = grind arith

  -- what comes after a step has its cause
  pub remount_own : (hook : HookAnswer) (s : RemountStep) → x.processors ≡ c.processors → RemountFits c s →
      (w.views t).phase ≡ Some (Phase.Remounts (at_remount x s)) → next.words ≡ words_after w.words (Phase.Remounts (at_remount x s)) hook →
      RemountCause c t w earlier s →
      let comes : Option Phase =
      phase_after (after_of (Phase.Remounts (at_remount x s)) (found_at w.words (Phase.Remounts (at_remount x s)) hook) hook).0 in
      (next.views t).phase ≡ comes → CauseOf c t next (w ∷ earlier) comes
  remount_own hook RemountStep.Locks sp f e same h e' = elim (eqb_tells w.words.umount 0) [ inl z ↦ rw z.0 tt | inr z ↦ rw z.0 tt ]
  remount_own hook RemountStep.LoadsStage sp f e same h e' =
      elim (eqb_tells w.words.stage 0) [ inl z ↦ rw z.0 tt | inr z ↦ rw z.0 (stage_own e z.1 (rw z.0 at e')) ]
  remount_own hook RemountStep.LoadsSuperblock sp f e same h e' = from_own x.read_only (not (w.words.sb == 0))
  remount_own (Ok answer) RemountStep.SetsWritable sp f e same h e' = done_own
  remount_own (Err code) RemountStep.SetsWritable sp f e same h e' = tt
  remount_own hook RemountStep.LoadsRemoved sp f e same h e' =
      elim (eqb_tells w.words.removed 0) [
        | inl z ↦ rw z.0 tt
        | inr z ↦ rw z.0 (λ r. inr (inl (ap was_removed (removed_skips t next (w ∷ earlier) (ap looks_at_removed (rw z.0 at e'))) ∙
            removed_was RemountStep.LoadsRemoved e refl z.1)))
      ]
  remount_own hook (RemountStep.LoadsFlags m held) sp f e same h e' =
      elim (cases_Bool (has_flag (w.words.flags m) 1)) [ inl z ↦ rw z (past_mount_own m held) | inr z ↦ rw z tt ]
  remount_own hook (RemountStep.SetsHold m held) sp f e same h e' = (
    sum_starts c t m next (w ∷ earlier) after f.0 (ap words_read e'),
    of_mount_begins t m next (w ∷ earlier) (ap words_read e') (ap mount_summed e'),
  )
  remount_own hook (RemountStep.Sums m held sum) sp f e same h e' =
      sum_own m held sum f.0 f.2 sp (ap (λ (ws : Words). ws.count m) (same ∙ load_same w.words (WordName.MountCount m sum.words))) h e'
  remount_own hook (RemountStep.LoadsRemovedAgain held) sp f e same h e' =
      elim (eqb_tells w.words.removed 0) [
        | inl z ↦ rw z.0 tt
        | inr z ↦ rw z.0 (leave_holds_own held (rw z.0 at e') (removed_was (RemountStep.LoadsRemovedAgain held) e refl z.1))
      ]
  remount_own hook (RemountStep.LeavesHolds held) sp f e same h e' = leave_holds_own (without_lowest held) e' h
  remount_own hook (RemountStep.SetsRemount held) sp f e same h e' = let_go_own held
  remount_own hook (RemountStep.ClearsHold held) sp f e same h e' = let_go_own (without_lowest held)
  remount_own hook (RemountStep.GivesUp m held) sp f e same h e' = give_up_own m (without_lowest held) e' h
  remount_own hook (RemountStep.ClearsMark n) sp f e same h e' = past_node_own n
  remount_own (Ok answer) RemountStep.SetsReadOnly sp f e same h e' = tt
  remount_own (Err code) RemountStep.SetsReadOnly sp f e same h e' = hook_own code
  remount_own hook RemountStep.ClearsRemount sp f e same h e' = done_own
  remount_own hook (RemountStep.Releases answer) sp f e same h e' = tt
