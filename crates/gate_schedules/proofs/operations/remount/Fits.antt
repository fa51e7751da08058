-- What fits after a step of a remount.
use Rattle.gate_schedules.proofs.Prelude.{Action, ActionFits, Bool, Config, Err, Fits, GateError, Holdings, HookAnswer, IsWithin, IsWord, MountSet}
use Rattle.gate_schedules.proofs.Prelude.{Next, None, Ok, Option, Phase, PhaseFits, Remount, RemountFits, RemountStep, Some, Sum, ap, arith}
use Rattle.gate_schedules.proofs.Prelude.{at_remount, cases_Bool, eqb_tells, extents_of, false, give_up, has_flag, has_mount, held_after}
use Rattle.gate_schedules.proofs.Prelude.{if◌then◌else◌, inl, inr, leave_holds, let_go, map_next, nat_lt, not, past_mount, phase_after, refl, sym}
use Rattle.gate_schedules.proofs.Prelude.{true, true≢false, wrap_add, ℕ, ◌+◌, ◌<◌, ◌==◌, ◌∙◌, ◌≡◌}
use Rattle.std.proofs.Common.{ltb-true}
use Rattle.gate_world.specs.Remounts.{AllBelow}
use Rattle.mount_counts.proofs.laws.Sets.{joins_there, joins_within, leaves_here, leaves_there, leaves_within, lowest_held, none_held}
use Rattle.mount_counts.specs.Remounts.{past_node, remount_after, remount_from, remount_next, remount_summed}
use Rattle.mount_counts.specs.Sets.{lowest, no_mounts, with_mount, without_lowest}
use Rattle.gate_schedules.proofs.frames.OperationLaws.{by_bool}

pub joins_below : (m : ℕ) (held : MountSet) → m < 8 → AllBelow m held → AllBelow (m + 1) (with_mount held m)
joins_below m held lm h = (
  joins_within held m lm h.0,
  λ n q. elim (eqb_tells n m) [
    | inl z ↦ omega (arith, z.1)
    | inr z ↦ omega (arith, h.1 n (sym (joins_there held m n lm z.1) ∙ q))
  ],
)

pub leaves_below : (m : ℕ) (held : MountSet) → 0 < held.bits → AllBelow m held → AllBelow m (without_lowest held)
leaves_below m held some h = (
  leaves_within held h.0,
  λ n q. elim (eqb_tells n (lowest held)) [
    | inl z ↦ absurd (true≢false (sym q ∙ (ap (has_mount (without_lowest held)) z.1 ∙ leaves_here held some h.0)))
    | inr z ↦ h.1 n (sym (leaves_there held n some h.0 z.1) ∙ q)
  ],
)

module _ (c : Config) where
  pub none_below : (m : ℕ) → AllBelow m no_mounts
  none_below m = (omega arith, λ n q. absurd (true≢false (sym q ∙ none_held no_mounts refl n)))

  pub past_mount_fits : (mounts m : ℕ) (held : MountSet) → mounts ≡ c.mounts → m < c.mounts → AllBelow (m + 1) held →
      RemountFits c (past_mount mounts m held)
  past_mount_fits mounts m held same lm h = grind arith

  pub give_up_fits : (m : ℕ) (held : MountSet) → m < c.mounts → AllBelow c.mounts held → RemountFits c (give_up m held)
  give_up_fits m held lm h = elim (eqb_tells held.bits 0) [ inl z ↦ rw z.0 tt | inr z ↦ rw z.0 (omega (arith, z.1), h, lm) ]

  pub leave_holds_fits : (held : MountSet) → AllBelow c.mounts held → RemountFits c (leave_holds held)
  leave_holds_fits held h = elim (eqb_tells held.bits 0) [ inl z ↦ rw z.0 tt | inr z ↦ rw z.0 (omega (arith, z.1), h) ]

  pub past_node_fits : (nodes n : ℕ) → nodes ≡ c.nodes → RemountFits c (past_node nodes n)
  past_node_fits nodes n same = grind arith

  pub remount_there : (x : Remount) (s : RemountStep) (hook : HookAnswer) → RemountFits c s →
      IsWord (extents_of c) (remount_next x s hook).0
  remount_there x s hook f = grind (arith, lowest_held)

  module _ (lim : IsWithin c) where
    pub let_go_fits : (held : MountSet) → AllBelow c.mounts held → RemountFits c (let_go held)
    let_go_fits held h = grind arith

    pub state_fits : (wanted found : Bool) → RemountFits c (remount_from wanted found)
    state_fits wanted found = grind arith

    sums_fit : (x : Remount) (m : ℕ) (held : MountSet) (sum : Sum) (word : ℕ) → x.processors ≡ c.processors → x.mounts ≡ c.mounts →
        m < c.mounts → AllBelow m held → RemountFits c (remount_summed x m held sum word)
    sums_fit x m held sum word sp sm lm h =
        let j : AllBelow (m + 1) (with_mount held m) = joins_below m held (omega (arith, lm, lim.mounts)) h in
        elim (cases_Bool (nat_lt (sum.words + 1) x.processors)) [
          | inl z ↦ rw z (lm, h, omega (arith, ltb-true (sum.words + 1) x.processors z, sp))
          | inr z ↦ rw z (by_bool (wrap_add sum.total word == 0)
              (λ b. RemountFits c (if b then past_mount x.mounts m (with_mount held m) else give_up m (with_mount held m)))
              (past_mount_fits x.mounts m (with_mount held m) sm lm j)
              (give_up_fits m (with_mount held m) lm (j.0, λ n q. omega (arith, j.1 n q, lm))))
        ]

    module _ (t : ℕ) (held : Holdings) where
      pub remount_acts : (x : Remount) (s : RemountStep) (found : ℕ) (hook : HookAnswer) → ActionFits held (remount_after x s found hook).1
      remount_acts x s found hook = grind arith

      -- what comes after a step fits
      abbrev NextFits : Next Remount → Type 0
      NextFits next = Fits c t held (phase_after (map_next Phase.Remounts next))

      -- a cleaned node leaves the accesses
      cleans_none : (n : ℕ) (b : Bool) (p : Option Phase) → Fits c t held p →
          Fits c t (held_after (if b then Some (Action.Clean n) else None) held) p
      cleans_none n true p f = f
      cleans_none n false p f = f

      -- what comes after each step of a remount fits
      pub remount_goes : (x : Remount) (s : RemountStep) (found : ℕ) (hook : HookAnswer) →
          PhaseFits c t held (Phase.Remounts (at_remount x s)) →
          Fits c t (held_after (remount_after x s found hook).1 held) (phase_after (map_next Phase.Remounts (remount_after x s found hook).0))
      remount_goes x RemountStep.Locks found hook f =
          by_bool (found == 0) (λ b. NextFits (if b then Next.Go (at_remount x RemountStep.LoadsStage) else Next.Wait (at_remount x RemountStep.Locks))) f f
      remount_goes x RemountStep.LoadsStage found hook f =
          by_bool (found == 0)
          (λ b. NextFits (if b then Next.Go (at_remount x RemountStep.LoadsSuperblock)
          else Next.Go (at_remount x (RemountStep.Releases (Err GateError.Busy))))) f f
      remount_goes x RemountStep.LoadsSuperblock found hook f = (f.0, f.1, f.2, f.3, f.4, state_fits x.read_only (not (found == 0)))
      remount_goes x RemountStep.SetsWritable found (Ok answer) f = f
      remount_goes x RemountStep.SetsWritable found (Err code) f = tt
      remount_goes x RemountStep.LoadsRemoved found hook f =
          by_bool (found == 0)
          (λ b. NextFits (if b then Next.Go (at_remount x (RemountStep.LoadsFlags 0 no_mounts))
          else Next.Go (at_remount x (RemountStep.Releases (Err GateError.Busy)))))
          (f.0, f.1, f.2, f.3, f.4, (lim.some_mount, none_below 0)) f
      remount_goes x (RemountStep.LoadsFlags m set) found hook f =
          by_bool (has_flag found 1)
          (λ b. NextFits (if b then Next.Go (at_remount x (past_mount x.mounts m set)) else Next.Go (at_remount x (RemountStep.SetsHold m set))))
          (f.0, f.1, f.2, f.3, f.4, past_mount_fits x.mounts m set f.2 f.5.0 (f.5.1.0, λ n q. omega (arith, f.5.1.1 n q))) f
      remount_goes x (RemountStep.SetsHold m set) found hook f = (f.0, f.1, f.2, f.3, f.4, (f.5.0, f.5.1, lim.some_processor))
      remount_goes x (RemountStep.Sums m set sum) found hook f = (f.0, f.1, f.2, f.3, f.4, sums_fit x m set sum found f.1 f.2 f.5.0 f.5.1)
      remount_goes x (RemountStep.LoadsRemovedAgain set) found hook f =
          by_bool (found == 0)
          (λ b. NextFits (if b then Next.Go (at_remount x (RemountStep.SetsRemount set)) else Next.Go (at_remount x (leave_holds set)))) f
          (f.0, f.1, f.2, f.3, f.4, leave_holds_fits set f.5)
      remount_goes x (RemountStep.LeavesHolds set) found hook f =
          (f.0, f.1, f.2, f.3, f.4, leave_holds_fits (without_lowest set) (leaves_below c.mounts set f.5.0 f.5.1))
      remount_goes x (RemountStep.SetsRemount set) found hook f = (f.0, f.1, f.2, f.3, f.4, let_go_fits set f.5)
      remount_goes x (RemountStep.ClearsHold set) found hook f =
          (f.0, f.1, f.2, f.3, f.4, let_go_fits (without_lowest set) (leaves_below c.mounts set f.5.0 f.5.1))
      remount_goes x (RemountStep.GivesUp m set) found hook f =
          (f.0, f.1, f.2, f.3, f.4, give_up_fits m (without_lowest set) f.5.2 (leaves_below c.mounts set f.5.0 f.5.1))
      remount_goes x (RemountStep.ClearsMark n) found hook f =
          cleans_none n (has_flag found 4) (Some (Phase.Remounts (at_remount x (past_node x.nodes n))))
          (f.0, f.1, f.2, f.3, f.4, past_node_fits x.nodes n f.3)
      remount_goes x RemountStep.SetsReadOnly found (Ok answer) f = f
      remount_goes x RemountStep.SetsReadOnly found (Err code) f = f
      remount_goes x RemountStep.ClearsRemount found hook f = f
      remount_goes x (RemountStep.Releases answer) found hook f = tt
