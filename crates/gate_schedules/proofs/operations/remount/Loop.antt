-- Steps of a remount's loop over the mounts.
use Rattle.gate_schedules.proofs.Prelude.{AtMount, Bool, CleanBelow, Clearing, Config, HookAnswer, IsGood, IsWithin, MountHoldsIn, MountSet, Next}
use Rattle.gate_schedules.proofs.Prelude.{None, Phase, PhaseFits, Remount, RemountStep, SameDuties, Some, Sum, Touch, View, WordName, World, add-one}
use Rattle.gate_schedules.proofs.Prelude.{ap, arith, at_remount, cases_Bool, eqb_tells, false, give_up, has_flag, has_hold, has_mount, held_of}
use Rattle.gate_schedules.proofs.Prelude.{if◌then◌else◌, inl, inr, leave_holds, let_go, marks_of, nat_lt, owns, past_mount, refl, remount_stage_role}
use Rattle.gate_schedules.proofs.Prelude.{role_of, subst, suc, sym, view_with, wrap_add, ℕ, ◌+◌, ◌<◌, ◌==◌, ◌∙◌, ◌≡◌, ◌⊎◌}
use Rattle.std.proofs.Common.{bit_or, eq-eqb, ltb-false, ltb-true, ne_eqb}
use Rattle.{freeze_laws.specs.stages.Roles.Remounting, gate_world.specs.Remounts.{AllBelow, giving_role, loop_role, remount_role}}
use Rattle.gated_tree.specs.Roles.{Out as OffTree}
use Rattle.mount_counts.proofs.laws.Bits.{or_hold, read_only_set}
use Rattle.mount_counts.proofs.laws.MountLaws.{SeeksNone, is_left, is_skipped, sets_hold as mount_sets_hold, sums_on, sums_to_none, sums_to_some}
use Rattle.mount_counts.{proofs.laws.Sets.{joins_here, joins_there}, specs.{Remounts.past_node, Roles.{Out, Summing, hold_bit}, Sets.with_mount}}
use Rattle.gate_schedules.proofs.frames.{OperationLaws.by_bool, Owners.no_hold}
use Rattle.gate_schedules.proofs.operations.remount.Fits.{give_up_fits, joins_below, past_mount_fits}
use Rattle.gate_schedules.proofs.operations.remount.Parts.{Mount, NextRoleHolds, RemountKeeps, StaysAtStep, flags_change, here_fits, here_knows}
use Rattle.gate_schedules.proofs.operations.remount.{Parts.{in_loop, load_event, mount_stays, owner_on, role_was}, Roles.{give_up_role, not_passed}}
use Rattle.gate_schedules.proofs.operations.remount.Roles.{passed_here, passed_there, past_mount_role, remount_seeks, summing_here, summing_there}

-- what stays where the loop goes on, where holds are to be cleared, and where marks are
past_mount_stays : (nodes mounts m : ℕ) (held : MountSet) → StaysAtStep nodes (past_mount mounts m held) 0 OffTree
past_mount_stays nodes mounts m held = grind arith

pub leave_holds_stays : (nodes : ℕ) (held : MountSet) → StaysAtStep nodes (leave_holds held) 0 OffTree
leave_holds_stays nodes held = grind arith

pub let_go_stays : (nodes : ℕ) (held : MountSet) → StaysAtStep nodes (let_go held) 1 (Clearing 1)
let_go_stays nodes held = grind arith

pub give_up_stays : (nodes m : ℕ) (held : MountSet) → StaysAtStep nodes (give_up m held) 0 OffTree
give_up_stays nodes m held = grind arith

pub past_node_stays : (nodes n : ℕ) → n < nodes → StaysAtStep nodes (past_node nodes n) 1 (Clearing (suc n))
past_node_stays nodes n there = grind arith

-- the role at the stage where holds are to be cleared under `remount`, and where the mark of a node was
pub let_go_stage : (nodes : ℕ) (held : MountSet) → remount_stage_role nodes (let_go held) ≡ Remounting 0 1
let_go_stage nodes held =
    by_bool (held.bits == 0) (λ z. remount_stage_role nodes (if z then RemountStep.ClearsMark 1 else RemountStep.ClearsHold held) ≡ Remounting 0 1) refl refl

pub past_node_stage : (nodes n : ℕ) → n < nodes → remount_stage_role nodes (past_node nodes n) ≡ Remounting 0 (suc n)
past_node_stage nodes n there = grind arith

-- a remount in its loop, or at the end of one, goes on at stage 0 of a writable superblock
module _ (nodes stage sb : ℕ) (dirty : ℕ → ℕ) (a : stage ≡ 0) (b : sb ≡ 0) where
  pub loop_on : SameDuties in_loop in_loop × ((stage ≡ 0) × (sb ≡ 0)) × CleanBelow 0 dirty
  loop_on = owner_on (Some 0) (Some 0) (Some 0) (Some 0) stage sb dirty a b

  past_mount_on : (mounts m : ℕ) (held : MountSet) → NextRoleHolds in_loop nodes (past_mount mounts m held) stage sb dirty
  past_mount_on mounts m held = grind arith

  pub give_up_on : (m : ℕ) (held : MountSet) → NextRoleHolds in_loop nodes (give_up m held) stage sb dirty
  give_up_on m held = grind arith

  pub leave_holds_on : (held : MountSet) → NextRoleHolds in_loop nodes (leave_holds held) stage sb dirty
  leave_holds_on held = grind arith

  pub let_go_on : (held : MountSet) → CleanBelow 1 dirty → NextRoleHolds (Remounting 0 1) nodes (let_go held) stage sb dirty
  let_go_on held clean = grind arith

-- a mount that is held is empty before and after a sum that was not 0, but that of the sum; one that isn't held is left
giving_or_left : (a b : Bool) → (giving_role false a ≡ loop_role a b) ⊎
    ((giving_role false a ≡ Out) × (has_hold (loop_role a b) ≡ 0))
giving_or_left a b = grind arith

module _ (c : Config) (lim : IsWithin c) (w : World) (good : IsGood c w) (t : ℕ) (lt : t < c.tasks) (x : Remount) (hook : HookAnswer) where
  abbrev IsHere : RemountStep → Type 0
  IsHere s = (w.views t).phase ≡ Some (Phase.Remounts (at_remount x s))

  abbrev Keeps : RemountStep → Type 0
  Keeps s = RemountKeeps c w t hook (Phase.Remounts (at_remount x s))

  abbrev FitsHere : RemountStep → Type 0
  FitsHere s = PhaseFits c t (held_of (w.views t)) (Phase.Remounts (at_remount x s))

  not_yet : (m : ℕ) (held : MountSet) → AllBelow m held → has_mount held m ≡ false
  not_yet m held h = elim (cases_Bool (has_mount held m)) [ inl q ↦ absurd (omega (arith, h.1 m q)) | inr q ↦ q ]

  out_here : (m : ℕ) (held : MountSet) → AllBelow m held → loop_role (has_mount held m) (nat_lt m m) ≡ Out
  out_here m held h = rw (not_yet m held h, not_passed m) refl

  -- loads the flags of the mount at which its loop stands; meets: whoever changes READONLY owns `umount`
  pub loads_flags : (m : ℕ) (held : MountSet) → IsHere (RemountStep.LoadsFlags m held) → Keeps (RemountStep.LoadsFlags m held)
  loads_flags m held e =
      let s : RemountStep = RemountStep.LoadsFlags m held in
      let f : FitsHere s = here_fits c w good t lt x s e in
      let k : (w.words.stage ≡ 0) × (w.words.sb ≡ 0) = here_knows c w good t lt x s e in
      let g : MountHoldsIn c w m = good (AtMount m) f.5.0 in
      let out : loop_role (has_mount held m) (nat_lt m m) ≡ Out = out_here m held f.5.1 in
      elim (cases_Bool (has_flag (w.words.flags m) 1)) [
        | inl h ↦ rw h (load_event c w good t lt x s e (WordName.MountFlags m) hook (past_mount x.mounts m held) refl
            (past_mount_stays x.nodes x.mounts m held)
            (past_mount_on x.nodes w.words.stage w.words.sb (marks_of w.words) k.0 k.1 x.mounts m held)
            (past_mount_fits c x.mounts m held f.2 f.5.0 (f.5.1.0, λ n q. omega (arith, f.5.1.1 n q)))
            (λ n ln. subst (Mount c w good t lt x s e n (w.words.flags n) w.words.remount w.words.sb)
            (sym (past_mount_role x.mounts m held n (omega (arith, f.2, ln))))
            (elim (eqb_tells n m) [
              | inl q ↦
                  subst (λ y. Mount c w good t lt x s e y (w.words.flags y) w.words.remount w.words.sb
                  (loop_role (has_mount held y) (nat_lt y (m + 1)))) (sym q.1)
                  (subst (Mount c w good t lt x s e m (w.words.flags m) w.words.remount w.words.sb)
                  (sym ((λ i. loop_role (not_yet m held f.5.1 i) (passed_here m i))))
                  (is_skipped g t lt (role_was c w good t lt x s e m ∙ out) (read_only_set (w.words.flags m) g.bits h)))
              | inr q ↦ mount_stays c w good t lt x s e n ln (loop_role (has_mount held n) (nat_lt n (m + 1)))
                  (ap (loop_role (has_mount held n)) (passed_there m n q.1))
            ])))
        | inr h ↦ rw h (load_event c w good t lt x s e (WordName.MountFlags m) hook (RemountStep.SetsHold m held) refl (refl, refl, refl)
            (loop_on x.nodes w.words.stage w.words.sb (marks_of w.words) k.0 k.1) f.5
            (λ n ln. mount_stays c w good t lt x s e n ln (remount_role n (RemountStep.SetsHold m held)) refl))
      ]

  -- sets HOLD before it sums the words; meets: a task adds before it looks for HOLD
  pub sets_hold : (m : ℕ) (held : MountSet) → IsHere (RemountStep.SetsHold m held) → Keeps (RemountStep.SetsHold m held)
  sets_hold m held e =
      let s : RemountStep = RemountStep.SetsHold m held in
      let f : FitsHere s = here_fits c w good t lt x s e in
      let k : (w.words.stage ≡ 0) × (w.words.sb ≡ 0) = here_knows c w good t lt x s e in
      let g : MountHoldsIn c w m = good (AtMount m) f.5.0 in
      let word : ℕ = bit_or (w.words.flags m) 2 in
      let sum : Sum = record { words = 0; total = 0 } in
      let was : role_of m (w.views t).phase ≡ Out = role_was c w good t lt x s e m ∙ out_here m held f.5.1 in
      let clear : hold_bit (w.words.flags m) ≡ 0 = no_hold c w good t lt m f.5.0 (ap owns e) (ap has_hold was) in
      let v : View = view_with (w.views t) (WordName.MountFlags m, Touch.Or 2) (w.words.flags m) hook
      (Next.Go (Phase.Remounts (at_remount x (RemountStep.Sums m held sum))), None) in
      flags_change c w good t lt x s e refl (RemountStep.Sums m held sum) v refl (refl, refl, refl, refl, refl)
      (f.0, f.1, f.2, f.3, f.4, (f.5.0, f.5.1, lim.some_processor)) m word (refl, refl, refl)
      (loop_on x.nodes w.words.stage w.words.sb (marks_of w.words) k.0 k.1) (or_hold (w.words.flags m) g.bits).1
      (λ lm. subst (Mount c w good t lt x s e m word w.words.remount w.words.sb)
      (sym (summing_here m sum (loop_role (has_mount held m) (nat_lt m m))))
      (mount_sets_hold g t lt lim.tasks lim.processors lim.some_processor was clear))
      (λ n ne. summing_there m n sum (loop_role (has_mount held n) (nat_lt n m)) ne)

  -- reads a word under HOLD; meets: a task adds before it looks for HOLD
  pub sums : (m : ℕ) (held : MountSet) (sum : Sum) → IsHere (RemountStep.Sums m held sum) → Keeps (RemountStep.Sums m held sum)
  sums m held sum e =
      let s : RemountStep = RemountStep.Sums m held sum in
      let f : FitsHere s = here_fits c w good t lt x s e in
      let k : (w.words.stage ≡ 0) × (w.words.sb ≡ 0) = here_knows c w good t lt x s e in
      let g : MountHoldsIn c w m = good (AtMount m) f.5.0 in
      let i : ℕ = sum.words in
      let now : ℕ = wrap_add sum.total (w.words.count m i) in
      let joined : MountSet = with_mount held m in
      let small : m < 8 = omega (arith, f.5.0, lim.mounts) in
      let below : AllBelow (m + 1) joined = joins_below m held small f.5.1 in
      let was : remount_role m s ≡ Summing i sum.total = summing_here m sum (loop_role (has_mount held m) (nat_lt m m)) in
      let r : role_of m (w.views t).phase ≡ Summing i sum.total = role_was c w good t lt x s e m ∙ was in
      let others : (n : ℕ) → (n ≡ m → ⊥) → remount_role n s ≡ loop_role (has_mount held n) (nat_lt n m) =
      λ n ne. summing_there m n sum (loop_role (has_mount held n) (nat_lt n m)) ne in
      elim (cases_Bool (nat_lt (i + 1) x.processors)) [
        | inl h ↦
            let more : suc i < c.processors = omega (arith, ltb-true (i + 1) x.processors h, f.1) in
            let on : Sum = record { words = i + 1; total = now } in
            rw h (load_event c w good t lt x s e (WordName.MountCount m i) hook (RemountStep.Sums m held on) refl (refl, refl, refl)
            (loop_on x.nodes w.words.stage w.words.sb (marks_of w.words) k.0 k.1)
            (f.5.0, f.5.1, omega (arith, more))
            (λ n ln. elim (eqb_tells n m) [
              | inl q ↦ subst (λ y. Mount c w good t lt x s e y (w.words.flags y) w.words.remount w.words.sb
                  (remount_role y (RemountStep.Sums m held on))) (sym q.1)
                  (subst (Mount c w good t lt x s e m (w.words.flags m) w.words.remount w.words.sb)
                  (sym (summing_here m on (loop_role (has_mount held m) (nat_lt m m))))
                  (subst (λ j. Mount c w good t lt x s e m (w.words.flags m) w.words.remount w.words.sb (Summing j now)) (sym (add-one i))
                  (sums_on g t lt lim.tasks lim.processors i sum.total r more)))
              | inr q ↦ mount_stays c w good t lt x s e n ln (remount_role n (RemountStep.Sums m held on))
                  (summing_there m n on (loop_role (has_mount held n) (nat_lt n m)) q.1 ∙ sym (others n q.1))
            ]))
        | inr h ↦
            let last : suc i ≡ c.processors = omega (arith, f.5.2, ltb-false (i + 1) x.processors h, f.1) in
            elim (eqb_tells now 0) [
              | inl z ↦ rw (h, z.0) (load_event c w good t lt x s e (WordName.MountCount m i) hook (past_mount x.mounts m joined) refl
                  (past_mount_stays x.nodes x.mounts m joined)
                  (past_mount_on x.nodes w.words.stage w.words.sb (marks_of w.words) k.0 k.1 x.mounts m joined)
                  (past_mount_fits c x.mounts m joined f.2 f.5.0 below)
                  (λ n ln. subst (Mount c w good t lt x s e n (w.words.flags n) w.words.remount w.words.sb)
                  (sym (past_mount_role x.mounts m joined n (omega (arith, f.2, ln))))
                  (elim (eqb_tells n m) [
                    | inl q ↦ subst (λ y. Mount c w good t lt x s e y (w.words.flags y) w.words.remount w.words.sb
                        (loop_role (has_mount joined y) (nat_lt y (m + 1)))) (sym q.1)
                        (subst (Mount c w good t lt x s e m (w.words.flags m) w.words.remount w.words.sb)
                        (sym (ap (λ a. loop_role a (nat_lt m (m + 1))) (joins_here held m small)))
                        (sums_to_none g t lt lim.tasks lim.processors i sum.total r last z.1))
                    | inr q ↦ mount_stays c w good t lt x s e n ln (loop_role (has_mount joined n) (nat_lt n (m + 1)))
                        ((λ j. loop_role (joins_there held m n small q.1 j) (passed_there m n q.1 j)) ∙ sym (others n q.1))
                  ])))
              | inr z ↦ rw (h, z.0) (load_event c w good t lt x s e (WordName.MountCount m i) hook (give_up m joined) refl
                  (give_up_stays x.nodes m joined)
                  (give_up_on x.nodes w.words.stage w.words.sb (marks_of w.words) k.0 k.1 m joined)
                  (give_up_fits c m joined f.5.0 (below.0, λ n q. omega (arith, below.1 n q, f.5.0)))
                  (λ n ln. subst (Mount c w good t lt x s e n (w.words.flags n) w.words.remount w.words.sb)
                  (sym (give_up_role n m joined))
                  (elim (eqb_tells n m) [
                    | inl q ↦ subst (λ y. Mount c w good t lt x s e y (w.words.flags y) w.words.remount w.words.sb
                        (giving_role (y == m) (has_mount joined y))) (sym q.1)
                        (subst (Mount c w good t lt x s e m (w.words.flags m) w.words.remount w.words.sb)
                        (sym (λ j. giving_role (eq-eqb m m refl j) (joins_here held m small j)))
                        (sums_to_some g t lt i sum.total r))
                    | inr q ↦
                        let there : giving_role (n == m) (has_mount joined n) ≡ giving_role false (has_mount held n) =
                        λ j. giving_role (ne_eqb n m q.1 j) (joins_there held m n small q.1 j) in
                        subst (Mount c w good t lt x s e n (w.words.flags n) w.words.remount w.words.sb) (sym there)
                        (elim (giving_or_left (has_mount held n) (nat_lt n m)) [
                          | inl a ↦ mount_stays c w good t lt x s e n ln (giving_role false (has_mount held n)) (a ∙ sym (others n q.1))
                          | inr a ↦ subst (Mount c w good t lt x s e n (w.words.flags n) w.words.remount w.words.sb) (sym a.0)
                              (is_left (good (AtMount n) ln) t lt
                              (subst SeeksNone (sym (role_was c w good t lt x s e n)) (remount_seeks n s))
                              (ap has_hold (role_was c w good t lt x s e n ∙ others n q.1) ∙ a.1))
                        ])
                  ])))
            ]
      ]
