-- The other steps of a remount, and all of them as one law.
use Rattle.gate_schedules.proofs.Prelude.{Action, AtMount, Bool, Bounds, Clearing, Config, Event, GateError, Holds, HookAnswer, IsGood, IsWithin}
use Rattle.gate_schedules.proofs.Prelude.{MountHoldsIn, Next, Owner, Part, Phase, PhaseFits, Remount, RemountStep, Reply, RoleHolds, Stages}
use Rattle.gate_schedules.proofs.Prelude.{StepKeeps, Touch, Tree, TreeState, View, WordName, Words, World, actions_after, ap, arith, at_mount}
use Rattle.gate_schedules.proofs.Prelude.{cases_Bool, dirty_in, eqb_tells, false, has_flag, has_hold, held_at, held_of, holdings_of, inl, inr}
use Rattle.gate_schedules.proofs.Prelude.{is_bare_at, is_frozen_whole, is_removed, marks_of, node_shown, one_if, owns, refl, remounts, removal}
use Rattle.gate_schedules.proofs.Prelude.{ro_bit, role_of, shown, stage_role_of, subst, suc, sym, total, total_at, tree_bounds, tree_of, tree_roles}
use Rattle.gate_schedules.proofs.Prelude.{true, true≢false, turned, update, update_at, update_map, update_same, view_with, ℕ, ◌+◌, ◌<◌, ◌∙◌, ◌≡◌}
use Rattle.access_model.specs.{Actions.marked as marked_as, States.IsFile}
use Rattle.gate_schedules.proofs.frames.{Frames.{left_alone, owner_same}, Owners.{locks_umount, no_remount, releases_umount, remount_stands}}
use Rattle.gate_schedules.proofs.{frames.{SameRolesOffTree.update_twice, Stages.{nobody_owns, stages_in}}, mounts.Loads.{after_load, steady}}
use Rattle.gate_schedules.proofs.{mounts.Parts.is_known_part, operations.remount.Fits.{give_up_fits, leave_holds_fits, leaves_below, let_go_fits}}
use Rattle.gate_schedules.proofs.operations.remount.{Fits.{none_below, past_node_fits, state_fits}, Loop.{give_up_on, give_up_stays, leave_holds_on}}
use Rattle.gate_schedules.proofs.operations.remount.Loop.{leave_holds_stays, let_go_on, let_go_stage, let_go_stays, loads_flags, past_node_stage}
use Rattle.gate_schedules.proofs.operations.remount.{Loop.{past_node_stays, sets_hold, sums}, Parts.{Mount, NextRoleHolds, PartsHold, RemountKeeps}}
use Rattle.gate_schedules.proofs.operations.remount.Parts.{StageHolds, StaysAtStep, flags_change, here_cleared, here_fits, here_knows, load_event}
use Rattle.gate_schedules.proofs.operations.remount.Parts.{load_found, mount_stays, node_changes, owner_on, role_stays, role_was, stage_holds, stores}
use Rattle.gate_schedules.proofs.operations.remount.Parts.{tree_by, tree_by_two, tree_stays, tree_was, tree_where, umount_changes, whole_remount}
use Rattle.gate_schedules.proofs.operations.remount.Roles.{give_up_role, leave_holds_role, let_go_role, no_giving, past_node_role, remount_seeks}
use Rattle.gate_schedules.{proofs.trees.worlds.Trees.{nobody_reads, shown_clean}, specs.trees.Events.{BeginsClearing, Clears, Event as TreeEvent}}
use Rattle.gate_schedules.specs.trees.Events.{FindsNone, GoesBare, Leaves, Opens, Passes, Seals, StopsBare}
use Rattle.gate_world.specs.Remounts.{AllBelow, RemountFits, giving_role, held_role, loop_role, remount_owns, remount_role, remount_sets}
use Rattle.gate_world.specs.Roles.{remount_stage_role, remount_tree_role}
use Rattle.node_words.{proofs.ClearedMarks.{clean_stays, cleared_shown, clears_mark, directory_clean, without_mark}, specs.Nodes.IsNode}
use Rattle.gated_tree.specs.Roles.{Bare, HasNoCharge, Out as OffTree, Role as TreeRole, charge, child_charge, sealed_by}
use Rattle.mount_counts.proofs.laws.{Bits.{and_not_hold, without_hold}, MountLaws.{SeeksNone, clears_hold as mount_clears_hold, closed, empties}}
use Rattle.mount_counts.proofs.laws.MountLaws.{is_left, marks_empty, marks_skipped, none_remounting, remounting, sealed, stores as mount_stores}
use Rattle.mount_counts.{proofs.laws.Sets.{leaves_here, leaves_there, lowest_held, none_held}, specs.Remounts.{at_remount, give_up, leave_holds}}
use Rattle.mount_counts.specs.{Remounts.{let_go, past_node, remount_from}, Roles.{Empty, Out, Skipped, admitted, past_flags, processor_of}}
use Rattle.mount_counts.specs.{Roles.{questions_of, skips}, Sets.{has_mount, lowest, no_mounts, without_lowest}, declared.sets.MountSet.MountSet}
use Rattle.freeze_laws.specs.stages.Events.{CancelsRemount, ClearsMarkReadOnly, ClearsRemount as TakesRemount, Locks as LocksStage}
use Rattle.freeze_laws.specs.stages.Events.{Releases as ReleasesStage, SameDuties, SetsReadOnly as StoresReadOnly, SetsRemount as StoresRemount}
use Rattle.freeze_laws.specs.stages.{Events.{SetsWritable as StoresWritable, playing}, Roles.{CleanBelow, IsKnown, Owning}}
use Rattle.std.proofs.Common.{Err, None, Ok, Option, Result, Some, bit_and, eq-eqb, le-ltb, nat_lt, ne_eqb, not, option_map, ◌==◌, ◌||◌, ◌∷◌}
use Rattle.std.proofs.lemmas.Nat.Bits.{and_pow}

-- at stage 0 the file system isn't frozen, whatever the superblock's flags are
pub not_frozen : (w : Words) (set sealing : ℕ) → w.stage ≡ 0 →
    is_frozen_whole (record w { remount = set; sb = sealing }) ≡ is_frozen_whole w
not_frozen w set sealing z = rw (ne_eqb w.stage 4 (λ q. omega (arith, z, q))) refl

mark_set : (word : ℕ) → has_flag word 4 ≡ true → dirty_in word ≡ 1
mark_set word h =
    elim (eqb_tells (bit_and word 4) 4) [
      | inl z ↦ omega (arith, z.1, and_pow word 2)
      | inr z ↦ absurd (true≢false (sym h ∙ z.0))
    ]

mark_clear : (word : ℕ) → has_flag word 4 ≡ false → dirty_in word ≡ 0
mark_clear word h =
    elim (eqb_tells (dirty_in word) 0) [
      | inl z ↦ z.1
      | inr z ↦ absurd (true≢false (sym (eq-eqb (bit_and word 4) 4 (omega (arith, and_pow word 2, z.1))) ∙ h))
    ]

sealed_writable : (stage : ℕ) → stage ≡ 0 → sealed_by 0 stage ≡ 0
sealed_writable stage z = rw z refl

no_charge : (n : ℕ) (role : TreeRole) → role ≡ Clearing n → HasNoCharge role
no_charge n role is = record { blocks = ap charge is; removed = ap removal is; children = λ d. ap (child_charge d) is }

-- the tree is opened, by a task whose role stays
opens : (b : Bounds) (s : TreeState) (t sealed : ℕ) (role : TreeRole) → sealed ≡ 0 → s.at t ≡ role →
    TreeEvent b s t (record s { sealed = sealed; at = update s.at t role }) None
opens b s t sealed role zero was =
    let same : update s.at t role ≡ s.at = ap (update s.at t) (sym was) ∙ update_same s.at t in
    subst (λ next. TreeEvent b s t next None) (sym (λ i. record s { sealed = zero i; at = same i })) Opens

module _ (c : Config) (lim : IsWithin c) (w : World) (good : IsGood c w) (t : ℕ) (lt : t < c.tasks) (x : Remount) where
  abbrev IsHere : RemountStep → Type 0
  IsHere s = (w.views t).phase ≡ Some (Phase.Remounts (at_remount x s))

  abbrev Keeps : HookAnswer → RemountStep → Type 0
  Keeps hook s = RemountKeeps c w t hook (Phase.Remounts (at_remount x s))

  abbrev FitsHere : RemountStep → Type 0
  FitsHere s = PhaseFits c t (held_of (w.views t)) (Phase.Remounts (at_remount x s))

  -- at a mount that is held at a sum of 0, or was found read-only, `remount` may stand, and then the mount is left where it isn't held
  vacated : (held : MountSet) (e : IsHere (RemountStep.SetsRemount held)) (m : ℕ) (lm : m < c.mounts) (a : Bool) →
      remount_role m (RemountStep.SetsRemount held) ≡ loop_role a true →
      Mount c w good t lt x (RemountStep.SetsRemount held) e m (w.words.flags m) 1 w.words.sb (held_role a)
  vacated held e m lm true is =
      role_stays c w good t lt x (RemountStep.SetsRemount held) e m (w.words.flags m) 1 w.words.sb Empty (sym is)
      (marks_empty (good (AtMount m) lm) t lt (role_was c w good t lt x (RemountStep.SetsRemount held) e m ∙ is))
  vacated held e m lm false is =
      let r : role_of m (w.views t).phase ≡ Skipped = role_was c w good t lt x (RemountStep.SetsRemount held) e m ∙ is in
      is_left (marks_skipped (good (AtMount m) lm) t lt r) t lt (ap questions_of r, ap processor_of r) (ap has_hold r)

  -- and nobody holds an access there
  vacant : (held : MountSet) → IsHere (RemountStep.SetsRemount held) → (m : ℕ) → m < c.mounts → (a : Bool) →
      remount_role m (RemountStep.SetsRemount held) ≡ loop_role a true → (y : ℕ) → y < c.tasks → held_at (w.views y) m ≡ 0
  vacant held e m lm true is y ly =
      omega (
        arith,
        empties (good (AtMount m) lm) t lt (role_was c w good t lt x (RemountStep.SetsRemount held) e m ∙ is),
        total_at c.tasks y (λ z. admitted (at_mount m (w.views z))) ly,
      )
  vacant held e m lm false is y ly =
      let ro : ro_bit (w.words.flags m) ≡ 1 =
      (good (AtMount m) lm).skipped t lt (ap skips (role_was c w good t lt x (RemountStep.SetsRemount held) e m ∙ is)) in
      omega (
        arith,
        closed (good (AtMount m) lm) ro,
        total_at c.tasks y (λ z. (at_mount m (w.views z)).held + past_flags (at_mount m (w.views z)).role) ly,
      )

  root_clean : CleanBelow 1 (marks_of w.words)
  root_clean n below =
      let first : n ≡ 0 = omega (arith, below) in
      let root : IsNode (w.words.node 0) = (good Tree).words 0 (omega (arith, lim.some_node)) in
      subst (λ k. dirty_in (w.words.node k) ≡ 0) (sym first)
      (shown_clean (w.words.node 0) root.packed.free (directory_clean (w.words.node 0) root (good Tree).root))

  -- no file is removed, as the remount has found
  none_removed : (held : MountSet) → IsHere (RemountStep.SetsRemount held) → (n : ℕ) → n < c.nodes → is_removed (node_shown (w.words.node n)) ≡ false
  none_removed held e n ln =
      let none : w.words.removed ≡ 0 =
      subst (RoleHolds (tree_bounds c) w.words.used w.words.removed w.words.node w.words.kids)
      (tree_was c w good t lt x (RemountStep.SetsRemount held) e) ((good Tree).roles t lt) in
      elim (cases_Bool (is_removed (node_shown (w.words.node n)))) [
        | inl q ↦
            let one : one_if (is_removed (node_shown (w.words.node n))) ≡ 1 = ap one_if q in
            absurd (omega (
              arith,
              none,
              (good Tree).removals,
              total_at c.nodes n (λ k. one_if (is_removed (node_shown (w.words.node k)))) ln,
              one,
            ))
        | inr q ↦ q
      ]

  -- with each mount held at a sum of 0, or read-only, `remount` is set; meets: `remount` is loaded after HOLD was found clear
  pub sets_remount : (hook : HookAnswer) (held : MountSet) → IsHere (RemountStep.SetsRemount held) → Keeps hook (RemountStep.SetsRemount held)
  sets_remount hook held e =
      let s : RemountStep = RemountStep.SetsRemount held in
      let f : FitsHere s = here_fits c w good t lt x s e in
      let k : (w.words.stage ≡ 0) × (w.words.sb ≡ 0) = here_knows c w good t lt x s e in
      let v : View = view_with (w.views t) (WordName.Remount, Touch.Store 1) w.words.remount hook
      (Next.Go (Phase.Remounts (at_remount x (let_go held))), Some Action.SbRo) in
      let mid : TreeState = record (turned (tree_of w) t OffTree) { bare = 1 } in
      let after : PartsHold c w good t lt x s e (record w.words { remount = 1 }) v ×
      (shown c (record { words = record w.words { remount = 1 }; views = update w.views t v }) ≡ record (shown c w) { sb_ro = true }) =
      stores c w good t lt x s e refl (let_go held) v refl (refl, refl, refl, refl, refl)
      (f.0, f.1, f.2, f.3, f.4, let_go_fits c lim held f.5) 1 w.words.sb true (Clearing 1) refl (let_go_stays x.nodes held)
      (tree_by_two c w good t lt x s e lim (record w.words { remount = 1 }) v (Clearing 1) (let_go_stays x.nodes held).2 mid None
      (GoesBare (tree_was c w good t lt x s e))
      (subst (λ roles. TreeEvent (tree_bounds c) mid t (record mid { at = roles }) None)
      (update_twice (tree_roles w) t OffTree (Clearing 1)) (BeginsClearing (update_at (tree_roles w) t OffTree))))
      (stage_holds c w good t lt x s e (record w.words { remount = 1 }) v (StoresRemount 1)
      (ap stage_role_of e, root_clean, ap (playing (record (stages_in w) { remount = 1 }) t) (let_go_stage x.nodes held))) refl
      (λ m lm. subst (Mount c w good t lt x s e m (w.words.flags m) 1 w.words.sb) (sym (let_go_role m held))
      (vacated held e m lm (has_mount held m) refl)) in
      (after.0, ((lt, (k.0, λ m lm. vacant held e m lm (has_mount held m) refl, none_removed held e)), after.1))

  -- clears HOLD of the lowest mount that it holds; meets: READONLY and `remount` are loaded after HOLD was found clear
  lets_go : (hook : HookAnswer) (held : MountSet) (s s' : RemountStep) (e : IsHere s) → 0 < held.bits → AllBelow c.mounts held →
      has_hold (remount_role (lowest held) s) ≡ 1 → remount_role (lowest held) s' ≡ Out →
      ((n : ℕ) → (n ≡ lowest held → ⊥) → remount_role n s' ≡ remount_role n s) →
      RemountFits c s' → remount_owns s ≡ 1 → StaysAtStep x.nodes s' (remount_sets s) (remount_tree_role x.nodes s) →
      NextRoleHolds (remount_stage_role x.nodes s) x.nodes s' w.words.stage w.words.sb (marks_of w.words) →
      let m : ℕ = lowest held in
      let v : View = view_with (w.views t) (WordName.MountFlags m, Touch.And 18446744073709551613) (w.words.flags m) hook
      (Next.Go (Phase.Remounts (at_remount x s')), None) in
      let ws : Words = record w.words { flags = update w.words.flags m (without_hold (w.words.flags m)) } in
      PartsHold c w good t lt x s e ws v × (shown c (record { words = ws; views = update w.views t v }) ≡ shown c w)
  lets_go hook held s s' e some below one out others fit o stays on =
      let m : ℕ = lowest held in
      let f : FitsHere s = here_fits c w good t lt x s e in
      let there : m < c.mounts = below.1 m (lowest_held held some below.0).1 in
      let g : MountHoldsIn c w m = good (AtMount m) there in
      let v : View = view_with (w.views t) (WordName.MountFlags m, Touch.And 18446744073709551613) (w.words.flags m) hook
      (Next.Go (Phase.Remounts (at_remount x s')), None) in
      let r : role_of m (w.views t).phase ≡ remount_role m s = role_was c w good t lt x s e m in
      flags_change c w good t lt x s e o s' v refl (refl, refl, refl, refl, refl) (f.0, f.1, f.2, f.3, f.4, fit) m
      (without_hold (w.words.flags m)) stays on (and_not_hold (w.words.flags m) g.bits).1
      (λ lm. subst (Mount c w good t lt x s e m (without_hold (w.words.flags m)) w.words.remount w.words.sb) (sym out)
      (mount_clears_hold g t lt (subst SeeksNone (sym r) (remount_seeks m s)) (ap has_hold r ∙ one)))
      others

  pub clears_hold : (hook : HookAnswer) (held : MountSet) → IsHere (RemountStep.ClearsHold held) → Keeps hook (RemountStep.ClearsHold held)
  clears_hold hook held e =
      let f : FitsHere (RemountStep.ClearsHold held) = here_fits c w good t lt x (RemountStep.ClearsHold held) e in
      let k : (w.words.stage ≡ 0) × (w.words.sb ≡ 0) = here_knows c w good t lt x (RemountStep.ClearsHold held) e in
      let rest : MountSet = without_lowest held in
      lets_go hook held (RemountStep.ClearsHold held) (let_go rest) e f.5.0 f.5.1
      (ap (λ a. has_hold (held_role a)) (lowest_held held f.5.0 f.5.1.0).1)
      (let_go_role (lowest held) rest ∙ ap held_role (leaves_here held f.5.0 f.5.1.0))
      (λ n ne. let_go_role n rest ∙ ap held_role (leaves_there held n f.5.0 f.5.1.0 ne))
      (let_go_fits c lim rest (leaves_below c.mounts held f.5.0 f.5.1)) refl (let_go_stays x.nodes rest)
      (let_go_on x.nodes w.words.stage w.words.sb (marks_of w.words) k.0 k.1 rest (here_cleared c w good t lt x (RemountStep.ClearsHold held) e))

  giving_holds : (a : Bool) → has_hold (giving_role a true) ≡ 1
  giving_holds true = refl
  giving_holds false = refl

  pub gives_up : (hook : HookAnswer) (m : ℕ) (held : MountSet) → IsHere (RemountStep.GivesUp m held) → Keeps hook (RemountStep.GivesUp m held)
  gives_up hook m held e =
      let f : FitsHere (RemountStep.GivesUp m held) = here_fits c w good t lt x (RemountStep.GivesUp m held) e in
      let k : (w.words.stage ≡ 0) × (w.words.sb ≡ 0) = here_knows c w good t lt x (RemountStep.GivesUp m held) e in
      let rest : MountSet = without_lowest held in
      let low : ℕ = lowest held in
      lets_go hook held (RemountStep.GivesUp m held) (give_up m rest) e f.5.0 f.5.1
      (ap (λ a. has_hold (giving_role (low == m) a)) (lowest_held held f.5.0 f.5.1.0).1 ∙ giving_holds (low == m))
      (give_up_role low m rest ∙ (ap (giving_role (low == m)) (leaves_here held f.5.0 f.5.1.0) ∙ no_giving (low == m)))
      (λ n ne. give_up_role n m rest ∙ ap (giving_role (n == m)) (leaves_there held n f.5.0 f.5.1.0 ne))
      (give_up_fits c m rest f.5.2 (leaves_below c.mounts held f.5.0 f.5.1)) refl (give_up_stays x.nodes m rest)
      (give_up_on x.nodes w.words.stage w.words.sb (marks_of w.words) k.0 k.1 m rest)

  -- where it has no role before and after a store of `remount` or of the superblock's flags
  mount_rests : (s : RemountStep) (e : IsHere s) (m : ℕ) (lm : m < c.mounts) → remount_role m s ≡ Out → (set sealing : ℕ) →
      (set ≡ 1 → sealing ≡ 0 → (w.words.remount ≡ 1) × (w.words.sb ≡ 0)) →
      (sealing ≡ 1 → total c.tasks (λ y. (at_mount m (w.views y)).held) ≡ 0) →
      Mount c w good t lt x s e m (w.words.flags m) set sealing Out
  mount_rests s e m lm out set sealing mark seal =
      let g : MountHoldsIn c w m = good (AtMount m) lm in
      role_stays c w good t lt x s e m (w.words.flags m) set sealing Out (sym out)
      (mount_stores g set sealing (λ a b q. remounting g (mark a b).0 (mark a b).1 q) seal)

  -- the file system has answered: the superblock's flag is set, under `remount`, or the superblock is writable again
  pub sets_read_only : (hook : HookAnswer) → IsHere RemountStep.SetsReadOnly → Keeps hook RemountStep.SetsReadOnly
  sets_read_only (Ok answer) e =
      let s : RemountStep = RemountStep.SetsReadOnly in
      let f : FitsHere s = here_fits c w good t lt x s e in
      let k : (w.words.stage ≡ 0) × (w.words.sb ≡ 0) = here_knows c w good t lt x s e in
      let set : w.words.remount ≡ 1 = remount_stands c w good t lt (ap remounts e) in
      let bares : is_bare_at w.words ≡ is_bare_at (record w.words { sb = 1 }) = rw (eq-eqb w.words.remount 1 set) refl in
      let v : View = view_with (w.views t) (WordName.SbFlags, Touch.Store 1) w.words.sb (Ok answer)
      (Next.Go (Phase.Remounts (at_remount x RemountStep.ClearsRemount)), None) in
      stores c w good t lt x s e refl RemountStep.ClearsRemount v refl (refl, refl, refl, refl, refl) (f.0, f.1, f.2, f.3, f.4, tt)
      w.words.remount 1
      (w.words.remount == 1 || w.words.sb == 1) OffTree (not_frozen w.words w.words.remount 1 k.0) (refl, sym set, refl)
      (tree_by c w good t lt x s e lim (record w.words { sb = 1 }) v OffTree refl None
      (subst (λ b. TreeEvent (tree_bounds c) (tree_of w) t (record (turned (tree_of w) t OffTree) { sealed = 1; bare = b }) None) bares
      (Seals x.nodes (omega (arith, f.3)) (tree_was c w good t lt x s e))))
      (stage_holds c w good t lt x s e (record w.words { sb = 1 }) v (StoresReadOnly x.nodes)
      (ap stage_role_of e, omega (arith, f.3), refl)) (rw (eq-eqb w.words.remount 1 set) refl)
      (λ m lm. mount_rests s e m lm refl w.words.remount 1 (λ q z. absurd (omega (arith, z)))
      (λ q. none_remounting (good (AtMount m) lm) set k.1))
  sets_read_only (Err code) e =
      let s : RemountStep = RemountStep.SetsReadOnly in
      let f : FitsHere s = here_fits c w good t lt x s e in
      let k : (w.words.stage ≡ 0) × (w.words.sb ≡ 0) = here_knows c w good t lt x s e in
      let s' : RemountStep = RemountStep.Releases (Err (GateError.Hook code)) in
      let v : View = view_with (w.views t) (WordName.Remount, Touch.Store 0) w.words.remount (Err code)
      (Next.Go (Phase.Remounts (at_remount x s')), Some Action.SbRw) in
      let bares : is_bare_at (record w.words { remount = 0 }) ≡ 0 = rw (ne_eqb w.words.sb 1 (λ q. omega (arith, k.1, q))) refl in
      let mid : TreeState = turned (tree_of w) t OffTree in
      let after : PartsHold c w good t lt x s e (record w.words { remount = 0 }) v ×
      (shown c (record { words = record w.words { remount = 0 }; views = update w.views t v }) ≡ record (shown c w) { sb_ro = false }) =
      stores c w good t lt x s e refl s' v refl (refl, refl, refl, refl, refl) (f.0, f.1, f.2, f.3, f.4, tt) 0 w.words.sb false
      OffTree refl (refl, refl, refl)
      (tree_by_two c w good t lt x s e lim (record w.words { remount = 0 }) v OffTree refl mid None
      (Leaves (no_charge x.nodes (tree_roles w t) (tree_was c w good t lt x s e)))
      (subst (λ b. TreeEvent (tree_bounds c) mid t (record mid { bare = b }) None) (sym bares) StopsBare))
      (stage_holds c w good t lt x s e (record w.words { remount = 0 }) v (CancelsRemount x.nodes) (ap stage_role_of e, refl))
      (ne_eqb w.words.sb 1 (λ q. omega (arith, k.1, q)))
      (λ m lm. mount_rests s e m lm refl 0 w.words.sb (λ q. absurd (omega (arith, q))) (sealed (good (AtMount m) lm))) in
      (after.0, ((lt, k.0), after.1))

  -- with the superblock's flag set, `remount` is cleared; meets: `remount` is loaded before the superblock's flag
  pub clears_remount : (hook : HookAnswer) → IsHere RemountStep.ClearsRemount → Keeps hook RemountStep.ClearsRemount
  clears_remount hook e =
      let s : RemountStep = RemountStep.ClearsRemount in
      let f : FitsHere s = here_fits c w good t lt x s e in
      let k : (w.words.stage ≡ 0) × (w.words.sb ≡ 1) = here_knows c w good t lt x s e in
      let set : w.words.remount ≡ 1 = remount_stands c w good t lt (ap remounts e) in
      let s' : RemountStep = RemountStep.Releases (Ok Reply.Unit) in
      let v : View = view_with (w.views t) (WordName.Remount, Touch.Store 0) w.words.remount hook (Next.Go (Phase.Remounts (at_remount x s')), None) in
      stores c w good t lt x s e refl s' v refl (refl, refl, refl, refl, refl) (f.0, f.1, f.2, f.3, f.4, tt) 0 w.words.sb
      (w.words.remount == 1 || w.words.sb == 1) OffTree refl (refl, refl, refl)
      (tree_stays c w good t lt x s e (record w.words { remount = 0 }) v refl refl refl refl refl
      (rw (eq-eqb w.words.remount 1 set, eq-eqb w.words.sb 1 k.1) refl) refl)
      (stage_holds c w good t lt x s e (record w.words { remount = 0 }) v (TakesRemount x.nodes) (ap stage_role_of e, refl))
      (rw (eq-eqb w.words.remount 1 set, eq-eqb w.words.sb 1 k.1) refl)
      (λ m lm. mount_rests s e m lm refl 0 w.words.sb (λ q. absurd (omega (arith, q))) (sealed (good (AtMount m) lm)))

  -- gives `umount` back; meets: the next owner takes it
  gives_back : (hook : HookAnswer) (s : RemountStep) (e : IsHere s) (answer : Result Reply GateError) → remount_owns s ≡ 1 →
      remount_sets s ≡ 0 → ((m : ℕ) → remount_role m s ≡ Out) → remount_tree_role x.nodes s ≡ OffTree →
      (stage sb : Option ℕ) → remount_stage_role x.nodes s ≡ Owning stage sb →
      let v : View = view_with (w.views t) (WordName.Umount, Touch.Store 0) w.words.umount hook (Next.Done answer, None) in
      let ws : Words = record w.words { umount = 0 } in
      PartsHold c w good t lt x s e ws v × (shown c (record { words = ws; views = update w.views t v }) ≡ shown c w)
  gives_back hook s e answer o r role tree stage sb owning =
      let v : View = view_with (w.views t) (WordName.Umount, Touch.Store 0) w.words.umount hook (Next.Done answer, None) in
      umount_changes c w good t lt x s e 0 v (refl, refl, refl, refl, refl) tt
      (releases_umount c w good t lt v (ap owns e ∙ o) refl (sym (ap remounts e ∙ r)))
      (stage_holds c w good t lt x s e (record w.words { umount = 0 }) v (ReleasesStage stage sb) (ap stage_role_of e ∙ owning, refl))
      refl (λ m. sym (role m)) (sym tree) (λ i. refl) refl refl

  pub releases : (hook : HookAnswer) (answer : Result Reply GateError) → IsHere (RemountStep.Releases answer) → Keeps hook (RemountStep.Releases answer)
  releases hook answer e = gives_back hook (RemountStep.Releases answer) e answer refl refl (λ m. refl) refl None None refl

  -- the file system has answered: the superblock's flag is cleared, or `umount` is given back
  pub sets_writable : (hook : HookAnswer) → IsHere RemountStep.SetsWritable → Keeps hook RemountStep.SetsWritable
  sets_writable (Ok answer) e =
      let s : RemountStep = RemountStep.SetsWritable in
      let f : FitsHere s = here_fits c w good t lt x s e in
      let k : (w.words.stage ≡ 0) × Unit {0} = here_knows c w good t lt x s e in
      let clear : w.words.remount ≡ 1 → ⊥ = no_remount c w good t lt (ap owns e) (ap remounts e) in
      let s' : RemountStep = RemountStep.Releases (Ok Reply.Unit) in
      let v : View = view_with (w.views t) (WordName.SbFlags, Touch.Store 0) w.words.sb (Ok answer)
      (Next.Go (Phase.Remounts (at_remount x s')), Some Action.SbRw) in
      let bares : is_bare_at (record w.words { sb = 0 }) ≡ 0 = rw (ne_eqb w.words.remount 1 clear) refl in
      let mid : TreeState = record (tree_of w) { sealed = sealed_by 0 w.words.stage; at = update (tree_roles w) t OffTree } in
      let after : PartsHold c w good t lt x s e (record w.words { sb = 0 }) v ×
      (shown c (record { words = record w.words { sb = 0 }; views = update w.views t v }) ≡ record (shown c w) { sb_ro = false }) =
      stores c w good t lt x s e refl s' v refl (refl, refl, refl, refl, refl) (f.0, f.1, f.2, f.3, f.4, tt) w.words.remount 0 false
      OffTree (not_frozen w.words w.words.remount 0 k.0) (refl, omega (arith, clear, (good Owner).bit), refl)
      (tree_by_two c w good t lt x s e lim (record w.words { sb = 0 }) v OffTree refl mid None
      (opens (tree_bounds c) (tree_of w) t (sealed_by 0 w.words.stage) OffTree (sealed_writable w.words.stage k.0)
      (tree_was c w good t lt x s e))
      (subst (λ b. TreeEvent (tree_bounds c) mid t (record mid { bare = b }) None) (sym bares) StopsBare))
      (stage_holds c w good t lt x s e (record w.words { sb = 0 }) v (StoresWritable None) (ap stage_role_of e, refl))
      (rw (ne_eqb w.words.remount 1 clear) refl)
      (λ m lm. mount_rests s e m lm refl w.words.remount 0 (λ q z. absurd (clear q)) (λ q. absurd (omega (arith, q)))) in
      (after.0, ((lt, k.0), after.1))
  sets_writable (Err code) e = gives_back (Err code) RemountStep.SetsWritable e (Err (GateError.Hook code)) refl refl (λ m. refl) refl (Some 0) None refl

  pub clears_node : (hook : HookAnswer) (n : ℕ) → IsHere (RemountStep.ClearsMark n) → Keeps hook (RemountStep.ClearsMark n)
  clears_node hook n e =
      let s : RemountStep = RemountStep.ClearsMark n in
      let s' : RemountStep = past_node x.nodes n in
      let f : FitsHere s = here_fits c w good t lt x s e in
      let k : (w.words.stage ≡ 0) × (w.words.sb ≡ 0) = here_knows c w good t lt x s e in
      let set : w.words.remount ≡ 1 = remount_stands c w good t lt (ap remounts e) in
      let word : ℕ = w.words.node n in
      let node : IsNode word = (good Tree).words n f.5.1 in
      let below : n < x.nodes = omega (arith, f.3, f.5.1) in
      let was : tree_roles w t ≡ Clearing n = tree_was c w good t lt x s e in
      let cleared : update (marks_of w.words) n (dirty_in (without_mark word)) ≡ update (marks_of w.words) n 0 =
      ap (update (marks_of w.words) n) (clears_mark word node.packed).dirty in
      let left : Words = record w.words { node = update w.words.node n (without_mark word) } in
      let then : TreeState = tree_where c w good t lt x s e left (Clearing (suc n)) in
      let event : (action : Option Action) → TreeEvent (tree_bounds c) (tree_of w) t then action →
      holdings_of (actions_after action (w.views t).actions) ≡ held_of (w.views t) →
      let v : View = view_with (w.views t) (WordName.Node n, Touch.And 18446744073709551611) word hook (Next.Go (Phase.Remounts (at_remount x s')), action) in
      let ws : Words = record w.words { node = update w.words.node n (without_mark word) } in
      PartsHold c w good t lt x s e ws v × (shown c (record { words = ws; views = update w.views t v }) ≡
      record (shown c w) { tree = update (λ k. node_shown (w.words.node k)) n (node_shown (without_mark word)) }) =
      λ action happens held.
      let v : View = view_with (w.views t) (WordName.Node n, Touch.And 18446744073709551611) word hook (Next.Go (Phase.Remounts (at_remount x s')), action) in
      node_changes c w good t lt x s e refl s' v refl (held, refl, refl, refl, refl)
      (subst (λ h. PhaseFits c t h (Phase.Remounts (at_remount x s'))) (sym held) (f.0, f.1, f.2, f.3, f.4, past_node_fits c x.nodes n f.3))
      n (without_mark word) (Clearing (suc n)) (past_node_stays x.nodes n below) (clears_mark word node.packed).opens
      (tree_by c w good t lt x s e lim left v (Clearing (suc n)) (past_node_stays x.nodes n below).2 action happens)
      (stage_holds c w good t lt x s e left v (ClearsMarkReadOnly 0 n) (
        ap stage_role_of e,
        λ j. playing (record (stages_in w) { dirty = (update_map dirty_in w.words.node n (without_mark word) ∙ cleared) j }) t
            (past_node_stage x.nodes n below j),
      ))
      (λ m. past_node_role x.nodes n m) in
      elim (cases_Bool (has_flag word 4)) [
        | inl h ↦
            let marked : dirty_in word ≡ 1 = mark_set word h in
            let after : IsFile (node_shown word) × (node_shown (without_mark word) ≡ option_map (marked_as false) (node_shown word)) =
            cleared_shown word node marked in
            let happens : TreeEvent (tree_bounds c) (tree_of w) t then (Some (Action.Clean n)) =
            Clears n (inr (nobody_reads c w good (λ q. omega (arith, k.0, q)))) was f.5.1 marked in
            rw h (
              (event (Some (Action.Clean n)) happens refl).0,
              (
                (lt, (f.5.1, after.0, inr (inr (rw (eq-eqb w.words.remount 1 set) refl)))),
                (event (Some (Action.Clean n)) happens refl).1 ∙
                    (λ j. record (shown c w) { tree = update (λ k. node_shown (w.words.node k)) n (after.1 j) }),
              ),
            )
        | inr h ↦
            let clean : without_mark word ≡ word = clean_stays word node (mark_clear word h) in
            let happens : TreeEvent (tree_bounds c) (tree_of w) t then None =
            Passes n was f.5.1 (mark_clear word h) in
            rw h (
              (event None happens refl).0,
              (event None happens refl).1 ∙
                  (λ j. record (shown c w) {
                    tree = (ap (λ y. update (λ k. node_shown (w.words.node k)) n (node_shown y)) clean ∙
                        update_same (λ k. node_shown (w.words.node k)) n) j;
                  }),
            )
      ]

  -- the view after the lock was tried, which left this in `umount`
  abbrev tried : HookAnswer → ℕ → RemountStep → View
  tried hook n s =
      let event : Event = record { word = WordName.Umount; touch = Touch.Cas 0 (x.task + 1); found = w.words.umount; left = n } in
      record (w.views t) {
        phase = Some (Phase.Remounts (at_remount x s));
        events = event ∷ (w.views t).events;
        trace = record { event = event; hook = hook } ∷ (w.views t).trace;
      }

  -- a lock that is not free leaves the stage
  still_aside : (hook : HookAnswer) (e : IsHere RemountStep.Locks) →
      StageHolds c w good t lt x RemountStep.Locks e (record w.words { umount = w.words.umount }) (tried hook w.words.umount RemountStep.Locks)
  still_aside hook e =
      left_alone c w t lt Stages w.words (tried hook w.words.umount RemountStep.Locks) (refl, refl, refl, refl) (sym (ap stage_role_of e)) (good Stages)

  pub locks : (hook : HookAnswer) → IsHere RemountStep.Locks → Keeps hook RemountStep.Locks
  locks hook e =
      let f : FitsHere RemountStep.Locks = here_fits c w good t lt x RemountStep.Locks e in
      elim (eqb_tells w.words.umount 0) [
        | inl h ↦ rw h.0 (
            let v : View = tried hook (x.task + 1) RemountStep.LoadsStage in
            umount_changes c w good t lt x RemountStep.Locks e (x.task + 1) v (refl, refl, refl, refl, refl) f
            (locks_umount c w good t lt (x.task + 1) v h.1 (omega (arith, f.0)) refl (sym (ap remounts e)))
            (stage_holds c w good t lt x RemountStep.Locks e (record w.words { umount = x.task + 1 }) v LocksStage
            (ap stage_role_of e, nobody_owns c w good h.1, refl))
            refl (λ m. refl) refl (λ i. refl) refl refl)
        | inr h ↦ rw h.0 (
            let v : View = tried hook w.words.umount RemountStep.Locks in
            umount_changes c w good t lt x RemountStep.Locks e w.words.umount v (refl, refl, refl, refl, refl) f
            (owner_same c w t lt good v (steady e (record { owns_same = refl; remounts_same = refl; closing_same = λ i. refl })))
            (still_aside hook e) refl (λ m. refl) refl (λ i. refl) refl refl)
      ]

  -- a load by the owner that has no role, before and after it
  still_load : (hook : HookAnswer) (name : WordName) (s s' : RemountStep) (e : IsHere s) → remount_owns s ≡ 1 →
      StaysAtStep x.nodes s' (remount_sets s) (remount_tree_role x.nodes s) →
      NextRoleHolds (remount_stage_role x.nodes s) x.nodes s' w.words.stage w.words.sb (marks_of w.words) →
      RemountFits c s' → ((m : ℕ) → remount_role m s' ≡ remount_role m s) →
      let coming : Next Phase = Next.Go (Phase.Remounts (at_remount x s')) in
      ((part : Part) → is_known_part part ≡ false → Holds c (after_load w t name hook coming) part) ×
      (shown c (after_load w t name hook coming) ≡ shown c w)
  still_load hook name s s' e o stays on fit role =
      load_event c w good t lt x s e name hook s' o stays on fit (λ m lm. mount_stays c w good t lt x s e m lm (remount_role m s') (role m))

  pub loads_stage : (hook : HookAnswer) → IsHere RemountStep.LoadsStage → Keeps hook RemountStep.LoadsStage
  loads_stage hook e =
      elim (eqb_tells w.words.stage 0) [
        | inl h ↦ rw h.0 (still_load hook WordName.Stage RemountStep.LoadsStage RemountStep.LoadsSuperblock e refl (refl, refl, refl)
            (owner_on None None (Some 0) None w.words.stage w.words.sb (marks_of w.words) h.1 tt) tt (λ m. refl))
        | inr h ↦ rw h.0 (still_load hook WordName.Stage RemountStep.LoadsStage (RemountStep.Releases (Err GateError.Busy)) e refl (refl, refl, refl)
            (owner_on None None None None w.words.stage w.words.sb (marks_of w.words) tt tt) tt (λ m. refl))
      ]

  begins_loop : (m : ℕ) → loop_role (has_mount no_mounts m) (nat_lt m 0) ≡ Out
  begins_loop m = rw (none_held no_mounts refl m, le-ltb m 0 (omega arith)) refl

  -- what is to hold of a step for which the stage and the flags were found
  abbrev FromState : RemountStep → Type 0
  FromState s = StaysAtStep x.nodes s 0 OffTree × NextRoleHolds (Owning (Some 0) None) x.nodes s w.words.stage w.words.sb (marks_of w.words) ×
      ((m : ℕ) → remount_role m s ≡ Out)

  -- it goes on as an owner that relies on this
  from_state : (stage sb : Option ℕ) → IsKnown stage w.words.stage → IsKnown sb w.words.sb →
      SameDuties (Owning (Some 0) None) (Owning stage sb) × (IsKnown stage w.words.stage × IsKnown sb w.words.sb) ×
      CleanBelow 0 (marks_of w.words)
  from_state stage sb a b = owner_on (Some 0) None stage sb w.words.stage w.words.sb (marks_of w.words) a b

  state_stays : (ro b : Bool) → w.words.stage ≡ 0 → (b ≡ false → w.words.sb ≡ 0) → FromState (remount_from ro b)
  state_stays ro b z none = grind (arith, from_state)

  pub loads_superblock : (hook : HookAnswer) → IsHere RemountStep.LoadsSuperblock → Keeps hook RemountStep.LoadsSuperblock
  loads_superblock hook e =
      let k : (w.words.stage ≡ 0) × Unit {0} = here_knows c w good t lt x RemountStep.LoadsSuperblock e in
      let found : Bool = not (w.words.sb == 0) in
      let s : FromState (remount_from x.read_only found) =
      elim (eqb_tells w.words.sb 0) [
        | inl h ↦ rw h.0 (state_stays x.read_only false k.0 (λ q. h.1))
        | inr h ↦ rw h.0 (state_stays x.read_only true k.0 (λ q. absurd (true≢false q)))
      ] in
      still_load hook WordName.SbFlags RemountStep.LoadsSuperblock (remount_from x.read_only found) e refl s.0 s.1 (state_fits c lim x.read_only found) s.2

  -- loads `removed` before its loop; there is none where it is 0, as far as it can tell
  pub loads_removed : (hook : HookAnswer) → IsHere RemountStep.LoadsRemoved → Keeps hook RemountStep.LoadsRemoved
  loads_removed hook e =
      let k : (w.words.stage ≡ 0) × (w.words.sb ≡ 0) = here_knows c w good t lt x RemountStep.LoadsRemoved e in
      elim (eqb_tells w.words.removed 0) [
        | inl h ↦ rw h.0 (still_load hook WordName.Removed RemountStep.LoadsRemoved (RemountStep.LoadsFlags 0 no_mounts) e refl (refl, refl, refl)
            (owner_on (Some 0) (Some 0) (Some 0) (Some 0) w.words.stage w.words.sb (marks_of w.words) k.0 k.1)
            (lim.some_mount, none_below c 0) begins_loop)
        | inr h ↦ rw h.0 (still_load hook WordName.Removed RemountStep.LoadsRemoved (RemountStep.Releases (Err GateError.Busy)) e refl (refl, refl, refl)
            (owner_on (Some 0) (Some 0) None None w.words.stage w.words.sb (marks_of w.words) tt tt) tt (λ m. refl))
      ]

  -- where a file was found removed, a mount is left that isn't held
  left_bare : (held : MountSet) (e : IsHere (RemountStep.LoadsRemovedAgain held)) (m : ℕ) (lm : m < c.mounts) (a : Bool) →
      remount_role m (RemountStep.LoadsRemovedAgain held) ≡ loop_role a true →
      Mount c w good t lt x (RemountStep.LoadsRemovedAgain held) e m (w.words.flags m) w.words.remount w.words.sb (held_role a)
  left_bare held e m lm true is = mount_stays c w good t lt x (RemountStep.LoadsRemovedAgain held) e m lm Empty (sym is)
  left_bare held e m lm false is =
      let r : role_of m (w.views t).phase ≡ Skipped = role_was c w good t lt x (RemountStep.LoadsRemovedAgain held) e m ∙ is in
      is_left (good (AtMount m) lm) t lt (ap questions_of r, ap processor_of r) (ap has_hold r)

  -- loads `removed` again, with each mount held or read-only; meets: a remove counts its file before it marks it removed
  pub loads_removed_again : (hook : HookAnswer) (held : MountSet) → IsHere (RemountStep.LoadsRemovedAgain held) →
      Keeps hook (RemountStep.LoadsRemovedAgain held)
  loads_removed_again hook held e =
      let s : RemountStep = RemountStep.LoadsRemovedAgain held in
      let f : FitsHere s = here_fits c w good t lt x s e in
      let k : (w.words.stage ≡ 0) × (w.words.sb ≡ 0) = here_knows c w good t lt x s e in
      elim (eqb_tells w.words.removed 0) [
        | inl h ↦
            let v : View = view_with (w.views t) (WordName.Removed, Touch.Load) w.words.removed hook
            (Next.Go (Phase.Remounts (at_remount x (RemountStep.SetsRemount held))), None) in
            rw h.0 (load_found c w good t lt x s e WordName.Removed hook (RemountStep.SetsRemount held) refl refl refl
            (tree_by c w good t lt x s e lim w.words v Bare refl None (FindsNone (tree_was c w good t lt x s e) h.1))
            (owner_on (Some 0) (Some 0) (Some 0) (Some 0) w.words.stage w.words.sb (marks_of w.words) k.0 k.1) f.5
            (λ m lm. mount_stays c w good t lt x s e m lm (remount_role m (RemountStep.SetsRemount held)) refl))
        | inr h ↦
            rw h.0 (load_event c w good t lt x s e WordName.Removed hook (leave_holds held) refl (leave_holds_stays x.nodes held)
            (leave_holds_on x.nodes w.words.stage w.words.sb (marks_of w.words) k.0 k.1 held) (leave_holds_fits c held f.5)
            (λ m lm. subst (Mount c w good t lt x s e m (w.words.flags m) w.words.remount w.words.sb) (sym (leave_holds_role m held))
            (left_bare held e m lm (has_mount held m) refl)))
      ]

  pub leaves_holds : (hook : HookAnswer) (held : MountSet) → IsHere (RemountStep.LeavesHolds held) → Keeps hook (RemountStep.LeavesHolds held)
  leaves_holds hook held e =
      let f : FitsHere (RemountStep.LeavesHolds held) = here_fits c w good t lt x (RemountStep.LeavesHolds held) e in
      let k : (w.words.stage ≡ 0) × (w.words.sb ≡ 0) = here_knows c w good t lt x (RemountStep.LeavesHolds held) e in
      let rest : MountSet = without_lowest held in
      lets_go hook held (RemountStep.LeavesHolds held) (leave_holds rest) e f.5.0 f.5.1
      (ap (λ a. has_hold (held_role a)) (lowest_held held f.5.0 f.5.1.0).1)
      (leave_holds_role (lowest held) rest ∙ ap held_role (leaves_here held f.5.0 f.5.1.0))
      (λ n ne. leave_holds_role n rest ∙ ap held_role (leaves_there held n f.5.0 f.5.1.0 ne))
      (leave_holds_fits c rest (leaves_below c.mounts held f.5.0 f.5.1)) refl (leave_holds_stays x.nodes rest)
      (leave_holds_on x.nodes w.words.stage w.words.sb (marks_of w.words) k.0 k.1 rest)

  remount_event : (hook : HookAnswer) (s : RemountStep) → IsHere s → Keeps hook s
  remount_event hook RemountStep.Locks e = locks hook e
  remount_event hook RemountStep.LoadsStage e = loads_stage hook e
  remount_event hook RemountStep.LoadsSuperblock e = loads_superblock hook e
  remount_event hook RemountStep.SetsWritable e = sets_writable hook e
  remount_event hook RemountStep.LoadsRemoved e = loads_removed hook e
  remount_event hook (RemountStep.LoadsFlags m held) e = loads_flags c lim w good t lt x hook m held e
  remount_event hook (RemountStep.SetsHold m held) e = sets_hold c lim w good t lt x hook m held e
  remount_event hook (RemountStep.Sums m held sum) e = sums c lim w good t lt x hook m held sum e
  remount_event hook (RemountStep.LoadsRemovedAgain held) e = loads_removed_again hook held e
  remount_event hook (RemountStep.LeavesHolds held) e = leaves_holds hook held e
  remount_event hook (RemountStep.SetsRemount held) e = sets_remount hook held e
  remount_event hook (RemountStep.ClearsHold held) e = clears_hold hook held e
  remount_event hook (RemountStep.GivesUp m held) e = gives_up hook m held e
  remount_event hook (RemountStep.ClearsMark n) e = clears_node hook n e
  remount_event hook RemountStep.SetsReadOnly e = sets_read_only hook e
  remount_event hook RemountStep.ClearsRemount e = clears_remount hook e
  remount_event hook (RemountStep.Releases answer) e = releases hook answer e

-- each step of a remount keeps the invariant, and moves the shown state by its action
pub remount_keeps : (c : Config) → IsWithin c → (w : World) → IsGood c w → (t : ℕ) → t < c.tasks → (hook : HookAnswer) (x : Remount) →
    (w.views t).phase ≡ Some (Phase.Remounts x) → StepKeeps c w t hook (Phase.Remounts x)
remount_keeps c lim w good t lt hook x e = whole_remount c w t lt good hook x e (remount_event c lim w good t lt x hook x.step e)
