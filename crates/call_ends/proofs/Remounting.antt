-- What comes after each step of a remount's line.
use Rattle.call_ends.proofs.Prelude.{Accesses, Bool, Go, None, Ok, Some, after_of, ap, arith, false, refl, remounting_at, subst, sym, true, ℕ, ◌∙◌}
use Rattle.call_ends.proofs.Prelude.{◌≡◌}
use Rattle.std.{proofs.{Common.{bit_and, if◌then◌else◌, nat_lt, not, true≢false, ◌+◌, ◌<◌, ◌==◌}, lemmas.Nat.and_le_l}, specs.Int.{bit_not, w8}}
use Rattle.access_model.specs.declared.actions.Action.TheVariants.{Clean}
use Rattle.cpu_words.specs.{Sums.sum_taking, declared.sums.{Sum.Sum, Taken.TheVariants.{More as MoreWords, Total}}}
use Rattle.gate_world.specs.{Accesses.accesses_after, declared.work.Phase.TheVariants.Remounts}
use Rattle.mount_counts.{proofs.laws.Sets.{leaves_here, lowest_held}, specs.{Phases.has_flag, Remounts.{let_go, past_mount, remount_from}}}
use Rattle.mount_counts.specs.{Sets.{has_mount, lowest, no_mounts, one_mount, with_mount, without_lowest}, declared.remounts.Remount.Remount}
use Rattle.mount_counts.specs.declared.remounts.RemountStep.{RemountStep, TheVariants.{ClearsHold, ClearsMark, LoadsFlags, LoadsRemoved}}
use Rattle.mount_counts.specs.declared.remounts.RemountStep.TheVariants.{LoadsRemovedAgain, LoadsStage, LoadsSuperblock, Locks, SetsHold}
use Rattle.mount_counts.specs.declared.{remounts.RemountStep.TheVariants.{SetsReadOnly, SetsRemount, Sums}, sets.MountSet.MountSet}
use Rattle.node_words.specs.Nodes.{node_after}
use Rattle.call_ends.proofs.Closing.{other_number, same_number}

-- what comes after one of so many, by whether there is one more
after_some : {A : Type 0} (on : ℕ → A) (last : A) (n next : ℕ) (b : Bool) → Some next ≡ (if b then Some (n + 1) else None) →
    (if b then on (n + 1) else last) ≡ on next
after_some on last n next true is = let same : next ≡ n + 1 = grind arith in ap on (sym same)
after_some on last n next false is = absurd (let f : ⊥ = grind arith in f)

after_none : {A : Type 0} (on : ℕ → A) (last : A) (n : ℕ) (b : Bool) → None ≡ (if b then Some (n + 1) else None) →
    (if b then on (n + 1) else last) ≡ last
after_none on last n true is = absurd (let f : ⊥ = grind arith in f)
after_none on last n false is = refl

module _ (x : Remount) where
  -- where a remount stands
  pub remount_stands : (s : RemountStep) → x.step ≡ s → Go (remounting_at x s) ≡ Go (Remounts x)
  remount_stands s at = ap (λ t. Go (remounting_at x t)) (sym at)

  -- `umount` was free
  pub locked : (found : ℕ) → found ≡ 0 → (after_of (remounting_at x Locks) found (Ok tt)).0 ≡ Go (remounting_at x LoadsStage)
  locked found is = rw (same_number found 0 is) refl

  -- the load of the stage
  pub stage_free : (found : ℕ) → found ≡ 0 → (after_of (remounting_at x LoadsStage) found (Ok tt)).0 ≡ Go (remounting_at x LoadsSuperblock)
  stage_free found is = rw (same_number found 0 is) refl

  -- the load of the superblock's flag
  pub state_found : (found : ℕ) (asked now : Bool) → x.read_only ≡ asked → not (found == 0) ≡ now →
      (after_of (remounting_at x LoadsSuperblock) found (Ok tt)).0 ≡ Go (remounting_at x (remount_from asked now))
  state_found found asked now asks is = ap (λ b. Go (remounting_at x (remount_from b (not (found == 0))))) asks ∙
      ap (λ b. Go (remounting_at x (remount_from asked b))) is

  -- the loads of how many removed files are open
  pub none_removed : (found : ℕ) → found ≡ 0 → (after_of (remounting_at x LoadsRemoved) found (Ok tt)).0 ≡ Go (remounting_at x (LoadsFlags 0 no_mounts))
  none_removed found is = rw (same_number found 0 is) refl

  pub none_removed_again : (held : MountSet) (found : ℕ) → found ≡ 0 →
      (after_of (remounting_at x (LoadsRemovedAgain held)) found (Ok tt)).0 ≡ Go (remounting_at x (SetsRemount held))
  none_removed_again held found is = rw (same_number found 0 is) refl

  -- which holds are still to be cleared
  pub some_held : (held : MountSet) → (held.bits ≡ 0 → ⊥) → Go (remounting_at x (let_go held)) ≡ Go (remounting_at x (ClearsHold held))
  some_held held some = rw (other_number held.bits 0 some) refl

  pub none_held : (held : MountSet) → held.bits ≡ 0 → Go (remounting_at x (let_go held)) ≡ Go (remounting_at x (ClearsMark 1))
  none_held held none = rw (same_number held.bits 0 none) refl

  -- the clearing of a mark
  pub cleans_on : (node next found : ℕ) → Some next ≡ node_after node x.nodes →
      (after_of (remounting_at x (ClearsMark node)) found (Ok tt)).0 ≡ Go (remounting_at x (ClearsMark next))
  cleans_on node next found is =
      ap (λ s. Go (remounting_at x s)) (after_some (λ n. ClearsMark n) SetsReadOnly node next (nat_lt (node + 1) x.nodes) is)

  pub cleans_last : (node found : ℕ) → None ≡ node_after node x.nodes →
      (after_of (remounting_at x (ClearsMark node)) found (Ok tt)).0 ≡ Go (remounting_at x SetsReadOnly)
  cleans_last node found is = ap (λ s. Go (remounting_at x s)) (after_none (λ n. ClearsMark n) SetsReadOnly node (nat_lt (node + 1) x.nodes) is)

  -- it leaves the accesses, and so do the stores that the answer of `reconfigure` decides
  cleans_case : (held : Accesses) (node : ℕ) (b : Bool) → held ≡ accesses_after held (if b then Some (Clean node) else None)
  cleans_case held node true = refl
  cleans_case held node false = refl

  pub cleans_leave : (held : Accesses) (node found : ℕ) → held ≡ accesses_after held (after_of (remounting_at x (ClearsMark node)) found (Ok tt)).1
  cleans_leave held node found = cleans_case held node (has_flag found 4)

module _ (x : Remount) (mount : ℕ) (held : MountSet) where
  -- the next mount, or none
  pub past_on : (next : ℕ) → Some next ≡ node_after mount x.mounts → Go (remounting_at x (past_mount x.mounts mount held)) ≡ Go (remounting_at x (LoadsFlags next held))
  past_on next is =
      ap (λ s. Go (remounting_at x s)) (after_some (λ n. LoadsFlags n held) (LoadsRemovedAgain held) mount next (nat_lt (mount + 1) x.mounts) is)

  pub past_last : None ≡ node_after mount x.mounts → Go (remounting_at x (past_mount x.mounts mount held)) ≡ Go (remounting_at x (LoadsRemovedAgain held))
  past_last is =
      ap (λ s. Go (remounting_at x s)) (after_none (λ n. LoadsFlags n held) (LoadsRemovedAgain held) mount (nat_lt (mount + 1) x.mounts) is)

  -- the load of its flags
  pub holds_on : (found flags : ℕ) (has : Bool) → flags ≡ found → has ≡ (bit_and flags 1 == 1) → has ≡ false →
      (after_of (remounting_at x (LoadsFlags mount held)) found (Ok tt)).0 ≡ Go (remounting_at x (SetsHold mount held))
  holds_on found flags has same has_is not_so = rw (sym (ap (λ f. bit_and f 1 == 1) same) ∙ (sym has_is ∙ not_so)) refl

  -- a load of a count word that is not the last
  pub sums_on : (sum further : Sum) (found : ℕ) → MoreWords further ≡ sum_taking sum found x.processors →
      (after_of (remounting_at x (Sums mount held sum)) found (Ok tt)).0 ≡ Go (remounting_at x (Sums mount held further))
  sums_on sum further found is = rw (sym is) refl

  -- the last one
  pub sums_none : (sum : Sum) (found total : ℕ) → Total total ≡ sum_taking sum found x.processors → total ≡ 0 →
      (after_of (remounting_at x (Sums mount held sum)) found (Ok tt)).0 ≡ Go (remounting_at x (past_mount x.mounts mount (with_mount held mount)))
  sums_none sum found total is none = rw (sym is, same_number total 0 none) refl

-- fewer holds are left to clear
pub fewer_holds : (held : MountSet) → (held.bits ≡ 0 → ⊥) → held.bits < 256 → (without_lowest held).bits < held.bits
fewer_holds held some within =
    let least : 0 < held.bits = omega (arith, some) in
    let below : (without_lowest held).bits < held.bits + 1 = omega (arith, and_le_l held.bits (bit_not w8 (one_mount (lowest held)))) in
    let other : (without_lowest held).bits ≡ held.bits → ⊥ = λ same.
    true≢false (sym (lowest_held held least within).1 ∙ (sym (ap (λ b. has_mount record { bits = b } (lowest held)) same) ∙ leaves_here held least within)) in
    omega (arith, below, other)

pub holds_left : (held left : MountSet) → left ≡ without_lowest held → (held.bits ≡ 0 → ⊥) → held.bits < 256 → left.bits < held.bits
holds_left held left is some within = subst (λ (m : MountSet). m.bits < held.bits) (sym is) (fewer_holds held some within)
