-- What comes after each step of the reopening of the levels.
use Rattle.call_ends.proofs.Prelude.{Accesses, Bool, Go, Loads, Ok, Some, after_of, ap, arith, false, refl, sym, true, ℕ, ◌∙◌, ◌≡◌}
use Rattle.std.proofs.Common.{◌==◌}
use Rattle.{access_model.specs.{Holders.{held_by, is_unheld, with_holder}, declared.actions.Holders.Holders}, cpu_words.specs.Hooks.HookAnswer}
use Rattle.freeze_levels.specs.{Holders.holders_in, Thaws.thaw_finds, declared.thaws.{Thaw.Thaw, ThawStep.ThawStep}}
use Rattle.freeze_levels.specs.declared.thaws.ThawStep.TheVariants.{LeavesLast, LoadsHolders, LoadsStage, LoadsSuperblock, Locks}
use Rattle.gate_world.specs.{Accesses.accesses_after, declared.work.Phase.TheVariants.Thaws}
use Rattle.percpu_rwsem.specs.{SyncWords.{on_exit, pack, unpack}, declared.sync_word.SyncWord.SyncWord}
use Rattle.percpu_rwsem.specs.declared.{transitions.Transition.TheVariants.Exchanges, writers.UpWriteStep.TheVariants.Exits}
use Rattle.call_ends.{proofs.Closing.same_number, specs.Reopenings.{opening_at, reopened, thaw_at}}

module _ (x : Thaw) where
  -- `umount` was free, or taken
  pub locked : (found : ℕ) → found ≡ 0 → (after_of (thaw_at x Locks) found (Ok tt)).0 ≡ Go (thaw_at x LoadsStage)
  locked found is = rw (same_number found 0 is) refl

  -- the load of the stage
  pub stage_frozen : (found : ℕ) → found ≡ 4 → (after_of (thaw_at x LoadsStage) found (Ok tt)).0 ≡ Go (thaw_at x LoadsHolders)
  stage_frozen found is = rw (same_number found 4 is) refl

  -- the load of who holds a freeze
  module _ (found : ℕ) (held : Holders) (is : held ≡ holders_in found) where
    finds : (step : ThawStep) → thaw_finds x held ≡ step → (after_of (thaw_at x LoadsHolders) found (Ok tt)).0 ≡ Go (thaw_at x step)
    finds step so = ap (λ h. Go (thaw_at x (thaw_finds x h))) (sym is) ∙ ap (λ s. Go (thaw_at x s)) so

    pub held_by_this : (has : Bool) → has ≡ held_by held x.holder → has ≡ true → (others : Holders) →
        others ≡ with_holder x.holder false held → (last : Bool) → last ≡ is_unheld others → last ≡ true →
        (after_of (thaw_at x LoadsHolders) found (Ok tt)).0 ≡ Go (thaw_at x LoadsSuperblock)
    held_by_this has has_is so others others_is last last_is is_last =
        finds LoadsSuperblock (rw (sym has_is ∙ so, sym (ap is_unheld others_is) ∙ (sym last_is ∙ is_last)) refl)

  -- the load of the superblock's flag
  pub flag_clear : (found : ℕ) → found ≡ 0 → (after_of (thaw_at x LoadsSuperblock) found (Ok tt)).0 ≡ Go (thaw_at x LeavesLast)
  flag_clear found is = rw (same_number found 0 is) refl

  -- the store that `unfreeze_fs` decides leaves the accesses
  pub leaves_last : (held : Accesses) (found : ℕ) (hook : HookAnswer) → held ≡ accesses_after held (after_of (thaw_at x LeavesLast) found hook).1
  leaves_last held found hook = grind arith

module _ (x : Thaw) (level : ℕ) where
  -- a thaw stands at a step
  pub thaw_stands : (s : ThawStep) → x.step ≡ s → Go (thaw_at x s) ≡ Go (Thaws x)
  thaw_stands s at = ap (λ t. Go (thaw_at x t)) (sym at)

  pub exits_on : (found : ℕ) (from to : SyncWord) → Some from ≡ unpack found → Some to ≡ on_exit from →
      (after_of (opening_at x level (Exits Loads)) found (Ok tt)).0 ≡ Go (opening_at x level (Exits (Exchanges from to)))
  exits_on found from to is made = rw (sym is, sym made) refl

  pub exits_last : (found expect : ℕ) (from to : SyncWord) → pack from ≡ expect →
      (after_of (opening_at x level (Exits (Exchanges from to))) found (Ok tt)).0 ≡ Go (reopened x level (found == expect))
  exits_last found expect from to same = grind arith
