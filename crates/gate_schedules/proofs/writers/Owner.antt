-- Steps of a freeze or a thaw as `umount` has them: taken, given back, or as it was.
use Rattle.gate_schedules.proofs.Prelude.{Config, IsGood, Owner, OwnerHolds, View, Words, World, owns, remounts, suc, sym, update, ℕ, ◌<◌, ◌∙◌, ◌≡◌}
use Rattle.gate_schedules.proofs.{frames.{Frames.left_alone, Owners.{locks_umount, releases_umount}}, writers.Parts.IsWriter}

module _ (c : Config) (w : World) (good : IsGood c w) (t : ℕ) (lt : t < c.tasks) (v : View) (was : IsWriter (w.views t).phase)
    (now : IsWriter v.phase) where
  -- `remount` is set by it no more than before
  remount_stays : remounts v.phase ≡ remounts (w.views t).phase
  remount_stays = (λ j. (now j).remounts) ∙ sym (λ j. (was j).remounts)

  -- who owned before owns after, and `umount` and `remount` are as they were
  pub owner_stays : (ws : Words) → ws.umount ≡ w.words.umount → ws.remount ≡ w.words.remount → owns v.phase ≡ owns (w.views t).phase →
      OwnerHolds c.tasks ws.umount ws.remount (λ y. (update w.views t v y).phase)
  owner_stays ws eu er own = left_alone c w t lt Owner ws v (eu, er) (own, remount_stays) (good Owner)

  -- `umount` was free, and is the task's own
  pub lock_taken : (n : ℕ) → w.words.umount ≡ 0 → n ≡ suc t → owns v.phase ≡ 1 →
      OwnerHolds c.tasks n w.words.remount (λ y. (update w.views t v y).phase)
  lock_taken n free mine own = locks_umount c w good t lt n v free mine own remount_stays

  -- it was the task's own, and is free
  pub lock_given : owns (w.views t).phase ≡ 1 → owns v.phase ≡ 0 →
      OwnerHolds c.tasks 0 w.words.remount (λ y. (update w.views t v y).phase)
  lock_given own none = releases_umount c w good t lt v own none remount_stays
