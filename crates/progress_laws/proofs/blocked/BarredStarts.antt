-- A start at a closed level: its steps, and how its addition moves a sum's lead.
use Rattle.progress_laws.proofs.Prelude.{DownRead, DownReadStep, Next, None, Words, after_event, arith, down_read_after, down_read_next, false}
use Rattle.progress_laws.proofs.Prelude.{found_by, load_same, read, true, update_at, update_off, ℕ, ◌+◌, ◌<◌, ◌≡◌, ◌≤◌}
use Rattle.std.proofs.lemmas.Bool.{ne_eqb}
use Rattle.cpu_words.{proofs.gate_counts.Numbers.{lead_down, lead_up}, specs.{Sums.lead, gate_counts.{Gates.below, Levels.processor_of}}}
use Rattle.{gate_schedules.specs.operations.Progress.is_admitted, gate_world.specs.Roles.read_count_role}
use Rattle.percpu_rwsem.specs.{Readers.{at_down_read, step_found}, SyncWords.unpack}

-- the steps of a start at a closed level
abbrev pub barred_next : DownReadStep → DownReadStep
barred_next DownReadStep.EntersSection = DownReadStep.LoadsSync
barred_next DownReadStep.LoadsSync = DownReadStep.CountsUpSlow
barred_next DownReadStep.CountsUpSlow = DownReadStep.LoadsBlock
barred_next DownReadStep.LoadsBlock = DownReadStep.CountsDown
barred_next DownReadStep.CountsDown = DownReadStep.LeavesBlocked
barred_next DownReadStep.LeavesBlocked = DownReadStep.EntersSection
barred_next s = s

abbrev pub ComesTo : {P : Type 0} → P → Next P → Type 0
ComesTo x (Next.Go y) = y ≡ x
ComesTo x (Next.Wait y) = y ≡ x
ComesTo x (Next.Done answer) = ⊥

abbrev pub sought_by : ℕ → DownReadStep → ℕ
sought_by cpu s = processor_of (read_count_role cpu s)

module _ (w : Words) (r : DownRead) (wait : r.wait ≡ true) (set : w.block r.level ≡ 1)
    (slow : step_found (unpack (w.sync r.level)) ≡ DownReadStep.CountsUpSlow) where
  pub start_next : (s : DownReadStep) → is_admitted s ≡ false →
      ComesTo (at_down_read r (barred_next s)) (down_read_after r s (found_by (down_read_next r s).1 (read w (down_read_next r s).0))).0 ×
      ((down_read_after r s (found_by (down_read_next r s).1 (read w (down_read_next r s).0))).1 ≡ None)
  start_next s out = grind (arith, ne_eqb)

  pub start_out : (s : DownReadStep) → is_admitted s ≡ false → is_admitted (barred_next s) ≡ false
  start_out s out = grind arith

module _ (w : Words) (r : DownRead) where
  abbrev after : DownReadStep → Words
  after s = after_event w (down_read_next r s)

  -- its addition and subtraction move a sum's lead as what it seeks
  pub start_lead : (s : DownReadStep) → is_admitted s ≡ false → (processors k sum : ℕ) → r.cpu < processors →
      lead processors (w.level r.level) k sum ≤ 100000 → below k (sought_by r.cpu s) ≤ lead processors (w.level r.level) k sum →
      lead processors ((after s).level r.level) k sum + below k (sought_by r.cpu s) ≡
      lead processors (w.level r.level) k sum + below k (sought_by r.cpu (barred_next s))
  start_lead s out processors k sum lp small some = grind (arith, load_same, update_at, lead_up, lead_down)

  pub start_elsewhere : (s : DownReadStep) (j : ℕ) → (j ≡ r.level → ⊥) → (after s).level j ≡ w.level j
  start_elsewhere s j ne = grind (arith, load_same, update_off)

  -- no word that others wait by changes but its own section
  pub start_words : (s : DownReadStep) → ((after s).umount ≡ w.umount) × ((after s).flags ≡ w.flags) × ((after s).block ≡ w.block)
  start_words s = grind arith

  pub start_section : (s : DownReadStep) (y : ℕ) → (y ≡ r.task → ⊥) → (after s).section y ≡ w.section y
  start_section s y ne = grind (arith, update_off)
