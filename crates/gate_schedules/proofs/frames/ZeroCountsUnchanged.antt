-- Where nothing is counted at a mount or a level before a step and after it, the step leaves the counts there, whatever operation it is
-- of: it writes one word at most, and the words sum to 0 before it and after it.
use Rattle.gate_schedules.proofs.Prelude.{AtLevel, AtMount, Config, IsGood, IsWord, View, WordName, World, all_counted, at_level, at_mount, eqb_tells}
use Rattle.gate_schedules.proofs.Prelude.{inl, inr, put, refl, subst, sym, update, update_at, update_off, ℕ, ◌∙◌, ◌≡◌}
use Rattle.cpu_words.{proofs.gate_counts.ZeroCountWrites.write_is_quiet, specs.gate_counts.{Gates.CountsHold, Levels.level_as_gate}}
use Rattle.{gate_world.specs.refusals.Causes.all_inside, mount_counts.specs.Roles.mount_as_gate}
use Rattle.gate_schedules.proofs.frames.OperationLaws.{IsQuiet, extents_touched}

module _ (c : Config) (w : World) (good : IsGood c w) (views : ℕ → View) (n : ℕ) where
  -- the state in which this word is written
  abbrev Then : WordName → World
  Then word = record { words = put w.words word n; views = views }

  mount_quiet : (word : WordName) → IsWord (extents_touched c.tasks c) word → IsGood c (Then word) → (m : ℕ) → all_counted c m w ≡ 0 →
      all_counted c m (Then word) ≡ 0 → (Then word).words.count m ≡ w.words.count m
  mount_quiet (WordName.MountCount k p) there after m =
      elim (eqb_tells m k) [
        | inl h ↦
            let next : World = Then (WordName.MountCount k p) in
            let is : next.words.count k ≡ update (w.words.count k) p n = update_at w.words.count k (update (w.words.count k) p n) in
            subst (λ y. all_counted c y w ≡ 0 → all_counted c y next ≡ 0 → next.words.count y ≡ w.words.count y) (sym h.1)
            (λ a b. is ∙ write_is_quiet p n there.1 (good (AtMount k) there.0).gate.counts
            (subst (λ f. CountsHold c.tasks c.processors f (λ t. mount_as_gate (at_mount k (views t)))) is
            (after (AtMount k) there.0).gate.counts) a b)
        | inr h ↦ λ a b. update_off w.words.count k (update (w.words.count k) p n) m h.1
      ]
  mount_quiet word there after m = λ a b. refl

  level_quiet : (word : WordName) → IsWord (extents_touched c.tasks c) word → IsGood c (Then word) → (i : ℕ) → all_inside c i w ≡ 0 →
      all_inside c i (Then word) ≡ 0 → (Then word).words.level i ≡ w.words.level i
  level_quiet (WordName.LevelCount k p) there after i =
      elim (eqb_tells i k) [
        | inl h ↦
            let next : World = Then (WordName.LevelCount k p) in
            let is : next.words.level k ≡ update (w.words.level k) p n = update_at w.words.level k (update (w.words.level k) p n) in
            subst (λ y. all_inside c y w ≡ 0 → all_inside c y next ≡ 0 → next.words.level y ≡ w.words.level y) (sym h.1)
            (λ a b. is ∙ write_is_quiet p n there.2 (good (AtLevel k) there.0 there.1).gate.counts
            (subst (λ f. CountsHold c.tasks c.processors f (λ t. level_as_gate (at_level k (views t)))) is
            (after (AtLevel k) there.0 there.1).gate.counts) a b)
        | inr h ↦ λ a b. update_off w.words.level k (update (w.words.level k) p n) i h.1
      ]
  level_quiet word there after i = λ a b. refl

  pub write_quiet : (word : WordName) → IsWord (extents_touched c.tasks c) word → IsGood c (Then word) → IsQuiet c w (Then word)
  write_quiet word there after = record { mounts = mount_quiet word there after; levels = level_quiet word there after }
