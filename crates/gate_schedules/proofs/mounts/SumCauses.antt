-- The cause of a sum of a mount's counts, from each state of an execution to the next, whichever operation reads it.
use Rattle.gate_schedules.proofs.Prelude.{ChangeStep, Config, IsGood, List, None, Some, Sum, World, [], add-one, ap, arith, cases_Bool, eqb_tells}
use Rattle.gate_schedules.proofs.Prelude.{false, inl, inr, refl, suc, sym, true, wrap_add, ℕ, ◌+◌, ◌<◌, ◌∙◌, ◌∷◌, ◌≡◌}
use Rattle.cpu_words.{proofs.gate_counts.Numbers.{ahead_past, ahead_step}, specs.Sums.{ahead, lead}}
use Rattle.gate_world.specs.refusals.{Causes.{all_counted, moments_of_sum, was_counted, words_read}, KeptCauses.ChangeCause}
use Rattle.gate_schedules.proofs.traces.Moments.{fresh_lead, none_counted, sum_begins, sum_goes, sum_skips}

module _ (c : Config) (t m : ℕ) where
  -- in this state and the earlier ones
  module _ (w : World) (earlier : List World) where
    -- where no word is to be loaded, what was counted while the last sum was read stays so
    pub counted_stays : words_read (w.views t).phase ≡ None → was_counted c m (moments_of_sum t earlier) ≡ true →
        was_counted c m (moments_of_sum t (w ∷ earlier)) ≡ true
    counted_stays e h = ap (was_counted c m) (sum_skips t w earlier e) ∙ h

    -- a sum that begins has its cause
    pub sum_starts : IsGood c w → m < c.mounts → words_read (w.views t).phase ≡ Some 0 →
        ChangeCause c t w earlier m (ChangeStep.Sums record { words = 0; total = 0 })
    sum_starts good lm e = (
      λ z. refl,
      λ none. fresh_lead c w good m lm (none_counted c m w [] (sym (ap (was_counted c m) (sum_begins t w earlier e)) ∙ none)).0,
    )

    -- where nothing was counted while a sum was read so far, nothing is counted now, and nothing was before
    none_so_far : (k : ℕ) → words_read (w.views t).phase ≡ Some k → (k ≡ 0 → ⊥) →
        was_counted c m (moments_of_sum t (w ∷ earlier)) ≡ false →
        (all_counted c m w ≡ 0) × (was_counted c m (moments_of_sum t earlier) ≡ false)
    none_so_far k e ne none =
        none_counted c m w (moments_of_sum t earlier) (sym (ap (was_counted c m) (sum_goes t w earlier k e ne)) ∙ none)

  -- in this state, the next one and the earlier ones, with a sum whose cause is known
  module _ (w next : World) (earlier : List World) (sum : Sum) (h : ChangeCause c t w earlier m (ChangeStep.Sums sum)) where
    -- the cause of a sum stays while others step
    pub sum_stays : IsGood c next → m < c.mounts → words_read (next.views t).phase ≡ Some sum.words →
        words_read (w.views t).phase ≡ Some sum.words →
        (all_counted c m w ≡ 0 → all_counted c m next ≡ 0 → next.words.count m ≡ w.words.count m) →
        ChangeCause c t next (w ∷ earlier) m (ChangeStep.Sums sum)
    sum_stays good lm e was quiet = (
      h.0,
      λ none.
          elim (eqb_tells sum.words 0) [
            | inl z ↦ (λ i. lead c.processors (next.words.count m) (z.1 i) (h.0 z.1 i)) ∙
                (sum_starts next (w ∷ earlier) good lm (e ∙ ap Some z.1)).1 none
            | inr z ↦
                let now : (all_counted c m next ≡ 0) × (was_counted c m (moments_of_sum t (w ∷ earlier)) ≡ false) =
                none_so_far next (w ∷ earlier) sum.words e z.1 none in
                let before : (all_counted c m w ≡ 0) × (was_counted c m (moments_of_sum t earlier) ≡ false) =
                none_so_far w earlier sum.words was z.1 now.1 in
                ap (λ f. lead c.processors f sum.words sum.total) (quiet before.0 now.0) ∙ h.1 now.1
          ],
    )

    module _ (there : sum.words < c.processors) where
      abbrev found : ℕ
      found = w.words.count m sum.words

      word_ahead : ahead c.processors (w.words.count m) sum.words ≡ found + ahead c.processors (w.words.count m) (suc sum.words)
      word_ahead = ahead_step c.processors sum.words (w.words.count m) there

      pub sum_takes : next.words.count m ≡ w.words.count m → words_read (next.views t).phase ≡ Some (sum.words + 1) →
          ChangeCause c t next (w ∷ earlier) m
          (ChangeStep.Sums record { words = sum.words + 1; total = wrap_add sum.total (w.words.count m sum.words) })
      sum_takes same e = (
        λ z. absurd (omega (arith, z)),
        λ none.
            let now : (all_counted c m next ≡ 0) × (was_counted c m (moments_of_sum t (w ∷ earlier)) ≡ false) =
            none_so_far next (w ∷ earlier) (sum.words + 1) e (λ z. omega (arith, z)) none in
            let on : lead c.processors (w.words.count m) (suc sum.words) (wrap_add sum.total found) ≡ 0 =
            omega (arith, h.1 now.1, word_ahead) in
            (λ i. lead c.processors (same i) (add-one sum.words i) (wrap_add sum.total found)) ∙ on,
      )

      -- where the last word makes it other than 0, something was counted
      pub sum_ends : suc sum.words ≡ c.processors → (wrap_add sum.total (w.words.count m sum.words) ≡ 0 → ⊥) →
          was_counted c m (moments_of_sum t (w ∷ earlier)) ≡ true
      sum_ends last busy =
          let past : ahead c.processors (w.words.count m) (suc sum.words) ≡ 0 =
          ahead_past c.processors (suc sum.words) (w.words.count m) (omega (arith, last)) in
          elim (cases_Bool (was_counted c m (moments_of_sum t (w ∷ earlier)))) [
            | inl counted_then ↦ counted_then
            | inr none ↦ absurd (busy (omega (arith, h.1 none, word_ahead, past)))
          ]
