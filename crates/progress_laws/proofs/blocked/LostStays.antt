-- A lost task's view stays, so what the invariant says of words by it stays too.
use Rattle.progress_laws.proofs.Prelude.{AtLevel, Bool, Config, Entry, GateError, HookAnswer, IsGood, IsWithin, List, None, Op, Option, Phase, Some}
use Rattle.progress_laws.proofs.Prelude.{SyncAt, SyncHoldsIn, View, World, [], ap, arith, at_level, closed, happens, has_flag, level_as_gate, owns}
use Rattle.progress_laws.proofs.Prelude.{refl, run, subst, sym, sync_role_of, total_at, true, true≢false, update_off, value_at, view_after, ℕ, ◌<◌}
use Rattle.progress_laws.proofs.Prelude.{◌∙◌, ◌∷◌, ◌≡◌, ◌≤◌}
use Rattle.{cpu_words.specs.gate_counts.Gates.counted as counted_of, gate_schedules.proofs.schedules.Schedule.{gate_sums, happens_keeps}}
use Rattle.gate_world.specs.{Levels.inside, Rules.{AtMount, LevelHoldsIn, MountHoldsIn, Owner, Sections, at_mount, role_of}}
use Rattle.gate_world.specs.Worlds.{begin_of, step_of, task_of}
use Rattle.mount_counts.{proofs.laws.Bits.below4, specs.Roles.{counted, has_hold, hold_bit}}
use Rattle.progress_laws.specs.LostForEver.{AreOfOthers, RemainsForEver, WordsTellFor}

hold_is_set : (f : ℕ) → f < 4 → 1 ≤ hold_bit f → has_flag f 2 ≡ true
hold_is_set f lt h = below4 (λ n. 1 ≤ hold_bit n → has_flag n 2 ≡ true) (λ h. absurd (omega (arith, h))) (λ h. absurd (omega (arith, h))) (λ h. refl)
    (λ h. refl) f lt h

module _ (c : Config) (y : ℕ) where
  same_begin : (w : World) (u : ℕ) (op : Op) → (y ≡ u → ⊥) → (refused : Option GateError) → (begin_of c w u op refused).views y ≡ w.views y
  same_begin w u op ne None = update_off w.views u _ y ne
  same_begin w u op ne (Some refused) = refl

  same_step : (w : World) (u : ℕ) (hook : HookAnswer) → (y ≡ u → ⊥) → (p : Option Phase) → (step_of w u hook p).views y ≡ w.views y
  same_step w u hook ne None = refl
  same_step w u hook ne (Some phase) = update_off w.views u (view_after (w.views u) phase (value_at w.words phase hook) hook) y ne

  pub same_entry : (w : World) (e : Entry) → (y ≡ task_of e → ⊥) → (happens c w e).views y ≡ w.views y
  same_entry w e ne = grind (arith, same_begin, same_step)

  same_run : (lost : ℕ → Bool) → lost y ≡ true → (es : List Entry) (w : World) → AreOfOthers lost es → (run c w es).views y ≡ w.views y
  same_run lost dead [] w others = refl
  same_run lost dead (e ∷ es) w others =
      same_run lost dead es (happens c w e) others.1 ∙
      same_entry w e (λ is. true≢false (sym dead ∙ (ap lost is ∙ others.0)))

module _ (c : Config) (lim : IsWithin c) where
  run_good : (es : List Entry) (w : World) → IsGood c w → IsGood c (run c w es)
  run_good [] w good = good
  run_good (e ∷ es) w good = run_good es (happens c w e) (happens_keeps c lim w good e).0

  -- what words say of a task's own view
  pub words_tell : (w : World) → IsGood c w → (y : ℕ) → y < c.tasks → WordsTellFor c w w y
  words_tell w good y ly = record {
    lock = λ own. (good Owner).locked y ly own;
    hold = λ m lm has.
        let h : MountHoldsIn c w m = good (AtMount m) lm in
        hold_is_set (w.words.flags m) h.bits
        (omega (arith, h.gate.flag, total_at c.tasks y (λ t. has_hold (role_of m (w.views t).phase)) ly, has));
    level = λ i one three shut.
        let s : SyncHoldsIn c w i = good (SyncAt i) one three in
        let l : LevelHoldsIn c w i = good (AtLevel i) one three in
        omega (arith, s.holds.blocked, total_at c.tasks y (λ t. closed (sync_role_of i (w.views t).phase)) ly, shut, l.known);
    section = λ in_. good Sections y ly ∙ in_;
    mount_count = λ m lm some none.
        omega (arith, (gate_sums c lim w good).mounts m lm, total_at c.tasks y (λ t. counted (at_mount m (w.views t))) ly, some, none);
    level_count = λ i one three some none.
        omega (
          arith,
          (gate_sums c lim w good).levels i one three,
          total_at c.tasks y (λ t. counted_of (level_as_gate (at_level i (w.views t)))) ly,
          some,
          none,
        );
  }

  pub remains_for_ever : (lost : ℕ → Bool) (w : World) → IsGood c w → RemainsForEver c lost w
  remains_for_ever lost w good es others y ly dead =
      let later : World = run c w es in
      let same : later.views y ≡ w.views y = same_run c y lost dead es w others in
      let tell : WordsTellFor c later later y = words_tell later (run_good es w good) y ly in
      record {
        lock = λ own. tell.lock (ap (λ (v : View). owns v.phase) same ∙ own);
        hold = λ m lm has. tell.hold m lm (ap (λ (v : View). has_hold (role_of m v.phase)) same ∙ has);
        level = λ i one three shut. tell.level i one three (ap (λ (v : View). closed (sync_role_of i v.phase)) same ∙ shut);
        section = λ in_. tell.section (ap (λ (v : View). inside v.phase) same ∙ in_);
        mount_count = λ m lm some. tell.mount_count m lm (subst (λ (v : View). 1 ≤ counted (at_mount m v)) (sym same) some);
        level_count = λ i one three some.
            tell.level_count i one three (subst (λ (v : View). 1 ≤ counted_of (level_as_gate (at_level i v))) (sym same) some);
      }
