-- Each step of the mounts keeps what holds at its mount.
use Rattle.std.proofs.Common.{ap, arith, bit_or, inl, inr, refl, subst, suc, sym, zero, ℕ, ◌+◌, ◌<◌, ◌∙◌, ◌≡◌, ◌≤◌, ◌⊎◌}
use Rattle.std.proofs.lemmas.Bool.Decides.{eqb_tells}
use Rattle.cpu_words.proofs.gate_counts.{Events.flag_event, Flags.{MaySay, nobody, none_admitted, none_held, shuts, sum_begins, sum_ends, sum_goes}}
use Rattle.cpu_words.proofs.gate_counts.Readers.{adds as gate_adds, backs_off as gate_backs_off, goes_on, is_admitted, is_granted as gate_grants}
use Rattle.cpu_words.{proofs.gate_counts.Readers.{is_refused as gate_refuses, returns as gate_returns}, specs.Touches.{wrap_add, wrap_sub}}
use Rattle.cpu_words.specs.gate_counts.Gates.{Apart, Barring, GateHolds, bars, below, past}
use Rattle.finite_sums.{proofs.Totals.{each_updated, total_at, total_none, update_map}, specs.Sums.{total, update}}
use Rattle.mount_counts.proofs.laws.Bits.{IsWithHold, IsWithReadOnly, IsWithoutHold, IsWithoutReadOnly, and_not_hold, and_not_read_only, or_hold}
use Rattle.mount_counts.proofs.laws.Bits.{or_read_only, without_hold, without_read_only}
use Rattle.mount_counts.specs.Roles.{Asking, BackingOff, Cleared, Empty, Leaving, MountHolds, MountView, Out, PastFlags, PastRemount, Role, Skipped}
use Rattle.mount_counts.specs.Roles.{Summing, admitted, barring_of, has_hold, hold_bit, mount_as_gate, mount_shut, passed_hold, past_flags}
use Rattle.mount_counts.specs.Roles.{past_remount, processor_of, questions_of, ro_bit, skips, sought}

apart : (b : Barring) → bars b ≡ 0 → b ≡ Apart
apart Apart h = refl
apart _ h = absurd (omega arith)

-- a fact about each question whose condition stands
each_shut : (flags remount sb : ℕ) (P : ℕ → Type 0) → (remount ≡ 1 → sb ≡ 0 → ro_bit flags ≡ 0 → P 1) → (ro_bit flags ≡ 1 → P 2) →
    (sb ≡ 1 → P 3) → (i : ℕ) → mount_shut flags remount sb i → P i
each_shut flags remount sb P a b c (suc zero) h = a h.0 h.1 h.2
each_shut flags remount sb P a b c (suc (suc zero)) h = b h
each_shut flags remount sb P a b c (suc (suc (suc zero))) h = c h
each_shut flags remount sb P a b c _ h = absurd h

none_past : (r : Role) → below 3 (questions_of r) ≡ 0
none_past (Cleared p) = refl
none_past _ = refl

module _ {tasks processors flags remount sb : ℕ} {count : ℕ → ℕ} {at : ℕ → MountView}
    (good : MountHolds tasks processors flags remount sb count at) (t : ℕ) (lt : t < tasks) where
  -- the mount after a step of a reader that makes this of the words and of the task's view
  abbrev HoldsAfter : (ℕ → ℕ) → MountView → Type 0
  HoldsAfter count' v = MountHolds tasks processors flags remount sb count' (update at t v)

  -- a step of a reader keeps the mount where it keeps it as a gate
  reads : (v : MountView) (count' : ℕ → ℕ) → skips v.role ≡ 0 →
      GateHolds tasks processors (hold_bit flags) 0 (mount_shut flags remount sb) count'
      (update (λ x. mount_as_gate (at x)) t (mount_as_gate v)) → HoldsAfter count' v
  reads v count' skip gate = record {
    bits = good.bits;
    gate = subst (GateHolds tasks processors (hold_bit flags) 0 (mount_shut flags remount sb) count')
        (sym (update_map mount_as_gate at t v)) gate;
    skipped = λ x lx.
        each_updated (λ y w. skips w.role ≡ 1 → ro_bit flags ≡ 1) at t v x (λ s. absurd (omega (arith, s, skip))) (λ ne. good.skipped x lx);
  }

  -- a load finds HOLD clear: the task is admitted. Meets: HOLD is set before the words are summed
  pub finds_hold_clear : (p : ℕ) → (at t).role ≡ Asking p → hold_bit flags ≡ 0 → (at t).held < 1024 →
      HoldsAfter count (record (at t) { role = Cleared p })
  finds_hold_clear p e clear room =
      reads (record (at t) { role = Cleared p }) count refl
      (is_admitted good.gate t lt p Apart (sym (ap barring_of e)) (ap processor_of e) (ap questions_of e) clear (λ s. s) room)

  -- a load finds `remount` 0. Meets: `remount` is set before HOLD is cleared
  pub finds_no_remount : (p : ℕ) → (at t).role ≡ Cleared p → remount ≡ 0 → HoldsAfter count (record (at t) { role = PastRemount p })
  finds_no_remount p e clear =
      reads (record (at t) { role = PastRemount p }) count refl
      (goes_on good.gate t lt 0 Apart (sym (ap barring_of e)) (ap questions_of e) (ap processor_of e) (λ s. omega (arith, s.0, clear)))

  -- a load finds READONLY clear. Meets: READONLY is set before HOLD is cleared
  pub finds_writable : (p : ℕ) → (at t).role ≡ PastRemount p → ro_bit flags ≡ 0 → HoldsAfter count (record (at t) { role = PastFlags p })
  finds_writable p e clear =
      reads (record (at t) { role = PastFlags p }) count refl
      (goes_on good.gate t lt 1 Apart (sym (ap barring_of e)) (ap questions_of e) (ap processor_of e) (λ s. omega (arith, s, clear)))

  -- a load finds the superblock's flag 0, which is the grant
  pub is_granted : (p : ℕ) → (at t).role ≡ PastFlags p → sb ≡ 0 → (at t).held < 1024 →
      HoldsAfter count (record (at t) { held = (at t).held + 1; role = Out })
  is_granted p e clear room =
      reads (record (at t) { held = (at t).held + 1; role = Out }) count refl
      (gate_grants good.gate t lt 3 Apart (sym (ap barring_of e)) (ap questions_of e) (omega (arith, ap (λ r. below 0 (processor_of r)) e))
      (inr refl)
      (λ i le s. each_shut flags remount sb (λ i. 3 ≤ i → ⊥) (λ a b c l. omega arith) (λ a l. omega arith)
      (λ a l. omega (arith, a, clear)) i s le)
      room)

  -- HOLD is found set, and the task looks again
  pub waits_on : (p : ℕ) → (at t).role ≡ Asking p → HoldsAfter count (record (at t) { role = Asking p })
  waits_on p e =
      reads (record (at t) { role = Asking p }) count refl
      (gate_refuses good.gate t lt p Apart (sym (ap barring_of e)) (inl (ap processor_of e, ap questions_of e)))

  -- one of the four is found set, and the task is to subtract what it added on this processor
  pub is_refused : (p : ℕ) (r : Role) → (at t).role ≡ r → has_hold r ≡ 0 →
      ((processor_of r ≡ suc p) × (questions_of r ≡ 0)) ⊎ ((processor_of r ≡ 0) × (passed_hold r ≡ 1)) →
      HoldsAfter count (record (at t) { role = BackingOff p })
  is_refused p r e none seeks =
      reads (record (at t) { role = BackingOff p }) count refl
      (gate_refuses good.gate t lt p Apart (sym (ap barring_of e ∙ apart (barring_of r) none))
      (elim seeks [
        | inl h ↦ inl (ap processor_of e ∙ h.0, ap questions_of e ∙ h.1)
        | inr h ↦ inr (ap processor_of e ∙ h.0, ap passed_hold e ∙ h.1)
      ]))

  module _ (few : tasks ≤ 64) (narrow : processors ≤ 64) (p : ℕ) (lp : p < processors) where
    -- the words and the net additions after an addition on p, and after a subtraction
    abbrev count_up : ℕ → ℕ
    count_up = update count p (wrap_add (count p) 1)

    abbrev count_down : ℕ → ℕ
    count_down = update count p (wrap_sub (count p) 1)

    abbrev added_more : ℕ → ℕ
    added_more = update (at t).added p ((at t).added p + 1)

    abbrev taken_more : ℕ → ℕ
    taken_more = update (at t).taken p ((at t).taken p + 1)

    -- an addition by a task that wants the mount, before it looks for HOLD. Meets: HOLD is set before the words are summed
    pub adds : (at t).role ≡ Out → HoldsAfter count_up (record (at t) { added = added_more; role = Asking p })
    adds out =
        reads (record (at t) { added = added_more; role = Asking p }) _ refl
        (gate_adds good.gate t lt few narrow p lp Apart (sym (ap barring_of out)) (omega (arith, ap sought out)))

    pub backs_off : (at t).role ≡ BackingOff p → HoldsAfter count_down (record (at t) { taken = taken_more; role = Out })
    backs_off e =
        reads (record (at t) { taken = taken_more; role = Out }) _ refl
        (gate_backs_off good.gate t lt few narrow p lp Apart (sym (ap barring_of e)) (ap processor_of e) (ap questions_of e))

    -- a return, on any processor. Meets: a sum reads each word once
    pub returns : (h : ℕ) → (at t).role ≡ Out → (at t).held ≡ suc h →
        HoldsAfter count_down (record (at t) { held = h; taken = taken_more; role = Out })
    returns h e held =
        reads (record (at t) { held = h; taken = taken_more; role = Out }) _ refl
        (gate_returns good.gate t lt few narrow p lp h Apart (sym (ap barring_of e)) held (omega (arith, ap sought e)))

-- a role that seeks no access: out, or the owner's
abbrev pub SeeksNone : Role → Type 0
SeeksNone r = (questions_of r ≡ 0) × (processor_of r ≡ 0)

module _ {tasks processors flags remount sb : ℕ} {count : ℕ → ℕ} {at : ℕ → MountView}
    (good : MountHolds tasks processors flags remount sb count at) where
  pub hold : total tasks (λ x. has_hold (at x).role) ≡ hold_bit flags
  hold = omega (arith, good.gate.flag)

  -- at a mount with READONLY nobody holds an access, and nobody who is admitted is past its load of READONLY clear
  pub closed : ro_bit flags ≡ 1 → total tasks (λ x. (at x).held + past_flags (at x).role) ≡ 0
  closed e = good.gate.open_to 2 e

  -- while `remount` is set, nobody holds an access, and nobody who is admitted is past its load of `remount`
  pub remounting : remount ≡ 1 → sb ≡ 0 → ro_bit flags ≡ 0 → total tasks (λ x. (at x).held + past_remount (at x).role) ≡ 0
  remounting a b c = good.gate.open_to 1 (a, b, c)

  -- on a read-only superblock nobody holds an access
  pub sealed : sb ≡ 1 → total tasks (λ x. (at x).held) ≡ 0
  sealed e = none_held good.gate 3 (good.gate.open_to 3 e)

  none_fourth : total tasks (λ x. (at x).held) ≡ 0 → total tasks (λ x. past 3 (mount_as_gate (at x))) ≡ 0
  none_fourth none =
      total_none tasks _ (λ x lx. omega (arith, none_past (at x).role, none, total_at tasks x (λ y. (at y).held) lx))

  pub none_remounting : remount ≡ 1 → sb ≡ 0 → total tasks (λ x. (at x).held) ≡ 0
  none_remounting set clear = elim (eqb_tells (ro_bit flags) 0) [
    | inl z ↦ none_held good.gate 1 (remounting set clear z.1)
    | inr z ↦ none_held good.gate 2 (closed (omega (arith, z.1)))
  ]

  -- where a sum was 0, nobody is admitted until HOLD is cleared
  pub empties : (t : ℕ) → t < tasks → (at t).role ≡ Empty → total tasks (λ x. admitted (at x)) ≡ 0
  empties t lt e = none_admitted good.gate t lt (ap barring_of e)

  -- a store of `remount` or of the superblock's flag: what stands after it has nobody past its question
  pub stores : (re sealing : ℕ) →
      (re ≡ 1 → sealing ≡ 0 → ro_bit flags ≡ 0 → total tasks (λ x. (at x).held + past_remount (at x).role) ≡ 0) →
      (sealing ≡ 1 → total tasks (λ x. (at x).held) ≡ 0) → MountHolds tasks processors flags re sealing count at
  stores re sealing mark seal = record {
    bits = good.bits;
    gate = shuts good.gate (mount_shut flags re sealing)
        (each_shut flags re sealing (λ i. total tasks (λ x. past i (mount_as_gate (at x))) ≡ 0) mark closed (λ e. none_fourth (seal e)));
    skipped = good.skipped;
  }

  module _ (t : ℕ) (lt : t < tasks) where
    -- `remount` is stored 1 at a mount whose sum was 0. Meets: `remount` is loaded after HOLD was found clear
    pub marks_empty : (at t).role ≡ Empty → MountHolds tasks processors flags 1 sb count at
    marks_empty e = stores 1 sb (λ a b c. nobody good.gate (empties t lt e) 1) sealed

    pub marks_skipped : (at t).role ≡ Skipped → MountHolds tasks processors flags 1 sb count at
    marks_skipped e = stores 1 sb (λ a b c. absurd (omega (arith, c, good.skipped t lt (ap skips e)))) sealed

    -- the mount after the owner's role there becomes this, and the flags word this
    abbrev Becomes : Role → ℕ → Type 0
    Becomes r f = MountHolds tasks processors f remount sb count (update at t (record (at t) { role = r }))

    -- An owner's step: no count word changes, and the owner seeks no access before and after it. It leaves these flags, and what
    -- stands after it has nobody past its question.
    pub owner_event : (r : Role) (f : ℕ) → SeeksNone (at t).role → SeeksNone r → f < 4 →
        hold_bit f + has_hold (at t).role ≡ hold_bit flags + has_hold r →
        (ro_bit f ≡ 1 → total tasks (λ x. (at x).held + past_flags (at x).role) ≡ 0) →
        (remount ≡ 1 → sb ≡ 0 → ro_bit f ≡ 0 → total tasks (λ x. (at x).held + past_remount (at x).role) ≡ 0) →
        ((x : ℕ) → x < tasks → (x ≡ t → ⊥) → skips (at x).role ≡ 1 → ro_bit flags ≡ 1 → ro_bit f ≡ 1) →
        MaySay good.gate (barring_of r) → (skips r ≡ 1 → ro_bit f ≡ 1) → Becomes r f
    owner_event r f was now bits flag read mark skip own stays =
        let v : MountView = record (at t) { role = r } in
        let same : mount_as_gate v ≡ record (mount_as_gate (at t)) { barring = barring_of r } =
        λ j. record (mount_as_gate (at t)) {
          questions = (now.0 ∙ sym was.0) j;
          sought_on = (now.1 ∙ sym was.1) j;
          barring = barring_of r;
        } in
        record {
          bits = bits;
          gate = subst (GateHolds tasks processors (hold_bit f) 0 (mount_shut f remount sb) count)
              (sym (update_map mount_as_gate at t v ∙ ap (update (λ x. mount_as_gate (at x)) t) same))
              (flag_event good.gate t lt (barring_of r) (hold_bit f) 0 (mount_shut f remount sb) (omega (arith, flag)) own
              (each_shut f remount sb (λ i. total tasks (λ x. past i (mount_as_gate (at x))) ≡ 0) mark read (λ e. none_fourth (sealed e))));
          skipped = λ x lx.
              each_updated (λ y w. skips w.role ≡ 1 → ro_bit f ≡ 1) at t v x stays (λ ne s. skip x lx ne s (good.skipped x lx s));
        }

    -- one that leaves READONLY as it was
    keeps_read_only : (r : Role) (f : ℕ) → SeeksNone (at t).role → SeeksNone r → (f < 4) × (ro_bit f ≡ ro_bit flags) →
        hold_bit f + has_hold (at t).role ≡ hold_bit flags + has_hold r → MaySay good.gate (barring_of r) → skips r ≡ 0 → Becomes r f
    keeps_read_only r f was now bits flag own none =
        owner_event r f was now bits.0 flag (λ q. closed (sym bits.1 ∙ q)) (λ q q2 q3. remounting q q2 (sym bits.1 ∙ q3))
        (λ x lx ne s q. bits.1 ∙ q) own (λ s. absurd (omega (arith, s, none)))

    -- a remount found the mount read-only, and counts on its staying so. Meets: whoever clears READONLY owns `umount`
    pub is_skipped : (at t).role ≡ Out → ro_bit flags ≡ 1 → Becomes Skipped flags
    is_skipped e ro =
        owner_event Skipped flags (ap questions_of e, ap processor_of e) (refl, refl) good.bits (omega (arith, ap has_hold e)) closed
        remounting (λ x lx ne s q. q) tt (λ s. ro)

    pub is_left : SeeksNone (at t).role → has_hold (at t).role ≡ 0 → Becomes Out flags
    is_left none free = keeps_read_only Out flags none (refl, refl) (good.bits, refl) (omega (arith, free)) tt refl

    -- HOLD is set, before the words are summed. Meets: a task adds before it looks for HOLD
    pub sets_hold : tasks ≤ 64 → processors ≤ 64 → 0 < processors → (at t).role ≡ Out → hold_bit flags ≡ 0 →
        Becomes (Summing 0 0) (bit_or flags 2)
    sets_hold few narrow some e clear =
        let b : IsWithHold flags (bit_or flags 2) = or_hold flags good.bits in
        keeps_read_only (Summing 0 0) (bit_or flags 2) (ap questions_of e, ap processor_of e) (refl, refl)
        (b.0, b.1) (omega (arith, b, clear, ap has_hold e)) (sum_begins good.gate few narrow some) refl

    -- a word is read, and more are to come
    pub sums_on : tasks ≤ 64 → processors ≤ 64 → (k sum : ℕ) → (at t).role ≡ Summing k sum → suc k < processors →
        Becomes (Summing (suc k) (wrap_add sum (count k))) flags
    sums_on few narrow k sum e more =
        keeps_read_only (Summing (suc k) (wrap_add sum (count k))) flags (ap questions_of e, ap processor_of e)
        (refl, refl) (good.bits, refl) (omega (arith, ap has_hold e))
        (sum_goes good.gate few narrow k sum more (subst (MaySay good.gate) (ap barring_of e) (good.gate.sums t lt))) refl

    -- the last is read, and the sum is 0: nobody is admitted. Meets: a task looks for HOLD after it added
    pub sums_to_none : tasks ≤ 64 → processors ≤ 64 → (k sum : ℕ) → (at t).role ≡ Summing k sum → suc k ≡ processors →
        wrap_add sum (count k) ≡ 0 → Becomes Empty flags
    sums_to_none few narrow k sum e last z =
        keeps_read_only Empty flags (ap questions_of e, ap processor_of e) (refl, refl) (good.bits, refl)
        (omega (arith, ap has_hold e))
        (sum_ends good.gate few narrow k sum last z (subst (MaySay good.gate) (ap barring_of e) (good.gate.sums t lt))) refl

    pub sums_to_some : (k sum : ℕ) → (at t).role ≡ Summing k sum → Becomes Leaving flags
    sums_to_some k sum e =
        keeps_read_only Leaving flags (ap questions_of e, ap processor_of e) (refl, refl) (good.bits, refl)
        (omega (arith, ap has_hold e)) tt refl

    -- READONLY is set under HOLD, and still nobody is admitted. Meets: READONLY is loaded after HOLD was found clear
    pub sets_read_only : (at t).role ≡ Empty → (remount ≡ 1 → ⊥) → Becomes Empty (bit_or flags 1)
    sets_read_only e clear =
        let b : IsWithReadOnly flags (bit_or flags 1) = or_read_only flags good.bits in
        owner_event Empty (bit_or flags 1) (ap questions_of e, ap processor_of e) (refl, refl) b.0
        (omega (arith, b, ap has_hold e)) (λ q. nobody good.gate (empties t lt e) 2) (λ q. absurd (clear q)) (λ x lx ne s q. b.1)
        (empties t lt e) (λ s. absurd (omega (arith, s)))

    -- HOLD is cleared, whatever the sum was. Meets: READONLY and `remount` are loaded after HOLD was found clear
    pub clears_hold : SeeksNone (at t).role → has_hold (at t).role ≡ 1 → Becomes Out (without_hold flags)
    clears_hold none one =
        let b : IsWithoutHold flags (without_hold flags) = and_not_hold flags good.bits in
        keeps_read_only Out (without_hold flags) none (refl, refl) (b.0, b.1)
        (omega (arith, b, one, hold, good.bits, total_at tasks t (λ x. has_hold (at x).role) lt)) tt refl

    -- READONLY is cleared by an owner while no remount counts on it
    pub clears_read_only : (at t).role ≡ Out → (remount ≡ 1 → ⊥) → ((x : ℕ) → x < tasks → (x ≡ t → ⊥) → skips (at x).role ≡ 1 → ⊥) →
        Becomes Out (without_read_only flags)
    clears_read_only e clear none =
        let b : IsWithoutReadOnly flags (without_read_only flags) = and_not_read_only flags good.bits in
        owner_event Out (without_read_only flags) (ap questions_of e, ap processor_of e) (refl, refl) b.0
        (omega (arith, b, ap has_hold e)) (λ q. absurd (omega (arith, b, q))) (λ q. absurd (clear q)) (λ x lx ne s. absurd (none x lx ne s))
        tt (λ s. absurd (omega (arith, s)))
