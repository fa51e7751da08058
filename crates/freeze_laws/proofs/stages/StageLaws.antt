-- Each step that changes a role keeps what holds of the stage.
use Rattle.finite_sums.{proofs.Totals.{each_updated, total_at}, specs.Sums.{total, update}}
use Rattle.std.proofs.Common.{Bool, None, Option, Some, ap, arith, inl, inr, refl, subst, suc, sym, true, ℕ, ◌%◌, ◌+◌, ◌-◌, ◌/◌, ◌<◌, ◌∙◌, ◌≡◌, ◌≤◌}
use Rattle.freeze_laws.proofs.stages.{Changes.{any_event, others_know}, Facts.{full_is, up_to_below, up_to_le, up_to_next, up_to_off, way_is}}
use Rattle.freeze_laws.{proofs.stages.Positions.{block_at, remount_own, way}, specs.stages.Events.{SameDuties, Stages, playing}}
use Rattle.freeze_laws.specs.stages.Roles.{Aside, Before, Closing, Freezing, HasPassed, KnowsStage, Owning, Remounting, Reopening, StageRole}
use Rattle.freeze_laws.specs.stages.Roles.{StagesHold, closed_by, closes, freezes, has_position, is_full, owns, remounts, under_way, up_to}

module _ (tasks : ℕ) (x : Stages) (good : StagesHold tasks x.stage x.sb x.remount x.block x.at) (t : ℕ) (lt : t < tasks) where
  -- the stage holds at a moment
  abbrev pub StagesAt : Stages → Type 0
  StagesAt y = StagesHold tasks y.stage y.sb y.remount y.block y.at

  -- what the task relies on is so
  pub relied_on : (old : StageRole) → x.at t ≡ old → KnowsStage x.stage x.sb old
  relied_on old e = subst (KnowsStage x.stage x.sb) e (good.knows t lt)

  pub ways : (under_way x.stage ≡ (x.stage % 4 + 3) / 4) × (is_full x.stage x.sb ≡ x.stage / 4 - x.sb)
  ways = way tasks x.stage x.sb x.remount x.block x.at good

  -- a step on `umount`, or on no word read here, after which the role differs in who owns and in what it relies on
  pub turns : (old new : StageRole) → x.at t ≡ old → total tasks (λ u. owns (x.at u)) + owns new ≤ owns old + 1 →
      freezes new ≡ freezes old → remounts new ≡ remounts old → closed_by new ≡ closed_by old → KnowsStage x.stage x.sb new →
      StagesAt (playing x t new)
  turns old new e o f r c k =
      any_event tasks x.stage x.sb x.remount x.block x.at good t lt old new x.stage x.sb x.remount x.block e (record {
        stages = good.stages;
        superblock = good.superblock;
        alone = o;
        freezing = omega (arith, f);
        writable = good.writable;
        remounting = omega (arith, r);
        blocks = λ i low high. omega (arith, ap (up_to i) c);
        others = λ u lu ne. good.knows u lu;
        own = k;
      })

  -- a freeze or a thaw goes on with its level's block: that alone changes
  pub moves_block : (old new : StageRole) (block' : ℕ → ℕ) → x.at t ≡ old → owns new ≡ owns old → freezes new ≡ freezes old →
      remounts new ≡ remounts old →
      KnowsStage x.stage x.sb new → ((i : ℕ) → 1 ≤ i → i ≤ 3 → block' i + closes i old ≡ x.block i + closes i new) →
      StagesAt (playing (record x { block = block' }) t new)
  moves_block old new block' e o f r k b =
      any_event tasks x.stage x.sb x.remount x.block x.at good t lt old new x.stage x.sb x.remount block' e (record {
        stages = good.stages;
        superblock = good.superblock;
        alone = omega (arith, o, good.alone);
        freezing = omega (arith, f);
        writable = good.writable;
        remounting = omega (arith, r);
        blocks = λ i low high. omega (arith, b i low high);
        others = λ u lu ne. good.knows u lu;
        own = k;
      })

  -- an owner stores a stage: it alone is in a freeze, if anybody, and what is closed stays
  pub stores : (s : ℕ) (old new : StageRole) → x.at t ≡ old → owns old ≡ 1 → owns new ≡ 1 → remounts new ≡ remounts old → s ≤ 4 →
      freezes old ≡ under_way x.stage → freezes new ≡ under_way s → (under_way s ≡ 1 → x.sb ≡ 0) → KnowsStage s x.sb new →
      ((i : ℕ) → 1 ≤ i → i ≤ 3 → closes i old + is_full x.stage x.sb ≡ closes i new + is_full s x.sb) →
      StagesAt (playing (record x { stage = s }) t new)
  stores s old new e o o' r le f f' dry k b =
      any_event tasks x.stage x.sb x.remount x.block x.at good t lt old new s x.sb x.remount x.block e (record {
        stages = le;
        superblock = good.superblock;
        alone = omega (arith, o, o', good.alone);
        freezing = omega (arith, f, f');
        writable = dry;
        remounting = omega (arith, r);
        blocks = λ i low high. omega (arith, b i low high);
        others = others_know tasks x.stage x.sb x.remount x.block x.at good t lt old s x.sb e o (inl f);
        own = k;
      })

  -- at stage 0 an owner without a position stores the superblock's flag or `remount`
  pub stores_flags : (b m : ℕ) (old new : StageRole) → x.at t ≡ old → x.stage ≡ 0 → owns old ≡ 1 → owns new ≡ 1 → freezes old ≡ 0 →
      freezes new ≡ 0 →
      closed_by new ≡ closed_by old → b ≤ 1 → remounts new + x.remount ≡ remounts old + m → KnowsStage x.stage b new →
      StagesAt (playing (record x { sb = b; remount = m }) t new)
  stores_flags b m old new e z o o' f f' c le r k =
      any_event tasks x.stage x.sb x.remount x.block x.at good t lt old new x.stage b m x.block e (record {
        stages = good.stages;
        superblock = le;
        alone = omega (arith, o, o', good.alone);
        freezing = omega (arith, f, f');
        writable = λ w. absurd (omega (arith, w, z, ways));
        remounting = r;
        blocks = λ i low high. omega (arith, ap (up_to i) c, ways, z, full_is x.stage b good.stages le);
        others = others_know tasks x.stage x.sb x.remount x.block x.at good t lt old x.stage b e o (inr refl);
        own = k;
      })

  pub own_remount : (old : StageRole) → x.at t ≡ old → owns old ≡ 1 → x.remount ≡ remounts old
  own_remount old e o = remount_own tasks x.stage x.sb x.remount x.block x.at good t lt (ap owns e ∙ o) ∙ ap remounts e

  -- a freeze's stage is 1 to 3, and the superblock writable
  pub freeze_bound : (old : StageRole) → x.at t ≡ old → freezes old ≡ 1 →
      (under_way x.stage ≡ 1) × (1 ≤ x.stage) × (x.stage ≤ 3) × (x.sb ≡ 0)
  freeze_bound old e f =
      let w : under_way x.stage ≡ 1 =
      omega (arith, f, ap freezes e, good.freezing, total_at tasks t (λ y. freezes (x.at y)) lt, ways, good.stages) in
      omega (arith, w, ways, good.stages, good.writable w)

  pub own_block : (old : StageRole) → x.at t ≡ old → has_position old ≡ 1 → (i : ℕ) → 1 ≤ i → i ≤ 3 → x.block i ≡ closes i old
  own_block old e p i low high =
      block_at tasks x.stage x.sb x.remount x.block x.at good t lt (ap has_position e ∙ p) i low high ∙ ap (closes i) e

  -- a freeze begins
  pub begins : x.at t ≡ Owning (Some 0) (Some 0) → StagesAt (playing (record x { stage = 1 }) t (Freezing 1 Before true))
  begins e =
      let k : (x.stage ≡ 0) × (x.sb ≡ 0) = relied_on (Owning (Some 0) (Some 0)) e in
      stores 1 (Owning (Some 0) (Some 0)) (Freezing 1 Before true) e refl refl refl (omega arith) (omega (arith, k, ways)) refl (λ w. k.1)
      refl
      (λ i low high. omega (arith, k, ways))

  -- it goes on from stage 1 to 2, and from 2 to 3
  pub advances : (s clean : ℕ) → 1 ≤ s → s ≤ 2 → x.at t ≡ Freezing s (HasPassed clean) true →
      StagesAt (playing (record x { stage = suc s }) t (Freezing (suc s) Before true))
  advances s clean low high e =
      let k : x.stage ≡ s = relied_on (Freezing s (HasPassed clean) true) e in
      let b : _ = freeze_bound (Freezing s (HasPassed clean) true) e refl in
      let q : suc s - 1 ≡ s = omega arith in
      let w : under_way (suc s) ≡ 1 = omega (arith, low, high, way_is (suc s) (omega (arith, high))) in
      stores (suc s) (Freezing s (HasPassed clean) true) (Freezing (suc s) Before true) e refl refl refl (omega (arith, high)) (sym b.0)
      (sym w)
      (λ h. b.3) refl (λ i l h. omega (
        arith,
        ap (up_to i) q,
        ways,
        k,
        high,
        b.3,
        full_is (suc s) x.sb (omega (arith, high))
            good.superblock,
      ))

  pub completes : (clean : ℕ) → x.at t ≡ Freezing 3 (HasPassed clean) true →
      StagesAt (playing (record x { stage = 4 }) t (Owning (Some 4) None))
  completes clean e =
      let k : x.stage ≡ 3 = relied_on (Freezing 3 (HasPassed clean) true) e in
      let b : _ = freeze_bound (Freezing 3 (HasPassed clean) true) e refl in
      stores 4 (Freezing 3 (HasPassed clean) true) (Owning (Some 4) None) e refl refl refl (omega arith) (sym b.0) refl
      (λ h. b.3) (refl, tt)
      (λ i l h. omega (arith, ways, k, b.3, up_to_le i 3 h, up_to_off i 0 (omega (arith, l)), full_is 4 x.sb (omega arith) good.superblock))

  pub fails : (s clean : ℕ) → x.at t ≡ Freezing s (HasPassed clean) true → StagesAt (playing (record x { stage = 0 }) t (Reopening s))
  fails s clean e =
      let k : x.stage ≡ s = relied_on (Freezing s (HasPassed clean) true) e in
      let b : _ = freeze_bound (Freezing s (HasPassed clean) true) e refl in
      stores 0 (Freezing s (HasPassed clean) true) (Reopening s) e refl refl refl (omega arith) (sym b.0) refl
      (λ h. b.3) (refl, omega (arith, k, b)) (λ i l h. omega (arith, ways, b, full_is 0 x.sb (omega arith) good.superblock))

  -- a freeze gives up at a level that it has not passed
  pub gives_up : (s : ℕ) (new : StageRole) → x.at t ≡ Freezing s Before true → SameDuties (Reopening (s - 1)) new → KnowsStage 0 x.sb new →
      StagesAt (playing (record x { stage = 0 }) t new)
  gives_up s new e a known =
      let k : x.stage ≡ s = relied_on (Freezing s Before true) e in
      let b : _ = freeze_bound (Freezing s Before true) e refl in
      stores 0 (Freezing s Before true) new e refl a.owns_same a.remounts_same (omega arith) (sym b.0) a.freezes_same
      (λ h. b.3) known (λ i l h. omega (arith, ap (up_to i) a.closed_same, ways, b, full_is 0 x.sb (omega arith) good.superblock))

  -- a freeze of a read-only superblock
  pub freezes_at_once : x.at t ≡ Owning (Some 0) (Some 1) → StagesAt (playing (record x { stage = 4 }) t (Owning (Some 4) None))
  freezes_at_once e =
      let k : (x.stage ≡ 0) × (x.sb ≡ 1) = relied_on (Owning (Some 0) (Some 1)) e in
      stores 4 (Owning (Some 0) (Some 1)) (Owning (Some 4) None) e refl refl refl (omega arith) (omega (arith, k, ways)) refl
      (λ w. absurd (omega (arith, w))) (refl, tt) (λ i l h. omega (arith, k, ways, full_is 4 x.sb (omega arith) good.superblock))

  -- a thaw
  pub thaws : x.at t ≡ Owning (Some 4) (Some 0) → StagesAt (playing (record x { stage = 0 }) t (Reopening 3))
  thaws e =
      let k : (x.stage ≡ 4) × (x.sb ≡ 0) = relied_on (Owning (Some 4) (Some 0)) e in
      stores 0 (Owning (Some 4) (Some 0)) (Reopening 3) e refl refl refl (omega arith) (omega (arith, k, ways)) refl
      (λ w. absurd (omega (arith, w))) (refl, omega arith)
      (λ i l h. omega (arith, k, ways, up_to_le i 3 h, up_to_off i 0 (omega (arith, l)), full_is 0 x.sb (omega arith) good.superblock))

  -- and one of a read-only superblock
  pub thaws_at_once : x.at t ≡ Owning (Some 4) (Some 1) → StagesAt (playing (record x { stage = 0 }) t (Owning None None))
  thaws_at_once e =
      let k : (x.stage ≡ 4) × (x.sb ≡ 1) = relied_on (Owning (Some 4) (Some 1)) e in
      stores 0 (Owning (Some 4) (Some 1)) (Owning None None) e refl refl refl (omega arith) (omega (arith, k, ways)) refl
      (λ w. absurd (omega (arith, w))) (tt, tt) (λ i l h. omega (arith, k, ways, full_is 0 x.sb (omega arith) good.superblock))

  -- a swap of `block` closes the level of the stage
  pub sets_block : (i : ℕ) (owner : Bool) → x.at t ≡ Freezing i Before owner →
      StagesAt (playing (record x { block = update x.block i 1 }) t (Freezing i Closing owner))
  sets_block i owner e =
      let k : x.stage ≡ i = relied_on (Freezing i Before owner) e in
      let b : _ = freeze_bound (Freezing i Before owner) e refl in
      moves_block (Freezing i Before owner) (Freezing i Closing owner) (update x.block i 1) e refl refl refl k
      (λ j l h. each_updated (λ y v. v + closes y (Freezing i Before owner) ≡ x.block y + closes y (Freezing i Closing owner)) x.block i 1 j
      (omega (
        arith,
        own_block (Freezing i Before owner) e refl i (omega (arith, k, b)) (omega (arith, k, b)),
        up_to_le i i (omega arith),
        up_to_off i (i - 1) (omega (arith, k, b)),
      ))
      (λ ne. omega (arith, up_to_below j i (omega (arith, k, b)) ne)))

  -- a store of `block` gives up the level of the stage
  pub unblocks : (i : ℕ) (owner : Bool) → x.at t ≡ Freezing i Closing owner →
      StagesAt (playing (record x { block = update x.block i 0 }) t (Freezing i Before owner))
  unblocks i owner e =
      let k : x.stage ≡ i = relied_on (Freezing i Closing owner) e in
      let b : _ = freeze_bound (Freezing i Closing owner) e refl in
      moves_block (Freezing i Closing owner) (Freezing i Before owner) (update x.block i 0) e refl refl refl k
      (λ j l h. each_updated (λ y v. v + closes y (Freezing i Closing owner) ≡ x.block y + closes y (Freezing i Before owner)) x.block i 0 j
      (omega (
        arith,
        own_block (Freezing i Closing owner) e refl i (omega (arith, k, b)) (omega (arith, k, b)),
        up_to_le i i (omega arith),
        up_to_off i (i - 1) (omega (arith, k, b)),
      ))
      (λ ne. omega (arith, up_to_below j i (omega (arith, k, b)) ne)))

  -- a store of `block` opens the last level that is closed
  pub clears_block : (n : ℕ) → x.at t ≡ Reopening (suc n) →
      StagesAt (playing (record x { block = update x.block (suc n) 0 }) t (Reopening n))
  clears_block n e =
      let k : (x.stage ≡ 0) × (suc n ≤ 3) = relied_on (Reopening (suc n)) e in
      moves_block (Reopening (suc n)) (Reopening n) (update x.block (suc n) 0) e refl refl refl (k.0, omega (arith, k))
      (λ j l h. each_updated (λ y v. v + closes y (Reopening (suc n)) ≡ x.block y + closes y (Reopening n)) x.block (suc n) 0 j
      (omega (
        arith,
        own_block (Reopening (suc n)) e refl (suc n) (omega arith) k.1,
        up_to_le (suc n) (suc n) (omega arith),
        up_to_off
            (suc n) n (omega arith),
      ))
      (λ ne. omega (arith, up_to_next j n ne)))

  -- a remount to read-only sets `remount`
  pub sets_remount : (clean : ℕ) → x.at t ≡ Owning (Some 0) (Some 0) → StagesAt (playing (record x { remount = 1 }) t (Remounting 0 clean))
  sets_remount clean e =
      let k : (x.stage ≡ 0) × (x.sb ≡ 0) = relied_on (Owning (Some 0) (Some 0)) e in
      stores_flags x.sb 1 (Owning (Some 0) (Some 0)) (Remounting 0 clean) e k.0 refl refl refl refl refl good.superblock
      (omega (arith, own_remount (Owning (Some 0) (Some 0)) e refl)) k

  pub sets_read_only : (clean : ℕ) → x.at t ≡ Remounting 0 clean → StagesAt (playing (record x { sb = 1 }) t (Remounting 1 clean))
  sets_read_only clean e =
      let k : (x.stage ≡ 0) × (x.sb ≡ 0) = relied_on (Remounting 0 clean) e in
      stores_flags 1 x.remount (Remounting 0 clean) (Remounting 1 clean) e k.0 refl refl refl refl refl (omega arith) refl (k.0, refl)

  pub clears_remount : (b clean : ℕ) → x.at t ≡ Remounting b clean → StagesAt (playing (record x { remount = 0 }) t (Owning None None))
  clears_remount b clean e =
      let k : (x.stage ≡ 0) × (x.sb ≡ b) = relied_on (Remounting b clean) e in
      stores_flags x.sb 0 (Remounting b clean) (Owning None None) e k.0 refl refl refl refl refl good.superblock
      (omega (arith, own_remount (Remounting b clean) e refl)) (tt, tt)

  pub sets_writable : (b : Option ℕ) → x.at t ≡ Owning (Some 0) b → StagesAt (playing (record x { sb = 0 }) t (Owning None None))
  sets_writable b e =
      let z : x.stage ≡ 0 = (relied_on (Owning (Some 0) b) e).0 in
      stores_flags 0 x.remount (Owning (Some 0) b) (Owning None None) e z refl refl refl refl refl (omega arith) refl (tt, tt)

  -- a sum was 0: the same levels are closed
  pub turns_block : (i clean : ℕ) (owner : Bool) → x.at t ≡ Freezing i Closing owner →
      StagesAt (playing x t (Freezing i (HasPassed clean) owner))
  turns_block i clean owner e =
      turns (Freezing i Closing owner) (Freezing i (HasPassed clean) owner) e (omega (arith, good.alone)) refl refl refl
      (relied_on (Freezing i Closing owner) e)

  pub releases_open : x.at t ≡ Reopening 0 → StagesAt (playing x t Aside)
  releases_open e = turns (Reopening 0) Aside e (omega (arith, good.alone)) refl refl refl tt
