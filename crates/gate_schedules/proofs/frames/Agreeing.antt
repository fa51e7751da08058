-- Holdings that agree at mounts and at levels: with them a task may be at the same calls.
use Rattle.gate_schedules.proofs.Prelude.{Bool, Config, Holdings, TreePhase, ap, arith, false, nat_lt, refl, suc, true, zero, ℕ, ◌<◌, ◌||◌, ◌∙◌, ◌≡◌}
use Rattle.gate_schedules.proofs.Prelude.{◌≤◌}
use Rattle.gate_world.specs.{Fits.TreeAccess, Holdings.Agree, Operations.{holds_none, is_faulter, is_writer, may_mark, some_mount}}

pub agree_self : {c : Config} {held : Holdings} → Agree c held held
agree_self = record { mounts = λ m lm. refl; levels = λ i one three. refl; files = λ n. refl }

pub agree_sym : {c : Config} {held seen : Holdings} → Agree c held seen → Agree c seen held
agree_sym same = grind arith

-- accesses that agree at each mount agree whether there is one
some_agree : (f g : ℕ → ℕ) (n mounts : ℕ) → n ≤ mounts → ((m : ℕ) → m < mounts → f m ≡ g m) → some_mount n f ≡ some_mount n g
some_agree f g zero mounts le same = refl
some_agree f g (suc n) mounts le same =
    ap (λ b. b || nat_lt 0 (f n)) (some_agree f g n mounts (omega (arith, le)) same) ∙
    ap (λ x. some_mount n g || nat_lt 0 x) (same n (omega (arith, le)))

-- so do levels, whether one is held
pub none_agree : (h k : ℕ → Bool) → ((i : ℕ) → 1 ≤ i → i ≤ 3 → h i ≡ k i) → holds_none h ≡ holds_none k
none_agree h k levels =
    rw (levels 1 (omega arith) (omega arith), levels 2 (omega arith) (omega arith), levels 3 (omega arith) (omega arith))

module _ (c : Config) (held seen : Holdings) (mounts : (m : ℕ) → m < c.mounts → held.mounts m ≡ seen.mounts m)
    (levels : (i : ℕ) → 1 ≤ i → i ≤ 3 → held.levels i ≡ seen.levels i) where
  -- so who may be at a call is the same
  pub writer_agrees : is_writer c held ≡ is_writer c seen
  writer_agrees =
      rw (levels 1 (omega arith) (omega arith), some_agree held.mounts seen.mounts c.mounts c.mounts (omega arith) mounts) refl

  -- and who may make a file dirty by a page fault
  pub faulter_agrees : is_faulter c held ≡ is_faulter c seen
  faulter_agrees =
      rw (levels 2 (omega arith) (omega arith), some_agree held.mounts seen.mounts c.mounts c.mounts (omega arith) mounts) refl

  -- and who may set or clear the mark of a file
  mark_agrees : (dirty : Bool) → may_mark dirty c held ≡ may_mark dirty c seen
  mark_agrees true = faulter_agrees
  mark_agrees false = levels 3 (omega arith) (omega arith)

  pub access_agrees : (x : TreePhase) → TreeAccess c held x → TreeAccess c seen x
  access_agrees x may = grind (arith, mark_agrees, none_agree, writer_agrees)
